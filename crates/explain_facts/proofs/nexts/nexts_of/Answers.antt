use Rattle.std.proofs.Common.{◌≡◌, ℕ, ◌∙◌, List, Option, None, ap, arith, drop, length, subst}
use Rattle.std.specs.Prelude.{slice_index_or}
use Rattle.std.proofs.lemmas.List.{length-drop}
use Rattle.armus_base.specs.Finals.{given_below}
use Rattle.armus_base.specs.Plans.{code_of}
use Rattle.pl_core.proofs.StepKinds.{few_own_ops}
use Rattle.explain_facts.specs.Accounts.{next_op}
use Rattle.explain_facts.specs.calls.Known.{kept_layout}
use Rattle.explain_facts.specs.declared.account.Doing.{Doing}
use Rattle.explain_facts.specs.declared.account.NextOp.{NextOp}
use Rattle.explain_facts.specs.inside.Firsts.{AreFirsts}
use Rattle.explain_facts.proofs.Firsts.{nexts_are}
use Rattle.explain_facts.proofs.nexts.nexts_of.Goals as goal

pub firsts_of-requires : goal.firsts_of-requires
firsts_of-requires c =
    let code = code_of c.args.world.now.plan c.args.t.0 in
    let few = few_own_ops c.args.world.now.plan c.args.t.0 c.requires.checked in
    let within = c.op-from.ensures.op.within in
    let left = length-drop c.op-from.result code in
    let rest : c.skip.new.ops ≡ drop c.op-from.result code =
    c.skip.ensures ∙ ap (drop c.op-from.result) (c.cursor-rest.ensures.code ∙ ap (λ q. code_of q c.args.t.0) c.plan-plan.ensures.plan) in
    let long = ap length rest in
    record { few = omega (arith, few, within, left, long) }

pub returns : goal.returns
returns c =
    let code = code_of c.args.world.now.plan c.args.t.0 in
    let from = c.op-from.result in
    let firsts = c.in_ok-firsts.firsts.items in
    let rest : c.skip.new.ops ≡ drop from code =
    c.skip.ensures ∙ ap (drop from) (c.cursor-rest.ensures.code ∙ ap (λ q. code_of q c.args.t.0) c.plan-plan.ensures.plan) in
    let g : ℕ → Option (Doing × ℕ) → Option NextOp = next_op (kept_layout c.args.facts.now) c.args.facts.now.program.now c.args.t.0 in
    let are : AreFirsts (drop from code) from c.phasers.result firsts = subst (λ ops. AreFirsts ops from c.phasers.result firsts) rest c.in_ok-firsts.ensures in
    record {
      op = from;
      stands = c.op-from.ensures.op;
      are = c.in_ok-nexts.ensures
          ∙ ap (λ (xs : List (Option (Doing × ℕ))). given_below (λ q. g q (slice_index_or xs q None)) (length xs)) c.deref-2.ensures.value
          ∙ nexts_are g (drop from code) from c.phasers.result (length c.args.world.now.plan.makers) firsts are
          (c.phasers.ensures.counted ∙ ap (λ q. length q.makers) c.plan-plan.ensures.plan);
    }
