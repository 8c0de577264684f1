use Rattle.std.proofs.Common.{◌≡◌, ◌∙◌, ◌+◌, ◌≤◌, Some, ap, arith, length, subst, suc, sym}
use Rattle.std.specs.Prelude.{slice_get}
use Rattle.std.proofs.lemmas.Option.{slice_get_within}
use Rattle.armus_base.specs.Plans.{code_of}
use Rattle.pl_core.proofs.StepKinds.{few_own_ops}
use Rattle.source_map.specs.Origins.{op_origin}
use Rattle.explain_facts.specs.inside.Noted.{HasWalkedTo}
use Rattle.explain_facts.proofs.CodeLeft.{first_left, none_left}
use Rattle.explain_facts.proofs.Firsts.{skipped}
use Rattle.explain_facts.proofs.Noting.{room, walk_next, walk_on}
use Rattle.explain_facts.proofs.immediate.AwaitWalk.walk_code.Goals as goal

pub go_on-requires : goal.go_on-requires
go_on-requires c =
    let plan = c.args.plan.now in
    let here = first_left (code_of plan c.args.t.0) c.ops.at c.in-Some.op c.next.new.self (sym c.in-Some.ensures.some ∙ c.ops.invariant.left) in
    record { room = room plan c.requires.checked c.args.t.0 c.ops.at c.in-Some.op here c.ops.self.phases c.ops.invariant.walked.phases c.requires.task c.ops.invariant.walked.cells }

pub overflow_add-at : goal.overflow_add-at
overflow_add-at c =
    let few = few_own_ops c.args.plan.now c.args.t.0 c.requires.checked in
    omega (arith, few, c.ops.invariant.within)

pub ops-preserved : goal.ops-preserved
ops-preserved c =
    let plan = c.args.plan.now in
    let p = c.args.facts.now.program.now in
    let code = code_of plan c.args.t.0 in
    let here : slice_get code c.ops.at ≡ Some c.in-Some.op =
    first_left code c.ops.at c.in-Some.op c.next.new.self (sym c.in-Some.ensures.some ∙ c.ops.invariant.left) in
    let from : c.origin_at.result ≡ op_origin p c.args.t.0 c.ops.at =
    c.origin_at.ensures ∙ ap (λ xs. slice_get xs c.ops.at) (c.deref.ensures.value ∙ c.in_ok-origins.ensures) in
    record {
      left = skipped code c.ops.left c.next.new.self c.ops.at c.next.result c.ops.invariant.left c.next.ensures.some c.next.ensures.none;
      within = (let inside = slice_get_within code c.ops.at c.in-Some.op here in omega (arith, inside));
      walked = subst (λ m. HasWalkedTo p plan c.args.t.0 m c.go_on.new.self) (let one : suc c.ops.at ≡ c.ops.at + 1 = omega arith in one)
          (walk_next p plan c.requires.checked c.args.registered.now c.requires.registered c.args.t.0 c.ops.at c.in-Some.op here c.origin_at.result from c.ops.self
          c.go_on.new.self c.ops.invariant.walked c.go_on.ensures.cells c.go_on.ensures.moved c.go_on.ensures.shared c.go_on.ensures.late);
    }

pub returns : goal.returns
returns c =
    let plan = c.args.plan.now in
    let code = code_of plan c.args.t.0 in
    let most : length code ≤ c.ops.at = none_left code c.ops.at (sym c.in_default.ensures.none.0 ∙ c.ops.invariant.left) in
    let all : c.ops.at ≡ length code = omega (arith, most, c.ops.invariant.within) in
    record {
      walked = subst (λ m. HasWalkedTo c.args.facts.now.program.now plan m 0 c.ops.self) (let one : suc c.args.t.0 ≡ c.args.t.0 + 1 = omega arith in one)
          (walk_on c.args.facts.now.program.now plan c.args.t.0 c.ops.at c.ops.self c.ops.invariant.walked all);
    }
