use Rattle.std.proofs.Common.{◌≢◌, inr, refl, sym}
use Rattle.std.specs.Prelude.{option_copied}
use Rattle.std.proofs.lemmas.Bool.{false≢true}
use Rattle.armus_base.specs.Plans.{Aim, Blocks}
use Rattle.avoider.specs.calls.Decisions.{HasGoneOn}
use Rattle.avoider.proofs.NobodyDies.{no_block_else, step_kills_nobody}
use Rattle.avoider.proofs.SamePlan.{gone_on_plan}
use Rattle.explain_facts.specs.calls.Known.{kept_layout}
use Rattle.world_runs.proofs.HasMoved.{gone_on_moved}
use Rattle.world_runs.proofs.Left.{gone_on_leaves_less}
use Rattle.explain_avoid.proofs.Deciding.{goes_by_decision, goes_by_other, gone_on}
use Rattle.explain_avoid.proofs.avoiding.Avoiding.go_on.Goals as goal

pub returns-in_ok-decide-in-Await : goal.returns-in_ok-decide-in-Await
returns-in_ok-decide-in-Await c =
    let old = c.args.self.now in
    let new = c.decide.new.self in
    let t = c.args.t.0 in
    let file = option_copied c.args.text.now.file in
    let l = kept_layout c.args.text.now.facts.now in
    let p = c.args.text.now.facts.now.program.now in
    let decided = c.in_ok-decide-in-Await.ensures.decided in
    let gone = gone_on file l p old new t c.stand.ensures.checked c.in-Await.event c.in-Await.ensures.stand decided in
    record {
      left = record {
        plan = gone_on_plan old.world new.world t gone;
        kept = c.in_ok-decide-in-Await.ensures.nobody;
        less = λ _. gone_on_leaves_less old.world new.world c.stand.ensures.checked c.stand.ensures.reachable t gone;
        still = λ e. absurd (false≢true (sym e));
      };
      goes = goes_by_decision file l p old new t c.stand.ensures.checked c.in-Await.event c.in-Await.ensures.stand decided;
      moved = gone_on_moved old.world new.world t gone;
    }

pub returns-in_default : goal.returns-in_default
returns-in_default c =
    let step = c.step.ensures in
    let old = c.args.self.now in
    let new = record old { world = c.step.new.self } in
    let t = c.args.t.0 in
    let file = option_copied c.args.text.now.file in
    let l = kept_layout c.args.text.now.facts.now in
    let p = c.args.text.now.facts.now.program.now in
    let other : (aim : Aim) → step.action ≢ Blocks aim =
    no_block_else old.world t c.stand.result c.stand.ensures.stand c.in_default.not-Await step.action step.next step.legal in
    let gone : HasGoneOn old.world c.step.new.self t = inr (record { step = step; other = other }) in
    record {
      left = record {
        plan = step.plan;
        kept = step_kills_nobody old.world c.step.new.self c.stand.ensures.checked c.stand.ensures.reachable t c.requires.nobody step other;
        less = λ _. gone_on_leaves_less old.world c.step.new.self c.stand.ensures.checked c.stand.ensures.reachable t gone;
        still = λ e. absurd (false≢true (sym e));
      };
      goes = goes_by_other file l p old new t c.stand.ensures.checked step other refl;
      moved = gone_on_moved old.world c.step.new.self t gone;
    }
