use Rattle.std.proofs.Common.{◌<◌, ◌∙◌, ap, arith, length, subst, sym}
use Rattle.std.proofs.lemmas.Bool.{false≢true}
use Rattle.locked_world.specs.calls.Journals.{LoggedValue}
use Rattle.pl_core.specs.calls.Stands.{IsEnabled}
use Rattle.pl_core.specs.calls.Worlds.{WorldValue}
use Rattle.world_runs.specs.inside.Turns.{left_in}
use Rattle.world_runs.proofs.Left.{step_leaves_less_left}
use Rattle.world_runs.proofs.RecordedEnds.{same_if_false, step_if_true, stuck_more}
use Rattle.world_runs.proofs.journal.step_first_enabled.Goals as goal

pub returns-then-branch-clause-moved : goal.returns-then-branch-clause-moved
returns-then-branch-clause-moved g c = λ e.
    let logs = step_if_true c.in_ok-step.field-0 c.loop-t.logged c.step.new.self (record { 0 = c.loop-t.t }) c.in_ok-step.ensures.made c.if-branch.true in
    subst (λ (v : LoggedValue). left_in c.step.new.self.world < left_in v.world) c.loop-t.invariant.same
    (step_leaves_less_left c.loop-t.logged.world c.step.new.self.world c.loop-t.t logs.step)

pub loop-t-preserved : goal.loop-t-preserved
loop-t-preserved g c =
    let inv = c.loop-t.invariant in
    let same = same_if_false c.in_ok-step.field-0 c.loop-t.logged c.step.new.self (record { 0 = c.loop-t.t }) c.in_ok-step.ensures.made c.if-branch.false in
    record {
      same = same ∙ inv.same;
      quiet = stuck_more c.args.logged.now.world c.loop-t.t
          (subst (λ (v : LoggedValue). IsEnabled v.world c.loop-t.t → ⊥) inv.same
          (λ enabled. false≢true (sym c.if-branch.false ∙ c.in_ok-step.ensures.enabled.1 enabled))) inv.quiet;
    }

pub returns-clause-quiet : goal.returns-clause-quiet
returns-clause-quiet g c =
    λ e t l.
    let inv = c.loop-t.invariant in
    let test = c.loop-t-test.false in
    let counted = c.tasks-t-end.ensures.counted in
    let plan = ap (λ p. length p.parents) c.plan.ensures.plan in
    let world = ap (λ (w : WorldValue). length w.plan.parents) c.world.ensures.world in
    let named = ap (λ p. length p.parents) c.world.ensures.replayed.plan_is in
    subst (λ (v : LoggedValue). IsEnabled v.world t → ⊥) (sym inv.same) (inv.quiet t (omega arith))
