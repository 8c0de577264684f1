use Rattle.std.proofs.Common.{◌≡◌, ◌+◌, ◌∙◌, ap, arith, length}
use Rattle.std.specs.Prelude.{Contains, ◌↔◌}
use Rattle.std.proofs.lemmas.List.{length_push}
use Rattle.armus_base.specs.declared.ids.TaskId.{TaskId}
use Rattle.dep_state.specs.calls.Deps.{impeders_of}
use Rattle.dep_state.specs.inside.Names.{named}
use Rattle.order_graph.proofs.WaitSets.{sets_done, sets_more}
use Rattle.order_graph.proofs.waits.sets_of.Goals as goal

pub loop-e-preserved : goal.loop-e-preserved
loop-e-preserved c =
    let d = c.args.deps.now in
    let inv = c.loop-e.invariant in
    let is : (u : TaskId) → Contains c.in_ok-set.set u ↔ Contains (named d.tasks (impeders_of d (length c.loop-e.sets.items))) u =
    rw (c.tasks.ensures.tasks, c.impeders_at.ensures.impeders, ← inv.sized) at c.in_ok-set.ensures in
    record {
      sized = ap length c.in_ok-push.ensures.items ∙ length_push c.loop-e.sets.items c.in_ok-set.set ∙ ap (λ n. n + 1) inv.sized;
      each = λ e lt. rw c.in_ok-push.ensures.items (sets_more d c.loop-e.sets.items c.in_ok-set.set is (λ j l. inv.each j (omega (arith, inv.sized))) e (omega (arith, inv.sized)));
    }

pub returns-clause-sets : goal.returns-clause-sets
returns-clause-sets c =
    let inv = c.loop-e.invariant in
    let all : c.loop-e.e ≡ length c.args.deps.now.events = omega (arith, c.loop-e-test.false, c.loop-e.auto.e-end, ap length c.events-e-end.ensures.events) in
    rw c.in_ok-push-2.ensures.items (rw c.none.ensures (sets_done c.args.deps.now c.loop-e.sets.items (inv.sized ∙ all) (λ e lt. inv.each e (omega (arith, all)))))
