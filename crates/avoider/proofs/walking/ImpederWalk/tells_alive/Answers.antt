use Rattle.std.proofs.Common.{◌<◌, length, subst, sym}
use Rattle.armus_base.specs.declared.ids.TaskId.{TaskId}
use Rattle.avoider.specs.calls.Decisions.{supposed_statuses}
use Rattle.avoider.specs.declared.walking.ImpederWalk.{ImpederWalk}
use Rattle.avoider.specs.inside.Walks.{AreAlive}
use Rattle.avoider.proofs.Walked.{mark_more}
use Rattle.avoider.proofs.walking.ImpederWalk.tells_alive.Goals.{in-Some, in_default+else-at-t}
use Rattle.avoider.proofs.walking.ImpederWalk.tells_alive.Goals as goal

pub loop-preserved : goal.loop-preserved
loop-preserved c =
    let on = c.loop.invariant in
    let tasks = length c.args.world.now.plan.parents in
    let supposed = supposed_statuses c.args.world.now c.args.t.0 c.args.event in
    elim c.match-next_of.branch [
      | in-Some w ↦ record {
        inside = subst (λ (u : TaskId). u.0 < tasks) (sym w.at-is) (rw w.in-Some.is at c.next_of.ensures).0;
        alive = subst (λ (walk : ImpederWalk). AreAlive supposed tasks walk.alive.items) (sym w.self-is) on.alive;
      }
      | in_default+else-at-t w ↦ record {
        inside = subst (λ (u : TaskId). u.0 < tasks) (sym w.at-is) c.requires.task;
        alive = subst (λ (walk : ImpederWalk). AreAlive supposed tasks walk.alive.items) (sym w.self-is)
            (mark_more supposed tasks c.loop.self.alive.items c.loop.at.0 on.alive on.inside (rw w.in_default.is at c.next_of.ensures));
      }
    ]
