use Rattle.std.proofs.Common.{◌≡◌, ◌∙◌, [], List, None, ap, sym, subst}
use Rattle.std.specs.Prelude.{All}
use Rattle.board.specs.calls.Seats.{Frame, IsNewSeat, nothing_seen}
use Rattle.board.proofs.Walking.{new_first}
use Rattle.slot_pool.specs.calls.PoolValues.{WorkerValue, IsNumberOf, IsOfPool, first_workers}
use Rattle.task_runner.specs.inside.Pooled.{AreAllWorkers, IsPooled}
use Rattle.task_runner.proofs.PooledTasks.{root_task_seats}
use Rattle.task_runner.proofs.PoolWorkers.{as_they_are, first_all}
use Rattle.task_runner.proofs.pool.run_on.Goals as goal

pub new-first-requires-clause-first : goal.new-first-requires-clause-first
new-first-requires-clause-first g c = new_first g.N.BoardName.board c.args.seat c.requires.seat

pub new-first-requires-clause-seat : goal.new-first-requires-clause-seat
new-first-requires-clause-seat g c = root_task_seats g.N.BoardName.board c.args.seat c.requires.seat

pub work_all-requires-clause-workers : goal.work_all-requires-clause-workers
work_all-requires-clause-workers g c κs within =
    let pool = c.in-Ok.pool in
    let list : c.in_ok-workers.workers.items ≡ first_workers pool = c.in_ok-workers.ensures ∙ c.into_vec.ensures.items ∙ c.in-Ok.ensures.workers in
    subst (AreAllWorkers pool) (sym (as_they_are c.in_ok-workers.workers.items ∙ list)) (first_all pool)

pub close-requires-clause-made : goal.close-requires-clause-made
close-requires-clause-made g c =
    let same = sym (c.in_ok-workers-3.ensures ∙ sym (as_they_are c.in_ok-workers-2.workers.items)) in
    subst (All (λ w. IsOfPool w c.in-Ok.pool)) same c.in_ok-workers-2.ensures.workers.made

pub close-requires-clause-all_workers : goal.close-requires-clause-all_workers
close-requires-clause-all_workers g c = λ k l.
    let same = sym (c.in_ok-workers-3.ensures ∙ sym (as_they_are c.in_ok-workers-2.workers.items)) in
    subst (λ (ws : List WorkerValue). IsNumberOf ws k) same (c.in_ok-workers-2.ensures.workers.each k l)

pub close-requires-clause-nothing : goal.close-requires-clause-nothing
close-requires-clause-nothing g c =
    let same = sym (c.in_ok-workers-3.ensures ∙ sym (as_they_are c.in_ok-workers-2.workers.items)) in
    subst (All (λ (w : WorkerValue). w.view.has ≡ [])) same c.in_ok-workers-2.ensures.workers.idle

pub end_run-requires-clause-board : goal.end_run-requires-clause-board
end_run-requires-clause-board g c κs within =
    (ap (λ (f : Frame). f.plan) c.requires.board.0 ∙ c.requires.board.1, ap (λ (f : Frame). f.mode) c.requires.board.0 ∙ c.requires.board.2)

pub end_run-requires-clause-viewer : goal.end_run-requires-clause-viewer
end_run-requires-clause-viewer g c κs within = subst (λ (f : Frame). IsNewSeat f None nothing_seen c.args.run.view) (sym c.requires.board.0) c.requires.viewer

pub end_run-requires-clause-tasks : goal.end_run-requires-clause-tasks
end_run-requires-clause-tasks g c κs within =
    subst (λ (f : Frame). All (IsPooled f) c.in_ok-tasks_of.field-0.items) (sym c.requires.board.0) c.in_ok-tasks_of.ensures
