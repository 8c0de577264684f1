use Rattle.std.proofs.Common.{◌≡◌, ◌∙◌, ◌⊎◌, ◌∷◌, ◌++◌, [], ◌<◌, ℕ, List, Some, true, length, get_or, set, take, sym, ap, subst, arith}
use Rattle.std.specs.Prelude.{slice_get, unwrap_or}
use Rattle.std.proofs.lemmas.List.{length-set, take_more}
use Rattle.board_runs.specs.calls.Turns.{Working}
use Rattle.board_runs.specs.calls.TaskSeats.{own_number}
use Rattle.task_runner.specs.inside.Pooled.{ContainsTask}
use Rattle.task_runner.proofs.ForksInHand.{one_marked}
use Rattle.task_runner.proofs.pool_end.mark.Goals as goal

pub loop-task-preserved : goal.loop-task-preserved
loop-task-preserved c =
    let w : Working = c.task-item.result in
    let n = c.loop-task.task-index in
    let before = c.loop-task.invariant in
    let marks = c.loop-task.marks.items in
    let grown = take_more c.args.tasks.now n w c.loop-task-test.true in
    let is : w ≡ get_or c.args.tasks.now n w = c.task-item.is in
    let here : c.id.result.0 ≡ own_number w = sym (ap (λ o. unwrap_or o 0) c.id.ensures) in
    let inside : own_number w < length c.args.marks.now.items = subst (λ (v : Working). own_number v < length c.args.marks.now.items) (sym is) (c.requires n w c.loop-task-test.true) in
    let within : c.id.result.0 < length marks = (let f = before.0 in omega arith) in (
      length-set marks c.id.result.0 true ∙ before.0,
      subst (λ (ws : List Working). (t : ℕ) → slice_get (set marks c.id.result.0 true) t ≡ Some true → ContainsTask ws t ⊎ (slice_get c.args.marks.now.items t ≡ Some true))
          (sym (grown ∙ ap (λ (v : Working). take n c.args.tasks.now ++ v ∷ []) (sym is)))
          (one_marked (take n c.args.tasks.now) w c.args.marks.now.items marks c.id.result.0 here within before.1),
    )
