use Rattle.std.proofs.Common.{◌≡◌, ◌∙◌, ◌<◌, ℕ, List, Bool, Some, false, true, length, ap, sym, subst, inl, inr}
use Rattle.std.specs.Prelude.{All, replicate, slice_get}
use Rattle.std.proofs.lemmas.List.{length-replicate}
use Rattle.armus_base.specs.Plans.{code_of}
use Rattle.board_runs.specs.calls.Turns.{Working}
use Rattle.board_runs.specs.calls.TaskSeats.{done_of, own_number}
use Rattle.task_runner.specs.inside.Pooled.{AreForksMarked, AreClosedUnderForks, ContainsTask}
use Rattle.task_runner.proofs.ForksInHand.{unmarked, whole_marked}
use Rattle.task_runner.proofs.pool_end.are_whole.Goals as goal

pub mark-requires : goal.mark-requires
mark-requires c =
    let first : c.in_ok-marks.marks.items ≡ replicate c.tasks.result false = c.in_ok-marks.ensures.items_if_clones_equal (λ y e. e) in
    let count : length c.args.plan.now.parents ≡ length c.in_ok-marks.marks.items = sym (ap length first ∙ length-replicate c.tasks.result false ∙ c.tasks.ensures.counted) in
    subst (λ n. All (λ (w : Working). own_number w < n) c.args.tasks.now) count c.requires.within

pub returns : goal.returns
returns c = record { whole = all }
  where
    first : c.in_ok-marks.marks.items ≡ replicate c.tasks.result false
    first = c.in_ok-marks.ensures.items_if_clones_equal (λ y e. e)

    worker_value : (t : ℕ) → slice_get c.mark.new.marks.items t ≡ Some true → ContainsTask c.args.tasks.now t
    worker_value t is = elim (c.mark.ensures t is) [
      | inl here ↦ here
      | inr old ↦ absurd (unmarked c.tasks.result t (sym (ap (λ (ms : List Bool). slice_get ms t) first) ∙ old))
    ]

    all : c.have_forked_marked.result ≡ true → AreClosedUnderForks c.args.plan.now c.args.tasks.now
    all whole =
        whole_marked c.args.plan.now c.args.tasks.now c.mark.new.marks.items worker_value
        (subst (λ (ms : List Bool). slice_get ms 0 ≡ Some true) c.as_slice.ensures.value (c.is_marked.ensures c.if-not-is_marked.false))
        (subst (λ (ms : List Bool). All (λ (task : Working). AreForksMarked (code_of c.args.plan.now (own_number task)) (done_of task) ms) c.args.tasks.now) c.as_slice-2.ensures.value
        (c.have_forked_marked.ensures whole))
