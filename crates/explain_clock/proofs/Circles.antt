-- The circle of statuses: there is one, and only one.
use Rattle.std.proofs.Common.{◌≡◌, ◌∙◌, ℕ, List, [], inl, inr, refl, subst, sym}
use Rattle.armus_base.specs.DeadLists.{IsDeadList}
use Rattle.armus_base.specs.declared.ids.TaskId.{TaskId}
use Rattle.armus_base.specs.declared.status.Status.{Status}
use Rattle.armus_base.proofs.Elements.{nothing_in_nil}
use Rattle.std.specs.Prelude.{Contains}
use Rattle.report.specs.Reports.{IsCycleText}
use Rattle.report.proofs.CycleExists.{cycle_exists}
use Rattle.report.proofs.DeadTasks.{least_dead}
use Rattle.report.proofs.OneReport.{one_reported_cycle}
use Rattle.verdict.specs.calls.Cycles.{IsCycleOf}
use Rattle.verdict.specs.declared.found.Cycle.{Cycle}
use Rattle.explain_clock.specs.ClockCircles.{IsClockCircle}

-- the task with this number
abbrev task : ℕ → TaskId
task n = record { 0 = n }

module _ (blocked : List Status) where
  -- nobody is dead, and there is no circle
  pub no_circle : (dead : List TaskId) → IsDeadList blocked dead → dead ≡ [] → IsClockCircle blocked []
  no_circle dead h e = inl (λ (t, d). nothing_in_nil (task t) (subst (λ ts. Contains ts (task t)) e ((h.exact (task t)).1 d)), refl)

  -- the cycle that is found
  pub found_circle : (dead : List TaskId) → IsDeadList blocked dead → (c : Cycle) → IsCycleOf blocked dead c → IsClockCircle blocked c.tasks
  found_circle dead h c is = inr (is.start, least_dead blocked dead is.start h is.first, is.walk)

  pub one_circle : (a b : List TaskId) → IsClockCircle blocked a → IsClockCircle blocked b → a ≡ b
  one_circle a b (inl (none, q)) (inl (none', q')) = q ∙ sym q'
  one_circle a b (inl (none, q)) (inr (t, h, w)) = absurd (none (t.0, h.dead))
  one_circle a b (inr (t, h, w)) (inl (none, q)) = absurd (none (t.0, h.dead))
  one_circle a b (inr h) (inr k) = one_reported_cycle blocked a b h k

  by_text : (text : List ℕ) × IsCycleText blocked text → (circle : List TaskId) × IsClockCircle blocked circle
  by_text (text, inl (none, is)) = ([], inl (none, refl))
  by_text (text, inr (cycle, is, line)) = (cycle, inr is)

  pub some_circle : (circle : List TaskId) × IsClockCircle blocked circle
  some_circle = by_text (cycle_exists blocked)
