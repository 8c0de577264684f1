-- Somebody waits for ever just where a task waits.
use Rattle.std.proofs.Common.{◌≡◌, ℕ, true, false, Option, Some, None, List, [], ◌∷◌, length, ap, refl, inl, inr, ◌⊎◌}
use Rattle.std.specs.Prelude.{Contains, slice_get}
use Rattle.armus_base.specs.declared.ids.TaskId.{TaskId}
use Rattle.armus_base.specs.Finals.{list_below}
use Rattle.armus_base.specs.States.{Phases}
use Rattle.armus_base.proofs.Elements.{nothing_in_nil}
use Rattle.explain_deadlock.specs.declared.outcome.WaitVerdict.{WaitVerdict}
use Rattle.explain_deadlock.specs.declared.outcome.WaitVerdict.TheVariants.{Nobody, Circle, Chain}
use Rattle.explain_tasks.specs.Facts.{FactsValue, is_deadlocked, is_waiting, situation_of, tasks_that}
use Rattle.explain_deadlock.specs.calls.Laws.{WaitingIsTold}
use Rattle.explain_tasks.specs.Nexts.{first_or}
use Rattle.explain_deadlock.specs.Verdicts.{IsVerdictFrom, somebody_waits, walk_start}
use Rattle.explain_tasks.proofs.Filters.{passed_from, passed_is}
use Rattle.explain_deadlock.proofs.NextInside.{first_contains}
use Rattle.explain_deadlock.proofs.Starts.{deadlocked_waits}

-- a list with an element has a first one
has_first : (xs : List TaskId) (t : TaskId) → Contains xs t → slice_get xs 0 ≡ None → ⊥
has_first [] t m e = nothing_in_nil t m
has_first (x ∷ xs) t m e = cc

-- where there is a start, the verdict is not that nobody waits
told : (f : FactsValue) (phases : ℕ → Phases) (o : Option TaskId) (v : WaitVerdict) → IsVerdictFrom f phases o v → ((o ≡ None) × (somebody_waits v ≡ false)) ⊎ ((s : TaskId) × (o ≡ Some s) × (somebody_waits v ≡ true))
told f phases None v is = inl (refl, ap somebody_waits is)
told f phases (Some s) Nobody is = absurd is
told f phases (Some s) (Circle shown) is = inr (s, refl, refl)
told f phases (Some s) (Chain held last) is = inr (s, refl, refl)

-- of two, the second is none where their first is none
second_none : (a b : Option TaskId) → first_or a b ≡ None → b ≡ None
second_none None b e = e
second_none (Some t) b e = absurd (cc)

either : (a b : Option TaskId) (s : TaskId) → first_or a b ≡ Some s → (a ≡ Some s) ⊎ (b ≡ Some s)
either None b s e = inr e
either (Some t) b s e = inl e

pub waits : WaitingIsTold
waits f phases v is = (
  λ somebody. elim (told f phases (walk_start f) v is) [
    | inl (none, nobody) ↦ absurd (cc)
    | inr (s, start, yes') ↦ (
      s,
      elim (either (slice_get (tasks_that is_deadlocked f) 0) (slice_get (tasks_that is_waiting f) 0) s start) [
        | inl dead ↦
            let p = passed_is (λ (t : TaskId). is_deadlocked (situation_of f t.0)) (list_below (λ t. record { 0 = t }) (length f.standings)) s (first_contains (tasks_that is_deadlocked f) s dead) in
            passed_from (λ (t : TaskId). is_waiting (situation_of f t.0)) (list_below (λ t. record { 0 = t }) (length f.standings)) s p.0 (deadlocked_waits (situation_of f s.0) p.1)
        | inr waiting ↦ first_contains (tasks_that is_waiting f) s waiting
      ],
    )
  ],
  λ (t, m). elim (told f phases (walk_start f) v is) [
    | inl (none, nobody) ↦ absurd (has_first (tasks_that is_waiting f) t m (second_none (slice_get (tasks_that is_deadlocked f) 0) (slice_get (tasks_that is_waiting f) 0) none))
    | inr (s, start, yes') ↦ yes'
  ],
)
