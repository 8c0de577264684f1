-- Whoever is kept waiting in a set where each one waits for one that is done, or for one of the set, is dead or waits for one that is done.
use Rattle.std.proofs.Common.{◌≡◌, ℕ, zero, suc, ◌<◌, ◌≤◌, Bool, true, false, Some, List, arith, sym, ◌∙◌, ap, subst, refl, ◌⊎◌, inl, inr}
use Rattle.std.specs.Prelude.{Contains, if◌then◌else◌}
use Rattle.std.proofs.lemmas.Bool.{cases_Bool, cases_eq, false≢true}
use Rattle.armus_base.specs.declared.event.Event.{Event}
use Rattle.armus_base.specs.AgreementLaws.{WaitsForTask}
use Rattle.armus_base.specs.Deadlocks.{IsAtPhase, IsDeadIn, IsImpededWithin, IsPublishedOn}
use Rattle.armus_base.specs.States.{State, updated}
use Rattle.armus_base.proofs.Impeded.{impeded_or_not}
use Rattle.armus_base.proofs.Sums.{sum_below, sum_more}
use Rattle.armus_base.proofs.Steps.{updated_is, updated_other, updated_same}
use Rattle.armus_base.proofs.Tasks.{all_or_one}
use Rattle.monitor_runs.specs.EndedTraces.{WaitsForDone, on_done, on_waiting}

module _ (s : State) (n : ℕ) (published_within : (u : ℕ) (e : Event) → s.published u ≡ Some e → u < n)
    (member_within : (u p m : ℕ) → s.phases u p ≡ Some m → u < n) (done : List ℕ) (held : ℕ → Bool)
    (kept : (u : ℕ) → held u ≡ true → (w : ℕ) × WaitsForTask s u w × (Contains done w ⊎ (held w ≡ true))) where
  abbrev Within : (ℕ → Bool) → ℕ → Type 0
  Within mark u = IsImpededWithin (IsPublishedOn s) (IsAtPhase s) mark u

  -- each one of the set that is not marked waits for one that is done
  abbrev HaveEnds : (ℕ → Bool) → Type 0
  HaveEnds mark = (u : ℕ) → held u ≡ true → mark u ≡ false → WaitsForDone s done u

  abbrev counted : (ℕ → Bool) → ℕ → ℕ
  counted mark u = if mark u then 1 else 0

  held_within : (u : ℕ) → held u ≡ true → u < n
  held_within u on = let by = kept u on in published_within u by.1.0 by.1.2

  -- marks of which one that is not impeded by another one is taken away
  module _ (mark : ℕ → Bool) (ends : HaveEnds mark) (u : ℕ) (on : mark u ≡ true) (free : Within mark u → ⊥) where
    own_end : held u ≡ true → WaitsForDone s done u
    own_end in_set =
        let by = kept u in_set in
        elim by.2 [
          | inl is ↦ on_done by.0 by.1 is
          | inr also ↦ elim (cases_Bool (mark by.0)) [
            | inl marked ↦
                absurd (free (record { event = by.1.0; waits = by.1.2; by = by.0; inside = marked; phase = by.1.1; impedes = by.1.3; below = by.1.4 }))
            | inr unmarked ↦ on_waiting by.0 by.1 (ends by.0 also unmarked)
          ]
        ]

    ends_still : HaveEnds (updated mark u false)
    ends_still v in_set off = elim (cases_eq v u) [
      | inl same ↦ subst (WaitsForDone s done) (sym same) (own_end (ap held (sym same) ∙ in_set))
      | inr other ↦ ends v in_set (sym (updated_other mark u v false other) ∙ off)
    ]

    fewer : u < n → sum_below (counted mark) n ≡ suc (sum_below (counted (updated mark u false)) n)
    fewer l =
        sum_more (counted (updated mark u false)) (counted mark) u
        (ap (λ b. if b then 1 else 0) on ∙ ap (λ b. suc (if b then 1 else 0)) (sym (updated_same mark u u false refl)))
        (λ v other. ap (λ b. if b then 1 else 0) (sym (updated_other mark u v false other))) n l

    within_still : ((v : ℕ) → mark v ≡ true → v < n) → (v : ℕ) → updated mark u false v ≡ true → v < n
    within_still within v is = elim (updated_is mark u v false true is) [ inl own ↦ absurd (false≢true own.1) | inr other ↦ within v other.1 ]

  -- marked tasks of which each is impeded by a marked one, or one that is not
  dead_or_free : (mark : ℕ → Bool) → ((u : ℕ) → u < n → mark u ≡ true → Within mark u) ⊎ ((u : ℕ) × (u < n) × (mark u ≡ true) × (Within mark u → ⊥))
  dead_or_free mark =
      elim (all_or_one (λ u. mark u ≡ true → Within mark u) (λ u. (mark u ≡ true) × (Within mark u → ⊥)) test n) [
        | inl all ↦ inl all
        | inr one ↦ inr (one.0, one.1, one.2.0, one.2.1)
      ]
    where
      test : (u : ℕ) → (mark u ≡ true → Within mark u) ⊎ ((mark u ≡ true) × (Within mark u → ⊥))
      test u = elim (cases_Bool (mark u)) [
        | inl on ↦ elim (impeded_or_not s n member_within mark u) [ inl impeded ↦ inl (λ _. impeded) | inr free ↦ inr (on, free) ]
        | inr off ↦ inl (λ on. absurd (false≢true (sym off ∙ on)))
      ]

  by_marks : (mark : ℕ → Bool) → HaveEnds mark → ((u : ℕ) → mark u ≡ true → u < n) → ((u : ℕ) → u < n → mark u ≡ true → Within mark u) → (t : ℕ) → held t ≡ true → IsDeadIn s t ⊎ WaitsForDone s done t
  by_marks mark ends within all t in_set = elim (cases_Bool (mark t)) [
    | inl on ↦ inl (record { tasks = mark; inside = on; deadlocked = record { some = (t, on); each = λ u inside. all u (within u inside) inside } })
    | inr off ↦ inr (ends t in_set off)
  ]

  by_fuel : (fuel : ℕ) (mark : ℕ → Bool) → sum_below (counted mark) n ≤ fuel → HaveEnds mark → ((u : ℕ) → mark u ≡ true → u < n) → (t : ℕ) → held t ≡ true → IsDeadIn s t ⊎ WaitsForDone s done t
  by_fuel zero mark few ends within t in_set = elim (dead_or_free mark) [
    | inl all ↦ by_marks mark ends within all t in_set
    | inr one ↦ absurd (let less = fewer mark ends one.0 one.2 one.3 one.1 in omega arith)
  ]
  by_fuel (suc fuel) mark few ends within t in_set = elim (dead_or_free mark) [
    | inl all ↦ by_marks mark ends within all t in_set
    | inr one ↦
        let less = fewer mark ends one.0 one.2 one.3 one.1 in
        by_fuel fuel (updated mark one.0 false) (omega arith) (ends_still mark ends one.0 one.2 one.3) (within_still mark ends one.0 one.2 one.3 within) t in_set
  ]

  pub dead_or_waits : (t : ℕ) → held t ≡ true → IsDeadIn s t ⊎ WaitsForDone s done t
  dead_or_waits t in_set = by_fuel (sum_below (counted held) n) held (omega arith) (λ u on off. absurd (false≢true (sym off ∙ on))) held_within t in_set
