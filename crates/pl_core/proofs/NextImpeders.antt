-- The next published task that impedes an event, by the next one whose phase is below.
use Rattle.std.proofs.Common.{◌≡◌, ℕ, ◌+◌, ◌<◌, ◌≤◌, Option, Some, None, true, false, arith, sym, ◌∙◌, subst, refl, inl, inr}
use Rattle.std.specs.Prelude.{MatchOption, is_some}
use Rattle.std.proofs.lemmas.Bool.{cases_eq, cases_lt}
use Rattle.armus_base.specs.declared.event.Event.{Event}
use Rattle.armus_base.specs.declared.ids.TaskId.{TaskId}
use Rattle.armus_base.specs.States.{State}
use Rattle.pl_core.specs.calls.HighestPhases.{IsNextImpeder, IsPublishedImpeder}
use Rattle.pl_core.specs.inside.Behind.{IsBelow, IsNextBelow}

-- from one number on no task below another is published and impedes the event
abbrev pub NobodyBetween : State → Event → ℕ → ℕ → Type 0
NobodyBetween s e low high = (u : ℕ) → low ≤ u → u < high → IsPublishedImpeder s e u → ⊥

pub none_of : {A : Type 0} (o : Option A) → is_some o ≡ false → o ≡ None
none_of None off = refl
none_of (Some x) off = absurd (cc)

pub some_of : {A : Type 0} (o : Option A) → is_some o ≡ true → (x : A) × (o ≡ Some x)
some_of None on = absurd (cc)
some_of (Some x) on = (x, refl)

module _ (s : State) (e : Event) where
  impeder_below : (u : ℕ) → IsPublishedImpeder s e u → IsBelow (s.phases u e.p.0) e.n
  impeder_below u (f, p, m, at, lt) = (m, at, lt)

  pub nobody_yet : (low : ℕ) → NobodyBetween s e low low
  nobody_yet low u le l impedes = absurd (omega arith)

  -- nobody impedes an event that is reached
  pub nobody_reached : (low : ℕ) → ((u m : ℕ) → s.phases u e.p.0 ≡ Some m → e.n ≤ m) → IsNextImpeder s e low None
  nobody_reached low reached u le (f, p, m, at, lt) = absurd (let most = reached u m at in omega arith)

  module _ (low next : ℕ) (nobody : NobodyBetween s e low next) where
    pub nobody_up_to : (u : ℕ) → IsNextBelow (λ v. s.phases v e.p.0) e.n next (Some u) → NobodyBetween s e low u
    nobody_up_to u is v le l impedes =
        elim (cases_lt v next) [
          | inl before ↦ nobody v le before impedes
          | inr on ↦ (let (first, here, none) = is in none v on l (impeder_below v impedes))
        ]

    -- one more that is not published
    pub nobody_more : (u : ℕ) → IsNextBelow (λ v. s.phases v e.p.0) e.n next (Some u) → s.published u ≡ None → NobodyBetween s e low (u + 1)
    nobody_more u is off v le l impedes =
        elim (cases_eq v u) [
          | inl same ↦
              let (f, p, m, at, lt) = impedes in
              absurd (let no : None ≡ Some f = sym off ∙ subst (λ x. s.published x ≡ Some f) same p in cc)
          | inr other ↦ nobody_up_to u is v le (omega (arith, other)) impedes
        ]

    pub next_found : (u : TaskId) (f : Event) → low ≤ next → IsNextBelow (λ v. s.phases v e.p.0) e.n next (Some u.0) → s.published u.0 ≡ Some f → IsNextImpeder s e low (Some u)
    next_found u f le is on =
        let (first, (m, at, lt), none) = is in (
          omega (arith, le, first),
          (f, on, m, at, lt),
          nobody_up_to u.0 is,
        )

    pub nobody_left : IsNextBelow (λ v. s.phases v e.p.0) e.n next None → IsNextImpeder s e low None
    nobody_left is v le impedes =
        elim (cases_lt v next) [
          | inl before ↦ nobody v le before impedes
          | inr on ↦ is v on (impeder_below v impedes)
        ]

-- the first one from 0 on is one of all
pub first_of_all : (s : State) (e : Event) (o : Option TaskId) → IsNextImpeder s e 0 o → MatchOption o ((u : ℕ) → IsPublishedImpeder s e u → ⊥) (λ u. IsPublishedImpeder s e u.0)
first_of_all s e None none = λ u impedes. none u (omega arith) impedes
first_of_all s e (Some u) (least, impedes, none) = impedes
