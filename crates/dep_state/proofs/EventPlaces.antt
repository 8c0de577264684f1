-- The events of a list of statuses at their places.
use Rattle.std.proofs.Common.{◌≡◌, ℕ, ◌<◌, List, length, sym, ap, ◌∙◌, inl, inr, arith, get_or}
use Rattle.std.specs.Prelude.{Contains, ◌↔◌, AllPairs}
use Rattle.std.proofs.lemmas.Bool.{cases_order}
use Rattle.std.proofs.lemmas.List.{get_or_default, length-map}
use Rattle.armus_base.specs.declared.event.Event.{Event}
use Rattle.armus_base.specs.declared.status.Status.{Status}
use Rattle.armus_base.specs.Statuses.{Impedes}
use Rattle.armus_base.specs.calls.Statuses.{IsInOrder}
use Rattle.dep_state.specs.calls.Deps.{Deps, IsDepsOf, IsEventBefore, impeders_of}

-- an event stands at a place
abbrev pub EventAt : Deps → ℕ → Event → Type 0
EventAt d i r = (i < length d.events) × (get_or d.events i r ≡ r)

pub one_event : (d : Deps) (i : ℕ) (r q : Event) → EventAt d i r → EventAt d i q → r ≡ q
one_event d i r q (lt, e) (lt', f) = sym e ∙ get_or_default d.events i r q lt ∙ f

not_before_itself : (a b : Event) → a ≡ b → IsEventBefore a b → ⊥
not_before_itself a b e (inl l) = omega (arith, ap (λ x. x.p.0) e)
not_before_itself a b e (inr r) = omega (arith, ap (λ x. x.n) e, r.1)

-- where events ascend, each stands at one place
pub one_place_of_event : (es : List Event) (r : Event) (i j : ℕ) → AllPairs IsEventBefore es → i < length es → j < length es → get_or es i r ≡ r → get_or es j r ≡ r → i ≡ j
one_place_of_event es r i j up lt lt' e f =
    elim (cases_order i j) [
      | inl same ↦ same
      | inr apart ↦ elim apart [
        | inl l ↦ absurd (not_before_itself (get_or es i r) (get_or es j r) (e ∙ sym f) (up i j r l lt'))
        | inr m ↦ absurd (not_before_itself (get_or es j r) (get_or es i r) (f ∙ sym e) (up j i r m lt))
      ]
    ]

module _ (ss : List Status) (ok : IsInOrder ss) (d : Deps) (is : IsDepsOf ss d) where
  pub one_event_place : (r : Event) (i j : ℕ) → EventAt d i r → EventAt d j r → i ≡ j
  one_event_place r i j (lt, e) (lt', f) = one_place_of_event d.events r i j is.formed.ordered lt lt' e f

  count : length d.tasks ≡ length ss
  count = ap length is.tasks ∙ length-map ss (λ s. s.t)

  -- the event of the status at a place stands at the place that the task awaits
  pub awaited_at : (m : ℕ) (s : Status) → m < length ss → get_or ss m s ≡ s → EventAt d (get_or d.awaits m 0) s.event
  awaited_at m s lt e =
      (is.formed.events_inside m 0 (omega (arith, is.formed.awaits_sized, count)), is.awaits m s s.event lt ∙ ap (λ x. x.event) e)

  pub impeded_at : (i u : ℕ) (r : Event) (v : Status) → EventAt d i r → u < length ss → get_or ss u v ≡ v → Contains (impeders_of d i) u ↔ Impedes v r
  impeded_at i u r v (lt, e) lt' f = rw (f, e) at (is.impeders i u r v lt lt')
