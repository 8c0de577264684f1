-- What a holder of the lock found of all other tasks tells who is published.
use Rattle.std.proofs.Common.{◌≡◌, ℕ, ◌<◌, true, Option, Some, None, List, length, sym, ◌∙◌, ap, subst, refl, inl, inr}
use Rattle.std.specs.Prelude.{IsSome}
use Rattle.std.proofs.lemmas.Bool.{cases_eq, false≢true}
use Rattle.armus_base.specs.declared.event.Event.{Event}
use Rattle.armus_base.specs.declared.status.Status.{Status}
use Rattle.armus_base.specs.Plans.{Blocks, Plan}
use Rattle.armus_base.specs.Runs.{Place}
use Rattle.armus_base.specs.calls.Places.{IsConsistent}
use Rattle.armus_base.specs.Places.{refused_at, state_at}
use Rattle.armus_base.specs.CheckedPlans.{IsCheckedPlan}
use Rattle.armus_base.specs.Deadlocks.{IsListedOn}
use Rattle.armus_base.specs.calls.Seats.{Found, FoundIdle, FoundRefused, StillAgrees, FoundWaiting}
use Rattle.armus_base.specs.calls.DecisionLaws.{FoundArePublished}
use Rattle.armus_base.proofs.Published.{published_after_is, published_undropped}
use Rattle.armus_base.proofs.Tasks.{action_of_task}
use Rattle.armus_base.proofs.Reachable.{reachable_is_fixed}
use Rattle.armus_base.proofs.BoardRuns.{lawful_is_reachable, nobody_dead_at}

-- no task is both published and refused
pub not_both :
    (plan : Plan) (a : ℕ → Place) → IsConsistent plan a → (u : ℕ) (e f : Event) → (state_at plan a).published u ≡ Some e →
    (state_at plan a).refused u ≡ Some f → ⊥
not_both plan a consistent u e f published refused =
    let undropped = published_undropped plan a consistent u e published in
    let none : refused_at plan u (a u).done (a u).dropped ≡ None = ap (refused_at plan u (a u).done) undropped in
    absurd (cc)

-- a published task is one of the plan
pub published_within :
    (plan : Plan) → IsCheckedPlan plan → (a : ℕ → Place) (u : ℕ) (e : Event) → (state_at plan a).published u ≡ Some e → u < length plan.parents
published_within plan checked a u e published =
    let is = published_after_is plan u (a u).done e published in action_of_task plan checked u is.0 (Blocks is.2) is.4

module _ (plan : Plan) (a : ℕ → Place) (consistent : IsConsistent plan a) (list : List Status) (u : ℕ) (e : Event) (published : (state_at plan a).published u ≡ Some e) where
  by_find :
      (o : Option Found) → ((f : Event) → o ≡ Some (FoundWaiting f) → IsListedOn list u f) → IsSome o → StillAgrees (state_at plan a) u o →
      IsListedOn list u e
  by_find None listed some agrees = absurd (false≢true some)
  by_find (Some FoundIdle) listed some agrees = absurd (let none = agrees.0 in cc)
  by_find (Some (FoundWaiting f)) listed some agrees =
      elim agrees [
        | inl waits ↦ subst (λ d. IsListedOn list u d) (let same : Some f ≡ Some e = sym waits ∙ published in cc) (listed f refl)
        | inr idle ↦ absurd (let none = idle.0 in cc)
      ]
  by_find (Some (FoundRefused f)) listed some agrees = absurd (not_both plan a consistent u e f published agrees)

pub found_are_published : FoundArePublished
found_are_published plan t a lock seen list checked lawful has unpublished finds = (
  nobody_dead_at plan a lock checked lawful,
  λ u e published.
      let consistent = (reachable_is_fixed plan a checked (lawful_is_reachable true plan a lock lawful)).1 in
      elim (cases_eq u t) [
        | inl same ↦
            absurd (let none : (state_at plan a).published u ≡ None = ap (state_at plan a).published same ∙ unpublished in cc)
        | inr other ↦
            let within = published_within plan checked a u e published in
            by_find plan a consistent list u e published (seen.found u) (λ f is. finds.listed u f within other is)
            (finds.all u within other) (has.agrees u other)
      ],
)
