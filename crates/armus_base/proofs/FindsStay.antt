-- What a holder of the lock found of another task still agrees.
use Rattle.std.proofs.Common.{◌≡◌, ℕ, Option, Some, None, sym, ◌∙◌, ap, subst, refl, inl, inr}
use Rattle.std.proofs.lemmas.Bool.{cases_eq}
use Rattle.armus_base.specs.declared.event.Event.{Event}
use Rattle.armus_base.specs.Plans.{Advances, Blocks, Drops, Forks, Makes, Passes, Refuses, Registers}
use Rattle.armus_base.specs.States.{State, after, awaited, event_at}
use Rattle.armus_base.specs.calls.Seats.{Found, FoundIdle, FoundRefused, StillAgrees, FoundWaiting}
use Rattle.armus_base.specs.calls.DecisionLaws.{FindsStay}
use Rattle.armus_base.proofs.Steps.{updated_same, updated_other}

agrees_same :
    (s r : State) (w : ℕ) (find : Option Found) → r.published w ≡ s.published w → r.refused w ≡ s.refused w → StillAgrees s w find →
    StillAgrees r w find
agrees_same s r w None p q agrees = tt
agrees_same s r w (Some FoundIdle) p q agrees = (p ∙ agrees.0, q ∙ agrees.1)
agrees_same s r w (Some (FoundWaiting e)) p q (inl waits) = inl (p ∙ waits)
agrees_same s r w (Some (FoundWaiting e)) p q (inr idle) = inr (p ∙ idle.0, q ∙ idle.1)
agrees_same s r w (Some (FoundRefused e)) p q agrees = q ∙ agrees

-- a task that passes was found waiting on its event, or not at all
passed_agrees :
    (s : State) (w : ℕ) (find : Option Found) (e : Event) → s.published w ≡ Some e → s.refused w ≡ None → StillAgrees s w find → (p : ℕ) →
    StillAgrees (after s w (Passes p)) w find
passed_agrees s w None e published unrefused agrees p = tt
passed_agrees s w (Some FoundIdle) e published unrefused agrees p = absurd (let none = agrees.0 in cc)
passed_agrees s w (Some (FoundWaiting f)) e published unrefused agrees p = inr (updated_same s.published w w None refl, unrefused)
passed_agrees s w (Some (FoundRefused f)) e published unrefused agrees p = absurd (cc)

pub finds_stay : FindsStay
finds_stay plan s t u w (Blocks p) find may legal other agrees =
    agrees_same s (after s u (Blocks p)) w find
    (updated_other s.published u w (awaited (Some (Blocks p)) (s.phases u)) (λ e. other (let same : t ≡ u = (cc) in e ∙ sym same))) refl agrees
finds_stay plan s t u w (Refuses p) find may legal other agrees =
    agrees_same s (after s u (Refuses p)) w find refl
    (updated_other s.refused u w (awaited (Some (Blocks p)) (s.phases u)) (λ e. other (let same : t ≡ u = (cc) in e ∙ sym same))) agrees
finds_stay plan s t u w (Passes p) find may legal other agrees =
    elim (cases_eq w u) [
      | inl same ↦
          subst (λ v. StillAgrees (after s v (Passes p)) w find) same
          (passed_agrees s w find (event_at p legal.1) (ap s.published same ∙ legal.2) (ap s.refused same ∙ legal.4) agrees p)
      | inr ne ↦ agrees_same s (after s u (Passes p)) w find (updated_other s.published u w None ne) refl agrees
    ]
finds_stay plan s t u w (Makes p) find may legal other agrees = agrees_same s (after s u (Makes p)) w find refl refl agrees
finds_stay plan s t u w (Registers c p) find may legal other agrees = agrees_same s (after s u (Registers c p)) w find refl refl agrees
finds_stay plan s t u w (Forks c) find may legal other agrees = agrees_same s (after s u (Forks c)) w find refl refl agrees
finds_stay plan s t u w (Advances p) find may legal other agrees = agrees_same s (after s u (Advances p)) w find refl refl agrees
finds_stay plan s t u w (Drops p) find may legal other agrees = agrees_same s (after s u (Drops p)) w find refl refl agrees
