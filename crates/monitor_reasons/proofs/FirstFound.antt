-- The first who passes a test on a list is the one that is found in the state that has the list.
use Rattle.std.proofs.Common.{◌≡◌, ℕ, Bool, false, Some, None, List, [], sym, ◌∙◌, ap, subst}
use Rattle.std.specs.Prelude.{find}
use Rattle.std.specs.List.{list_any}
use Rattle.monitor_laws.specs.States.{Participant, TraceState, new_participant}
use Rattle.monitor_words.specs.Stops.{stops}
use Rattle.monitor_state.proofs.OnePassing.{found_first, found_none}
use Rattle.monitor_state.specs.inside.FirstPlaces.{IsFirstAt}
use Rattle.monitor_reasons.specs.Found.{participant_at}
use Rattle.monitor_reasons.specs.inside.Listings.{listing}

module _ (s : TraceState) (us : List Participant) (same : s.list ≡ us) where
  pub first_of_list : (p : Participant → Bool) (i : ℕ) → IsFirstAt p us i → find p s.list ≡ Some (participant_at s.list i)
  first_of_list p i first = found_first p s.list i (new_participant 0 []) (subst (λ l. IsFirstAt p l i) (sym same) first)

  pub none_of_list : (p : Participant → Bool) → list_any p us ≡ false → find p s.list ≡ None
  none_of_list p none = found_none p s.list (ap (list_any p) same ∙ none)

  pub first_stopper : (stuck : ℕ → Bool) (f : Participant) (i : ℕ) → IsFirstAt (λ v. stops (listing us) stuck v f) us i →
      find (λ v. stops s stuck v f) s.list ≡ Some (participant_at s.list i)
  first_stopper stuck f i first =
      found_first (λ v. stops s stuck v f) s.list i (new_participant 0 []) (subst (λ l. IsFirstAt (λ v. stops (listing l) stuck v f) l i) (sym same) first)

  pub no_stopper : (stuck : ℕ → Bool) (f : Participant) → list_any (λ v. stops (listing us) stuck v f) us ≡ false → find (λ v. stops s stuck v f) s.list ≡ None
  no_stopper stuck f none =
      found_none (λ v. stops s stuck v f) s.list (subst (λ l. list_any (λ v. stops (listing l) stuck v f) l ≡ false) (sym same) none)
