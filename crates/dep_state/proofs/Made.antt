-- What a loop over the statuses or over the events has made.
use Rattle.std.proofs.Common.{◌≡◌, ℕ, zero, suc, ◌+◌, ◌<◌, List, [], ◌∷◌, ◌++◌, length, refl, sym, ap, ◌∙◌, arith, get_or, inl, inr}
use Rattle.std.specs.Prelude.{All, map}
use Rattle.std.proofs.lemmas.Bool.{cases_eq, cases_lt}
use Rattle.std.proofs.lemmas.List.{get_or_default, length-append, get_or_push, length-map, get_or_past}
use Rattle.std.proofs.lemmas.List.Elements.{All-push}
use Rattle.armus_base.specs.declared.event.Event.{Event}
use Rattle.armus_base.specs.declared.status.Status.{Status}
use Rattle.dep_state.specs.inside.Made.{IsEventsOf, IsPlacesOf, IsImpedersOf}
use Rattle.armus_base.specs.calls.Statuses.{IsInOrder}
use Rattle.dep_state.proofs.TaskPlaces.{element}
use Rattle.dep_state.proofs.EventPlaces.{one_place_of_event}
use Rattle.dep_state.specs.calls.Deps.{Deps, IsDepsOf}

pub left_of : {X : Type 0} (xs ys : List X) (k : ℕ) (d : X) → k < length xs → get_or (xs ++ ys) k d ≡ get_or xs k d
left_of [] ys k d lt = absurd (omega arith)
left_of (x ∷ xs) ys zero d lt = refl
left_of (x ∷ xs) ys (suc k) d lt = left_of xs ys k d (omega arith)

module _ (ss : List Status) (es : List Event) (n : ℕ) where
  pub places_more :
      (places : List ℕ) (at : ℕ) (s : Status) → IsPlacesOf ss es n places → n < length ss → s ≡ get_or ss n s → at < length es → get_or es at s.event ≡ s.event →
      IsPlacesOf ss es (n + 1) (places ++ at ∷ [])
  places_more places at s h lt is inside found =
      record {
        sized = omega (arith, length-append places (at ∷ []), h.sized);
        inside = All-push (λ i. i < length es) places at h.inside inside;
        there = λ k v e in'. elim (cases_eq k n) [
          | inl same ↦
              let p : get_or (places ++ at ∷ []) k 0 ≡ at = get_or_push places at 0 k (h.sized ∙ sym same) in
              let q : s ≡ get_or ss k v = is ∙ get_or_default ss n s v lt ∙ ap (λ i. get_or ss i v) (sym same) in
              ap (λ i. get_or es i e) p ∙ get_or_default es at e s.event inside ∙ found ∙ ap (λ x. x.event) q
          | inr ne ↦ ap (λ i. get_or es i e) (left_of places (at ∷ []) k 0 (omega (arith, h.sized))) ∙ h.there k v e (omega arith)
        ];
      }

some_event : (es : List Event) (i : ℕ) → i < length es → Event
some_event [] i lt = absurd (omega arith)
some_event (e ∷ es) i lt = e

-- each place of a row is one of a status
pub impeders_inside :
    (ss : List Status) (es : List Event) (rows : List (List ℕ)) → IsImpedersOf ss es (length es) rows → (n : ℕ) → n ≡ length ss →
    All (λ row. All (λ t. t < n) row) rows
impeders_inside ss es rows h n same i row lt t o in' =
    let lt' : i < length es = omega (arith, h.sized) in
    let e : get_or rows i row ≡ get_or rows i [] = get_or_default rows i row [] lt in
    let r = h.each i (some_event es i lt') lt' in
    rw (same, e) (r.below t o (rw e at in'))

-- what is made of the statuses is their relations
pub deps_of :
    (ss : List Status) (d : Deps) → IsInOrder ss → d.tasks ≡ map (λ s. s.t) ss → IsEventsOf ss d.events → IsPlacesOf ss d.events (length ss) d.awaits →
    IsImpedersOf ss d.events (length d.events) d.impeders → IsDepsOf ss d
deps_of ss d ok tasks events places rows =
    let n : length d.tasks ≡ length ss = ap length tasks ∙ length-map ss (λ s. s.t) in
    record {
      formed = record {
        awaits_sized = places.sized ∙ sym n;
        impeders_sized = rows.sized;
        few = omega (arith, ok.few, n);
        few_events = omega (arith, ok.few, events.few);
        events_inside = places.inside;
        tasks_inside = λ i row lt t o in'.
            let lt' : i < length d.events = omega (arith, rows.sized) in
            let same : get_or d.impeders i row ≡ get_or d.impeders i [] = get_or_default d.impeders i row [] lt in
            let r = rows.each i (some_event d.events i lt') lt' in
            rw (n, same) (r.below t o (rw same at in'));
        each_awaited = λ i lt.
            let (e, here) = element d.events i lt in
            let (s, (m, in', at), same) = (events.exact e).0 (i, lt, here) in
            let there = places.there m s e in' in
            let found : get_or d.events (get_or d.awaits m 0) e ≡ e = there ∙ ap (λ x. x.event) at ∙ same in
            let inside = places.inside m 0 (omega (arith, places.sized)) in
            (m, omega (arith, n), one_place_of_event d.events e (get_or d.awaits m 0) i events.ordered inside lt found here);
        ordered = events.ordered;
      };
      awaited = events.exact;
      ascend = λ i. elim (cases_lt i (length d.events)) [
        | inl lt ↦ (rows.each i (some_event d.events i lt) lt).ascends
        | inr past ↦ λ j k o a b. absurd (let e : get_or d.impeders i [] ≡ [] = get_or_past d.impeders i [] (omega (arith, rows.sized)) in omega (arith, ap length e))
      ];
      tasks = tasks;
      awaits = λ k s e lt. places.there k s e lt;
      impeders = λ i k e s lt lt'. (rows.each i e lt).exact k s lt';
    }
