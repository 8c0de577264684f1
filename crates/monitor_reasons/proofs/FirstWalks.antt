-- A walk along distances is the first of the shortest circles, and where no distance is known there is none.
use Rattle.std.proofs.Common.{◌≡◌, ℕ, zero, suc, ◌<◌, Bool, true, Option, Some, None, List, [], ◌∷◌, length, map, refl, sym, ◌∙◌, ap, subst, inl, inr, ◌⊎◌, arith, eq-eqb}
use Rattle.std.proofs.lemmas.Bool.{and_from, and_parts, cases_lt, eqb-true, true≢false}
use Rattle.std.proofs.lemmas.List.{get_or_read}
use Rattle.std.proofs.lemmas.List.Elements.{Contains-get_or}
use Rattle.monitor_laws.specs.States.{Participant, TraceState, new_participant}
use Rattle.monitor_words.specs.Stops.{ComesFirst, IsChain, IsFirstCircle, stops}
use Rattle.monitor_words.proofs.Circles.{chain_leads, first_by_length}
use Rattle.monitor_state.specs.NumberedLists.{AreAscending}
use Rattle.monitor_reasons.specs.Found.{participant_at}
use Rattle.monitor_reasons.specs.inside.Distances.{AreKnownDistances, IsKnownDistance, IsFirstNext, IsCircleWalk, distance_at, is_distance, is_next, leads_at, stops_at}
use Rattle.monitor_reasons.specs.inside.Listings.{listing}
use Rattle.monitor_reasons.proofs.Levels.{exact, leads_less}

-- who stands before another has the lower number
pub ascend_at : (us : List Participant) → AreAscending us → (i j : ℕ) → i < j → j < length us → (participant_at us i).number < (participant_at us j).number
ascend_at [] up i j lt within = absurd (omega arith)
ascend_at (x ∷ us) up zero zero lt within = absurd (omega arith)
ascend_at (x ∷ us) up zero (suc j) lt within = up.0 (participant_at us j) (Contains-get_or us j (new_participant 0 []) (omega arith))
ascend_at (x ∷ us) up (suc i) zero lt within = absurd (omega arith)
ascend_at (x ∷ us) up (suc i) (suc j) lt within = ascend_at us up.1 i j (omega arith) (omega arith)

pub distance_is : (o : Option ℕ) (n : ℕ) → is_distance o n ≡ true → o ≡ Some n
distance_is None n is = absurd (true≢false (sym is))
distance_is (Some m) n is = ap (λ (k : ℕ). Some k) (eqb-true m n is)

-- in the state that has the list
pub next_listed : (s : TraceState) (stuck : ℕ → Bool) (distances : List (Option ℕ)) (n t u : ℕ) (us : List Participant) → us ≡ s.list →
    IsFirstNext (listing us) stuck distances n t u → IsFirstNext s stuck distances n t u
next_listed s stuck distances n t u us same next = let m = subst (λ l. IsFirstNext (listing l) stuck distances n t u) same next in record { within = m.within; goes = m.goes; first = m.first }

module _ (s : TraceState) (stuck : ℕ → Bool) (f d : ℕ) (distances : List (Option ℕ)) (known : AreKnownDistances s stuck f d distances) where
  known_as : (t n : ℕ) → t < length s.list → distance_at distances t ≡ Some n → IsKnownDistance s stuck f d t (Some n)
  known_as t n within is = subst (λ o. IsKnownDistance s stuck f d t o) is (known.each t within)

  -- who stops t and leads to f by a chain that is shorter by one is one to go to
  is_next_from : (n t u : ℕ) → t < length s.list → distance_at distances t ≡ Some (suc n) → u < length s.list → stops_at s stuck u t ≡ true → leads_at s stuck f n u ≡ true →
      is_next s stuck distances n t u ≡ true
  is_next_from n t u within is listed goes leads_on =
      let far = known_as t (suc n) within is in
      let e = exact s stuck f d n u t (distance_at distances u) (known.each u listed) listed (let lt = far.0 in omega arith) leads_on goes far.2 in
      and_from (is_distance (distance_at distances u) n) (stops_at s stuck u t) (ap (λ o. is_distance o n) e ∙ eq-eqb n n refl) goes

  pub has_next : (n t : ℕ) → t < length s.list → distance_at distances t ≡ Some (suc n) → (u : ℕ) × (u < length s.list) × (is_next s stuck distances n t u ≡ true)
  has_next n t within is =
      let far = known_as t (suc n) within is in
      let m = leads_less s stuck f n t far.1 in
      (m.0, m.1, is_next_from n t m.0 within is m.1 m.2 m.3)

  pub next_is : (n t u : ℕ) → is_next s stuck distances n t u ≡ true → distance_at distances u ≡ Some n
  next_is n t u goes = distance_is (distance_at distances u) n (and_parts (is_distance (distance_at distances u) n) (stops_at s stuck u t) goes).0

  module _ (up : AreAscending s.list) where
    -- a walk is a chain, and comes first of those that are as long
    abbrev IsFirstChain : ℕ → ℕ → List ℕ → Type 0
    IsFirstChain n t places =
        IsChain s stuck (participant_at s.list f) (participant_at s.list t) (map (participant_at s.list) places)
        × (length (map (participant_at s.list) places) ≡ n)
        × ((more : List Participant) → IsChain s stuck (participant_at s.list f) (participant_at s.list t) more → length more ≡ n → ComesFirst (map (participant_at s.list) places) more)

    walk_is_first : (n t : ℕ) (places : List ℕ) → t < length s.list → distance_at distances t ≡ Some n → IsCircleWalk s stuck distances n t places → IsFirstChain n t places
    walk_is_first zero t [] within is walk = ((known_as t 0 within is).1, refl, λ more chain e. tt)
    walk_is_first zero t (u ∷ places) within is walk = absurd walk
    walk_is_first (suc n) t [] within is walk = absurd walk
    walk_is_first (suc n) t (u ∷ places) within is walk = joined walk.0 (walk_is_first n u places walk.0.within (next_is n t u walk.0.goes) walk.1)
      where
        goes_first : IsFirstNext s stuck distances n t u → IsFirstChain n u places → (v : ℕ) → v < length s.list → stops_at s stuck v t ≡ true →
            (others : List Participant) → IsChain s stuck (participant_at s.list f) (participant_at s.list v) others → length others ≡ n →
            ((participant_at s.list u).number < (participant_at s.list v).number) ⊎ (((participant_at s.list u).number ≡ (participant_at s.list v).number) × ComesFirst (map (participant_at s.list) places) others)
        goes_first next rest v listed goes others chain long =
            let leads_on = subst (λ k. leads_at s stuck f k v ≡ true) long (chain_leads s stuck (participant_at s.list f) (participant_at s.list v) others chain) in
            let next_passes = is_next_from n t v within is listed goes leads_on in
            elim (cases_lt v u) [
              | inl before ↦ absurd (true≢false (sym next_passes ∙ next.first v before))
              | inr not_before ↦ elim (cases_lt u v) [
                | inl behind ↦ inl (ascend_at s.list up u v behind listed)
                | inr not_behind ↦
                    (let same : v ≡ u = omega arith in
                    inr (ap (λ k. (participant_at s.list k).number) (sym same), rest.2 others (subst (λ k. IsChain s stuck (participant_at s.list f) (participant_at s.list k) others) same chain) long))
              ]
            ]

        joined : IsFirstNext s stuck distances n t u → IsFirstChain n u places → IsFirstChain (suc n) t (u ∷ places)
        joined next rest = (
          (
            Contains-get_or s.list u (new_participant 0 []) next.within,
            (and_parts (is_distance (distance_at distances u) n) (stops_at s stuck u t) next.goes).1,
            rest.0,
          ),
          ap suc rest.1,
          first,
        )
          where
            first : (more : List Participant) → IsChain s stuck (participant_at s.list f) (participant_at s.list t) more → length more ≡ suc n →
                ComesFirst (map (participant_at s.list) (u ∷ places)) more
            first [] chain e = absurd (omega arith)
            first (x ∷ others) chain e =
                let v = chain.0.0 in
                let is_v : x ≡ participant_at s.list v = get_or_read s.list v x chain.0.1 (sym chain.0.2) (new_participant 0 []) in
                subst (λ (y : Participant). ((participant_at s.list u).number < y.number) ⊎ (((participant_at s.list u).number ≡ y.number) × ComesFirst (map (participant_at s.list) places) others)) (sym is_v)
                (goes_first next rest v chain.0.1 (subst (λ y. stops s stuck y (participant_at s.list t) ≡ true) is_v chain.1) others
                (subst (λ y. IsChain s stuck (participant_at s.list f) y others) is_v chain.2) (omega arith))

    pub walk_is_first_circle : (n : ℕ) (places : List ℕ) → f < length s.list → distance_at distances f ≡ Some n → IsCircleWalk s stuck distances n f places →
        IsFirstCircle s stuck (participant_at s.list f) (map (participant_at s.list) places)
    walk_is_first_circle n places listed is walk =
        let far = known_as f n listed is in
        let m = walk_is_first n f places listed is walk in
        first_by_length s stuck (participant_at s.list f) n
        (λ j leads_on. elim (cases_lt j n) [
          | inl less ↦ absurd (true≢false (sym leads_on ∙ far.2 j less))
          | inr not_less ↦ not_less
        ])
        (map (participant_at s.list) places) m.0 m.1 m.2
