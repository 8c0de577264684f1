-- Levels are filled until no circle can be missed.
use Rattle.std.proofs.Common.{◌≡◌, ℕ, zero, suc, ◌<◌, ◌==◌, Bool, true, false, ◌&&◌, Option, None, List, [], length, refl, sym, ◌∙◌, ap, subst, inl, inr, arith, eq-eqb}
use Rattle.std.specs.Prelude.{is_some}
use Rattle.std.proofs.lemmas.Bool.{and_from, cases_Bool, true≢false}
use Rattle.std.proofs.lemmas.List.Elements.{Contains-get_or}
use Rattle.monitor_laws.specs.States.{TraceState, new_participant}
use Rattle.monitor_words.specs.Reasons.{HasNoCircle}
use Rattle.monitor_words.proofs.Circles.{chain_leads, circle_lt}
use Rattle.monitor_reasons.specs.Found.{participant_at}
use Rattle.monitor_reasons.specs.inside.Distances.{AreDistances, AreKnownDistances, AreSearched, IsChainDistance, any_below, distance_at, is_before, is_behind, leads_at}
use Rattle.monitor_reasons.proofs.Levels.{any_below_from, is_known, known_if_leads, or_left, or_right}

module _ (s : TraceState) (stuck : ℕ → Bool) (f : ℕ) (distances : List (Option ℕ)) (listed : f < length s.list) where
  all_known : (d : ℕ) → AreDistances s stuck f d distances → AreKnownDistances s stuck f d distances
  all_known d known = record { long = known.long; each = λ t within. is_known s stuck f d t (distance_at distances t) (known.each t within) }

  -- a circle is no longer than the list
  pub searched_all : AreDistances s stuck f (length s.list) distances → AreSearched s stuck f distances
  searched_all known = record { bound = length s.list; known = all_known (length s.list) known; none = λ unknown. no_circle (subst (λ o. IsChainDistance s stuck f (length s.list) f o) unknown (known.each f listed)) }
    where
      no_circle : ((j : ℕ) → j < length s.list → leads_at s stuck f j f ≡ false) → HasNoCircle s stuck (participant_at s.list f)
      no_circle far others circle =
          let short = circle_lt s stuck (participant_at s.list f) (Contains-get_or s.list f (new_participant 0 []) listed) others circle in
          true≢false (sym (chain_leads s stuck (participant_at s.list f) (participant_at s.list f) others circle.0) ∙ far (length others) short)

  nobody_behind : (d : ℕ) → AreDistances s stuck f d distances → any_below (λ u. is_behind distances f d u) (length distances) ≡ false →
      distance_at distances f ≡ None → HasNoCircle s stuck (participant_at s.list f)
  nobody_behind zero known none unknown others circle =
      true≢false (sym (any_below_from (λ u. is_behind distances f 0 u) (length distances) f (let e = known.long in omega arith)
      (or_left ((f == f) && (0 == 0)) (is_before (distance_at distances f) 0) (and_from (f == f) (0 == 0) (eq-eqb f f refl) refl))) ∙ none)
  nobody_behind (suc d) known none unknown others circle =
      known_if_leads s stuck f distances d known
      (λ u lt. elim (cases_Bool (is_before (distance_at distances u) (suc d))) [
        | inl on ↦ absurd (true≢false (sym (any_below_from (λ v. is_behind distances f (suc d) v) (length distances) u (let e = known.long in omega arith)
            (or_right ((u == f) && (suc d == 0)) (is_before (distance_at distances u) (suc d)) on)) ∙ none))
        | inr off ↦ off
      ])
      (length others) f listed (chain_leads s stuck (participant_at s.list f) (participant_at s.list f) others circle.0) unknown

  pub searched_stop : (d : ℕ) → AreDistances s stuck f d distances → any_below (λ u. is_behind distances f d u) (length distances) ≡ false → AreSearched s stuck f distances
  searched_stop d known stops = record { bound = d; known = all_known d known; none = λ unknown. nobody_behind d known stops unknown }

  -- where f has a distance a circle of it is known
  pub searched_found : (d : ℕ) → AreDistances s stuck f d distances → is_some (distance_at distances f) ≡ true → AreSearched s stuck f distances
  searched_found d known some = record { bound = d; known = all_known d known; none = λ unknown. absurd (true≢false (sym some ∙ ap is_some unknown)) }
