-- The numbers of the tasks that are there with some names, gathered name by name.
use Rattle.std.proofs.Common.{◌≡◌, ℕ, true, false, ◌||◌, List, [], ◌∷◌, map, sym, ◌∙◌, ap, subst, inl, inr, ◌⊎◌}
use Rattle.std.specs.Prelude.{◌↔◌, Contains, bytes_eq, filter}
use Rattle.std.specs.List.{list_any}
use Rattle.std.proofs.lemmas.Bool.{and_from, and_parts, or_cases, or_left, or_right}
use Rattle.armus_base.proofs.Elements.{from_map, in_map, nothing_in_nil}
use Rattle.monitor_laws.specs.States.{Participant, is_live_task, is_live_wildcard, is_there_as}
use Rattle.monitor_laws.proofs.Filters.{from_filter, in_filter}
use Rattle.monitor_laws.specs.Lawful.{AreAscending}
use Rattle.monitor_state.specs.inside.Numbers.{HasEachNameOnce}
use Rattle.monitor_state.specs.inside.Players.{AreNumbersSoFar, NumbersClimb, is_player, participant_number}
use Rattle.monitor_state.proofs.Ascending.{ascending_filter}
use Rattle.monitor_state.proofs.Climbing.{numbers_climb, same_climbing}

module _ (us : List Participant) (names : List (List ℕ)) where
  pub gathered_none_yet : AreNumbersSoFar us names names []
  gathered_none_yet =
      record {
        climb = tt;
        known = λ n within. absurd (nothing_in_nil n within);
        rest = λ u within player. inr (and_parts (is_live_task u.condition) (list_any (λ t. bytes_eq t u.name) names) player).1;
        part = λ test some. some;
      }

  pub gathered_all : (numbers : List ℕ) → AreAscending us → AreNumbersSoFar us names [] numbers → numbers ≡ map participant_number (filter (is_player names) us)
  gathered_all numbers up gathered =
      same_climbing numbers (map participant_number (filter (is_player names) us)) gathered.climb (numbers_climb (filter (is_player names) us) (ascending_filter (is_player names) us up)) gathered.known
      (λ n within.
      let m = from_map participant_number (filter (is_player names) us) n within in
      let f = from_filter (is_player names) us m.0 m.1 in
      elim (gathered.rest m.0 f.0 f.1) [
        | inl here ↦ subst (Contains numbers) m.2 here
        | inr left ↦ absurd (let e : false ≡ true = left in cc)
      ])

  module _ (name : List ℕ) (left : List (List ℕ)) (numbers : List ℕ) (gathered : AreNumbersSoFar us names (name ∷ left) numbers) where
    -- no task is there with the next name
    pub gathered_nothing : ((u : Participant) → Contains us u → is_live_task u.condition ≡ true → bytes_eq name u.name ≡ false) → AreNumbersSoFar us names left numbers
    gathered_nothing nobody =
        record {
          climb = gathered.climb;
          known = gathered.known;
          rest = λ u within player. elim (gathered.rest u within player) [
            | inl here ↦ inl here
            | inr some ↦ elim (or_cases (bytes_eq name u.name) (list_any (λ t. bytes_eq t u.name) left) some) [
              | inl next ↦ absurd (
                  let live = (and_parts (is_live_task u.condition) (list_any (λ t. bytes_eq t u.name) names) player).0 in
                  let e : true ≡ false = sym next ∙ nobody u within live in
                  cc)
              | inr later ↦ inr later
            ]
          ];
          part = λ test some. gathered.part test (or_right (test name) (list_any test left) some);
        }

    -- a task is there with the next name, and its number is put among them
    pub gathered_more :
        HasEachNameOnce us → (v : Participant) → Contains us v → is_live_task v.condition ≡ true → bytes_eq name v.name ≡ true → (more : List ℕ) → NumbersClimb more →
        ((n : ℕ) → Contains more n ↔ (Contains numbers n ⊎ (n ≡ v.number))) → AreNumbersSoFar us names left more
    gathered_more order v v_within live next more climb put =
        record {
          climb = climb;
          known = λ n within. elim ((put n).0 within) [
            | inl old ↦ gathered.known n old
            | inr new ↦ subst (Contains (map participant_number (filter (is_player names) us))) (sym new) known_new
          ];
          rest = λ u within player. elim (gathered.rest u within player) [
            | inl here ↦ inl ((put u.number).1 (inl here))
            | inr some ↦ elim (or_cases (bytes_eq name u.name) (list_any (λ t. bytes_eq t u.name) left) some) [
              | inl same ↦ inl ((put u.number).1 (inr (ap participant_number (order.one_name name u v within v_within (is_there u (and_parts (is_live_task u.condition) (list_any (λ t. bytes_eq t u.name) names) player).0 same) (is_there v live next)))))
              | inr later ↦ inr later
            ]
          ];
          part = λ test some. gathered.part test (or_right (test name) (list_any test left) some);
        }
      where
        is_there : (u : Participant) → is_live_task u.condition ≡ true → bytes_eq name u.name ≡ true → is_there_as name u ≡ true
        is_there u on same = and_from (is_live_task u.condition || is_live_wildcard u.condition) (bytes_eq name u.name) (or_left (is_live_task u.condition) (is_live_wildcard u.condition) on) same

        known_new : Contains (map participant_number (filter (is_player names) us)) v.number
        known_new =
            in_map participant_number (filter (is_player names) us) v
            (in_filter (is_player names) us v v_within
            (and_from (is_live_task v.condition) (list_any (λ t. bytes_eq t v.name) names) live
            (gathered.part (λ t. bytes_eq t v.name) (or_left (bytes_eq name v.name) (list_any (λ t. bytes_eq t v.name) left) next))))
