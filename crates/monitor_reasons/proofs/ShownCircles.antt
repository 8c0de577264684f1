-- A circle as it is told.
use Rattle.std.proofs.Common.{◌≡◌, ℕ, ◌<◌, ◌≤◌, ◌-◌, false, List, [], ◌∷◌, length, take, map, refl, sym, ◌∙◌, ap, inl, inr, arith}
use Rattle.std.specs.Prelude.{nat_le}
use Rattle.std.proofs.lemmas.Bool.{cond-true, cond-false, cases_Bool, le-leb, leb-true}
use Rattle.std.proofs.lemmas.List.{length-map, take-map}
use Rattle.monitor_laws.specs.States.{Participant}
use Rattle.monitor_words.specs.calls.Values.{placed_task, shown_circle}
use Rattle.monitor_words.specs.declared.placed.PlacedTask.{PlacedTask}
use Rattle.monitor_words.specs.declared.sentences.StuckReason.{StuckReason}
use Rattle.monitor_words.specs.declared.sentences.StuckReason.TheVariants.{InCircle}
use Rattle.monitor_reasons.specs.Found.{participant_at}
use Rattle.monitor_reasons.specs.inside.Listings.{shown_places}

shown_at : (us : List Participant) (places : List ℕ) → shown_places us places ≡ map placed_task (map (participant_at us) places)
shown_at us [] = refl
shown_at us (i ∷ places) = ap (λ (l : List PlacedTask). placed_task (participant_at us i) ∷ l) (shown_at us places)

module _ (us : List Participant) (places : List ℕ) where
  whole : StuckReason
  whole = InCircle (map placed_task (map (participant_at us) places)) 0

  shortened : StuckReason
  shortened = InCircle (map placed_task (take 6 (map (participant_at us) places))) (length (map (participant_at us) places) - 6)

  pub few_are_shown : length places ≤ 7 → InCircle (shown_places us places) 0 ≡ shown_circle (map (participant_at us) places)
  unfolding whole shortened
  few_are_shown few =
      let long = length-map places (participant_at us) in
      ap (λ l. InCircle l 0) (shown_at us places) ∙ sym (cond-true (nat_le (length (map (participant_at us) places)) 7) whole shortened (le-leb _ _ (omega arith)))

  pub many_are_shown : 7 < length places → InCircle (shown_places us (take 6 places)) (length places - 6) ≡ shown_circle (map (participant_at us) places)
  unfolding whole shortened
  many_are_shown many =
      let long = length-map places (participant_at us) in
      let few : nat_le (length (map (participant_at us) places)) 7 ≡ false = elim (cases_Bool (nat_le (length (map (participant_at us) places)) 7)) [
        | inl within ↦ absurd (let le = leb-true _ _ within in omega arith)
        | inr beyond ↦ beyond
      ] in
      ap (λ l. InCircle l (length places - 6)) (shown_at us (take 6 places) ∙ ap (map placed_task) (sym (take-map (participant_at us) 6 places)))
      ∙ ap (λ n. InCircle (map placed_task (take 6 (map (participant_at us) places))) (n - 6)) (sym long)
      ∙ sym (cond-false (nat_le (length (map (participant_at us) places)) 7) whole shortened few)
