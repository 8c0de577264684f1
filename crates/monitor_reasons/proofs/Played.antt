-- Who stands for a task: itself, and the wildcards that it alone may play.
use Rattle.std.proofs.Common.{◌≡◌, ℕ, ◌<◌, ◌==◌, ◌&&◌, true, false, List, [], length, sym, ◌∙◌, subst, refl, inl, inr, eq-eqb}
use Rattle.std.specs.Prelude.{Contains}
use Rattle.std.specs.List.{list_any}
use Rattle.std.proofs.lemmas.Bool.{and_from, cases_Bool, true≢false}
use Rattle.std.proofs.lemmas.List.Folds.{list_any_at}
use Rattle.monitor_laws.specs.States.{Participant, new_participant}
use Rattle.monitor_state.specs.NumberedLists.{AreAscending}
use Rattle.monitor_words.specs.Stops.{keeps_waiting, lone_task, stands_for}
use Rattle.monitor_reasons.specs.Found.{participant_at}
use Rattle.monitor_reasons.specs.inside.PhaserPlaces.{ArePlayedBy}
use Rattle.monitor_reasons.proofs.Levels.{or_left}
use Rattle.monitor_reasons.proofs.Passing.{some_keeper, stands_there}

module _ (us : List Participant) (u t : ℕ) (listed : u < length us) where
  -- it keeps the task at t waiting itself
  pub keeps_itself : keeps_waiting (participant_at us u) (participant_at us t) ≡ true →
      list_any (λ w. stands_for w (participant_at us u) && keeps_waiting w (participant_at us t)) us ≡ true
  keeps_itself keeps =
      list_any_at (λ w. stands_for w (participant_at us u) && keeps_waiting w (participant_at us t)) us u (new_participant 0 []) listed
      (and_from (stands_for (participant_at us u) (participant_at us u)) (keeps_waiting (participant_at us u) (participant_at us t))
      (or_left ((participant_at us u).number == (participant_at us u).number) (list_any (λ k. k == (participant_at us u).number) (lone_task (participant_at us u).condition))
      (eq-eqb (participant_at us u).number (participant_at us u).number refl)) keeps)

  -- neither it nor a wildcard of it keeps the task at t waiting
  pub nobody_keeps : AreAscending us → (played : List ℕ) → ArePlayedBy us (participant_at us u).number played →
      keeps_waiting (participant_at us u) (participant_at us t) ≡ false →
      ((i : ℕ) → Contains played i → i < length us → (stands_for (participant_at us i) (participant_at us u) && keeps_waiting (participant_at us i) (participant_at us t)) ≡ false) →
      list_any (λ w. stands_for w (participant_at us u) && keeps_waiting w (participant_at us t)) us ≡ false
  nobody_keeps up played are itself none =
      elim (cases_Bool (list_any (λ w. stands_for w (participant_at us u) && keeps_waiting w (participant_at us t)) us)) [
        | inl some ↦
            let m = some_keeper us (participant_at us u) (participant_at us t) some in
            absurd (true≢false (elim (stands_there us up m.0 u m.1 listed m.2) [
              | inl here ↦ sym (subst (λ k. keeps_waiting (participant_at us k) (participant_at us t) ≡ true) here m.3) ∙ itself
              | inr by ↦
                  sym (and_from (stands_for (participant_at us m.0) (participant_at us u)) (keeps_waiting (participant_at us m.0) (participant_at us t)) m.2 m.3)
                  ∙ none m.0 (are m.0 m.1 by) m.1
            ]))
        | inr none_of_all ↦ none_of_all
      ]
