-- Lists of tasks and wildcards, and names that stand one behind the other.
use Rattle.std.specs.Prelude.{◌≡◌, ℕ, ◌<◌, ◌==◌, Bool, false, not, ◌&&◌, All, Option, Some, None, List, [], length, map}
use Rattle.std.specs.List.{list_any}
use Rattle.monitor_laws.specs.States.{Participant, TraceState}
use Rattle.monitor_words.specs.Stops.{keeps_waiting, stands_for, stops}
use Rattle.monitor_words.specs.calls.Values.{placed_task}
use Rattle.monitor_words.specs.declared.placed.PlacedTask.{PlacedTask}
use Rattle.monitor_words.specs.declared.sentences.StuckReason.{StuckReason}
use Rattle.monitor_words.specs.declared.sentences.StuckReason.TheVariants.{SomebodyMissing}
use Rattle.monitor_state.specs.inside.FirstPlaces.{IsFirstAt}
use Rattle.monitor_reasons.specs.Found.{participant_at}

-- the state that has this list
abbrev pub listing : List Participant → TraceState
listing us = record { list = us; named = 0 }

-- no space stands between names
abbrev pub is_one_word : List ℕ → Bool
is_one_word names = not (list_any (λ b. b == 32) names)

-- for what somebody is missing, where something is waited for
abbrev pub missing_at : Option (List ℕ × ℕ) → StuckReason
missing_at None = SomebodyMissing [] 0
missing_at (Some e) = SomebodyMissing e.0 e.1

-- the tasks at places of the list, as they are told
abbrev pub shown_places : List Participant → List ℕ → List PlacedTask
shown_places us places = map (λ i. placed_task (participant_at us i)) places

-- these places have just those who keep f waiting, in the words that a stop needs
pub record AreKeepers (us : List Participant) (f : Participant) (places : List ℕ) : Type 0 where
  pub within : All (λ i. i < length us) places
  pub stand : (u : Participant) → list_any (λ i. stands_for (participant_at us i) u) places ≡ list_any (λ w. stands_for w u && keeps_waiting w f) us

-- the place of the first that stops f, or that none does
abbrev pub IsFoundStopper : List Participant → (ℕ → Bool) → Participant → Option ℕ → Type 0
IsFoundStopper us stuck f None = list_any (λ v. stops (listing us) stuck v f) us ≡ false
IsFoundStopper us stuck f (Some i) = IsFirstAt (λ v. stops (listing us) stuck v f) us i
