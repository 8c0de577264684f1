-- What is found of a stuck task, by places of the list.
use Rattle.std.specs.Prelude.{ℕ, ◌<◌, All, List, [], ◌∷◌, length, map, slice_index_or}
use Rattle.monitor_laws.specs.States.{Participant, new_participant}
use Rattle.monitor_words.specs.Reasons.{InCircle, EndedKeeps, StuckStops, SomebodyMissing, StuckBecause}
use Rattle.monitor_reasons.specs.declared.found_reason.FoundReason.{FoundReason}
use Rattle.monitor_reasons.specs.declared.found_reason.FoundReason.TheVariants as found

-- who stands at a place of the list; behind its end a task without a name
abbrev pub participant_at : List Participant → ℕ → Participant
participant_at us i = slice_index_or us i (new_participant 0 [])

-- the reason that was found, with those who stand at its places
abbrev pub reason_value : List Participant → FoundReason → StuckBecause
reason_value us (found.InCircle places) = InCircle (map (participant_at us) places.items)
reason_value us (found.EndedKeeps i) = EndedKeeps (participant_at us i)
reason_value us (found.StuckStops i) = StuckStops (participant_at us i)
reason_value us found.SomebodyMissing = SomebodyMissing

-- its places
abbrev pub found_places : FoundReason → List ℕ
found_places (found.InCircle places) = places.items
found_places (found.EndedKeeps i) = i ∷ []
found_places (found.StuckStops i) = i ∷ []
found_places found.SomebodyMissing = []

-- its places are within the list
abbrev pub ArePlacesOfList : List Participant → FoundReason → Type 0
ArePlacesOfList us f = All (λ i. i < length us) (found_places f)
