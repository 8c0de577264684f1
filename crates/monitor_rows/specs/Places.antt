-- Tasks and wildcards by their places in the list.
use Rattle.std.specs.Prelude.{ℕ, List, flat_map, option_to_list}
use Rattle.std.specs.List.{slice_get}
use Rattle.monitor_laws.specs.States.{Participant}

-- those who stand at these places
abbrev pub participants_at : List Participant → List ℕ → List Participant
participants_at us places = flat_map (λ k. option_to_list (slice_get us k)) places
