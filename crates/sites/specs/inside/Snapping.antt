-- What a snap has found so far.
use Rattle.std.specs.Prelude.{◌≡◌, ℕ, true, List, All, Option, Some, is_some, length}
use Rattle.std.specs.Option.{option_map}
use Rattle.armus_base.specs.declared.event.Event.{Event}
use Rattle.armus_base.specs.declared.status.Member.{Member}
use Rattle.armus_base.specs.declared.status.Status.{Status}
use Rattle.armus_base.specs.Finals.{given_below, listed_phase, status_of}
use Rattle.armus_base.specs.Plans.{Plan}
use Rattle.armus_base.specs.States.{Phases, State}
use Rattle.board.specs.calls.Seats.{Known}
use Rattle.phase_scan.specs.calls.Collects.{IfAsked, LoadsRow, LoadsRows}
use Rattle.sites.specs.calls.Rows.{HasNumbers, HasPhaseNumbers}

-- the status of task t on the event, with all its phases on so many phasers
abbrev pub whole_status : ℕ → ℕ → Phases → Event → Status
whole_status phasers t phases e = record { t = record { 0 = t }; event = e; phases = given_below (listed_phase (λ p. true) phases) phasers }

-- the loads of the phase words of task t on the first phasers, in order; the list has the phases that they found
pub record FindsRow (phasers t : ℕ) (list : List Member) (before now : Known) : Type 0 where
  pub phases : Phases
  pub loads : LoadsRow (λ p. true) t phases phasers before now
  pub listed : list ≡ given_below (listed_phase (λ p. true) phases) phasers
  pub numbers : All HasPhaseNumbers list

-- the loads of all phase words of task t, if it was found waiting; the status has what they found
pub record FindsStatus (phasers t : ℕ) (event : Option Event) (status : Option Status) (before now : Known) : Type 0 where
  pub phases : Phases
  pub loads : IfAsked (is_some event) (LoadsRow (λ p. true) t phases phasers) before now
  pub status_is : status ≡ option_map (whole_status phasers t phases) event
  pub numbers : (s : Status) → status ≡ Some s → HasNumbers s

-- the rows of those of the first tasks that were found waiting on these events, in order; the list has their statuses
pub record FindsRows (plan : Plan) (events : ℕ → Option Event) (tasks : ℕ) (list : List Status) (before now : Known) : Type 0 where
  pub found : State
  pub published : found.published ≡ events
  pub loads : LoadsRows (length plan.makers) (λ p. true) found tasks before now
  pub listed : list ≡ given_below (status_of plan found (λ p. true)) tasks
  pub numbers : All HasNumbers list
