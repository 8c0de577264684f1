-- What the program keeps of an open pass.
use Rattle.std.specs.Prelude.{◌≡◌, ℕ, ◌+◌, ◌*◌, ◌<◌, ◌≤◌, List, [], Option, Some, None, length, min, map, take, slice_get, if◌then◌else◌, option_map, option_to_list}
use Rattle.std.specs.List.{flat_map, list_any}
use Rattle.std.specs.Prelude.{◌++◌, ◌∷◌, All, Bool, false, unwrap_or, ◌==◌}
use Rattle.armus_base.specs.declared.event.Event.{Event}
use Rattle.armus_base.specs.declared.ids.PhaserId.{PhaserId}
use Rattle.armus_base.specs.declared.status.Member.{Member}
use Rattle.armus_base.specs.declared.status.Status.{Status}
use Rattle.armus_base.specs.calls.CheckedPlans.{Extends}
use Rattle.armus_base.specs.Finals.{given_below, listed_phase}
use Rattle.armus_base.specs.Plans.{Plan}
use Rattle.schedule.specs.declared.pass.OpenPass.{OpenPass}
use Rattle.schedule.specs.declared.pass.FoundWaiting.{FoundWaiting}
use Rattle.schedule.specs.Passes.{PassLoads, event_found, is_found_awaited, loads_of, phases_found}

-- the task with its event, if it was found waiting
abbrev pub waiting_found : PassLoads → ℕ → Option FoundWaiting
waiting_found loads t = option_map (λ e. record { t = record { 0 = t }; event = e }) (event_found loads t)

-- the phaser, if it was found awaited
abbrev pub awaited_phaser : Plan → PassLoads → ℕ → Option PhaserId
awaited_phaser plan loads p = if is_found_awaited plan loads p then Some (record { 0 = p }) else None

-- the phase of task t on a phaser that was found, if it is a member
abbrev pub member_found : Plan → PassLoads → ℕ → PhaserId → List Member
member_found plan loads t p = option_to_list (option_map (λ n. record { p = p; n = n }) (phases_found plan loads t p.0))

-- the status of a task found waiting
abbrev pub status_with : Plan → PassLoads → FoundWaiting → Status
status_with plan loads w =
    record { t = w.t; event = w.event; phases = given_below (listed_phase (is_found_awaited plan loads) (phases_found plan loads w.t.0)) (length plan.makers) }

-- the phases found in the row of a task, in the first columns
abbrev pub row_found : Plan → PassLoads → Option FoundWaiting → List PhaserId → List Member
row_found plan loads None columns = []
row_found plan loads (Some w) columns = flat_map (member_found plan loads w.t.0) columns

-- the place of the next phase cell in the rows of the tasks found waiting and the columns of the phasers found awaited
pub record HasPlace (plan : Plan) (loads : PassLoads) (pass : OpenPass) : Type 0 where
  pub cells : length loads ≡ length plan.parents + (pass.row * length pass.awaited.items + pass.column)
  pub row : pass.row ≤ length pass.waiting.items
  pub column : pass.row < length pass.waiting.items → pass.column < length pass.awaited.items
  pub last : pass.row ≡ length pass.waiting.items → pass.column ≡ 0

-- what was found of await cells, whatever loads come after
pub record HasAwaits (plan : Plan) (loads : PassLoads) (pass : OpenPass) : Type 0 where
  pub loaded : pass.loaded ≡ min (length loads) (length plan.parents)
  pub waiting : (all : PassLoads) → Extends all loads → pass.waiting.items ≡ given_below (waiting_found all) pass.loaded
  pub awaited :
      (all : PassLoads) → Extends all loads → pass.loaded ≡ length plan.parents → pass.awaited.items ≡ given_below (awaited_phaser plan all) (length plan.makers)
  pub phasers : All (λ w. w.event.p.0 < length plan.makers) pass.waiting.items

-- what was found of phase cells, whatever loads come after
pub record HasPhases (plan : Plan) (loads : PassLoads) (pass : OpenPass) : Type 0 where
  pub place : pass.loaded ≡ length plan.parents → HasPlace plan loads pass
  pub first : pass.loaded < length plan.parents → pass.row ≡ 0 × pass.column ≡ 0
  pub statuses : (all : PassLoads) → Extends all loads → pass.statuses ≡ map (status_with plan all) (take pass.row pass.waiting.items)
  pub members :
      (all : PassLoads) → Extends all loads → pass.members ≡ row_found plan all (slice_get pass.waiting.items pass.row) (take pass.column pass.awaited.items)

-- the pass is open after these loads
pub record IsPassOf (plan : Plan) (loads : PassLoads) (pass : OpenPass) : Type 0 where
  pub awaits : HasAwaits plan loads pass
  pub phases : HasPhases plan loads pass

-- one await cell more is loaded, which was found to hold this event or none
pub record KeepsEvent (old new : OpenPass) (found : Option Event) : Type 0 where
  pub loaded : new.loaded ≡ old.loaded + 1
  pub waiting : new.waiting.items ≡ old.waiting.items ++ option_to_list (option_map (λ e. record { t = record { 0 = old.loaded }; event = e }) found)
  pub row : new.row ≡ old.row
  pub column : new.column ≡ old.column
  pub statuses : new.statuses ≡ old.statuses
  pub members : new.members ≡ old.members

-- one phase cell more is loaded, of phaser p, which was found to hold this phase or none
pub record KeepsPhase (old new : OpenPass) (p : PhaserId) (found : Option ℕ) : Type 0 where
  pub loaded : new.loaded ≡ old.loaded
  pub waiting : new.waiting.items ≡ old.waiting.items
  pub awaited : new.awaited.items ≡ old.awaited.items
  pub row : new.row ≡ old.row
  pub column : new.column ≡ old.column + 1
  pub statuses : new.statuses ≡ old.statuses
  pub members : new.members ≡ old.members ++ option_to_list (option_map (λ n. record { p = p; n = n }) found)

-- the row of this task has ended
pub record EndsRow (old new : OpenPass) (w : FoundWaiting) : Type 0 where
  pub loaded : new.loaded ≡ old.loaded
  pub waiting : new.waiting.items ≡ old.waiting.items
  pub awaited : new.awaited.items ≡ old.awaited.items
  pub row : new.row ≡ old.row + 1
  pub column : new.column ≡ 0
  pub statuses : new.statuses ≡ old.statuses ++ record { t = w.t; event = w.event; phases = old.members } ∷ []
  pub members : new.members ≡ []

-- the pass is open, and has loaded all await cells, but not all phase cells
pub record IsMidPass (plan : Plan) (pass : OpenPass) : Type 0 where
  pub loads : PassLoads
  pub of : IsPassOf plan loads pass
  pub all_awaits : length plan.parents ≤ length loads
  pub not_full : length loads < loads_of plan loads

-- the phaser, if one of these tasks waits on an event of it
abbrev pub phaser_of : List FoundWaiting → ℕ → Option PhaserId
phaser_of waiting p = if list_any (λ w. w.event.p.0 == p) waiting then Some (record { 0 = p }) else None

-- the phaser, if it is marked
abbrev pub marked_phaser : List Bool → ℕ → Option PhaserId
marked_phaser marks p = if unwrap_or (slice_get marks p) false then Some (record { 0 = p }) else None
