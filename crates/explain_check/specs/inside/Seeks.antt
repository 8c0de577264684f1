-- What is found on the way to the first fault, and at it.
use Rattle.std.specs.Prelude.{◌≡◌, ℕ, ◌+◌, suc, ◌<◌, ◌≤◌, ◌^◌, Bool, List, [], ◌∷◌, ◌++◌, length, map, slice_index_or, Option, Some, None, Result, Ok, Err}
use Rattle.armus_base.specs.declared.errors.NoMemory.{NoMemory}
use Rattle.armus_base.specs.declared.ids.TaskId.{TaskId}
use Rattle.pl_syntax.specs.declared.tree.Program.{Program}
use Rattle.pl_plan.specs.declared.step.FlatStep.{FlatStep}
use Rattle.pl_plan.specs.inside.Checker.{Checker, IsChecker}
use Rattle.pl_plan.specs.inside.Shows.{ShowsState}
use Rattle.pl_plan.specs.inside.Steps.{IsSpelled}
use Rattle.pl_plan.specs.Unfolding.{Start, UnfoldingState, Visit, opening_state}
use Rattle.pl_plan.specs.Stages.{FailsAt, IsNextStage, all_stages, Stage, StagesLead, comes, ends_of, leaves, leaves_below, stages_below}
use Rattle.pl_plan.proofs.Unfolds.{IsKept}
use Rattle.explain_check.specs.declared.frames.OpenBody.{OpenBody}
use Rattle.explain_check.specs.declared.frames.Item.{Item}
use Rattle.explain_check.specs.declared.notes.LastTurn.{LastTurn}
use Rattle.explain_check.specs.declared.notes.Note.{Note}
use Rattle.explain_check.specs.declared.seek.FaultPlace.{FaultPlace}
use Rattle.explain_check.specs.declared.seek.FaultPlace.TheVariants as p
use Rattle.explain_check.specs.declared.seek.FoundFault.{FoundFault}
use Rattle.explain_check.specs.declared.sight.StepSight.{StepSight}
use Rattle.explain_check.specs.inside.Framed.{Comes, FramesAre}
use Rattle.explain_check.specs.inside.Noted.{LastTurnsTell, NotesTell, TurnsTold, with_last_turn, with_notes}
use Rattle.explain_check.specs.inside.Seen.{visit_checked, sight_of}

-- what is unfolded: a program, the bytes of its names by their numbers, and its steps
pub record NamedProgram : Type 0 where
  pub program : Program
  pub names : ℕ → List ℕ
  pub steps : List FlatStep

module _ (g : NamedProgram) where
  -- these stages lead to this state
  pub record IsPast (stages : List Stage) (state : UnfoldingState) : Type 0 where
    pub leads : StagesLead g.program.two [] stages (opening_state g.program.body) state
    pub kept : IsKept g.program.two state
    pub few : state.visits ≤ 4194304

  -- what is kept shows this state
  pub record IsShown (k : Checker) (state : UnfoldingState) : Type 0 where
    pub fits : IsChecker k
    pub shows : ShowsState g.names k state
    pub steps_are : k.steps ≡ g.steps
    pub small : length k.steps < 2 ^ 32

  -- Behind some stages, while task t is unfolded: what is kept shows the state, and the notes and last turns tell of the stages.
  pub record Stands (t : ℕ) (k : Checker) (notes : List Note) (last_turns : List LastTurn) : Type 0 where
    pub stages : List Stage
    pub state : UnfoldingState
    pub past : IsPast stages state
    pub shown : IsShown k state
    pub told : NotesTell g.names (opening_state g.program.body) stages notes
    pub last_turns_tell : LastTurnsTell t (length k.steps) state.visits stages last_turns

  -- task t began with the steps from one index on, before another
  pub record HasStart (t first after n : ℕ) (state : UnfoldingState) : Type 0 where
    pub start : Start
    pub start_is : slice_index_or state.starts t None ≡ Some start
    pub first_is : start.first ≡ first + 1
    pub spelled : IsSpelled n g.names g.steps first start.body after
    pub within : after ≤ length g.steps

  -- task t is the next one
  pub record Before (t : ℕ) (k : Checker) (notes : List Note) (last_turns : List LastTurn) : Type 0 where
    pub stands : Stands t k notes last_turns
    pub own : stands.stages ≡ stages_below g.program.two t stands.state

  -- task t has the visits of these frames left
  pub record Midst (t first after : ℕ) (frames : List OpenBody) (k : Checker) (notes : List Note) (last_turns : List LastTurn) : Type 0 where
    pub stands : Stands t k notes last_turns
    pub here : t < length stands.state.plan.parents
    pub started : HasStart t first after (length k.bindings.slots) stands.state
    pub visits : List Visit
    pub frames_are : FramesAre (length k.bindings.slots) g.names g.steps frames visits
    pub own : stands.stages ++ (map (λ m. comes t m) visits ++ ends_of g.program.two t) ≡ stages_below g.program.two (suc t) stands.state

  -- task t has no visit left, and leaves the phasers from number p on
  pub record Leaving (t first after p : ℕ) (k : Checker) (notes : List Note) (last_turns : List LastTurn) : Type 0 where
    pub stands : Stands t k notes last_turns
    pub here : t < length stands.state.plan.parents
    pub started : HasStart t first after (length k.bindings.slots) stands.state
    pub earlier : List Stage
    pub left : stands.stages ≡ earlier ++ leaves_below t p
    pub own : earlier ++ leaves_below t 1024 ≡ stages_below g.program.two (suc t) stands.state

  -- this was looked at before this visit
  pub record IsSeen (sight : StepSight) (kept : Checker) (visit : Visit) : Type 0 where
    pub sight_is : sight ≡ sight_of kept sight.t sight.item
    pub comes_to : Comes (length kept.bindings.slots) g.names g.steps sight.item visit
    pub here : sight.item.at < length g.steps

  -- the fault is at a visit, before which this was looked at; the last turns count that visit
  pub record AtVisit (sight : StepSight) (first after : ℕ) (stages : List Stage) (stage : Stage) (there : UnfoldingState) (last_turns : List LastTurn) : Type 0 where
    pub visit : Visit
    pub stage_is : stage ≡ comes sight.t.0 visit
    pub kept : Checker
    pub shown : IsShown kept there
    pub seen : IsSeen sight kept visit
    pub started : HasStart sight.t.0 first after (length kept.bindings.slots) there
    pub many : length last_turns ≡ length g.steps
    pub turns : TurnsTold sight.t.0 (stages ++ stage ∷ []) last_turns

  -- where the fault stands
  abbrev pub IsAt : FaultPlace → ℕ → ℕ → List Stage → Stage → UnfoldingState → List LastTurn → Type 0
  IsAt (p.Visit sight) first after stages stage there last_turns = AtVisit sight first after stages stage there last_turns
  IsAt (p.End t q) first after stages stage there last_turns = stage ≡ leaves t.0 q.0

  -- behind some stages, of which the notes tell, the next one is at fault
  pub record Stopped (stop : FoundFault) (notes : List Note) (last_turns : List LastTurn) : Type 0 where
    pub stages : List Stage
    pub there : UnfoldingState
    pub past : IsPast stages there
    pub stage : Stage
    pub next : IsNextStage g.program.two stages stage there
    pub fails : FailsAt there stage stop.fault
    pub told : NotesTell g.names (opening_state g.program.body) stages notes
    pub place : IsAt stop.place stop.first stop.after stages stage there last_turns

  -- the visits of a task passed, or one of them is at fault
  abbrev pub SoughtVisits : ℕ → ℕ → ℕ → Result (Option FoundFault) NoMemory → Checker → List Note → List LastTurn → Type 0
  SoughtVisits t first after (Ok None) k notes last_turns = Midst t first after [] k notes last_turns
  SoughtVisits t first after (Ok (Some stop)) k notes last_turns = Stopped stop notes last_turns
  SoughtVisits t first after (Err e) k notes last_turns = Unit {0}

  -- the end of a task passed, or is at fault
  abbrev pub SoughtEnd : ℕ → ℕ → ℕ → Result (Option FoundFault) NoMemory → Checker → List Note → List LastTurn → Type 0
  SoughtEnd t first after (Ok None) k notes last_turns = Leaving t first after 1024 k notes last_turns
  SoughtEnd t first after (Ok (Some stop)) k notes last_turns = Stopped stop notes last_turns
  SoughtEnd t first after (Err e) k notes last_turns = Unit {0}

  -- the next task is this one, or there is a fault before
  abbrev pub SoughtTask : ℕ → Result (Option FoundFault) NoMemory → Checker → List Note → List LastTurn → Type 0
  SoughtTask t (Ok None) k notes last_turns = Before t k notes last_turns
  SoughtTask t (Ok (Some stop)) k notes last_turns = Stopped stop notes last_turns
  SoughtTask t (Err e) k notes last_turns = Unit {0}

  -- the stages are all, and pass
  pub record Passed : Type 0 where
    pub stages : List Stage
    pub state : UnfoldingState
    pub leads : StagesLead g.program.two [] stages (opening_state g.program.body) state
    pub all : all_stages g.program.two state ≡ stages

  -- all tasks passed, or there is a fault
  abbrev pub SoughtAll : Result (Option FoundFault) NoMemory → List Note → List LastTurn → Type 0
  SoughtAll (Ok None) notes last_turns = Passed
  SoughtAll (Ok (Some stop)) notes last_turns = Stopped stop notes last_turns
  SoughtAll (Err e) notes last_turns = Unit {0}

-- the frame of all statements of a task
abbrev pub whole_body : ℕ → ℕ → OpenBody
whole_body first after = record { at = first; to = after; of_loop = 0; left = 0 }

-- something is unfolded so that task t has the visits of these frames left
abbrev pub HasMidst : ℕ → ℕ → ℕ → List OpenBody → Checker → List Note → List LastTurn → Type 0
HasMidst t first after frames k notes last_turns = (g : NamedProgram) × Midst g t first after frames k notes last_turns

-- or so that it leaves the phasers from number p on
abbrev pub HasLeaving : ℕ → ℕ → ℕ → ℕ → Checker → List Note → List LastTurn → Type 0
HasLeaving t first after p k notes last_turns = (g : NamedProgram) × Leaving g t first after p k notes last_turns

-- or so that it is the next one
abbrev pub HasBefore : Bool → ℕ → Checker → List Note → List LastTurn → Type 0
HasBefore two t k notes last_turns = (g : NamedProgram) × (g.program.two ≡ two) × Before g t k notes last_turns

-- what is unfolded of a program, by the names and the steps
abbrev pub a_source : Program → (ℕ → List ℕ) → List FlatStep → NamedProgram
a_source program names steps = record { program = program; names = names; steps = steps }

-- the first task of a program is the next one
abbrev pub HasSource : Bool → (ℕ → List ℕ) → List FlatStep → Checker → List Note → List LastTurn → Type 0
HasSource two names steps k notes last_turns = (program : Program) × (program.two ≡ two) × Before (a_source program names steps) 0 k notes last_turns

-- a coming to a step passed, or is at fault: what is then kept, noted and counted
abbrev pub CameTo : TaskId → Item → ℕ → ℕ → Result (Option FoundFault) NoMemory → Checker → List Note → List LastTurn → Checker → List Note → List LastTurn → Type 0
CameTo t item first after (Ok None) k notes last_turns new new_notes new_last_turns =
    (visit_checked t.0 item.at item.step k ≡ Ok new) × (new_notes ≡ with_notes (sight_of k t item) notes) × (new_last_turns ≡ with_last_turn (sight_of k t item) last_turns)
CameTo t item first after (Ok (Some stop)) k notes last_turns new new_notes new_last_turns =
    (visit_checked t.0 item.at item.step k ≡ Err stop.fault) × (new_notes ≡ notes) × (new_last_turns ≡ with_last_turn (sight_of k t item) last_turns)
    × (stop.place ≡ p.Visit (sight_of k t item)) × (stop.first ≡ first) × (stop.after ≡ after)
CameTo t item first after (Err e) k notes last_turns new new_notes new_last_turns = Unit {0}
