-- What is written where a text is explained.
use Rattle.std.specs.Prelude.{◌≡◌, ◌↔◌, ℕ, Bool, if◌then◌else◌, List, Some}
use Rattle.armus_base.specs.declared.event.Event.{Event}
use Rattle.armus_base.specs.Plans.{Plan}
use Rattle.armus_base.specs.Runs.{IsMaximal, IsPlainRun, state_after}
use Rattle.armus_base.specs.States.{State, Step}
use Rattle.explain_deadlock.specs.Explanations.{IsExplanationAt}
use Rattle.explain_facts.specs.RunStates.{done_after}
use Rattle.program_io.specs.Texts.{Text}
use Rattle.program_io.specs.Programs.{IsPlanOf}
use Rattle.explain.specs.Requests.{Form}
use Rattle.explain.specs.Shortened.{IsDisplayed}

-- the lines show, in this form, the explanation of how the tasks of the text's plan stand in this state, where each has done so many actions of its code, and it tells whether somebody waits for ever
abbrev pub IsToldAt : Form → Text → Plan → State → (ℕ → ℕ) → Text → Bool → Type 0
IsToldAt form text plan s done lines waits = IsDisplayed 2 form.extent (λ whole. IsExplanationAt form.file text plan s done whole waits) lines

-- these steps are a run of the text's plan up to its end: a plain one that is maximal
pub record IsEndedRunOf (text : Text) (plan : Plan) (steps : List Step) : Type 0 where
  pub plan_is : IsPlanOf text plan
  pub run : IsPlainRun plan steps
  pub maximal : IsMaximal plan steps

-- the lines explain how the tasks stand where a run of the text, told in this form, has ended; and the status is 1 where by them somebody
-- waits for ever, else 0
pub record IsExplanationOf (form : Form) (text : Text) (status : ℕ) (lines : Text) : Type 0 where
  pub plan : Plan
  pub steps : List Step
  pub ended : IsEndedRunOf text plan steps
  pub waits : Bool
  pub explains : IsToldAt form text plan (state_after steps) (done_after steps) lines waits
  pub status_is : status ≡ (if waits then 1 else 0)

-- task t waits in the state
abbrev pub WaitsIn : State → ℕ → Type 0
WaitsIn state t = (e : Event) × (state.published t ≡ Some e)

-- the text is not refused, and this holds of its final state, in which a run of it ends
pub record EndsSo (text : Text) (Holds : State → Type 0) : Type 0 where
  pub plan : Plan
  pub steps : List Step
  pub ended : IsEndedRunOf text plan steps
  pub holds : Holds (state_after steps)

-- a task waits in the state
abbrev pub SomeWaits : State → Type 0
SomeWaits state = (t : ℕ) × WaitsIn state t

-- the status of a text: 3 exactly where it has a fault, 1 exactly where in its final state somebody stays so, and 0 exactly where nobody does
pub record IsStatusBy (has_fault : Type 0) (Ends : (State → Type 0) → Type 0) (SomeStays : State → Type 0) (number : ℕ) : Type 0 where
  pub refused : (number ≡ 3) ↔ has_fault
  pub somebody : (number ≡ 1) ↔ Ends SomeStays
  pub nobody : (number ≡ 0) ↔ Ends (λ state. SomeStays state → ⊥)
