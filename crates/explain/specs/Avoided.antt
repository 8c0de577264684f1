-- What is written where the run of a text that avoids deadlock is explained.
use Rattle.std.specs.Prelude.{◌≡◌, ◌⊎◌, ℕ, Bool, if◌then◌else◌, List, Some}
use Rattle.armus_base.specs.declared.event.Event.{Event}
use Rattle.armus_base.specs.Plans.{Plan}
use Rattle.armus_base.specs.Runs.{state_after}
use Rattle.armus_base.specs.Serial.{IsSerialAvoidedEnd}
use Rattle.armus_base.specs.States.{State, Step}
use Rattle.program_io.specs.Texts.{Text}
use Rattle.program_io.specs.Programs.{IsPlanOf}
use Rattle.explain.specs.Explained.{WaitsIn}
use Rattle.explain_avoid.specs.AvoidedExplanations.{IsAvoidedExplanation}
use Rattle.explain.specs.Requests.{Form}
use Rattle.explain.specs.Shortened.{IsDisplayed}

-- the lines show, in this form, the explanation of these steps of the text's plan, a run that avoids deadlock, and it tells whether somebody was refused or waits
abbrev pub IsToldAvoided : Form → Text → Plan → List Step → Text → Bool → Type 0
IsToldAvoided form text plan steps lines stays = IsDisplayed 3 form.extent (λ whole. IsAvoidedExplanation form.file text plan steps whole stays) lines

-- The lines explain the serial avoided run of a text, told in this form: its refusals, and how its tasks stand where it has ended; and the
-- status is 1 where by them somebody was refused or waits for ever, else 0.
pub record IsAvoidedOf (form : Form) (text : Text) (status : ℕ) (lines : Text) : Type 0 where
  pub plan : Plan
  pub plan_is : IsPlanOf text plan
  pub steps : List Step
  pub stays : Bool
  pub explains : IsToldAvoided form text plan steps lines stays
  pub status_is : status ≡ (if stays then 1 else 0)

-- task t was refused in the state
abbrev pub IsRefusedIn : State → ℕ → Type 0
IsRefusedIn state t = (e : Event) × (state.refused t ≡ Some e)

-- a task was refused in the state, or waits in it
abbrev pub SomeStays : State → Type 0
SomeStays state = (t : ℕ) × (WaitsIn state t ⊎ IsRefusedIn state t)

-- the text is not refused, and this holds of the state in which its serial avoided run ends
pub record AvoidsSo (text : Text) (Holds : State → Type 0) : Type 0 where
  pub plan : Plan
  pub plan_is : IsPlanOf text plan
  pub steps : List Step
  pub ended : IsSerialAvoidedEnd plan steps
  pub holds : Holds (state_after steps)
