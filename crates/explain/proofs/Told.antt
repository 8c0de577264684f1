-- What is shown of an explanation is shown in one way; and each explanation can be shown.
use Rattle.std.proofs.Common.{◌≡◌, ◌∙◌, ℕ, Bool, List, ap, refl, sym}
use Rattle.std.specs.Prelude.{Ok}
use Rattle.armus_base.specs.Plans.{Plan}
use Rattle.armus_base.specs.Runs.{IsLegalRun, IsMaximal, state_after}
use Rattle.armus_base.specs.Serial.{IsSerialAvoidedEnd}
use Rattle.armus_base.specs.States.{State, Step}
use Rattle.clock_syntax.specs.Grammar.{IsClockText}
use Rattle.clock_syntax.specs.Trees.{ClockTree}
use Rattle.clock_semantics.specs.Unfolding.{ClockUnfolding, clock_unfolded, plan_of_moves}
use Rattle.pl_plan.specs.Unfolding.{plan_of}
use Rattle.pl_syntax.specs.Grammar.{IsText}
use Rattle.pl_syntax.specs.declared.tree.Program.{Program}
use Rattle.explain_avoid.specs.AvoidedExplanations.{IsAvoidedExplanation}
use Rattle.explain_avoid.proofs.AvoidedExists.{avoided_explanation_exists}
use Rattle.explain_avoid.proofs.OneAvoided.{one_avoided_explanation}
use Rattle.explain_clock.specs.ClockExplanations.{ExplainsActivities}
use Rattle.explain_clock.proofs.OneExplanation.{clock_explanation_exists, one_clock_explanation}
use Rattle.explain_deadlock.specs.Explanations.{IsExplanationAt}
use Rattle.explain_facts.specs.RunStates.{done_after}
use Rattle.explain_deadlock.proofs.ExplanationExists.{explanation_exists}
use Rattle.explain_deadlock.proofs.OneExplanation.{one_explanation}
use Rattle.program_io.specs.Texts.{Text}
use Rattle.explain.specs.Avoided.{IsToldAvoided}
use Rattle.explain.specs.ClockExplained.{AreToldActivities}
use Rattle.explain.specs.Explained.{IsToldAt}
use Rattle.explain.specs.Requests.{Form}
use Rattle.explain.specs.declared.extent.Extent.{Extent}
use Rattle.explain.specs.Shortened.{IsDisplayed, displayed}

-- one explanation is shown in one way
one_display : (heads : ℕ) (extent : Extent) (x y : Text) (lines others : Text) → x ≡ y → lines ≡ displayed heads extent x → others ≡ displayed heads extent y → lines ≡ others
one_display heads extent x y lines others same is are = is ∙ ap (displayed heads extent) same ∙ sym are

-- all of it, or its first lines, can be shown
pub is_displayed : (heads : ℕ) (extent : Extent) (Tells : Text → Type 0) (whole : Text) → Tells whole → IsDisplayed heads extent Tells (displayed heads extent whole)
is_displayed heads extent Tells whole tells = record { whole = whole; tells = tells; lines_are = refl }

-- ---- texts of PL

pub one_told : (form : Form) (text : Text) (plan : Plan) (s : State) (done : ℕ → ℕ) (lines others : Text) (waits also : Bool) → IsToldAt form text plan s done lines waits
    → IsToldAt form text plan s done others also → (lines ≡ others) × (waits ≡ also)
one_told form text plan s done lines others waits also x y =
    let same = one_explanation form.file text plan s done x.whole y.whole waits also x.tells y.tells in
    (one_display 2 form.extent x.whole y.whole lines others same.0 x.lines_are y.lines_are, same.1)

pub told_exists : (form : Form) (text : Text) (p : Program) (plan : Plan) (steps : List Step) → IsText text p → plan_of p ≡ Ok plan → IsLegalRun plan steps
    → IsMaximal plan steps → (lines : Text) × (waits : Bool) × IsToldAt form text plan (state_after steps) (done_after steps) lines waits
told_exists form text p plan steps reads unfolds run maximal =
    let (whole, waits, explains) = explanation_exists form.file text p plan steps reads unfolds run maximal in (
      displayed 2 form.extent whole,
      waits,
      is_displayed 2 form.extent (λ (lines : Text). IsExplanationAt form.file text plan (state_after steps) (done_after steps) lines waits) whole explains,
    )

-- ---- runs that avoid deadlock

pub one_told_avoided : (form : Form) (text : Text) (plan : Plan) (steps : List Step) (lines others : Text) (stays also : Bool) → IsToldAvoided form text plan steps lines stays
    → IsToldAvoided form text plan steps others also → (lines ≡ others) × (stays ≡ also)
one_told_avoided form text plan steps lines others stays also x y =
    let same = one_avoided_explanation form.file text plan steps x.whole y.whole stays also x.tells y.tells in
    (one_display 3 form.extent x.whole y.whole lines others same.0 x.lines_are y.lines_are, same.1)

pub told_avoided_exists : (form : Form) (text : Text) (p : Program) (plan : Plan) (steps : List Step) → IsText text p → plan_of p ≡ Ok plan
    → IsSerialAvoidedEnd plan steps → (lines : Text) × (stays : Bool) × IsToldAvoided form text plan steps lines stays
told_avoided_exists form text p plan steps reads unfolds ended =
    let (whole, stays, explains) = avoided_explanation_exists form.file text p plan steps reads unfolds ended in (
      displayed 3 form.extent whole,
      stays,
      is_displayed 3 form.extent (λ (lines : Text). IsAvoidedExplanation form.file text plan steps lines stays) whole explains,
    )

-- ---- clock texts

pub one_told_clock : (form : Form) (text : Text) (p : ClockTree) (u : ClockUnfolding) (plan : Plan) (s : State) (done : ℕ → ℕ) (lines others : Text) (waits also : Bool)
    → AreToldActivities form text p u plan s done lines waits → AreToldActivities form text p u plan s done others also → (lines ≡ others) × (waits ≡ also)
one_told_clock form text p u plan s done lines others waits also x y =
    let same = one_clock_explanation form.file text p u plan s done x.whole y.whole waits also x.tells y.tells in
    (one_display 2 form.extent x.whole y.whole lines others same.0 x.lines_are y.lines_are, same.1)

pub told_clock_exists : (form : Form) (text : Text) (p : ClockTree) (u : ClockUnfolding) (plan : Plan) (s : State) (done : ℕ → ℕ) → IsClockText text p → clock_unfolded p ≡ Ok u
    → plan ≡ plan_of_moves u → (lines : Text) × (waits : Bool) × AreToldActivities form text p u plan s done lines waits
told_clock_exists form text p u plan s done reads unfolds plan_is =
    let (whole, waits, explains) = clock_explanation_exists form.file text p u plan s done reads unfolds plan_is in (
      displayed 2 form.extent whole,
      waits,
      is_displayed 2 form.extent (λ (lines : Text). ExplainsActivities form.file text p u plan s done lines waits) whole explains,
    )
