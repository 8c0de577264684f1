-- What is proved of explanations of clock texts.
use Rattle.std.specs.Prelude.{◌≡◌, ℕ, Bool, List, Ok, Option}
use Rattle.armus_base.specs.Plans.{Plan}
use Rattle.armus_base.specs.States.{State}
use Rattle.clock_syntax.specs.Grammar.{IsClockText}
use Rattle.clock_syntax.specs.Trees.{ClockTree}
use Rattle.clock_semantics.specs.Unfolding.{ClockUnfolding, clock_unfolded, plan_of_moves}
use Rattle.explain_clock.specs.ClockExplanations.{ExplainsActivities}

-- a state of a plan has one explanation at most
abbrev pub OneClockExplanation : Type 0
OneClockExplanation =
    (file : Option (List ℕ)) (text : List ℕ) (p : ClockTree) (u : ClockUnfolding) (plan : Plan) (s : State) (done : ℕ → ℕ) (lines others : List ℕ) (waits other : Bool) →
    ExplainsActivities file text p u plan s done lines waits → ExplainsActivities file text p u plan s done others other → (lines ≡ others) × (waits ≡ other)

-- and those of the plan of a text have one
abbrev pub ClockExplanationExists : Type 0
ClockExplanationExists =
    (file : Option (List ℕ)) (text : List ℕ) (p : ClockTree) (u : ClockUnfolding) (plan : Plan) (s : State) (done : ℕ → ℕ) →
    IsClockText text p → clock_unfolded p ≡ Ok u → plan ≡ plan_of_moves u →
    (lines : List ℕ) × (waits : Bool) × ExplainsActivities file text p u plan s done lines waits
