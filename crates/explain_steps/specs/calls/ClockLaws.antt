-- What is proved of the lines of the steps of clock texts.
use Rattle.std.specs.Prelude.{◌≡◌, ℕ, List}
use Rattle.armus_base.specs.Plans.{Plan}
use Rattle.armus_base.specs.States.{Step}
use Rattle.clock_syntax.specs.Trees.{ClockTree}
use Rattle.clock_semantics.specs.Unfolding.{ClockUnfolding}
use Rattle.explain_steps.specs.ShownClockSteps.{AreClockShown}

-- the steps of a run of a clock text's plan are shown by one list of lines at most
abbrev pub OneClockShowing : Type 0
OneClockShowing =
    (text : List ℕ) (p : ClockTree) (u : ClockUnfolding) (plan : Plan) (h : List Step) (lines other : List ℕ) →
    AreClockShown text p u plan h lines → AreClockShown text p u plan h other → lines ≡ other

-- and the steps of each list are shown by one
abbrev pub ClockShowingExists : Type 0
ClockShowingExists =
    (text : List ℕ) (p : ClockTree) (u : ClockUnfolding) (plan : Plan) (h : List Step) → (lines : List ℕ) × AreClockShown text p u plan h lines
