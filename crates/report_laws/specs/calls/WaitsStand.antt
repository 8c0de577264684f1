-- That the statement at which an activity is told to wait is the one at which it stands where the machine on moves has come to an end.
use Rattle.std.specs.Prelude.{◌≡◌, ◌⊎◌, ◌<◌, ℕ, true, false, [], None, Some, drop, slice_index_or}
use Rattle.clock_semantics.specs.Moves.{Move}
use Rattle.clock_semantics.specs.Unfolding.{ClockComing, activities}
use Rattle.clock_laws.specs.calls.Direct.{ClockState}
use Rattle.clock_laws.specs.calls.Laws.{IsDirectEnd}
use Rattle.explain_clock.specs.ClockWords.{waits_at}
use Rattle.program_io.specs.Texts.{Text}
use Rattle.explain.specs.ClockExplained.{IsClockExplanationOf}
use Rattle.explain.specs.Requests.{Form}
use Rattle.report_laws.specs.MovesMade.{MakesMoveAt}

-- at each end of the machine on moves the statement at which an activity is told to wait is that of the coming at which it makes its next move
abbrev pub WaitsAreToldWhereTheyStand : Type 0
WaitsAreToldWhereTheyStand =
    (form : Form) (text : Text) (status : ℕ) (lines : Text) (x : IsClockExplanationOf form text status lines) (s : ClockState) (t k : ℕ) (m : ClockComing) (move : Move) →
    IsDirectEnd x.unfolded s → s.started t ≡ true → MakesMoveAt x.unfolded t k m move → s.left t ≡ drop k (slice_index_or x.unfolded.moves t []) →
    waits_at x.explains.tells.facts t ≡ Some m.statement

-- and none is told of who has ended, or is not started
abbrev pub OthersAreToldNoWait : Type 0
OthersAreToldNoWait =
    (form : Form) (text : Text) (status : ℕ) (lines : Text) (x : IsClockExplanationOf form text status lines) (s : ClockState) (t : ℕ) → t < activities x.unfolded →
    IsDirectEnd x.unfolded s → (s.started t ≡ false ⊎ s.left t ≡ []) → waits_at x.explains.tells.facts t ≡ None
