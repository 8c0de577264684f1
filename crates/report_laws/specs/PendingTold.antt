-- That a clock is told as pending where an activity waits exactly where the machine on the text has the activity remember a phase of it.
use Rattle.std.specs.Prelude.{◌≡◌, ℕ, false, is_some, slice_get, slice_index_or}
use Rattle.clock_laws.specs.TextMachine.{Activity, IsTextEnd, Made, TextState}
use Rattle.clock_laws.specs.TextNumbers.{IsActivityIn, IsClockIn, made_in, number_in}
use Rattle.explain_clock.specs.ClockFacts.{pending_in}
use Rattle.program_io.specs.Texts.{Text}
use Rattle.explain.specs.ClockExplained.{IsClockExplanationOf}
use Rattle.explain.specs.Requests.{Form}

-- at each end of the machine on the text, of each activity and each clock: the clock is pending in what is known of the activity's wait exactly where the activity
-- remembers the phase of a signal after which it has not yet waited
abbrev pub PendingIsRemembered : Type 0
PendingIsRemembered =
    (form : Form) (text : Text) (status : ℕ) (lines : Text) (x : IsClockExplanationOf form text status lines) (s : TextState) (a : Activity) (p : Made) →
    IsTextEnd x.program s → IsActivityIn x.unfolded a → IsClockIn x.unfolded p →
    slice_index_or (pending_in (slice_get x.explains.tells.facts.waits (number_in x.unfolded a))) (made_in x.unfolded p) false ≡ is_some ((s.acting a).remembers p)
