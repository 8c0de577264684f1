-- That what is noted of the clocks and finishes of a clock text is so in each run of the machine on the text.
use Rattle.std.specs.Prelude.{◌≡◌, ℕ, true, List, Ok, Some}
use Rattle.std.specs.List.{list_any, slice_get}
use Rattle.std.specs.Str.{bytes_eq}
use Rattle.clock_syntax.specs.Trees.{ClockTree, advance, plain}
use Rattle.clock_semantics.specs.Unfolding.{ClockUnfolding, clock_unfolded, plan_of_moves}
use Rattle.clock_laws.specs.TextMachine.{Activity, Continuation, IsTextRun, Made, TextState, is_empty, is_there, reads}
use Rattle.clock_laws.specs.TextNumbers.{IsClockIn, IsFinishIn, made_in}
use Rattle.clock_source_map.specs.ClockOrigins.{MadeThing, all_things}
use Rattle.explain_clock.specs.ClockNotes.{noted_with}
use Rattle.explain_clock.specs.declared.notes.ClockNote.{ClockNote}
use Rattle.explain_clock.specs.declared.notes.ClockNote.TheVariants.{NeverWaits, NobodyAdvances, OnlyItsMaker}

-- this is noted at the statement that makes this clock or finish
abbrev pub IsNotedOf : ClockUnfolding → Made → ClockNote → Type 0
IsNotedOf u c note =
    (thing : MadeThing) × (slice_get (all_things u) (made_in u c) ≡ Some thing) × (noted_with (all_things u) (plan_of_moves u) thing ≡ Some note)

-- in no state to which a run leads an activity stands at an advance of a clock of which it is noted that nobody advances it
abbrev pub NobodyAdvancesThere : Type 0
NobodyAdvancesThere =
    (p : ClockTree) (u : ClockUnfolding) (steps : List Activity) (s : TextState) (a : Activity) (x : List ℕ) (more : ClockTree) (rest : Continuation) (c : Made) →
    clock_unfolded p ≡ Ok u → IsTextRun p steps s → IsNotedOf u c NobodyAdvances → is_there s a ≡ true →
    (s.acting a).rest ≡ reads (plain (advance x) more) rest → (s.acting a).names x ≡ Some c → ⊥

-- in no state to which a run leads anybody but its maker is registered on a clock of which it is noted that only its maker ever is
abbrev pub OnlyMakersAreRegistered : Type 0
OnlyMakersAreRegistered =
    (p : ClockTree) (u : ClockUnfolding) (steps : List Activity) (s : TextState) (a : Activity) (c : Made) →
    clock_unfolded p ≡ Ok u → IsTextRun p steps s → IsNotedOf u c OnlyItsMaker → IsClockIn u c → list_any (bytes_eq a) (s.clock_of c).enrolled ≡ true → a ≡ c.maker

-- in each state to which a run leads a finish of which it is noted that it never has to wait waits for nobody
abbrev pub FinishesNeverWait : Type 0
FinishesNeverWait =
    (p : ClockTree) (u : ClockUnfolding) (steps : List Activity) (s : TextState) (f : Made) →
    clock_unfolded p ≡ Ok u → IsTextRun p steps s → IsNotedOf u f NeverWaits → IsFinishIn u f → is_empty (s.open_set f) ≡ true
