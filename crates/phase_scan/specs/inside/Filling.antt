-- What the loads of a collect make of its tables.
use Rattle.std.specs.Prelude.{◌≡◌, ◌≢◌, ℕ}
use Rattle.armus_base.specs.Finals.{is_event_of}
use Rattle.armus_base.specs.Places.{some_before}
use Rattle.board.specs.calls.Seats.{Known}
use Rattle.phase_scan.specs.declared.findings.Findings.{Findings}
use Rattle.phase_scan.specs.calls.Collects.{LoadsAwaits, LoadsRow}
use Rattle.phase_scan.specs.calls.Tables.{awaited_in_findings, event_for, phases_in_found}

-- the await words of all tasks were loaded, in order; their events are kept, and just the phasers of these are marked
pub record KeepsAwaits (old new : Findings) (before now : Known) : Type 0 where
  pub tasks : new.tasks ≡ old.tasks
  pub phasers : new.phasers ≡ old.phasers
  pub loads : LoadsAwaits (event_for new.events.items) old.tasks before now
  pub awaited : (p : ℕ) → awaited_in_findings new p ≡ some_before (λ t. is_event_of p (event_for new.events.items t)) old.tasks

-- the tables are for as many tasks and phasers as they were, with the same events, and with the same phasers marked
pub record HasSameEvents (old new : Findings) : Type 0 where
  pub tasks : new.tasks ≡ old.tasks
  pub phasers : new.phasers ≡ old.phasers
  pub events : new.events.items ≡ old.events.items
  pub awaited : new.awaited.items ≡ old.awaited.items
  pub nexts : new.nexts.items ≡ old.nexts.items

-- the phase words of task t on the marked phasers were loaded, in order, and kept; those of the other tasks are as they were
pub record KeepsRow (old new : Findings) (t : ℕ) (before now : Known) : Type 0 where
  pub others : (u : ℕ) → u ≢ t → phases_in_found new.phases u ≡ phases_in_found old.phases u
  pub loads : LoadsRow (awaited_in_findings old) t (phases_in_found new.phases t) old.phasers before now
