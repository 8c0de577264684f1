use Rattle.std.proofs.Common.{◌≡◌, ◌≢◌, ℕ, ◌<◌, ◌≤◌, ◌-◌, true}
use Rattle.board.specs.calls.Seats.{IsOf}
use Rattle.phase_scan.specs.calls.Collects.{LoadsRow}
use Rattle.phase_scan.specs.calls.Tables.{awaited_in_findings, phases_in_found}
use Rattle.phase_scan.specs.inside.Filling.{HasSameEvents}
use Rattle.phase_scan.proofs.findings.Findings.load_row.Given as goal

abbrev pub invariant-row : goal.invariant-row
invariant-row g l = record {
  made : IsOf (g.L.Loads.known l.by) l.board;
  same : HasSameEvents l.initial.self l.self;
  others : (u : ℕ) → u ≢ l.t.0 → phases_in_found l.self.phases u ≡ phases_in_found l.initial.self.phases u;
  within : l.p ≤ l.initial.self.phasers;
  asked : l.p < l.initial.self.phasers → awaited_in_findings l.initial.self l.p ≡ true;
  loads : LoadsRow (awaited_in_findings l.initial.self) l.t.0 (phases_in_found l.self.phases l.t.0) l.p (g.L.Loads.known l.initial.by) (g.L.Loads.known l.by);
}

abbrev pub decreases-row : goal.decreases-row
decreases-row g l = l.self.phasers - l.p
