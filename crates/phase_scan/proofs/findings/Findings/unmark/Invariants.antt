use Rattle.std.proofs.Common.{◌≡◌, ℕ, ◌<◌, false}
use Rattle.phase_scan.specs.calls.Tables.{awaited_in_findings}
use Rattle.phase_scan.proofs.findings.Findings.unmark.Given as goal

abbrev pub invariant-loop-p : goal.invariant-loop-p
invariant-loop-p l = record {
  tasks : l.self.tasks ≡ l.initial.self.tasks;
  phasers : l.self.phasers ≡ l.initial.self.phasers;
  done : (q : ℕ) → q < l.p → awaited_in_findings l.self q ≡ false;
}
