use Rattle.std.proofs.Common.{◌<◌, ℕ}
use Rattle.pl_core.specs.inside.Admitting.{AreNew}
use Rattle.pl_core.specs.inside.Cells.{StandsIn}
use Rattle.pl_core.specs.inside.Enrolling.{IsNoted}
use Rattle.pl_core.specs.inside.PhaseTables.{cells_at}
use Rattle.pl_core.proofs.enrolling.members_of_phasers.Given as goal

abbrev pub invariant-loop-t : goal.invariant-loop-t
invariant-loop-t l = record {
  kept : AreNew l.phasers l.t l.rows.items;
  cells : (c p : ℕ) → c < l.t → p < l.phasers → IsNoted l.noted c p → StandsIn (cells_at l.rows.items p) c;
}
