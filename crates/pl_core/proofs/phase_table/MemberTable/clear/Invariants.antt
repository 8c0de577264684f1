use Rattle.std.proofs.Common.{◌≡◌, ◌<◌, ℕ, None}
use Rattle.pl_core.specs.inside.PhaseTables.{KeepsCells, phases_in}
use Rattle.pl_core.proofs.phase_table.MemberTable.clear.Given as goal

abbrev pub invariant-loop-p : goal.invariant-loop-p
invariant-loop-p l =
    record {
      phasers : l.self.phasers ≡ l.initial.self.phasers;
      cells : KeepsCells l.initial.self l.self;
      others : (u q : ℕ) → (u ≡ l.t → ⊥) → phases_in l.self u q ≡ phases_in l.initial.self u q;
      done : (q : ℕ) → q < l.p → phases_in l.self l.t q ≡ None;
    }
