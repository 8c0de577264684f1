-- Members with one more cell, where memory was found for it.
use Rattle.std.proofs.Common.{◌≡◌, ◌+◌, ◌++◌, ◌∷◌, [], ℕ, Bool, true, false, List, Option, None, refl, length, subst, sym}
use Rattle.std.specs.Prelude.{if◌then◌else◌}
use Rattle.pl_core.specs.declared.cell.Cell.{Cell}
use Rattle.pl_core.specs.declared.least.Least.{Least}
use Rattle.pl_core.specs.inside.Cells.{AreBelow, CellsAscend, StandsInCell}
use Rattle.pl_core.specs.inside.LeastPhases.{IsLeastCell}
use Rattle.pl_core.proofs.Cells.{ascends_more, below_last}
use Rattle.pl_core.proofs.LeastMembers.{below_kept, kept_below, least_appended}

pub kept_pushed :
    (cs : List Cell) (t : ℕ) (o : Option Least) → CellsAscend cs → IsLeastCell cs o → AreBelow (t + 1) cs → ((k : ℕ) → k + 1 ≡ length cs → StandsInCell cs k t → ⊥) →
    (b : Bool) (xs : List Cell) → xs ≡ (if b then cs ++ record { task = t; phase = None } ∷ [] else cs) → CellsAscend xs × IsLeastCell xs o
kept_pushed cs t o up least below other true xs e =
    let d : Cell = record { task = t; phase = None } in (
      subst CellsAscend (sym e) (ascends_more cs d up (below_last cs t up below other)),
      subst (λ ys. IsLeastCell ys o) (sym e) (below_kept (cs ++ d ∷ []) o (least_appended cs d o refl (kept_below cs o least))),
    )
kept_pushed cs t o up least below other false xs e = (subst CellsAscend (sym e) up, subst (λ ys. IsLeastCell ys o) (sym e) least)
