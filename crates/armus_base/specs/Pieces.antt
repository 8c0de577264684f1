-- Folded codes: pieces, and the ops that they stand for. Places of pieces are counted from 0.
use Rattle.std.specs.Prelude.{ℕ, zero, suc, List, [], ◌++◌, map}
use Rattle.armus_base.specs.declared.op.Op.{Op}
use Rattle.armus_base.specs.declared.piece.Piece.{Piece}
use Rattle.armus_base.specs.declared.piece.Piece.TheVariants.{Op as Single}

-- a list, k times
abbrev pub times : {A : Type 0} → ℕ → List A → List A
times zero xs = []
times (suc k) xs = xs ++ times k xs

-- one piece for each op
abbrev pub straight : List Op → List Piece
straight ops = map Single ops
