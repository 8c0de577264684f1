-- A text that is written in several pieces.
use Rattle.std.proofs.Common.{◌+◌, ◌++◌, ℕ, List, arith, length, take, length-append, subst, sym}
use Rattle.std.specs.Prelude.{Option}
use Rattle.std.proofs.lemmas.List.{take-append-le}
use Rattle.std.proofs.Math.Seq.{take-append-add}
use Rattle.std.specs.Io.KnownBytes.{Appends}
use Rattle.std.proofs.KnownBytes.{Appends-trans}
use Rattle.armus_base.specs.ReadAll.{TookFront}

-- the first piece was cut short
pub front_of_more : (a b : Option (List ℕ)) (text more : List ℕ) → TookFront a b text → TookFront a b (text ++ more)
front_of_more a b text more (k, within, took) =
    (k, simp length-append (omega arith), subst (Appends a b) (sym (take-append-le k text more within)) took)

-- the first piece was taken whole, and the next was cut short
pub front_after : (a b c : Option (List ℕ)) (text more : List ℕ) → Appends a b text → TookFront b c more → TookFront a c (text ++ more)
front_after a b c text more whole (k, within, took) =
    (length text + k, simp length-append (omega arith), subst (Appends a c) (sym (take-append-add text more k)) (Appends-trans a b c text (take k more) whole took))
