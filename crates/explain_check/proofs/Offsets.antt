-- The offsets of statements are within the text.
use Rattle.std.proofs.Common.{ℕ, zero, suc, ◌-◌, ◌≤◌, ◌==◌, Bool, true, false, cond, List, [], ◌∷◌, length, get_or, arith}
use Rattle.std.specs.List.{AllZip}
use Rattle.pl_syntax.specs.declared.tree.Program.{Program}
use Rattle.pl_syntax.specs.Tokens.{Token}
use Rattle.pl_syntax.specs.StatementOffsets.{AreOffsets, BeginAt}
use Rattle.explain_check.specs.StatementPlaces.{statement_offset}

all_within : (text : List ℕ) (p : Program) (owns : List (List Token)) (offsets : List ℕ) → AllZip (BeginAt text p) owns offsets → (i : ℕ) →
    get_or offsets i (length text) ≤ length text
all_within text p [] [] all i = omega arith
all_within text p [] (o ∷ os) all i = absurd all
all_within text p (own ∷ owns) [] all i = absurd all
all_within text p (own ∷ owns) (o ∷ os) all zero = let e = all.0.offset_is in omega arith
all_within text p (own ∷ owns) (o ∷ os) all (suc i) = all_within text p owns os all.1 i

either : (b : Bool) (x y n : ℕ) → x ≤ n → y ≤ n → cond b x y ≤ n
either true x y n p q = p
either false x y n p q = q

pub offset_within : (text : List ℕ) (p : Program) (offsets : List ℕ) → AreOffsets text p offsets → (n : ℕ) → statement_offset offsets (length text) n ≤ length text
offset_within text p offsets all n = either (n == 0) (length text) (get_or offsets (n - 1) (length text)) (length text) (omega arith) (all_within text p _ offsets all (n - 1))
