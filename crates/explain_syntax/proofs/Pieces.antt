-- Texts that grow piece by piece.
use Rattle.std.proofs.Common.{◌≡◌, ℕ, List, [], ◌∷◌, ◌++◌, append_assoc}
use Rattle.pl_syntax.specs.Printed.{line}

-- a line of three pieces, the last of which ends it
pub line_of_three : (o o1 o2 o3 a b c : List ℕ) → o1 ≡ o ++ a → o2 ≡ o1 ++ b → o3 ≡ o2 ++ (c ++ 10 ∷ []) → o3 ≡ o ++ line (a ++ b ++ c)
line_of_three o o1 o2 o3 a b c e1 e2 e3 = rw (e3, e2, e1) (simp append_assoc)

-- a line of four pieces, the last of which ends it
pub line_of_four : (o o1 o2 o3 o4 a b c d : List ℕ) → o1 ≡ o ++ a → o2 ≡ o1 ++ b → o3 ≡ o2 ++ c → o4 ≡ o3 ++ line d → o4 ≡ o ++ line (a ++ b ++ c ++ d)
line_of_four o o1 o2 o3 o4 a b c d e1 e2 e3 e4 = rw (e4, e3, e2, e1) (simp append_assoc)

-- three pieces from nothing
pub three_from_none : (o o1 o2 o3 a b c : List ℕ) → o ≡ [] → o1 ≡ o ++ a → o2 ≡ o1 ++ b → o3 ≡ o2 ++ c → o3 ≡ a ++ b ++ c
three_from_none o o1 o2 o3 a b c e e1 e2 e3 = rw (e3, e2, e1, e) (simp append_assoc)
