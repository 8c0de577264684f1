-- Texts that grow piece by piece.
use Rattle.std.proofs.Common.{◌≡◌, ℕ, List, [], ◌++◌, append_assoc}
use Rattle.pl_syntax.specs.Printed.{line}

pub two_pieces : (o o1 o2 a b : List ℕ) → o1 ≡ o ++ a → o2 ≡ o1 ++ b → o2 ≡ o ++ (a ++ b)
two_pieces o o1 o2 a b e1 e2 = rw (e2, e1) (append_assoc o a b)

pub three_pieces : (o o1 o2 o3 a b c : List ℕ) → o1 ≡ o ++ a → o2 ≡ o1 ++ b → o3 ≡ o2 ++ c → o3 ≡ o ++ (a ++ b ++ c)
three_pieces o o1 o2 o3 a b c e1 e2 e3 = two_pieces o o2 o3 (a ++ b) c (two_pieces o o1 o2 a b e1 e2) e3

pub four_pieces : (o o1 o2 o3 o4 a b c d : List ℕ) → o1 ≡ o ++ a → o2 ≡ o1 ++ b → o3 ≡ o2 ++ c → o4 ≡ o3 ++ d → o4 ≡ o ++ (a ++ b ++ c ++ d)
four_pieces o o1 o2 o3 o4 a b c d e1 e2 e3 e4 = two_pieces o o3 o4 (a ++ b ++ c) d (three_pieces o o1 o2 o3 a b c e1 e2 e3) e4

pub four_from_none : (o o1 o2 o3 o4 a b c d : List ℕ) → o ≡ [] → o1 ≡ o ++ a → o2 ≡ o1 ++ b → o3 ≡ o2 ++ c → o4 ≡ o3 ++ d → o4 ≡ a ++ b ++ c ++ d
four_from_none o o1 o2 o3 o4 a b c d e e1 e2 e3 e4 = rw (e4, e3, e2, e1, e) (simp append_assoc)

-- a line of four pieces, the last of which ends it
pub line_of_four : (o o1 o2 o3 o4 a b c d : List ℕ) → o1 ≡ o ++ a → o2 ≡ o1 ++ b → o3 ≡ o2 ++ c → o4 ≡ o3 ++ line d → o4 ≡ o ++ line (a ++ b ++ c ++ d)
line_of_four o o1 o2 o3 o4 a b c d e1 e2 e3 e4 = rw (e4, e3, e2, e1) (simp append_assoc)
