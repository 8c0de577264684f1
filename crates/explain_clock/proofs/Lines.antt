-- Pieces of a line, one after the other.
use Rattle.std.proofs.Common.{◌≡◌, ℕ, List, ◌++◌, append_assoc}

-- pieces, one behind another
pub two_pieces : (o o1 o2 a b : List ℕ) → o1 ≡ o ++ a → o2 ≡ o1 ++ b → o2 ≡ o ++ (a ++ b)
two_pieces o o1 o2 a b e1 e2 = rw (e2, e1) (append_assoc o a b)

pub three_pieces : (o o1 o2 o3 a b c : List ℕ) → o1 ≡ o ++ a → o2 ≡ o1 ++ b → o3 ≡ o2 ++ c → o3 ≡ o ++ (a ++ b ++ c)
three_pieces o o1 o2 o3 a b c e1 e2 e3 = two_pieces o o2 o3 (a ++ b) c (two_pieces o o1 o2 a b e1 e2) e3

pub four_pieces : (o o1 o2 o3 o4 a b c d : List ℕ) → o1 ≡ o ++ a → o2 ≡ o1 ++ b → o3 ≡ o2 ++ c → o4 ≡ o3 ++ d → o4 ≡ o ++ (a ++ b ++ c ++ d)
four_pieces o o1 o2 o3 o4 a b c d e1 e2 e3 e4 =
    two_pieces o o3 o4 (a ++ b ++ c) d (two_pieces o o2 o3 (a ++ b) c (two_pieces o o1 o2 a b e1 e2) e3) e4
