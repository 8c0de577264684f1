-- Texts that grow piece by piece.
use Rattle.std.proofs.Common.{◌≡◌, ℕ, List, ◌++◌, append_assoc}

pub two_pieces : (o o1 o2 a b : List ℕ) → o1 ≡ o ++ a → o2 ≡ o1 ++ b → o2 ≡ o ++ (a ++ b)
two_pieces o o1 o2 a b e1 e2 = rw (e2, e1) (append_assoc o a b)

pub three_pieces : (o o1 o2 o3 a b c : List ℕ) → o1 ≡ o ++ a → o2 ≡ o1 ++ b → o3 ≡ o2 ++ c → o3 ≡ o ++ (a ++ b ++ c)
three_pieces o o1 o2 o3 a b c e1 e2 e3 = two_pieces o o2 o3 (a ++ b) c (two_pieces o o1 o2 a b e1 e2) e3

pub four_pieces : (o o1 o2 o3 o4 a b c d : List ℕ) → o1 ≡ o ++ a → o2 ≡ o1 ++ b → o3 ≡ o2 ++ c → o4 ≡ o3 ++ d → o4 ≡ o ++ (a ++ b ++ c ++ d)
four_pieces o o1 o2 o3 o4 a b c d e1 e2 e3 e4 = two_pieces o o3 o4 (a ++ b ++ c) d (three_pieces o o1 o2 o3 a b c e1 e2 e3) e4

pub five_pieces : (o o1 o2 o3 o4 o5 a b c d e : List ℕ) → o1 ≡ o ++ a → o2 ≡ o1 ++ b → o3 ≡ o2 ++ c → o4 ≡ o3 ++ d → o5 ≡ o4 ++ e → o5 ≡ o ++ (a ++ b ++ c ++ d ++ e)
five_pieces o o1 o2 o3 o4 o5 a b c d e e1 e2 e3 e4 e5 = two_pieces o o4 o5 (a ++ b ++ c ++ d) e (four_pieces o o1 o2 o3 o4 a b c d e1 e2 e3 e4) e5

pub six_pieces : (o o1 o2 o3 o4 o5 o6 a b c d e f : List ℕ) → o1 ≡ o ++ a → o2 ≡ o1 ++ b → o3 ≡ o2 ++ c → o4 ≡ o3 ++ d → o5 ≡ o4 ++ e → o6 ≡ o5 ++ f
    → o6 ≡ o ++ (a ++ b ++ c ++ d ++ e ++ f)
six_pieces o o1 o2 o3 o4 o5 o6 a b c d e f e1 e2 e3 e4 e5 e6 =
    two_pieces o o5 o6 (a ++ b ++ c ++ d ++ e) f (five_pieces o o1 o2 o3 o4 o5 a b c d e e1 e2 e3 e4 e5) e6

pub seven_pieces : (o o1 o2 o3 o4 o5 o6 o7 a b c d e f g : List ℕ) → o1 ≡ o ++ a → o2 ≡ o1 ++ b → o3 ≡ o2 ++ c → o4 ≡ o3 ++ d → o5 ≡ o4 ++ e → o6 ≡ o5 ++ f
    → o7 ≡ o6 ++ g → o7 ≡ o ++ (a ++ b ++ c ++ d ++ e ++ f ++ g)
seven_pieces o o1 o2 o3 o4 o5 o6 o7 a b c d e f g e1 e2 e3 e4 e5 e6 e7 =
    two_pieces o o6 o7 (a ++ b ++ c ++ d ++ e ++ f) g (six_pieces o o1 o2 o3 o4 o5 o6 a b c d e f e1 e2 e3 e4 e5 e6) e7
