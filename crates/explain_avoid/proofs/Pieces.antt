-- A text that grows by pieces.
use Rattle.std.proofs.Common.{◌≡◌, ℕ, List, ◌++◌}
use Rattle.explain_steps.proofs.Pieces.{four_pieces, two_pieces}

pub three_pieces : (o o1 o2 o3 a b c : List ℕ) → o1 ≡ o ++ a → o2 ≡ o1 ++ b → o3 ≡ o2 ++ c → o3 ≡ o ++ (a ++ b ++ c)
three_pieces o o1 o2 o3 a b c e1 e2 e3 = two_pieces o o2 o3 (a ++ b) c (two_pieces o o1 o2 a b e1 e2) e3

pub seven_pieces : (o o1 o2 o3 o4 o5 o6 o7 a b c d e f g : List ℕ) → o1 ≡ o ++ a → o2 ≡ o1 ++ b → o3 ≡ o2 ++ c → o4 ≡ o3 ++ d → o5 ≡ o4 ++ e → o6 ≡ o5 ++ f
    → o7 ≡ o6 ++ g → o7 ≡ o ++ (a ++ b ++ c ++ d ++ e ++ f ++ g)
seven_pieces o o1 o2 o3 o4 o5 o6 o7 a b c d e f g e1 e2 e3 e4 e5 e6 e7 =
    let p4 = four_pieces o o1 o2 o3 o4 a b c d e1 e2 e3 e4 in
    let p5 = two_pieces o o4 o5 (a ++ b ++ c ++ d) e p4 e5 in
    let p6 = two_pieces o o5 o6 (a ++ b ++ c ++ d ++ e) f p5 e6 in
    two_pieces o o6 o7 (a ++ b ++ c ++ d ++ e ++ f) g p6 e7
