use Rattle.std.proofs.Common.{◌<◌, ◌≤◌, ◌+◌, ◌-◌, ◌*◌, ℕ, List, [], ◌∷◌, arith, drop, get_or}
use Rattle.std.proofs.lemmas.List.{at_drop_more}
use Rattle.std.proofs.lemmas.Bool.Decides.{nat_tests}
use Rattle.pl_syntax.specs.declared.limits.TheConstants.{MAX_NUMBER}
use Rattle.pl_syntax.specs.Words.{value_from}
use Rattle.pl_syntax.proofs.word.value_of.Goals as goal

-- more digits make no smaller value
grows : (n : ℕ) (ds : List ℕ) → n ≤ value_from n ds
grows n [] = omega arith
grows n (d ∷ ds) = let h = grows (10 * n + (d - 48)) ds in omega arith

pub returns-then-value-gt-MAX_NUMBER : goal.returns-then-value-gt-MAX_NUMBER
returns-then-value-gt-MAX_NUMBER c =
    let v = c.loop-b.value in
    let w = c.args.word.now in
    let i = c.loop-b.b-index in
    let e = at_drop_more (value_from v) w i 0 c.loop-b-test.true in
    let g = grows (10 * v + (get_or w i 0 - 48)) (drop (i + 1) w) in
    let big : MAX_NUMBER < value_from 0 w = omega arith in
    grind (arith, nat_tests)
