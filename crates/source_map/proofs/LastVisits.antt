-- The last visit of a body, where it has one.
use Rattle.std.proofs.Common.{◌≡◌, ℕ, Some, None, refl, ap, arith}
use Rattle.pl_syntax.specs.Tree.{Tree, count, done, fork, loop, plain}
use Rattle.pl_plan.specs.Unfolding.{visits_of}
use Rattle.source_map.specs.Origins.{last_of, last_or}
use Rattle.source_map.proofs.ForkBodies.{numbers_of}

pub has_none : (n : ℕ) (tree : Tree) → count tree ≡ 0 → None ≡ last_of (numbers_of (visits_of n tree))
has_none n done none = refl
has_none n (plain s rest) none = absurd (omega (arith, none))
has_none n (fork x body rest) none = absurd (omega (arith, none))
has_none n (loop k body rest) none = absurd (omega (arith, none))

-- a body with a statement has a last visit, whatever stands before
pub has_last :
    (n : ℕ) (tree : Tree) (before last : ℕ) → (count tree ≡ 0 → ⊥) → last ≡ last_or before (numbers_of (visits_of n tree)) →
    Some last ≡ last_of (numbers_of (visits_of n tree))
has_last n done before last some is = absurd (some refl)
has_last n (plain s rest) before last some is = ap Some is
has_last n (fork x body rest) before last some is = ap Some is
has_last n (loop k body rest) before last some is = ap Some is
