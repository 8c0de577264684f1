-- The bodies of statements are smaller than the list of them.
use Rattle.std.specs.Prelude.{◌≤◌, List, [], ◌∷◌}
use Rattle.std.proofs.Common.{arith}
use denote.Param.Weighed.{most}
use Rattle.clock_syntax.specs.declared.tree.ClockStmt.{ClockStmt}
use Rattle.clock_syntax.specs.declared.tree.ClockStmt.TheVariants.{Clock, Async, Finish, Advance, Resume, Drop, Loop, Skip}
use Rattle.clock_syntax.specs.declared.tree.ClockBody.TheDeep.{deep-ClockStmt}
use Rattle.clock_syntax.specs.Trees.{ClockTree, clock_count}
use Rattle.clock_syntax.specs.calls.Bodies.{clock_followed_by, clock_tree_of}

one : (s : ClockStmt) (rest : ClockTree) →
    (deep-ClockStmt s ≤ clock_count (clock_followed_by s rest)) × (clock_count rest ≤ clock_count (clock_followed_by s rest))
one (Clock x) rest = (omega arith, omega arith)
one (Advance x) rest = (omega arith, omega arith)
one (Resume x) rest = (omega arith, omega arith)
one (Drop x) rest = (omega arith, omega arith)
one Skip rest = (omega arith, omega arith)
one (Async names body) rest = (omega arith, omega arith)
one (Finish body) rest = (omega arith, omega arith)
one (Loop k body) rest = (omega arith, omega arith)

pub falls : (ss : List ClockStmt) → most deep-ClockStmt ss ≤ clock_count (clock_tree_of ss)
falls [] = omega arith
falls (s ∷ ss) =
    let f = one s (clock_tree_of ss) in
    omega (arith, falls ss)
