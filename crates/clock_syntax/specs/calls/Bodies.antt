-- The tree of a list of statements.
use Rattle.std.specs.Prelude.{List, [], ◌∷◌}
use Rattle.clock_syntax.specs.declared.tree.ClockStmt.{ClockStmt}
use Rattle.clock_syntax.specs.declared.tree.ClockStmt.TheVariants.{Clock, Async, Finish, Advance, Resume, Drop, Loop, Skip}
use Rattle.clock_syntax.specs.Trees.{ClockTree, done, plain, async, finish, loop, clock, advance, resume, drop, skip}

-- a statement, and the statements after it
abbrev pub clock_followed_by : ClockStmt → ClockTree → ClockTree
clock_followed_by (Clock x) rest = plain (clock x) rest
clock_followed_by (Advance x) rest = plain (advance x) rest
clock_followed_by (Resume x) rest = plain (resume x) rest
clock_followed_by (Drop x) rest = plain (drop x) rest
clock_followed_by Skip rest = plain skip rest
clock_followed_by (Async names body) rest = async names body rest
clock_followed_by (Finish body) rest = finish body rest
clock_followed_by (Loop k body) rest = loop k body rest

-- the tree of a list of statements
abbrev pub clock_tree_of : List ClockStmt → ClockTree
clock_tree_of [] = done
clock_tree_of (s ∷ ss) = clock_followed_by s (clock_tree_of ss)
