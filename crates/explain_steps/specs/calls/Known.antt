-- What the program keeps of a clock text.
use Rattle.std.specs.Prelude.{List, map}
use Rattle.std.specs.Borrow.{Bor}
use Rattle.clock_syntax.specs.declared.tree.ClockStmt.{ClockStmt}
use Rattle.clock_syntax.specs.declared.tree.ClockStmt.TheVariants.{Advance, Async, Clock, Drop, Finish, Loop, Resume, Skip}
use Rattle.clock_syntax.specs.Trees.{advance, clock, drop, resume, skip}
use Rattle.clock_semantics.specs.Unfolding.{ClockPart, a_finish, a_loop, a_plain, an_async}
use Rattle.explain_steps.specs.OpFacts.{OpFacts}
use Rattle.explain_steps.specs.declared.clock_facts.ClockOpFacts.{ClockOpFacts}

-- a statement as it is come to first
abbrev pub clock_part_of : ClockStmt → ClockPart
clock_part_of (Clock x) = a_plain (clock x)
clock_part_of (Advance x) = a_plain (advance x)
clock_part_of (Resume x) = a_plain (resume x)
clock_part_of (Drop x) = a_plain (drop x)
clock_part_of Skip = a_plain skip
clock_part_of (Async xs body) = an_async xs body
clock_part_of (Finish body) = a_finish
clock_part_of (Loop k body) = a_loop

-- statements that are kept, as they are come to first
abbrev pub kept_parts : List (Bor ClockStmt) → List ClockPart
kept_parts rows = map (λ (row : Bor ClockStmt). clock_part_of row.now) rows

-- what is known by what is kept
abbrev pub known_ops : ClockOpFacts → OpFacts
known_ops k = record { of_text = k.of_text; statements = kept_parts k.statements.items; origins = k.origins }
