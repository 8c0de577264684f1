-- What is known of a clock text for the lines of the steps of its run.
use Rattle.std.specs.Prelude.{◌≡◌, ℕ, List, [], ◌∷◌, ◌++◌, Option, None, slice_index_or}
use Rattle.clock_syntax.specs.Trees.{ClockTree, async, done, finish, loop, plain}
use Rattle.clock_semantics.specs.Unfolding.{ClockPart, ClockUnfolding, a_finish, a_loop, a_plain, an_async}
use Rattle.clock_source_map.specs.ClockOps.{all_op_origins}
use Rattle.explain_clock.specs.ClockFacts.{AreTextFacts, ClockTextValue}

-- the statements of a program, those in bodies included, in the order of their numbers: each as it is come to first
abbrev pub written_parts : ClockTree → List ClockPart
written_parts done = []
written_parts (plain s rest) = a_plain s ∷ written_parts rest
written_parts (async xs body rest) = an_async xs body ∷ (written_parts body ++ written_parts rest)
written_parts (finish body rest) = a_finish ∷ (written_parts body ++ written_parts rest)
written_parts (loop k body rest) = a_loop ∷ (written_parts body ++ written_parts rest)

-- what is known of the text; its statements, in the order of their numbers; and for each activity from which statement each op of its code comes
pub record OpFacts : Type 0 where
  pub of_text : ClockTextValue
  pub statements : List ClockPart
  pub origins : List (List (Option ℕ))

-- the statement from which op i of activity t comes; none for an op of its end, and where there is no such op
abbrev pub clock_op_origin : OpFacts → ℕ → ℕ → Option ℕ
clock_op_origin f t i = slice_index_or (slice_index_or f.origins t []) i None

-- these are the facts of a text, of no file, that is this program, with its unfolding
pub record AreOpFacts (text : List ℕ) (p : ClockTree) (u : ClockUnfolding) (f : OpFacts) : Type 0 where
  pub text_facts : AreTextFacts None text p u f.of_text
  pub statements_are : f.statements ≡ written_parts p
  pub origins_are : f.origins ≡ all_op_origins u
