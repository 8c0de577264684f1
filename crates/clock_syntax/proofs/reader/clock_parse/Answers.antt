use Rattle.std.proofs.Common.{sym, ◌∙◌}
use Rattle.clock_syntax.proofs.ClockParts.{clock_count_is}
use Rattle.clock_syntax.proofs.ClockTexts.{clock_program_ok, only_clocks_ok, no_clock_fault, no_clock_tree, explains_clocks, first_clock_err}
use Rattle.clock_syntax.proofs.reader.clock_parse.Goals as goal

pub new-requires : goal.new-requires
new-requires c = c.in-Ok.ensures.counted ∙ sym (clock_count_is c.in-Ok.items.items)

pub returns-in-Ok-clause-program : goal.returns-in-Ok-clause-program
returns-in-Ok-clause-program c = rw c.new.ensures.tree (clock_program_ok _ _ c.in-Ok.ensures.exact)

pub returns-in-Ok-clause-only_program : goal.returns-in-Ok-clause-only_program
returns-in-Ok-clause-only_program c = λ p h. rw c.new.ensures.tree (only_clocks_ok _ p _ c.in-Ok.ensures.exact h)

pub returns-in-Ok-clause-only_fault : goal.returns-in-Ok-clause-only_fault
returns-in-Ok-clause-only_fault c = λ f h. no_clock_fault _ f _ c.in-Ok.ensures.exact h

pub returns-in-Err-clause-only_program : goal.returns-in-Err-clause-only_program
returns-in-Err-clause-only_program c = λ p h. no_clock_tree c.in-Err.end _ p c.in-Err.ensures.exact h

pub returns-in-Err-clause-fault : goal.returns-in-Err-clause-fault
returns-in-Err-clause-fault c = explains_clocks c.in-Err.end _ c.in-Err.ensures.exact

pub returns-in-Err-clause-only_fault : goal.returns-in-Err-clause-only_fault
returns-in-Err-clause-only_fault c = λ f h. first_clock_err c.in-Err.end _ f c.in-Err.ensures.exact h
