use Rattle.pl_syntax.proofs.Texts.{program_ok}
use Rattle.pl_syntax.proofs.Writable.{text_is_writable}
use Rattle.pl_syntax.proofs.Whole.{only_ok, not_first, not_only, explains, first_err}
use Rattle.pl_syntax.proofs.reader.parse.Goals as goal

pub returns-in-Ok-clause-program : goal.returns-in-Ok-clause-program
returns-in-Ok-clause-program c = program_ok _ _ c.in-Ok.ensures.exact

pub returns-in-Ok-clause-only_program : goal.returns-in-Ok-clause-only_program
returns-in-Ok-clause-only_program c = λ p h. only_ok _ p _ c.in-Ok.ensures.exact h

pub returns-in-Ok-clause-only_fault : goal.returns-in-Ok-clause-only_fault
returns-in-Ok-clause-only_fault c = λ f h. not_first _ f _ c.in-Ok.ensures.exact h

pub returns-in-Err-clause-only_program : goal.returns-in-Err-clause-only_program
returns-in-Err-clause-only_program c = λ p h. not_only c.in-Err.end _ p c.in-Err.ensures.exact h

pub returns-in-Err-clause-fault : goal.returns-in-Err-clause-fault
returns-in-Err-clause-fault c = explains c.in-Err.end _ c.in-Err.ensures.exact

pub returns-in-Err-clause-only_fault : goal.returns-in-Err-clause-only_fault
returns-in-Err-clause-only_fault c = λ f h. first_err c.in-Err.end _ f c.in-Err.ensures.exact h

pub returns-in-Ok-clause-offsets : goal.returns-in-Ok-clause-offsets
returns-in-Ok-clause-offsets c = (text_is_writable _ _ (program_ok _ _ c.in-Ok.ensures.exact)).here
