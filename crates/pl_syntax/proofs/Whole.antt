-- What reading a whole text says of the text.
use Rattle.std.proofs.Common.{◌≡◌, ℕ, List, Result, Ok, Err, refl, ◌⊎◌, inl, inr}
use Rattle.pl_syntax.specs.declared.fault.SyntaxFault.{SyntaxFault}
use Rattle.pl_syntax.specs.declared.fault.ParseEnd.{ParseEnd}
use Rattle.pl_syntax.specs.declared.fault.ParseEnd.TheVariants as ends
use Rattle.pl_syntax.specs.declared.tree.Program.{Program}
use Rattle.pl_syntax.specs.Grammar.{IsText, HasFault}
use Rattle.pl_syntax.specs.calls.Parsing.{GivesProgram, GivesFault, IsFirstIfFault}
use Rattle.pl_syntax.specs.inside.Reading.{Fails}
use Rattle.pl_syntax.specs.inside.PlReading.{program_at}
use Rattle.pl_syntax.proofs.Texts.{program_ok, program_err}
use Rattle.pl_syntax.proofs.Unique.{one_tree, one_fault, text_or_fault}

-- where a program was read, the text has this program and no other, and no fault
pub only_ok : (text : List ℕ) (p q : Program) → program_at text ≡ Ok q → IsText text p → q ≡ p
only_ok text p q e h = one_tree text q p (program_ok text q e) h

pub not_first : (text : List ℕ) (f : SyntaxFault) (q : Program) → program_at text ≡ Ok q → HasFault text f → ⊥
not_first text f q e h = text_or_fault text q f (program_ok text q e) h

-- where none was read, the text has the fault that was found
pub not_only : (e : ParseEnd) (text : List ℕ) (p : Program) → Fails e (program_at text) → IsText text p → GivesProgram (Err e) p
not_only ends.NoMemory text p e h = tt
not_only (ends.Syntax f) text p e h = text_or_fault text p f h (program_err text f e)

pub explains : (e : ParseEnd) (text : List ℕ) → Fails e (program_at text) → IsFirstIfFault text e
explains ends.NoMemory text e = tt
explains (ends.Syntax f) text e = program_err text f e

pub first_err : (e : ParseEnd) (text : List ℕ) (f : SyntaxFault) → Fails e (program_at text) → HasFault text f → GivesFault (Err e) f
first_err ends.NoMemory text f e h = tt
first_err (ends.Syntax g) text f e h = one_fault text g f (program_err text g e) h

by_reading : (text : List ℕ) (r : Result Program SyntaxFault) → program_at text ≡ r → ((p : Program) × IsText text p) ⊎ ((f : SyntaxFault) × HasFault text f)
by_reading text (Ok p) e = inl (p, program_ok text p e)
by_reading text (Err f) e = inr (f, program_err text f e)

-- each text has a tree or a fault
pub one_of_both : (text : List ℕ) → ((p : Program) × IsText text p) ⊎ ((f : SyntaxFault) × HasFault text f)
one_of_both text = by_reading text (program_at text) refl
