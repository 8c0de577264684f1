-- What reading a whole text says of the text.
use Rattle.std.proofs.Common.{◌≡◌, ℕ, List, Result, Ok, Err, refl, ◌⊎◌, inl, inr}
use Rattle.pl_syntax.specs.declared.fault.SyntaxFault.{SyntaxFault}
use Rattle.pl_syntax.specs.declared.fault.ParseEnd.{ParseEnd}
use Rattle.pl_syntax.specs.declared.fault.ParseEnd.TheVariants as ends
use Rattle.pl_syntax.specs.inside.Reading.{Fails}
use Rattle.pl_syntax.proofs.Stopped.{first_fault}
use Rattle.clock_syntax.specs.declared.tree.ClockStmt.{ClockStmt}
use Rattle.clock_syntax.specs.Trees.{ClockTree}
use Rattle.clock_syntax.specs.calls.Bodies.{clock_tree_of}
use Rattle.clock_syntax.specs.Grammar.{clock_scan, ClockBegins, IsClockText, HasClockFault}
use Rattle.clock_syntax.specs.calls.Parsing.{GivesClockProgram, GivesClockFault, ExplainsClocks}
use Rattle.clock_syntax.specs.inside.ClockReading.{clock_stmts_at}
use Rattle.clock_syntax.proofs.ClockBegun.{clock_firsts}
use Rattle.clock_syntax.proofs.ClockForest.{clocks_begin_if, clocks_run_if}
use Rattle.clock_syntax.proofs.ClockStatements.{clock_stmts_ok, clock_stmts_err}
use Rattle.clock_syntax.proofs.ClockUnique.{one_clock_tree, one_clock_fault, not_both_clocks}

-- a program was read, or a fault found
pub clock_program_ok : (text : List ℕ) (ss : List ClockStmt) → clock_stmts_at text ≡ Ok ss → IsClockText text (clock_tree_of ss)
clock_program_ok text ss e = let b = clock_stmts_ok (clock_scan text) text ss e in record { reads = b.reads; shallow = b.shallow }

pub clock_program_err : (text : List ℕ) (f : SyntaxFault) → clock_stmts_at text ≡ Err f → HasClockFault text f
clock_program_err text f e = first_fault clock_firsts ClockBegins clocks_begin_if clocks_run_if (clock_scan text) text f (clock_stmts_err (clock_scan text) text f e)

-- where a program was read, the text has this program and no other, and no fault
pub only_clocks_ok : (text : List ℕ) (p : ClockTree) (ss : List ClockStmt) → clock_stmts_at text ≡ Ok ss → IsClockText text p → clock_tree_of ss ≡ p
only_clocks_ok text p ss e h = one_clock_tree text (clock_tree_of ss) p (clock_program_ok text ss e) h

pub no_clock_fault : (text : List ℕ) (f : SyntaxFault) (ss : List ClockStmt) → clock_stmts_at text ≡ Ok ss → HasClockFault text f → ⊥
no_clock_fault text f ss e h = not_both_clocks text (clock_tree_of ss) f (clock_program_ok text ss e) h

-- where none was read, the text has the fault that was found
pub no_clock_tree : (e : ParseEnd) (text : List ℕ) (p : ClockTree) → Fails e (clock_stmts_at text) → IsClockText text p → GivesClockProgram (Err e) p
no_clock_tree ends.NoMemory text p e h = tt
no_clock_tree (ends.Syntax f) text p e h = not_both_clocks text p f h (clock_program_err text f e)

pub explains_clocks : (e : ParseEnd) (text : List ℕ) → Fails e (clock_stmts_at text) → ExplainsClocks text e
explains_clocks ends.NoMemory text e = tt
explains_clocks (ends.Syntax f) text e = clock_program_err text f e

pub first_clock_err : (e : ParseEnd) (text : List ℕ) (f : SyntaxFault) → Fails e (clock_stmts_at text) → HasClockFault text f → GivesClockFault (Err e) f
first_clock_err ends.NoMemory text f e h = tt
first_clock_err (ends.Syntax g) text f e h = one_clock_fault text g f (clock_program_err text g e) h

by_reading : (text : List ℕ) (r : Result (List ClockStmt) SyntaxFault) → clock_stmts_at text ≡ r → ((p : ClockTree) × IsClockText text p) ⊎ ((f : SyntaxFault) × HasClockFault text f)
by_reading text (Ok ss) e = inl (clock_tree_of ss, clock_program_ok text ss e)
by_reading text (Err f) e = inr (f, clock_program_err text f e)

-- each text has a tree or a fault
pub clock_tree_or_fault : (text : List ℕ) → ((p : ClockTree) × IsClockText text p) ⊎ ((f : SyntaxFault) × HasClockFault text f)
clock_tree_or_fault text = by_reading text (clock_stmts_at text) refl
