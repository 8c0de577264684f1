-- What holds of the grammar, the first fault and the printed form.
use Rattle.std.specs.Prelude.{◌≡◌, ℕ, ◌≤◌, ◌⊎◌, ◌↔◌, true, false, List, [], ◌∷◌, ◌++◌, codes}
use Rattle.pl_syntax.specs.declared.limits.TheConstants.{MAX_OPEN_BRACES}
use Rattle.pl_syntax.specs.declared.fault.SyntaxFault.{SyntaxFault}
use Rattle.pl_syntax.specs.declared.tree.Stmt.{Stmt}
use Rattle.pl_syntax.specs.declared.tree.Program.{Program}
use Rattle.armus_base.specs.declared.offset.Offset.TheVariants.{Ahead, Back}
use Rattle.pl_syntax.specs.Tree.{Tree, done, plain, fork, loop, new_task, await, skip, height}
use Rattle.pl_syntax.specs.calls.Tree.{AllHere}
use Rattle.pl_syntax.specs.calls.Bodies.{tree_of}
use Rattle.pl_syntax.specs.Grammar.{IsText, HasFault}
use Rattle.pl_syntax.specs.calls.Spacing.{IsSpaced, all_tokens}
use Rattle.pl_syntax.specs.Printed.{printed_of}
use Rattle.pl_syntax.specs.calls.Printed.{IsWritable}

-- the grammar is unambiguous: a text has at most one program
abbrev pub HasOneTree : Type 0
HasOneTree = (text : List ℕ) (p q : Program) → IsText text p → IsText text q → p ≡ q

-- a text has at most one first fault
abbrev pub HasOneFault : Type 0
HasOneFault = (text : List ℕ) (f g : SyntaxFault) → HasFault text f → HasFault text g → f ≡ g

-- no text has both a program and a fault
abbrev pub HasNotBoth : Type 0
HasNotBoth = (text : List ℕ) (p : Program) (f : SyntaxFault) → IsText text p → HasFault text f → ⊥

-- each text has a program or a fault
abbrev pub HasOneOfBoth : Type 0
HasOneOfBoth = (text : List ℕ) → ((p : Program) × IsText text p) ⊎ ((f : SyntaxFault) × HasFault text f)

-- a list of statements and its tree fix each other
abbrev pub TreesFixBodies : Type 0
TreesFixBodies = (xs ys : List Stmt) → tree_of xs ≡ tree_of ys → xs ≡ ys

-- the printed form of a program is a text of that very program
abbrev pub PrintedIsText : Type 0
PrintedIsText = (p : Program) → IsWritable p → height p.body ≤ MAX_OPEN_BRACES → IsText (printed_of p) p

-- the program of a text can be printed
abbrev pub TextsAreWritable : Type 0
TextsAreWritable = (text : List ℕ) (p : Program) → IsText text p → IsWritable p

-- a text with one more LF at its end is the same program
abbrev pub LineFeedChangesNothing : Type 0
LineFeedChangesNothing = (text : List ℕ) (p : Program) → IsText text p → IsText (text ++ 10 ∷ []) p

-- no line of a text begins with `%`, neither the first one nor one behind an LF; so none is exactly `%%`
abbrev pub NoLineIsAMark : Type 0
NoLineIsAMark = (p : Program) (rest : List ℕ) → (IsText (37 ∷ rest) p → ⊥) × ((ahead : List ℕ) → IsText (ahead ++ 10 ∷ 37 ∷ rest) p → ⊥)

-- the texts of a program are its tokens, spaced in any way: no other blanks are needed, and no others are wrong; + and - stand in texts of PL 2 alone
abbrev pub TextsAreSpaced : Type 0
TextsAreSpaced =
    (text : List ℕ) (p : Program) →
    IsText text p ↔ (IsSpaced false (all_tokens p) text × (p.two ≡ false → AllHere p.body) × height p.body ≤ MAX_OPEN_BRACES)

-- a program of PL 1
abbrev one_of : Tree → Program
one_of body = record { two = false; body = body }

-- Texts read by the definitions: every kind of blank, and comments, of which the last is left open; no blank where none is needed; PL 2.
pub record ReadsTexts : Type 0 where
  -- skip, tab, a semicolon, CR, LF, skip, space, a semicolon
  pub blanks :
      IsText (codes "skip" ++ (9 ∷ 59 ∷ 13 ∷ 10 ∷ (codes "skip ;"))) (one_of (plain skip (plain skip done)))
  -- a comment up to its LF, and one up to the end
  pub comments : IsText (codes "skip//;" ++ (10 ∷ (codes "; // skip;"))) (one_of (plain skip done))
  pub dense : IsText (codes "loop 0{t=newTid();fork(t){}}") (one_of (loop 0 (plain (new_task (codes "t")) (fork (codes "t") done done)) done))
  pub ahead :
      IsText (codes "pl 2;await(p+1);await(p - 0);")
      (record { two = true; body = plain (await (codes "p") (Ahead 1)) (plain (await (codes "p") (Back 0)) done) })
  -- `pl` is a name too
  pub a_name : IsText (codes "pl=newTid();") (one_of (plain (new_task (codes "pl")) done))
