-- What holds of the grammar of clocks and of its first fault.
use Rattle.std.specs.Prelude.{◌≡◌, ℕ, ◌⊎◌, List, [], ◌∷◌, codes}
use Rattle.pl_syntax.specs.declared.fault.SyntaxFault.{SyntaxFault}
use Rattle.clock_syntax.specs.declared.tree.ClockStmt.{ClockStmt}
use Rattle.clock_syntax.specs.Trees.{ClockTree, done, plain, async, finish, loop, clock, advance, resume, drop, skip}
use Rattle.clock_syntax.specs.calls.Bodies.{clock_tree_of}
use Rattle.clock_syntax.specs.Grammar.{IsClockText, HasClockFault}

-- the grammar is unambiguous: a text has at most one tree
abbrev pub HasOneClockTree : Type 0
HasOneClockTree = (text : List ℕ) (p q : ClockTree) → IsClockText text p → IsClockText text q → p ≡ q

-- a text has at most one first fault
abbrev pub HasOneClockFault : Type 0
HasOneClockFault = (text : List ℕ) (f g : SyntaxFault) → HasClockFault text f → HasClockFault text g → f ≡ g

-- no text has both a tree and a fault
abbrev pub HasNotBothClocks : Type 0
HasNotBothClocks = (text : List ℕ) (p : ClockTree) (f : SyntaxFault) → IsClockText text p → HasClockFault text f → ⊥

-- each text has a tree or a fault
abbrev pub HasClockTreeOrFault : Type 0
HasClockTreeOrFault = (text : List ℕ) → ((p : ClockTree) × IsClockText text p) ⊎ ((f : SyntaxFault) × HasClockFault text f)

-- a list of statements and its tree fix each other
abbrev pub TreesFixClockBodies : Type 0
TreesFixClockBodies = (xs ys : List ClockStmt) → clock_tree_of xs ≡ clock_tree_of ys → xs ≡ ys

-- Texts read by the definitions: every statement; lists of no name, of one and of three; blanks and comments; PL's keywords as names.
pub record ReadsClockTexts : Type 0 where
  pub statements :
      IsClockText (codes "clock c;resume(c);advance(c);drop(c);skip;")
      (plain (clock (codes "c")) (plain (resume (codes "c")) (plain (advance (codes "c")) (plain (drop (codes "c")) (plain skip done)))))
  pub no_names : IsClockText (codes "async(){}") (async [] done done)
  pub one_name : IsClockText (codes "async ( a ) { skip; }") (async (codes "a" ∷ []) (plain skip done) done)
  pub three_names : IsClockText (codes "async(a,b, a){}skip;") (async (codes "a" ∷ codes "b" ∷ codes "a" ∷ []) done (plain skip done))
  pub bodies : IsClockText (codes "finish{loop 2{}}// }") (finish (loop 2 done done) done)
  pub free_words : IsClockText (codes "clock fork;") (plain (clock (codes "fork")) done)
