-- What is proved of refusals.
use Rattle.std.specs.Prelude.{◌≡◌, ℕ, List, Option}
use Rattle.pl_syntax.specs.declared.fault.SyntaxFault.{SyntaxFault}
use Rattle.pl_syntax.specs.Grammar.{HasFault}
use Rattle.explain_syntax.specs.declared.stand.GrammarStand.{GrammarStand}
use Rattle.explain_syntax.specs.Stands.{IsStand}
use Rattle.explain_syntax.specs.SyntaxRefusals.{IsSyntaxRefusal}

-- the place of a first fault has one stand
abbrev pub HasOneStand : Type 0
HasOneStand = (text : List ℕ) (fault : SyntaxFault) (a b : GrammarStand) → IsStand text fault a → IsStand text fault b → a ≡ b

-- a text with a fault, of a file or not, is refused in one way
abbrev pub HasOneSyntaxRefusal : Type 0
HasOneSyntaxRefusal =
    (file : Option (List ℕ)) (text : List ℕ) (f g : SyntaxFault) (xs ys : List ℕ) →
    IsSyntaxRefusal file text f xs → IsSyntaxRefusal file text g ys → xs ≡ ys

-- each text with a fault is refused
abbrev pub HasSyntaxRefusal : Type 0
HasSyntaxRefusal =
    (file : Option (List ℕ)) (text : List ℕ) (f : SyntaxFault) → HasFault text f → (lines : List ℕ) × IsSyntaxRefusal file text f lines
