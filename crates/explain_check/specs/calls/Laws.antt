-- What is proved of refusals.
use Rattle.std.specs.Prelude.{◌≡◌, ℕ, List, Option}
use Rattle.pl_syntax.specs.declared.tree.Program.{Program}
use Rattle.pl_syntax.specs.Grammar.{IsText}
use Rattle.pl_plan.specs.declared.fault.CheckFault.{CheckFault}
use Rattle.pl_plan.specs.Stages.{IsFirstCheckFault}
use Rattle.explain_check.specs.CheckRefusals.{IsCheckRefusal}

-- a text, of a file or not, is refused in one way for a check fault
abbrev pub HasOneCheckRefusal : Type 0
HasOneCheckRefusal =
    (file : Option (List ℕ)) (text : List ℕ) (p q : Program) (xs ys : List ℕ) → IsCheckRefusal file text p xs → IsCheckRefusal file text q ys → xs ≡ ys

-- a text, of a file or not, that has a check fault has a refusal
abbrev pub HasCheckRefusal : Type 0
HasCheckRefusal =
    (file : Option (List ℕ)) (text : List ℕ) (p : Program) (fault : CheckFault) → IsText text p → IsFirstCheckFault p fault →
    (lines : List ℕ) × IsCheckRefusal file text p lines
