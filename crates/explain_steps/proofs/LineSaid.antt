-- The line of a step by the words for what it changes.
use Rattle.std.proofs.Common.{◌≡◌, ℕ, List, ◌++◌, Option, Some, None, codes}
use Rattle.armus_base.specs.Plans.{Action}
use Rattle.explain_tasks.specs.Places.{said_of}

pub as_line : (old new front : List ℕ) (change : Action → List ℕ) (o : Option Action) (x : Action) → o ≡ Some x
    → new ≡ old ++ (front ++ said_of change o ++ codes "\n") → new ≡ old ++ said_of (λ y. front ++ change y ++ codes "\n") o
as_line old new front change None x is e = absurd (cc)
as_line old new front change (Some y) x is e = e
