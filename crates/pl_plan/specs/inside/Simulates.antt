-- An outcome on what is kept shows an outcome of the unfolding.
use Rattle.std.specs.Prelude.{◌≡◌, ℕ, List, Ok, Err}
use Rattle.pl_plan.specs.inside.Checker.{Checker, Keeps}
use Rattle.pl_plan.specs.inside.Shows.{ShowsState}
use Rattle.pl_plan.specs.Unfolding.{UnfoldingState, Outcome}

-- the same fault, or what is kept shows the state
abbrev pub Simulates : (ℕ → List ℕ) → Outcome Checker → Outcome UnfoldingState → Type 0
Simulates names (Ok k) o = (s : UnfoldingState) × (o ≡ Ok s) × ShowsState names k s
Simulates names (Err f) o = o ≡ Err f

-- where there is no fault, what is to stay stays
abbrev pub KeepsAll : Checker → Outcome Checker → Type 0
KeepsAll k (Ok new) = Keeps k new
KeepsAll k (Err f) = Unit {0}
