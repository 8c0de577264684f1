-- What an activity makes as a clock it opens, and what it makes as a finish it begins.
use Rattle.std.proofs.Common.{◌≡◌, ℕ, zero, suc, ◌<◌, true, false, List, [], ◌∷◌, arith, sym}
use Rattle.std.specs.Prelude.{Contains, length, slice_index_or}
use Rattle.std.proofs.lemmas.Bool.{false≢true}
use Rattle.armus_base.proofs.Elements.{Contains-head, Contains-tail}
use Rattle.clock_semantics.specs.Moves.{Move, advances, begins, drops, ends, made_by, opens, resumes, starts, stops}
use Rattle.clock_laws.proofs.Corresponding.{kinds_by}

pub opened_there : (ms : List Move) (k : ℕ) → k < length (made_by ms) → slice_index_or (kinds_by ms) k false ≡ true → Contains ms (opens (slice_index_or (made_by ms) k 0))
opened_there [] k l is = absurd (omega (arith, l))
opened_there (opens p ∷ ms) zero l is = Contains-head (opens p) ms
opened_there (opens p ∷ ms) (suc k) l is = Contains-tail (opens p) ms _ (opened_there ms k (omega (arith, l)) is)
opened_there (begins f ∷ ms) zero l is = absurd (false≢true is)
opened_there (begins f ∷ ms) (suc k) l is = Contains-tail (begins f) ms _ (opened_there ms k (omega (arith, l)) is)
opened_there (starts c ps f ∷ ms) k l is = Contains-tail (starts c ps f) ms _ (opened_there ms k l is)
opened_there (advances p ∷ ms) k l is = Contains-tail (advances p) ms _ (opened_there ms k l is)
opened_there (resumes p ∷ ms) k l is = Contains-tail (resumes p) ms _ (opened_there ms k l is)
opened_there (drops p ∷ ms) k l is = Contains-tail (drops p) ms _ (opened_there ms k l is)
opened_there (ends f ∷ ms) k l is = Contains-tail (ends f) ms _ (opened_there ms k l is)
opened_there (stops ps ∷ ms) k l is = Contains-tail (stops ps) ms _ (opened_there ms k l is)

pub begun_there : (ms : List Move) (k : ℕ) → k < length (made_by ms) → slice_index_or (kinds_by ms) k false ≡ false → Contains ms (begins (slice_index_or (made_by ms) k 0))
begun_there [] k l is = absurd (omega (arith, l))
begun_there (opens p ∷ ms) zero l is = absurd (false≢true (sym is))
begun_there (opens p ∷ ms) (suc k) l is = Contains-tail (opens p) ms _ (begun_there ms k (omega (arith, l)) is)
begun_there (begins f ∷ ms) zero l is = Contains-head (begins f) ms
begun_there (begins f ∷ ms) (suc k) l is = Contains-tail (begins f) ms _ (begun_there ms k (omega (arith, l)) is)
begun_there (starts c ps f ∷ ms) k l is = Contains-tail (starts c ps f) ms _ (begun_there ms k l is)
begun_there (advances p ∷ ms) k l is = Contains-tail (advances p) ms _ (begun_there ms k l is)
begun_there (resumes p ∷ ms) k l is = Contains-tail (resumes p) ms _ (begun_there ms k l is)
begun_there (drops p ∷ ms) k l is = Contains-tail (drops p) ms _ (begun_there ms k l is)
begun_there (ends f ∷ ms) k l is = Contains-tail (ends f) ms _ (begun_there ms k l is)
begun_there (stops ps ∷ ms) k l is = Contains-tail (stops ps) ms _ (begun_there ms k l is)
