-- The counts of the ways add up to the number of tasks.
use Rattle.std.proofs.Common.{◌≡◌, ◌+◌, Bool, cond, List, [], ◌∷◌, refl, arith}
use Rattle.std.specs.Prelude.{count_by}
use Rattle.std.proofs.lemmas.List.Sums.{sum_by-cons}
use Rattle.report.specs.Counts.{counts_of, is_done, is_dead, is_held, is_refused, is_unforked}
use Rattle.report.specs.calls.Counts.{CountsAddUp}
use Rattle.report.specs.declared.standing.Standing.{Standing}
use Rattle.report.specs.declared.standing.Standing.TheVariants.{Done, Dead, Held, Refused, Unforked}

-- one more task
count_by-cons : (p : Standing → Bool) (s : Standing) (all : List Standing) → count_by p (s ∷ all) ≡ cond (p s) 1 0 + count_by p all
count_by-cons p s all = sum_by-cons (λ x. cond (p x) 1 0) s all

abbrev AddsUp : List Standing → Type 0
AddsUp all = let c = counts_of all in c.done + c.dead + c.held + c.refused + c.unforked ≡ c.tasks

-- one more that stands in one of the ways
one_more : (s : Standing) (all : List Standing) → AddsUp all →
    cond (is_done s) 1 0 + cond (is_dead s) 1 0 + cond (is_held s) 1 0 + cond (is_refused s) 1 0 + cond (is_unforked s) 1 0 ≡ 1 → AddsUp (s ∷ all)
one_more s all before one = omega (
  arith,
  count_by-cons is_done s all,
  count_by-cons is_dead s all,
  count_by-cons is_held s all,
  count_by-cons is_refused s all,
  count_by-cons is_unforked s all,
)

pub counts_add_up : CountsAddUp
counts_add_up [] = refl
counts_add_up (Done ∷ all) = one_more Done all (counts_add_up all) refl
counts_add_up (Dead e ∷ all) = one_more (Dead e) all (counts_add_up all) refl
counts_add_up (Held e ∷ all) = one_more (Held e) all (counts_add_up all) refl
counts_add_up (Refused e ∷ all) = one_more (Refused e) all (counts_add_up all) refl
counts_add_up (Unforked ∷ all) = one_more Unforked all (counts_add_up all) refl
