-- What an activity makes or starts next has the number that its next move has.
use Rattle.std.proofs.Common.{◌≡◌, ℕ, suc, Bool, false, List, [], ◌∷◌, ◌++◌, length, append_assoc, arith, sym, ◌∙◌, ap, refl}
use Rattle.std.specs.Prelude.{slice_index_or}
use Rattle.std.proofs.Math.Seq.{get_or-append_seam}
use Rattle.std.proofs.lemmas.List.{length-append}
use Rattle.clock_semantics.specs.Moves.{Move, advances, begins, child_of, drops, ends, made_by, made_of, opens, resumes, started_by, starts, stops}
use Rattle.clock_semantics.specs.Unfolding.{ClockUnfolding}
use Rattle.clock_semantics.proofs.MoveCodes.{moves_at}
use Rattle.clock_laws.specs.TextMachine.{Acting, Activity, Made}
use Rattle.clock_laws.specs.TextNumbers.{IsActivityIn, IsMadeIn, made_in, number_in}
use Rattle.clock_semantics.proofs.AddsMoves.{made-append, started-append}
use Rattle.clock_laws.proofs.Corresponding.{ActsAs, is_clock, kind_of, kinds_by}

kinds-append : (xs ys : List Move) → kinds_by (xs ++ ys) ≡ kinds_by xs ++ kinds_by ys
kinds-append [] ys = refl
kinds-append (m ∷ xs) ys = ap (λ zs. kind_of m ++ zs) (kinds-append xs ys) ∙ sym (append_assoc (kind_of m) (kinds_by xs) (kinds_by ys))

-- there are as many kinds as things
as_many : (xs : List Move) → length (kinds_by xs) ≡ length (made_by xs)
as_many [] = refl
as_many (opens p ∷ xs) = ap suc (as_many xs)
as_many (starts c ps f ∷ xs) = as_many xs
as_many (advances p ∷ xs) = as_many xs
as_many (resumes p ∷ xs) = as_many xs
as_many (drops p ∷ xs) = as_many xs
as_many (begins f ∷ xs) = ap suc (as_many xs)
as_many (ends f ∷ xs) = as_many xs
as_many (stops ps ∷ xs) = as_many xs

module _ (u : ClockUnfolding) (a : Activity) (x : Acting) (inside : IsActivityIn u a) (left : List Move) (on : Made → Bool)
    (act : ActsAs u (number_in u a) x left on) (m : Move) (ms : List Move) (left_is : left ≡ m ∷ ms) where
  abbrev p : Made
  p = record { maker = a; before = x.made }

  whole : moves_at u (number_in u a) ≡ act.done ++ (m ∷ ms)
  whole = act.split ∙ ap (λ zs. act.done ++ zs) left_is

  -- a clock or a finish
  module _ (q : ℕ) (kind : Bool) (made_is : made_of m ≡ q ∷ []) (kind_is : kind_of m ≡ kind ∷ []) where
    all_made : made_by (moves_at u (number_in u a)) ≡ made_by act.done ++ (q ∷ made_by ms)
    all_made = ap made_by whole ∙ made-append act.done (m ∷ ms) ∙ ap (λ zs. made_by act.done ++ (zs ++ made_by ms)) made_is

    all_kinds : kinds_by (moves_at u (number_in u a)) ≡ kinds_by act.done ++ (kind ∷ kinds_by ms)
    all_kinds = ap kinds_by whole ∙ kinds-append act.done (m ∷ ms) ∙ ap (λ zs. kinds_by act.done ++ (zs ++ kinds_by ms)) kind_is

    pub next_number : made_in u p ≡ q
    next_number =
        ap (λ zs. slice_index_or zs x.made 0) all_made ∙ ap (λ n. slice_index_or (made_by act.done ++ (q ∷ made_by ms)) n 0) act.made
        ∙ get_or-append_seam (made_by act.done) q (made_by ms) 0

    pub next_is_made : IsMadeIn u p
    next_is_made = (inside, omega (arith, ap length all_made, length-append (made_by act.done) (q ∷ made_by ms), act.made))

    pub next_kind : is_clock u p ≡ kind
    next_kind =
        ap (λ zs. slice_index_or zs x.made false) all_kinds
        ∙ ap (λ n. slice_index_or (kinds_by act.done ++ (kind ∷ kinds_by ms)) n false) (act.made ∙ sym (as_many act.done))
        ∙ get_or-append_seam (kinds_by act.done) kind (kinds_by ms) false

  -- an activity
  module _ (c : ℕ) (child_is : child_of m ≡ c ∷ []) where
    all_started : started_by (moves_at u (number_in u a)) ≡ started_by act.done ++ (c ∷ started_by ms)
    all_started = ap started_by whole ∙ started-append act.done (m ∷ ms) ∙ ap (λ zs. started_by act.done ++ (zs ++ started_by ms)) child_is

    pub next_child : number_in u (x.started ∷ a) ≡ c
    next_child =
        ap (λ zs. slice_index_or zs x.started 0) all_started ∙ ap (λ n. slice_index_or (started_by act.done ++ (c ∷ started_by ms)) n 0) act.started
        ∙ get_or-append_seam (started_by act.done) c (started_by ms) 0

    pub next_is_there : IsActivityIn u (x.started ∷ a)
    next_is_there = (inside, omega (arith, ap length all_started, length-append (started_by act.done) (c ∷ started_by ms), act.started))
