-- The runs of the machine on the text are bounded, and each goes on to an end.
use Rattle.std.proofs.Common.{◌≡◌, ℕ, zero, suc, ◌+◌, ◌<◌, ◌≤◌, Bool, true, false, Ok, List, [], ◌∷◌, ◌++◌, length, append_assoc, arith, sym, ◌∙◌, ap, subst, refl}
use Rattle.std.specs.Str.{bytes_eq}
use Rattle.std.specs.Prelude.{◌||◌}
use Rattle.std.proofs.lemmas.Bool.{false≢true}
use Rattle.clock_syntax.specs.Trees.{ClockTree}
use Rattle.clock_semantics.specs.Unfolding.{ClockUnfolding, clock_unfolded}
use Rattle.clock_laws.specs.calls.TextLaws.{TextRunsAreBounded, TextRunsEnd}
use Rattle.clock_laws.specs.TextMachine.{Activity, IsAtRest, IsTextRun, TextState, TextStep, and_step, fails, goes, is_there, text_opening, text_run, text_step, waits}
use Rattle.clock_laws.proofs.Spending.{spends, total_falls, total_of, worth}
use Rattle.clock_laws.proofs.Tables.{is_in, same_bytes}
use Rattle.clock_laws.proofs.TextRuns.{Runs, none_goes, runs}

goes_is : (s r : TextState) → ◌≡◌ {A = TextStep} (goes s) (goes r) → s ≡ r
goes_is s r e = cc

-- the steps that all activities have left
abbrev left : TextState → ℕ
left s = total_of (λ b. worth (s.acting b)) s.there

module _ (p : ClockTree) (u : ClockUnfolding) (e : clock_unfolded p ≡ Ok u) where
  falls : (steps : List Activity) (s : TextState) → Runs p u e steps s → (a : Activity) (r : TextState) → text_step a s ≡ goes r → left r < left s
  falls steps s h a r step = by (is_there s a) refl
    where
      new_one : (b : Bool) → is_there s ((s.acting a).started ∷ a) ≡ b → is_there s ((s.acting a).started ∷ a) ≡ false
      new_one true is = absurd (let l = h.both.holds.children (s.acting a).started a is in omega arith)
      new_one false is = is

      by : (b : Bool) → is_there s a ≡ b → left r < left s
      by true there =
          total_falls s a r there (spends s a (s.acting a).rest refl there (new_one (is_there s ((s.acting a).started ∷ a)) refl) r step)
      by false none = absurd (let z = sym (none_goes p u e s a h.both.holds none) ∙ step in cc)

  -- how many steps a run has, and how many are left behind it
  bounded : (steps : List Activity) (s : TextState) → IsTextRun p steps s → length steps + left s ≤ left (text_opening p)
  bounded [] s is = omega (arith, ap left (goes_is (text_opening p) s is))
  bounded (a ∷ steps) s is = by (text_run (text_opening p) steps) refl is (λ v run. bounded steps v run)
    where
      by :
          (o : TextStep) → text_run (text_opening p) steps ≡ o → and_step a o ≡ goes s →
          ((v : TextState) → text_run (text_opening p) steps ≡ goes v → length steps + left v ≤ left (text_opening p)) → length (a ∷ steps) + left s ≤ left (text_opening p)
      by (goes v) run step rest = omega (arith, rest v run, falls steps v (runs p u e steps v run) a s step)
      by waits run step rest = absurd cc
      by (fails k) run step rest = absurd cc

  -- ---- the way to an end

  -- somebody of these goes, or nobody does
  data SomeGoes (s : TextState) (xs : List Activity) : Type 0 where
    goes_on : (a : Activity) (r : TextState) → text_step a s ≡ goes r → SomeGoes s xs
    none_of : ((a : Activity) → is_in a xs ≡ true → (r : TextState) → text_step a s ≡ goes r → ⊥) → SomeGoes s xs

  some_goes : (s : TextState) (xs : List Activity) → SomeGoes s xs
  some_goes s [] = none_of (λ a is r step. absurd (false≢true is))
  some_goes s (b ∷ xs) = by (text_step b s) refl (some_goes s xs)
    where
      none_more : ((r : TextState) → text_step b s ≡ goes r → ⊥) → ((a : Activity) → is_in a xs ≡ true → (r : TextState) → text_step a s ≡ goes r → ⊥) →
          (a : Activity) → is_in a (b ∷ xs) ≡ true → (r : TextState) → text_step a s ≡ goes r → ⊥
      none_more here rest a is r step = either (bytes_eq a b) refl is
        where
          either : (c : Bool) → bytes_eq a b ≡ c → (bytes_eq a b || is_in a xs) ≡ true → ⊥
          either true same is = here r (subst (λ z. text_step z s ≡ goes r) (same_bytes a b same) step)
          either false other is = rest a (sym (ap (λ z. z || is_in a xs) other) ∙ is) r step

      by : (o : TextStep) → text_step b s ≡ o → SomeGoes s xs → SomeGoes s (b ∷ xs)
      by (goes r) step rest = goes_on b r step
      by waits step (goes_on a r other) = goes_on a r other
      by waits step (none_of rest) = none_of (none_more (λ r other. absurd (let z = sym step ∙ other in cc)) rest)
      by (fails k) step (goes_on a r other) = goes_on a r other
      by (fails k) step (none_of rest) = none_of (none_more (λ r other. absurd (let z = sym step ∙ other in cc)) rest)

  record Ends (steps : List Activity) : Type 0 where
    more : List Activity
    end : TextState
    run : IsTextRun p (more ++ steps) end
    rests : IsAtRest end

  module _ (steps : List Activity) (s : TextState) (run : IsTextRun p steps s) where
    at_rest : ((a : Activity) → is_in a s.there ≡ true → (r : TextState) → text_step a s ≡ goes r → ⊥) → IsAtRest s
    at_rest none a r step = either (is_there s a) refl
      where
        either : (b : Bool) → is_there s a ≡ b → ⊥
        either true there = none a there r step
        either false out = absurd (let z = sym (none_goes p u e s a (runs p u e steps s run).both.holds out) ∙ step in cc)

    one_more : (a : Activity) → Ends (a ∷ steps) → Ends steps
    one_more a last =
        record {
          more = last.more ++ a ∷ [];
          end = last.end;
          run = subst (λ z. IsTextRun p z last.end) (sym (append_assoc last.more (a ∷ []) steps)) last.run;
          rests = last.rests;
        }

    by_goes : ((a : Activity) (r : TextState) → text_step a s ≡ goes r → Ends (a ∷ steps)) → SomeGoes s s.there → Ends steps
    by_goes rest (none_of none) = record { more = []; end = s; run = run; rests = at_rest none }
    by_goes rest (goes_on a r step) = one_more a (rest a r step)

  goes_to_end : (bound : ℕ) (steps : List Activity) (s : TextState) → IsTextRun p steps s → left s ≤ bound → Ends steps
  goes_to_end zero steps s run l =
      by_goes steps s run (λ a r step. absurd (let less = falls steps s (runs p u e steps s run) a r step in omega arith)) (some_goes s s.there)
  goes_to_end (suc n) steps s run l =
      by_goes steps s run
      (λ a r step. goes_to_end n (a ∷ steps) r (ap (and_step a) run ∙ step) (let less = falls steps s (runs p u e steps s run) a r step in omega arith))
      (some_goes s s.there)

pub text_runs_are_bounded : TextRunsAreBounded
text_runs_are_bounded p u steps s e run = omega (arith, bounded p u e steps s run)

pub text_runs_end : TextRunsEnd
text_runs_end p u steps s e run =
    let g = goes_to_end p u e (left s) steps s run (omega arith) in (g.more, g.end, g.run, g.rests)
