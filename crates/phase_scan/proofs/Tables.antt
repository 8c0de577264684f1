-- The tables of a collect: what a read and a write say, and the lists of statuses that they give.
use mathlib.Core.Path.{fun_ext}
use Rattle.std.proofs.Common.{◌≡◌, ◌≢◌, ℕ, zero, suc, ◌<◌, ◌≤◌, ◌+◌, ◌*◌, Bool, true, false, List, [], ◌++◌, Option, None, length, set, arith, sym, ◌∙◌, ap, subst, refl, inl, inr}
use Rattle.std.specs.Prelude.{nat_lt, slice_get, unwrap_or, if◌then◌else◌, option_to_list, ◌||◌}
use Rattle.std.proofs.lemmas.Bool.{cases_eq, cases_lt}
use Rattle.std.proofs.lemmas.Nat.{same_from_place}
use Rattle.armus_base.specs.declared.status.Status.{Status}
use Rattle.armus_base.specs.Finals.{given_below}
use Rattle.armus_base.specs.Places.{some_before}
use Rattle.armus_base.specs.States.{with_phase}
use Rattle.armus_base.specs.calls.Statuses.{IsInOrder}
use Rattle.armus_base.proofs.Steps.{with_phase_same, with_phase_other}
use Rattle.armus_base.proofs.Lists.{slice_get-set_same, slice_get-set_other}
use Rattle.phase_scan.specs.calls.Tables.{phases_of_found}

-- inside the table
pub cell_is : (w : ℕ) (cells : List (Option ℕ)) (t p : ℕ) → p < w → phases_of_found w cells t p ≡ unwrap_or (slice_get cells (t * w + p)) None
unfolding phases_of_found
cell_is w cells t p l = ap (λ b. if b then unwrap_or (slice_get cells (t * w + p)) None else None) (is_lt p w l)
  where
    is_lt : (a b : ℕ) → a < b → nat_lt a b ≡ true
    is_lt a b h = grind arith

-- outside no phaser has members
pub cell_past : (w : ℕ) (cells : List (Option ℕ)) (t p : ℕ) → w ≤ p → phases_of_found w cells t p ≡ None
unfolding phases_of_found
cell_past w cells t p l = ap (λ b. if b then unwrap_or (slice_get cells (t * w + p)) None else None) (is_not p w l)
  where
    is_not : (a b : ℕ) → b ≤ a → nat_lt a b ≡ false
    is_not a b h = grind arith

-- a write sets the phase of one task on one phaser
pub cell_set :
    (w : ℕ) (cells : List (Option ℕ)) (t p : ℕ) (c : Option ℕ) → p < w → t * w + p < length cells →
    phases_of_found w (set cells (t * w + p) c) ≡ with_phase (phases_of_found w cells) t p c
cell_set w cells t p c l within =
    fun_ext (λ u. fun_ext (λ q. elim (cases_lt q w) [
      | inl inside ↦ elim (cases_eq u t) [
        | inl same ↦ elim (cases_eq q p) [
          | inl here ↦
              subst (λ v. phases_of_found w (set cells (t * w + p) c) v q ≡ with_phase (phases_of_found w cells) t p c v q) (sym same)
              (subst (λ v. phases_of_found w (set cells (t * w + p) c) t v ≡ with_phase (phases_of_found w cells) t p c t v) (sym here)
              (cell_is w (set cells (t * w + p) c) t p l
              ∙ ap (λ o. unwrap_or o None) (slice_get-set_same cells (t * w + p) c within)
              ∙ sym (with_phase_same (phases_of_found w cells) t p c)))
          | inr other ↦ elsewhere u q inside (λ e. λ f. other f)
        ]
        | inr other ↦ elsewhere u q inside (λ e. absurd (other e))
      ]
      | inr past ↦
          cell_past w (set cells (t * w + p) c) u q past
          ∙ sym (cell_past w cells u q past)
          ∙ sym (with_phase_other (phases_of_found w cells) t p c u q (λ e f. absurd (omega arith)))
    ]))
  where
    elsewhere :
        (u q : ℕ) → q < w → (u ≡ t → q ≢ p) →
        phases_of_found w (set cells (t * w + p) c) u q ≡ with_phase (phases_of_found w cells) t p c u q
    elsewhere u q inside n =
        cell_is w (set cells (t * w + p) c) u q inside
        ∙ ap (λ o. unwrap_or o None) (slice_get-set_other cells (t * w + p) (u * w + q) c (λ e. let s = same_from_place u q t p w inside l e in n s.0 s.1))
        ∙ sym (cell_is w cells u q inside)
        ∙ sym (with_phase_other (phases_of_found w cells) t p c u q n)

-- a function that gives nothing
pub given_below_nothing : {A : Type 0} (f : ℕ → Option A) (n : ℕ) → ((k : ℕ) → f k ≡ None) → given_below f n ≡ []
given_below_nothing f zero none = refl
given_below_nothing f (suc n) none =
    ap (λ xs. xs ++ option_to_list (f n)) (given_below_nothing f n none) ∙ ap (λ o. [] ++ option_to_list o) (none n)

-- the empty list is in order
pub nothing_in_order : (list : List Status) → list ≡ [] → IsInOrder list
nothing_in_order list none =
    subst IsInOrder (sym none) (record {
      tasks = λ j k c d before l. absurd (omega arith);
      phasers = λ k s l. absurd (omega arith);
      few = omega arith;
      few_phases = λ k s l. absurd (omega arith);
    })

-- where no number passes the test none does before
pub none_before : (f : ℕ → Bool) (n : ℕ) → ((t : ℕ) → f t ≡ false) → some_before f n ≡ false
none_before f zero none = refl
none_before f (suc n) none = ap (λ b. b || some_before f n) (none n) ∙ none_before f n none
