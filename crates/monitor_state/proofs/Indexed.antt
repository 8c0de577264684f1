-- Tests of one number in a list of ascending numbers, before and after a change.
use Rattle.std.proofs.Common.{◌≡◌, ℕ, zero, suc, ◌<◌, Bool, true, false, not, ◌&&◌, ◌||◌, List, [], ◌∷◌, ◌++◌, length, get_or, set, refl, sym, ◌∙◌, ap, subst, inl, inr, arith}
use Rattle.std.specs.Prelude.{Contains, ◌==◌, bytes_eq, filter, if◌then◌else◌}
use Rattle.std.specs.List.{list_any, remove}
use Rattle.std.specs.Map.{lookup}
use Rattle.std.proofs.lemmas.Bool.{cases_Bool, cond-true, cond-false}
use Rattle.std.proofs.lemmas.Bool.Decides.{nat_tests}
use Rattle.std.proofs.lemmas.List.Elements.{Contains-get_or}
use Rattle.std.proofs.lemmas.List.Folds.{list_any-append}
use Rattle.armus_base.proofs.Elements.{Contains-head, Contains-tail}
use Rattle.monitor_laws.specs.States.{Condition, Running, Waiting, Ended, AnyTask, OneOf, Participant, is_live_task, is_live_wildcard, stays_listed}
use Rattle.monitor_laws.specs.Lawful.{AreAscending}
use Rattle.monitor_state.specs.Indexes.{is_phase, is_running, is_wait_for, rests_at, awaits_phase}
use Rattle.monitor_state.specs.inside.Changes.{put_at}
use Rattle.monitor_state.proofs.Noting.{or_off}

same_number : (k j : ℕ) → (k == j) ≡ true → k ≡ j
same_number k j same = grind (arith, nat_tests)

self_number : (k : ℕ) → (k == k) ≡ true
self_number k = grind (arith, nat_tests)

less_number : (k j : ℕ) → k < j → (k == j) ≡ false
less_number k j less = grind (arith, nat_tests)

more_number : (k j : ℕ) → k < j → (j == k) ≡ false
more_number k j less = grind (arith, nat_tests)

module _ (f : Participant → Bool) where
  -- somebody with the number passes
  abbrev any_at : ℕ → List Participant → Bool
  any_at j us = list_any (λ u. u.number == j && f u) us

  none_above : (k : ℕ) (us : List Participant) → ((v : Participant) → Contains us v → k < v.number) → any_at k us ≡ false
  none_above k [] above = refl
  none_above k (u ∷ us) above =
      ap (λ b. (b && f u) || any_at k us) (more_number k u.number (above u (Contains-head u us))) ∙ none_above k us (λ v within. above v (Contains-tail u us v within))

  pub own_test : (us : List Participant) (i : ℕ) (u : Participant) → AreAscending us → i < length us → u ≡ get_or us i u → any_at u.number us ≡ f u
  own_test [] i u up within is = absurd (omega arith)
  own_test (x ∷ us) zero u up within is =
      ap (λ b. b || any_at u.number us) (ap (λ (y : Participant). y.number == u.number && f y) (sym is) ∙ ap (λ b. b && f u) (self_number u.number))
      ∙ ap (λ b. f u || b) (none_above u.number us (λ v listed. subst (λ (y : Participant). y.number < v.number) (sym is) (up.0 v listed))) ∙ or_off (f u)
  own_test (x ∷ us) (suc i) u up within is =
      ap (λ b. (b && f x) || any_at u.number us)
      (less_number x.number u.number (up.0 u (subst (Contains us) (sym is) (Contains-get_or us i u (omega arith)))))
      ∙ own_test us i u up.1 (omega arith) is

  own_set : (us : List Participant) (i : ℕ) (u v : Participant) → AreAscending us → i < length us → u ≡ get_or us i u → v.number ≡ u.number → any_at v.number (set us i v) ≡ f v
  own_set [] i u v up within is same = absurd (omega arith)
  own_set (x ∷ us) zero u v up within is same =
      ap (λ b. (b && f v) || any_at v.number us) (self_number v.number)
      ∙ ap (λ b. f v || b) (none_above v.number us (λ w listed. subst (λ k. k < w.number) (ap (λ (y : Participant). y.number) (sym is) ∙ sym same) (up.0 w listed))) ∙ or_off (f v)
  own_set (x ∷ us) (suc i) u v up within is same =
      ap (λ b. (b && f x) || any_at v.number (set us i v))
      (less_number x.number v.number (subst (λ k. x.number < k) (sym same) (up.0 u (subst (Contains us) (sym is) (Contains-get_or us i u (omega arith))))))
      ∙ own_set us i u v up.1 (omega arith) is same

  other_set : (us : List Participant) (i : ℕ) (u v : Participant) (j : ℕ) → u ≡ get_or us i u → i < length us → (u.number == j) ≡ false → (v.number == j) ≡ false → any_at j (set us i v) ≡ any_at j us
  other_set [] i u v j is within off away = absurd (omega arith)
  other_set (x ∷ us) zero u v j is within off away =
      ap (λ b. (b && f v) || any_at j us) away ∙ sym (ap (λ (y : Participant). (y.number == j && f y) || any_at j us) (sym is) ∙ ap (λ b. (b && f u) || any_at j us) off)
  other_set (x ∷ us) (suc i) u v j is within off away = ap (λ b. (x.number == j && f x) || b) (other_set us i u v j is (omega arith) off away)

  own_removed : (us : List Participant) (i : ℕ) (u : Participant) → AreAscending us → i < length us → u ≡ get_or us i u → any_at u.number (remove us i) ≡ false
  own_removed [] i u up within is = absurd (omega arith)
  own_removed (x ∷ us) zero u up within is = none_above u.number us (λ w listed. subst (λ (y : Participant). y.number < w.number) (sym is) (up.0 w listed))
  own_removed (x ∷ us) (suc i) u up within is =
      ap (λ b. (b && f x) || any_at u.number (remove us i))
      (less_number x.number u.number (up.0 u (subst (Contains us) (sym is) (Contains-get_or us i u (omega arith)))))
      ∙ own_removed us i u up.1 (omega arith) is

  other_removed : (us : List Participant) (i : ℕ) (u : Participant) (j : ℕ) → u ≡ get_or us i u → i < length us → (u.number == j) ≡ false → any_at j (remove us i) ≡ any_at j us
  other_removed [] i u j is within off = absurd (omega arith)
  other_removed (x ∷ us) zero u j is within off = sym (ap (λ (y : Participant). (y.number == j && f y) || any_at j us) (sym is) ∙ ap (λ b. (b && f u) || any_at j us) off)
  other_removed (x ∷ us) (suc i) u j is within off = ap (λ b. (x.number == j && f x) || b) (other_removed us i u j is (omega arith) off)

  -- one is changed, and is taken out where it does not stay
  module _ (us : List Participant) (i : ℕ) (u v : Participant) (up : AreAscending us) (within : i < length us) (is : u ≡ get_or us i u) (same : v.number ≡ u.number) where
    in_place : (j : ℕ) → (if v.number == j then f v else any_at j us) ≡ any_at j (set us i v)
    in_place j = elim (cases_Bool (v.number == j)) [
      | inl here ↦ cond-true (v.number == j) (f v) (any_at j us) here ∙ sym (subst (λ k. any_at k (set us i v) ≡ f v) (same_number v.number j here) (own_set us i u v up within is same))
      | inr other ↦ cond-false (v.number == j) (f v) (any_at j us) other ∙ sym (other_set us i u v j is within (ap (λ k. k == j) (sym same) ∙ other) other)
    ]

    taken_out : f v ≡ false → (j : ℕ) → (if v.number == j then f v else any_at j us) ≡ any_at j (remove us i)
    taken_out off j = elim (cases_Bool (v.number == j)) [
      | inl here ↦
          cond-true (v.number == j) (f v) (any_at j us) here ∙ off
          ∙ sym (subst (λ k. any_at k (remove us i) ≡ false) (sym same ∙ same_number v.number j here) (own_removed us i u up within is))
      | inr other ↦ cond-false (v.number == j) (f v) (any_at j us) other ∙ sym (other_removed us i u j is within (ap (λ k. k == j) (sym same) ∙ other))
    ]

    pub after_put : (stays_listed v ≡ false → f v ≡ false) → (j : ℕ) → (if v.number == j then f v else any_at j us) ≡ any_at j (put_at us i v)
    after_put leaves j = elim (cases_Bool (stays_listed v)) [
      | inl stays ↦ in_place j ∙ ap (any_at j) (sym (cond-true (stays_listed v) (set us i v) (remove us i) stays))
      | inr goes ↦ taken_out (leaves goes) j ∙ ap (any_at j) (sym (cond-false (stays_listed v) (set us i v) (remove us i) goes))
    ]

  pub after_push : (us : List Participant) (w : Participant) (j : ℕ) → f w ≡ false → any_at j us ≡ any_at j (us ++ w ∷ [])
  after_push us w j off =
      sym (list_any-append (λ u. u.number == j && f u) us (w ∷ []) ∙ ap (λ b. any_at j us || ((w.number == j && b) || false)) off ∙ ap (λ b. any_at j us || (b || false)) (and_off (w.number == j)) ∙ or_off (any_at j us))
    where
      and_off : (b : Bool) → (b && false) ≡ false
      and_off true = refl
      and_off false = refl

-- who does not stay rests nowhere and waits for nothing
pub leaves_resting : (q : List ℕ) (n : ℕ) (v : Participant) → stays_listed v ≡ false → rests_at q n v ≡ false
leaves_resting q n v goes = by_phases v.phases refl
  where
    off : (a b c : Bool) → (a || b || not c) ≡ false → c ≡ true
    off a b true e = refl
    off true b false e = absurd (let f : true ≡ false = e in cc)
    off false true false e = absurd (let f : true ≡ false = e in cc)
    off false false false e = absurd (let f : true ≡ false = e in cc)

    and_off : (b : Bool) → (b && false) ≡ false
    and_off true = refl
    and_off false = refl

    by_phases : (ms : List (List ℕ × ℕ)) → v.phases ≡ ms → rests_at q n v ≡ false
    by_phases [] e = ap (λ (l : List (List ℕ × ℕ)). not (is_running v.condition) && is_phase (lookup (bytes_eq q) l) n) e ∙ and_off (not (is_running v.condition))
    by_phases (m ∷ ms) e = absurd (
        let some : (length v.phases == 0) ≡ true = off (is_live_task v.condition) (is_live_wildcard v.condition) (length v.phases == 0) goes in
        let none : (length (m ∷ ms) == 0) ≡ true = ap (λ (l : List (List ℕ × ℕ)). length l == 0) (sym e) ∙ some in
        let f : true ≡ false = sym none ∙ more_number 0 (length (m ∷ ms)) (omega arith) in
        cc)

pub leaves_waiting : (q : List ℕ) (n : ℕ) (v : Participant) → stays_listed v ≡ false → awaits_phase q n v ≡ false
leaves_waiting q n v goes = by_condition v.condition refl
  where
    live : is_live_task v.condition ≡ true → true ≡ false
    live on = sym (ap (λ b. b || is_live_wildcard v.condition || not (length v.phases == 0)) on) ∙ goes

    by_condition : (c : Condition) → v.condition ≡ c → awaits_phase q n v ≡ false
    by_condition Running e = ap (is_wait_for q n) e
    by_condition (Waiting p m) e = absurd (let f = live (ap is_live_task e) in cc)
    by_condition Ended e = ap (is_wait_for q n) e
    by_condition AnyTask e = ap (is_wait_for q n) e
    by_condition (OneOf names tasks) e = ap (is_wait_for q n) e

-- whom a test does not pass may be left out
pub any_filtered : (p stays : Participant → Bool) (us : List Participant) → ((v : Participant) → stays v ≡ false → p v ≡ false) → list_any p us ≡ list_any p (filter stays us)
any_filtered p stays [] leaves = refl
any_filtered p stays (u ∷ us) leaves = elim (cases_Bool (stays u)) [
  | inl on ↦ ap (λ b. p u || b) (any_filtered p stays us leaves) ∙ ap (list_any p) (sym (cond-true (stays u) (u ∷ filter stays us) (filter stays us) on))
  | inr off ↦
      ap (λ b. b || list_any p us) (leaves u off) ∙ any_filtered p stays us leaves
      ∙ ap (list_any p) (sym (cond-false (stays u) (u ∷ filter stays us) (filter stays us) off))
]
