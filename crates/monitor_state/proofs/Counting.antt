-- The memberships of the list, counted where one changes.
use Rattle.std.proofs.Common.{◌≡◌, ℕ, ◌<◌, ◌≤◌, ◌+◌, true, false, List, [], ◌∷◌, ◌++◌, length, get_or, set, refl, sym, ◌∙◌, ap, inl, inr, arith}
use Rattle.std.specs.Prelude.{not, ◌||◌, ◌==◌, sum_by}
use Rattle.std.specs.List.{remove}
use Rattle.std.proofs.lemmas.Bool.{cases_Bool, cond-true, cond-false, ne_eqb}
use Rattle.std.proofs.lemmas.List.{length-append, length-set}
use Rattle.std.proofs.lemmas.List.Edits.{length-remove}
use Rattle.std.proofs.lemmas.List.Sums.{sum_by-remove, sum_by-set, sum_by_push}
use Rattle.monitor_laws.specs.States.{Condition, Running, Waiting, Ended, AnyTask, OneOf, Participant, is_live_task, is_live_wildcard, stays_listed}
use Rattle.monitor_laws.specs.Faults.{tasks_had}
use Rattle.monitor_state.specs.inside.Changes.{memberships_had, put_at, put_behind}

none_had : (c : Condition) (phases : List (List ℕ × ℕ)) → (is_live_task c || is_live_wildcard c || not (length phases == 0)) ≡ false → length phases + length (tasks_had c) ≡ 0
none_had Running phases gone = absurd (let e : true ≡ false = gone in cc)
none_had (Waiting p n) phases gone = absurd (let e : true ≡ false = gone in cc)
none_had Ended [] gone = refl
none_had Ended (m ∷ ms) gone =
    let some : (length (m ∷ ms) == 0) ≡ false = ne_eqb (length (m ∷ ms)) 0 (λ e. omega arith) in
    absurd (let e : true ≡ false = sym (ap not some) ∙ gone in cc)
none_had AnyTask phases gone = absurd (let e : true ≡ false = gone in cc)
none_had (OneOf names tasks) phases gone = absurd (let e : true ≡ false = gone in cc)

-- who does not stay has none
gone_has_none : (v : Participant) → stays_listed v ≡ false → memberships_had v ≡ 0
gone_has_none v gone = none_had v.condition v.phases gone

-- what is counted of each, and of nobody who does not stay
module _ (part : Participant → ℕ) (none : (v : Participant) → stays_listed v ≡ false → part v ≡ 0) where
  -- one of the list has no more than all
  pub part_within : (us : List Participant) (i : ℕ) (u : Participant) → i < length us → u ≡ get_or us i u → part u ≤ sum_by part us
  part_within us i u within read =
      let sum = sum_by-remove part us i u within in
      let same = ap part read in
      omega arith

  pub part_put :
      (us : List Participant) (i : ℕ) (u v : Participant) → i < length us → u ≡ get_or us i u →
      sum_by part (put_at us i v) + part u ≡ sum_by part us + part v
  part_put us i u v within read = elim (cases_Bool (stays_listed v)) [
    | inl stays ↦ (
        let put : sum_by part (put_at us i v) ≡ sum_by part (set us i v) = ap (sum_by part) (cond-true (stays_listed v) (set us i v) (remove us i) stays) in
        let sum = sum_by-set part us i v u within in
        let same = ap part read in
        omega arith)
    | inr gone ↦ (
        let put : sum_by part (put_at us i v) ≡ sum_by part (remove us i) = ap (sum_by part) (cond-false (stays_listed v) (set us i v) (remove us i) gone) in
        let sum = sum_by-remove part us i u within in
        let same = ap part read in
        let zero = none v gone in
        omega arith)
  ]

pub had_within : (us : List Participant) (i : ℕ) (u : Participant) → i < length us → u ≡ get_or us i u → memberships_had u ≤ sum_by memberships_had us
had_within = part_within memberships_had gone_has_none

pub counted_at :
    (us : List Participant) (i : ℕ) (u v : Participant) → i < length us → u ≡ get_or us i u →
    sum_by memberships_had (put_at us i v) + memberships_had u ≡ sum_by memberships_had us + memberships_had v
counted_at = part_put memberships_had gone_has_none

pub counted_behind : (us : List Participant) (v : Participant) → sum_by memberships_had (put_behind us v) ≡ sum_by memberships_had us + memberships_had v
counted_behind us v = elim (cases_Bool (stays_listed v)) [
  | inl stays ↦ ap (sum_by memberships_had) (cond-true (stays_listed v) (us ++ v ∷ []) us stays) ∙ sum_by_push memberships_had us v
  | inr gone ↦ (
      let put : sum_by memberships_had (put_behind us v) ≡ sum_by memberships_had us = ap (sum_by memberships_had) (cond-false (stays_listed v) (us ++ v ∷ []) us gone) in
      let none = gone_has_none v gone in
      omega arith)
]

-- the list is not longer, or longer by one
pub put_shorter : (us : List Participant) (i : ℕ) (v : Participant) → i < length us → length (put_at us i v) ≤ length us
put_shorter us i v within = elim (cases_Bool (stays_listed v)) [
  | inl stays ↦ (
      let put = ap length (cond-true (stays_listed v) (set us i v) (remove us i) stays) in
      let same = length-set us i v in
      omega arith)
  | inr gone ↦ (
      let put = ap length (cond-false (stays_listed v) (set us i v) (remove us i) gone) in
      let less = length-remove us i within in
      omega arith)
]

pub put_longer : (us : List Participant) (v : Participant) → length (put_behind us v) ≤ length us + 1
put_longer us v = elim (cases_Bool (stays_listed v)) [
  | inl stays ↦ (
      let put = ap length (cond-true (stays_listed v) (us ++ v ∷ []) us stays) in
      let more = length-append us (v ∷ []) in
      omega arith)
  | inr gone ↦ (let put = ap length (cond-false (stays_listed v) (us ++ v ∷ []) us gone) in omega arith)
]
