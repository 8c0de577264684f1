-- Tasks by the bits of words.
use Rattle.std.proofs.Common.{◌≡◌, ℕ, zero, suc, ◌+◌, ◌*◌, ◌/◌, ◌%◌, ◌<◌, ◌≤◌, true, Option, None, Some, List, ◌++◌, length, refl, sym, ap, ◌∙◌, inl, inr, arith}
use Rattle.std.specs.Prelude.{Contains, option_to_list}
use Rattle.std.specs.Int.{bit_at}
use Rattle.std.proofs.Math.Dec.{eqb}
use Rattle.std.proofs.lemmas.Bool.{cases_Bool, cases_eq, cases_lt, eqb-true, eq-eqb}
use Rattle.std.proofs.lemmas.List.{append-nil, get_or_past}
use Rattle.std.proofs.lemmas.Nat.Bits.{bit_at-lt, bit_at-zero}
use Rattle.armus_base.specs.declared.ids.TaskId.{TaskId}
use Rattle.armus_base.proofs.Below.{given_ascends, given_from, given_is}
use Rattle.dep_state.specs.calls.Picks.{Ascend}
use Rattle.order_graph.specs.inside.Bits.{bit_of, task_if, tasks_by, tasks_by_bits}

task : ℕ → TaskId
task n = record { 0 = n }

pub not_one : (n i : ℕ) → (bit_at n i ≡ 1 → ⊥) → bit_at n i ≡ 0
not_one n i clear = elim (cases_eq (bit_at n i) 1) [ inl e ↦ absurd (clear e) | inr ne ↦ omega (arith, bit_at-lt n i) ]

some_if : (bit n : ℕ) (t : TaskId) → task_if bit n ≡ Some t → (bit ≡ 1) × (n ≡ t.0)
some_if bit n t e =
    elim (cases_Bool (eqb bit 1)) [
      | inl on ↦
          let made : Some (record { 0 = n }) ≡ Some t = rw on at e in
          (eqb-true bit 1 on, ap (λ (o : Option TaskId). number o) made)
      | inr off ↦ let none : ◌≡◌ {A = Option TaskId} None (Some t) = rw off at e in absurd cc
    ]
  where
    number : Option TaskId → ℕ
    number None = 0
    number (Some u) = u.0

is_some_if : (bit n : ℕ) → bit ≡ 1 → task_if bit n ≡ Some (record { 0 = n })
is_some_if bit n e = let on : eqb bit 1 ≡ true = eq-eqb bit 1 e in rw on refl

is_none_if : (bit n : ℕ) → bit ≡ 0 → task_if bit n ≡ None
is_none_if bit n e = rw e refl

-- the tasks whose bits are 1
module _ (bits : ℕ → ℕ) (n : ℕ) where
  pub by_has : (u : TaskId) → u.0 < n → bits u.0 ≡ 1 → Contains (tasks_by bits n) u
  by_has u lt on = given_from (λ k. task_if (bits k) k) n u.0 u lt (is_some_if (bits u.0) u.0 on)

  pub by_from : (u : TaskId) → Contains (tasks_by bits n) u → (u.0 < n) × (bits u.0 ≡ 1)
  by_from u m =
      let (k, lt, e) = given_is (λ k. task_if (bits k) k) n u m in
      let (on, at) = some_if (bits k) k u e in
      (omega (arith, at), ap bits (sym at) ∙ on)

  pub by_ascends : Ascend (tasks_by bits n)
  by_ascends = given_ascends (λ t. t.0) (λ k. task_if (bits k) k) (λ k t e. sym (some_if (bits k) k t e).1) n

-- bits that are the same up to a bound give the same tasks
pub by_same : (bits other : ℕ → ℕ) (n : ℕ) → ((k : ℕ) → k < n → bits k ≡ other k) → tasks_by bits n ≡ tasks_by other n
by_same bits other zero same = refl
by_same bits other (suc n) same =
    let before : tasks_by bits n ≡ tasks_by other n = by_same bits other n (λ k lt. same k (omega arith)) in
    let here : bits n ≡ other n = same n (omega arith) in
    rw (before, here) refl

-- where there are no more bits there are no more tasks
pub by_past : (bits : ℕ → ℕ) (n m : ℕ) → ((k : ℕ) → k < m → bits (n + k) ≡ 0) → tasks_by bits (n + m) ≡ tasks_by bits n
by_past bits n zero none = let e : n + 0 ≡ n = omega arith in ap (tasks_by bits) e
by_past bits n (suc m) none =
    let e : n + suc m ≡ suc (n + m) = omega arith in
    let off : task_if (bits (n + m)) (n + m) ≡ None = is_none_if (bits (n + m)) (n + m) (none m (omega arith)) in
    ap (tasks_by bits) e ∙ ap (λ o. tasks_by bits (n + m) ++ option_to_list o) off ∙ append-nil (tasks_by bits (n + m)) ∙
    by_past bits n m (λ k lt. none k (omega arith))

-- one more number
pub by_more : (bits : ℕ → ℕ) (n bit : ℕ) → bits n ≡ bit → tasks_by bits (n + 1) ≡ tasks_by bits n ++ option_to_list (task_if bit n)
by_more bits n bit e = let s : n + 1 ≡ suc n = omega arith in ap (tasks_by bits) s ∙ ap (λ b. tasks_by bits n ++ option_to_list (task_if b n)) e

pub past_words : (words : List ℕ) (n : ℕ) → 64 * length words ≤ n → bit_of words n ≡ 0
past_words words n past =
    let le : length words ≤ n / 64 = omega arith in
    ap (λ w. bit_at w (n % 64)) (get_or_past words (n / 64) 0 le) ∙ bit_at-zero (n % 64)

module _ (words : List ℕ) where
  pub in_words : (n : ℕ) → bit_of words n ≡ 1 → n < 64 * length words
  in_words n on = elim (cases_lt n (64 * length words)) [ inl lt ↦ lt | inr past ↦ absurd (let off = past_words words n past in omega arith) ]

  pub in_has : (u : TaskId) → bit_of words u.0 ≡ 1 → Contains (tasks_by_bits words) u
  in_has u on = by_has (bit_of words) (64 * length words) u (in_words u.0 on) on

  pub in_from : (u : TaskId) → Contains (tasks_by_bits words) u → bit_of words u.0 ≡ 1
  in_from u m = (by_from (bit_of words) (64 * length words) u m).1

  pub in_not : (u : TaskId) → bit_of words u.0 ≡ 0 → Contains (tasks_by_bits words) u → ⊥
  in_not u off m = let on = in_from u m in omega arith

  pub in_ascends : Ascend (tasks_by_bits words)
  in_ascends = by_ascends (bit_of words) (64 * length words)

  in_beyond : (m : ℕ) → tasks_by (bit_of words) (64 * length words + m) ≡ tasks_by_bits words
  in_beyond m = by_past (bit_of words) (64 * length words) m (λ k lt. past_words words (64 * length words + k) (omega arith))

pub in_same : (words other : List ℕ) → ((n : ℕ) → bit_of words n ≡ bit_of other n) → tasks_by_bits words ≡ tasks_by_bits other
in_same words other same =
    let turn : 64 * length words + 64 * length other ≡ 64 * length other + 64 * length words = omega arith in
    sym (in_beyond words (64 * length other)) ∙
    by_same (bit_of words) (bit_of other) (64 * length words + 64 * length other) (λ k lt. same k) ∙
    ap (tasks_by (bit_of other)) turn ∙ in_beyond other (64 * length words)
