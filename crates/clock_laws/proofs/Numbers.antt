-- The numbers of activities, clocks and finishes are rows, one activity's behind those of the activities before it; so each has one name.
use Rattle.std.proofs.Common.{◌≡◌, ℕ, zero, suc, ◌+◌, ◌-◌, ◌<◌, ◌≤◌, Ok, [], ◌∷◌, length, arith, sym, ◌∙◌, ap, subst, refl, inl, inr}
use Rattle.std.specs.Prelude.{slice_index_or}
use Rattle.std.proofs.lemmas.Bool.{cases_lt}
use Rattle.clock_syntax.specs.Trees.{ClockTree}
use Rattle.clock_semantics.specs.Unfolding.{ClockUnfolding, activities, clock_opening, clock_unfolded}
use Rattle.clock_semantics.proofs.MoveCodes.{moves_at}
use Rattle.clock_laws.specs.TextMachine.{Activity, Made}
use Rattle.clock_laws.specs.calls.TextNumbers.{EachMadeIsNamed, EachNumberIsNamed, MadeHaveOneName}
use Rattle.clock_semantics.specs.Moves.{made_by, started_by}
use Rattle.clock_laws.specs.TextNumbers.{IsActivityIn, IsMadeIn, made_in, number_in}
use Rattle.clock_semantics.proofs.MoveRows.{AreRows, all_rows, first_child, first_made, opening_rows}
use Rattle.clock_semantics.proofs.Rows.{row, row_at}
use Rattle.clock_semantics.proofs.UnfoldsByPoints.{unfolding_is_unfolded}

-- ---- names

module _ (p : ClockTree) (u : ClockUnfolding) (e : clock_unfolded p ≡ Ok u) where
  pub unfolded_rows : AreRows (activities u) u
  unfolded_rows = all_rows 0 (clock_opening p) u (opening_rows p) ((unfolding_is_unfolded p u).0 e)

  grows : (a n : ℕ) → first_child u a ≤ first_child u (a + n)
  grows a zero = omega (arith, ap (first_child u) (let z : a + 0 ≡ a = omega arith in z))
  grows a (suc n) = omega (arith, grows a n, ap (first_child u) (let z : a + suc n ≡ suc (a + n) = omega arith in z))

  ascends : (a b : ℕ) → a ≤ b → first_child u a ≤ first_child u b
  ascends a b l = omega (arith, grows a (b - a), ap (first_child u) (let z : a + (b - a) ≡ b = omega arith in z))

  made_grows : (a n : ℕ) → first_made u a ≤ first_made u (a + n)
  made_grows a zero = omega (arith, ap (first_made u) (let z : a + 0 ≡ a = omega arith in z))
  made_grows a (suc n) = omega (arith, made_grows a n, ap (first_made u) (let z : a + suc n ≡ suc (a + n) = omega arith in z))

  made_ascends : (a b : ℕ) → a ≤ b → first_made u a ≤ first_made u b
  made_ascends a b l = omega (arith, made_grows a (b - a), ap (first_made u) (let z : a + (b - a) ≡ b = omega arith in z))

  abbrev Inside : Activity → Type 0
  Inside a = number_in u a < activities u

  -- the number of a child by the row of its starter
  child_is : (k : ℕ) (a : Activity) → Inside a → k < length (started_by (moves_at u (number_in u a))) → number_in u (k ∷ a) ≡ first_child u (number_in u a) + k
  child_is k a l few =
      let t = number_in u a in
      ap (λ xs. slice_index_or xs k 0) ((unfolded_rows.rows t l).started) ∙ row_at (length (started_by (moves_at u t))) (first_child u t) k few

  made_is : (t k : ℕ) → t < activities u → k < length (made_by (moves_at u t)) → slice_index_or (made_by (moves_at u t)) k 0 ≡ first_made u t + k
  made_is t k l few = ap (λ xs. slice_index_or xs k 0) ((unfolded_rows.rows t l).made) ∙ row_at (length (made_by (moves_at u t))) (first_made u t) k few

  pub number_inside : (a : Activity) → IsActivityIn u a → Inside a
  number_inside [] is = omega (arith, unfolded_rows.parents, ascends 0 (activities u) (omega arith))
  number_inside (k ∷ a) is =
      let l = number_inside a is.0 in
      omega (arith, child_is k a l is.1, unfolded_rows.parents, ascends (suc (number_in u a)) (activities u) (omega arith))

  -- rows do not meet
  pub one_name : (a b : Activity) → IsActivityIn u a → IsActivityIn u b → number_in u a ≡ number_in u b → a ≡ b
  one_name [] [] x y same = refl
  one_name [] (j ∷ b) x y same =
      let l = number_inside b y.0 in absurd (omega (arith, same, child_is j b l y.1, (unfolded_rows.rows (number_in u b) l).ahead))
  one_name (k ∷ a) [] x y same =
      let l = number_inside a x.0 in absurd (omega (arith, same, child_is k a l x.1, (unfolded_rows.rows (number_in u a) l).ahead))
  one_name (k ∷ a) (j ∷ b) x y same =
      let l = number_inside a x.0 in
      let m = number_inside b y.0 in
      let sums : first_child u (number_in u a) + k ≡ first_child u (number_in u b) + j = sym (child_is k a l x.1) ∙ same ∙ child_is j b m y.1 in
      let starter : number_in u a ≡ number_in u b =
      elim (cases_lt (number_in u a) (number_in u b)) [
        | inl less ↦ absurd (omega (arith, sums, x.1, ascends (suc (number_in u a)) (number_in u b) (omega arith)))
        | inr most ↦ elim (cases_lt (number_in u b) (number_in u a)) [
          | inl more ↦ absurd (omega (arith, sums, y.1, ascends (suc (number_in u b)) (number_in u a) (omega arith)))
          | inr least ↦ omega (arith, most, least)
        ]
      ] in
      let order : k ≡ j = omega (arith, sums, ap (first_child u) starter) in
      ap (λ i. i ∷ a) order ∙ ap (λ c. j ∷ c) (one_name a b x.0 y.0 starter)

  -- the activity in whose row a number stands
  in_row : (n c : ℕ) → 0 < c → c < first_child u n → (t : ℕ) × (t < n) × (first_child u t ≤ c) × (c < first_child u (suc t))
  in_row zero c some l = absurd (omega arith)
  in_row (suc n) c some l =
      elim (cases_lt c (first_child u n)) [
        | inl before ↦ let r = in_row n c some before in (r.0, omega (arith, r.1), r.2, r.3)
        | inr behind ↦ (n, omega arith, behind, l)
      ]

  named : (bound c : ℕ) → c < bound → c < activities u → (a : Activity) × IsActivityIn u a × (number_in u a ≡ c)
  named zero c l inside = absurd (omega arith)
  named (suc bound) zero l inside = ([], tt, refl)
  named (suc bound) (suc c) l inside =
      let r = in_row (activities u) (suc c) (omega arith) (omega (arith, unfolded_rows.parents)) in
      let starter = named bound r.0 (omega (arith, (unfolded_rows.rows r.0 r.1).ahead, r.2)) r.1 in
      let k = suc c - first_child u r.0 in
      let few : k < length (started_by (moves_at u (number_in u starter.0))) =
      subst (λ t. k < length (started_by (moves_at u t))) (sym starter.2) (omega (arith, r.2, r.3)) in (
        k ∷ starter.0,
        (starter.1, few),
        child_is k starter.0 (number_inside starter.0 starter.1) few ∙ ap (λ t. first_child u t + k) starter.2 ∙ omega (arith, r.2),
      )

  pub number_is_named : (t : ℕ) → t < activities u → (a : Activity) × IsActivityIn u a × (number_in u a ≡ t) × ((b : Activity) → IsActivityIn u b → number_in u b ≡ t → b ≡ a)
  number_is_named t l =
      let n = named (suc t) t (omega arith) l in
      (n.0, n.1, n.2, λ b is same. one_name b n.0 is n.1 (same ∙ sym n.2))

  -- the activity in whose row the number of a clock or finish stands
  in_made_row : (n k : ℕ) → k < first_made u n → (t : ℕ) × (t < n) × (first_made u t ≤ k) × (k < first_made u (suc t))
  in_made_row zero k l = absurd (omega (arith, l))
  in_made_row (suc n) k l =
      elim (cases_lt k (first_made u n)) [
        | inl before ↦ let r = in_made_row n k before in (r.0, omega (arith, r.1), r.2, r.3)
        | inr behind ↦ (n, omega arith, behind, l)
      ]

  pub made_is_named : (k : ℕ) → k < length u.makers → (q : Made) × IsMadeIn u q × (made_in u q ≡ k)
  made_is_named k l =
      let r = in_made_row (activities u) k (omega (arith, l, unfolded_rows.makers)) in
      let maker = number_is_named r.0 r.1 in
      let before = k - first_made u r.0 in
      let few : before < length (made_by (moves_at u (number_in u maker.0))) =
      subst (λ t. before < length (made_by (moves_at u t))) (sym maker.2) (omega (arith, r.2, r.3)) in (
        record { maker = maker.0; before = before },
        (maker.1, few),
        made_is (number_in u maker.0) before (number_inside maker.0 maker.1) few ∙ ap (λ t. first_made u t + before) maker.2 ∙ omega (arith, r.2),
      )

  pub made_have_one : (q r : Made) → IsMadeIn u q → IsMadeIn u r → made_in u q ≡ made_in u r → q ≡ r
  made_have_one q r x y same =
      let t = number_in u q.maker in
      let s = number_in u r.maker in
      let l = number_inside q.maker x.0 in
      let m = number_inside r.maker y.0 in
      let sums : first_made u t + q.before ≡ first_made u s + r.before = sym (made_is t q.before l x.1) ∙ same ∙ made_is s r.before m y.1 in
      let maker : t ≡ s =
      elim (cases_lt t s) [
        | inl less ↦ absurd (omega (arith, sums, x.1, made_ascends (suc t) s (omega arith)))
        | inr most ↦ elim (cases_lt s t) [
          | inl more ↦ absurd (omega (arith, sums, y.1, made_ascends (suc s) t (omega arith)))
          | inr least ↦ omega (arith, most, least)
        ]
      ] in
      let order : q.before ≡ r.before = omega (arith, sums, ap (first_made u) maker) in
      let makers = one_name q.maker r.maker x.0 y.0 maker in
      λ i. record { maker = makers i; before = order i }

pub each_number_is_named : EachNumberIsNamed
each_number_is_named p u t e l = number_is_named p u e t l

pub each_made_is_named : EachMadeIsNamed
each_made_is_named p u k e l = made_is_named p u e k l

pub made_have_one_name : MadeHaveOneName
made_have_one_name p u q r e x y same = made_have_one p u e q r x y same
