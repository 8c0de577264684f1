-- The groups of those who are alike are found turn by turn.
use Rattle.std.proofs.Common.{◌≡◌, ℕ, zero, suc, ◌+◌, ◌≤◌, Bool, true, false, List, [], ◌∷◌, length, map, take, refl, sym, ◌∙◌, ap, inl, inr, arith}
use Rattle.std.specs.Prelude.{not, filter, sum_by}
use Rattle.std.specs.Cmp.{IsEquivalence}
use Rattle.std.proofs.lemmas.Bool.{cases_Bool, cond-true, cond-false}
use Rattle.std.proofs.lemmas.List.Sums.{sum_by-cons}
use Rattle.monitor_words.specs.Words.{count_behind, firsts_of, groups_by}
use Rattle.monitor_rows.specs.inside.Turns.{turn_groups, turns_leave}

module _ {A : Type 0} (p : A → Bool) where
  pub filter_yes : (x : A) (xs : List A) → p x ≡ true → filter p (x ∷ xs) ≡ x ∷ filter p xs
  filter_yes x xs on = cond-true (p x) (x ∷ filter p xs) (filter p xs) on

  pub filter_no : (x : A) (xs : List A) → p x ≡ false → filter p (x ∷ xs) ≡ filter p xs
  filter_no x xs off = cond-false (p x) (x ∷ filter p xs) (filter p xs) off

module _ {A : Type 0} (alike : A → A → Bool) (laws : IsEquivalence alike) where
  abbrev unlike : A → A → Bool
  unlike x y = not (alike x y)

  -- who is unlike x is unlike whoever is like x
  unlike_both : (x y z : A) → alike x y ≡ true → unlike y z ≡ unlike x z
  unlike_both x y z same = ap not (sym (laws.congr x y z same))

  -- filtering by who is unlike x, whether those unlike y are out already or not
  filter_once : (x y : A) → alike x y ≡ true → (zs : List A) → filter (unlike x) (filter (unlike y) zs) ≡ filter (unlike x) zs
  filter_once x y same [] = refl
  filter_once x y same (z ∷ zs) = elim (cases_Bool (unlike x z)) [
    | inl on ↦
        ap (filter (unlike x)) (filter_yes (unlike y) z zs (unlike_both x y z same ∙ on))
        ∙ filter_yes (unlike x) z (filter (unlike y) zs) on
        ∙ ap (λ (l : List A). z ∷ l) (filter_once x y same zs)
        ∙ sym (filter_yes (unlike x) z zs on)
    | inr off ↦
        ap (filter (unlike x)) (filter_no (unlike y) z zs (unlike_both x y z same ∙ off))
        ∙ filter_once x y same zs
        ∙ sym (filter_no (unlike x) z zs off)
  ]

  -- two filters in either order
  filter_either : (p q : A → Bool) (zs : List A) → filter p (filter q zs) ≡ filter q (filter p zs)
  filter_either p q [] = refl
  filter_either p q (z ∷ zs) = elim (cases_Bool (p z)) [
    | inl on ↦ elim (cases_Bool (q z)) [
      | inl too ↦
          ap (filter p) (filter_yes q z zs too) ∙ filter_yes p z (filter q zs) on ∙ ap (λ (l : List A). z ∷ l) (filter_either p q zs)
          ∙ sym (ap (filter q) (filter_yes p z zs on) ∙ filter_yes q z (filter p zs) too)
      | inr off ↦
          ap (filter p) (filter_no q z zs off) ∙ filter_either p q zs
          ∙ sym (ap (filter q) (filter_yes p z zs on) ∙ filter_no q z (filter p zs) off)
    ]
    | inr out ↦ elim (cases_Bool (q z)) [
      | inl too ↦
          ap (filter p) (filter_yes q z zs too) ∙ filter_no p z (filter q zs) out ∙ filter_either p q zs
          ∙ sym (ap (filter q) (filter_no p z zs out))
      | inr off ↦
          ap (filter p) (filter_no q z zs off) ∙ filter_either p q zs
          ∙ sym (ap (filter q) (filter_no p z zs out))
    ]
  ]

  -- the firsts of those who are unlike x
  pub firsts_unlike : (x : A) (ys : List A) → filter (unlike x) (firsts_of alike ys) ≡ firsts_of alike (filter (unlike x) ys)
  firsts_unlike x [] = refl
  firsts_unlike x (y ∷ ys) = elim (cases_Bool (unlike x y)) [
    | inl on ↦
        filter_yes (unlike x) y (filter (unlike y) (firsts_of alike ys)) on
        ∙ ap (λ (l : List A). y ∷ l) (filter_either (unlike x) (unlike y) (firsts_of alike ys))
        ∙ ap (λ (l : List A). y ∷ filter (unlike y) l) (firsts_unlike x ys)
        ∙ sym (ap (firsts_of alike) (filter_yes (unlike x) y ys on))
    | inr off ↦
        (let same : alike x y ≡ true = like (alike x y) off in
        filter_no (unlike x) y (filter (unlike y) (firsts_of alike ys)) off
        ∙ filter_once x y same (firsts_of alike ys)
        ∙ firsts_unlike x ys
        ∙ sym (ap (firsts_of alike) (filter_no (unlike x) y ys off)))
  ]
    where
      like : (b : Bool) → not b ≡ false → b ≡ true
      like true off = refl
      like false off = sym off

  -- who is like somebody unlike x is unlike x
  alike_unlike : (x z y : A) → unlike x z ≡ true → alike z y ≡ true → unlike x y ≡ true
  alike_unlike x z y other same = ap not (laws.symm x y ∙ sym (laws.congr z y x same) ∙ laws.symm z x) ∙ other

  -- all like somebody who is unlike x are left when those like x are out
  unlike_out : (x z y : A) (ys : List A) → alike z y ≡ false → filter (alike z) (filter (unlike x) ys) ≡ filter (alike z) (filter (unlike x) (y ∷ ys))
  unlike_out x z y ys differs = elim (cases_Bool (unlike x y)) [
    | inl on ↦ sym (ap (filter (alike z)) (filter_yes (unlike x) y ys on) ∙ filter_no (alike z) y (filter (unlike x) ys) differs)
    | inr off ↦ sym (ap (filter (alike z)) (filter_no (unlike x) y ys off))
  ]

  group_unlike : (x z : A) → unlike x z ≡ true → (ys : List A) → filter (alike z) ys ≡ filter (alike z) (filter (unlike x) ys)
  group_unlike x z other [] = refl
  group_unlike x z other (y ∷ ys) = elim (cases_Bool (alike z y)) [
    | inl same ↦
        filter_yes (alike z) y ys same
        ∙ ap (λ (l : List A). y ∷ l) (group_unlike x z other ys)
        ∙ sym (filter_yes (alike z) y (filter (unlike x) ys) same)
        ∙ ap (filter (alike z)) (sym (filter_yes (unlike x) y ys (alike_unlike x z y other same)))
    | inr differs ↦
        filter_no (alike z) y ys differs ∙ group_unlike x z other ys ∙ unlike_out x z y ys differs
  ]

  -- so the groups of those who are unlike x are the same
  abbrev in_group : List A → A → A × List A
  in_group ys z = (z, filter (alike z) ys)

  groups_unlike :
      (x : A) (ys zs : List A) → map (in_group ys) (filter (unlike x) zs) ≡ map (in_group (filter (unlike x) ys)) (filter (unlike x) zs)
  groups_unlike x ys [] = refl
  groups_unlike x ys (z ∷ zs) = elim (cases_Bool (unlike x z)) [
    | inl on ↦
        ap (map (in_group ys)) (filter_yes (unlike x) z zs on)
        ∙ ap (λ (g : List A). (z, g) ∷ map (in_group ys) (filter (unlike x) zs)) (group_unlike x z on ys)
        ∙ ap (λ (l : List (A × List A)). (z, filter (alike z) (filter (unlike x) ys)) ∷ l) (groups_unlike x ys zs)
        ∙ sym (ap (map (in_group (filter (unlike x) ys))) (filter_yes (unlike x) z zs on))
    | inr off ↦
        ap (map (in_group ys)) (filter_no (unlike x) z zs off)
        ∙ groups_unlike x ys zs
        ∙ sym (ap (map (in_group (filter (unlike x) ys))) (filter_no (unlike x) z zs off))
  ]

  -- the first group, and the groups of those who are unlike its first
  pub first_group : (x : A) (order xs : List A) → groups_by alike (x ∷ order) xs ≡ (x, filter (alike x) xs) ∷ groups_by alike (filter (unlike x) order) (filter (unlike x) xs)
  first_group x order xs =
      ap (λ (l : List (A × List A)). (x, filter (alike x) xs) ∷ l)
      (groups_unlike x xs (firsts_of alike order) ∙ ap (map (in_group (filter (unlike x) xs))) (firsts_unlike x order))

  -- who is first is out himself
  first_out : (x : A) (xs : List A) → filter (unlike x) (x ∷ xs) ≡ filter (unlike x) xs
  first_out x xs = filter_no (unlike x) x xs (ap not (laws.refl x))

  turn : (x : A) (xs : List A) → groups_by alike (x ∷ xs) (x ∷ xs) ≡ (x, filter (alike x) (x ∷ xs)) ∷ groups_by alike (filter (unlike x) (x ∷ xs)) (filter (unlike x) (x ∷ xs))
  turn x xs =
      first_group x xs (x ∷ xs)
      ∙ ap (λ (l : List A). (x, filter (alike x) (x ∷ xs)) ∷ groups_by alike l (filter (unlike x) (x ∷ xs))) (sym (first_out x xs))

  -- the first groups are found turn by turn
  pub turns_find : (k : ℕ) (xs : List A) → take k (groups_by alike xs xs) ≡ turn_groups alike k xs
  turns_find zero xs = refl
  turns_find (suc k) [] = refl
  turns_find (suc k) (x ∷ xs) =
      ap (take (suc k)) (turn x xs)
      ∙ ap (λ (l : List (A × List A)). (x, filter (alike x) (x ∷ xs)) ∷ l) (turns_find k (filter (unlike x) (x ∷ xs)))

  -- those like x and those unlike x are all
  both_counted : (x : A) (ys : List A) → length (filter (alike x) ys) + length (filter (unlike x) ys) ≡ length ys
  both_counted x [] = refl
  both_counted x (y ∷ ys) =
      let rest = both_counted x ys in
      elim (cases_Bool (alike x y)) [
        | inl same ↦ (
            let in_group = ap length (filter_yes (alike x) y ys same) in
            let out = ap length (filter_no (unlike x) y ys (ap not same)) in
            omega arith)
        | inr differs ↦ (
            let out_of_group = ap length (filter_no (alike x) y ys differs) in
            let left = ap length (filter_yes (unlike x) y ys (ap not differs)) in
            omega arith)
      ]

  -- the groups of a list have all of it
  all_counted : (n : ℕ) (xs : List A) → length xs ≤ n → sum_by (λ g. length g.1) (groups_by alike xs xs) ≡ length xs
  all_counted n [] le = refl
  all_counted zero (x ∷ xs) le = absurd (omega arith)
  all_counted (suc n) (x ∷ xs) le =
      let split = both_counted x (x ∷ xs) in
      let own : 1 ≤ length (filter (alike x) (x ∷ xs)) = (let e = ap length (filter_yes (alike x) x xs (laws.refl x)) in omega arith) in
      let rest = all_counted n (filter (unlike x) (x ∷ xs)) (omega arith) in
      let first = ap (sum_by (λ g. length g.1)) (turn x xs) in
      let parts = sum_by-cons (λ (g : A × List A). length g.1) (x, filter (alike x) (x ∷ xs)) (groups_by alike (filter (unlike x) (x ∷ xs)) (filter (unlike x) (x ∷ xs))) in
      omega arith

  -- and behind them stand those who are left
  pub turns_left : (k : ℕ) (xs : List A) → count_behind k (groups_by alike xs xs) ≡ turns_leave alike k xs
  turns_left zero xs = all_counted (length xs) xs (omega arith)
  turns_left (suc k) [] = refl
  turns_left (suc k) (x ∷ xs) = ap (count_behind (suc k)) (turn x xs) ∙ turns_left k (filter (unlike x) (x ∷ xs))

  -- the same where the groups of f come first
  pub led_turns_find : (k : ℕ) (f : A) (xs : List A) → take (suc k) (groups_by alike (f ∷ xs) xs) ≡ (f, filter (alike f) xs) ∷ turn_groups alike k (filter (unlike f) xs)
  led_turns_find k f xs =
      ap (take (suc k)) (first_group f xs xs) ∙ ap (λ (l : List (A × List A)). (f, filter (alike f) xs) ∷ l) (turns_find k (filter (unlike f) xs))

  pub led_turns_left : (k : ℕ) (f : A) (xs : List A) → count_behind (suc k) (groups_by alike (f ∷ xs) xs) ≡ turns_leave alike k (filter (unlike f) xs)
  led_turns_left k f xs = ap (count_behind (suc k)) (first_group f xs xs) ∙ turns_left k (filter (unlike f) xs)
