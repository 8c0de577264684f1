-- Filters of one list.
use Rattle.std.proofs.Common.{◌≡◌, ◌≤◌, Bool, true, false, ◌&&◌, ◌||◌, List, [], ◌∷◌, length, map, refl, sym, ◌∙◌, ap, inl, inr, ◌⊎◌, arith}
use Rattle.std.specs.Prelude.{Contains, filter}
use Rattle.std.specs.List.{list_any}
use Rattle.std.proofs.lemmas.Bool.{cases_Bool}
use Rattle.armus_base.proofs.Elements.{Contains-cons_cases, Contains-head, Contains-tail, nothing_in_nil}
use Rattle.monitor_laws.proofs.OwnLines.{kept, left_out}

module _ {A : Type 0} where
  -- a filter of a filter
  pub filter_twice : (p q : A → Bool) (xs : List A) → filter p (filter q xs) ≡ filter (λ x. q x && p x) xs
  filter_twice p q [] = refl
  filter_twice p q (x ∷ xs) = by_test (filter_twice p q xs) (cases_Bool (q x)) (cases_Bool (p x))
    where
      by_test : filter p (filter q xs) ≡ filter (λ y. q y && p y) xs → ((q x ≡ true) ⊎ (q x ≡ false)) → ((p x ≡ true) ⊎ (p x ≡ false)) → filter p (filter q (x ∷ xs)) ≡ filter (λ y. q y && p y) (x ∷ xs)
      by_test rest (inl on) (inl too) =
          ap (filter p) (kept q x xs on) ∙ kept p x (filter q xs) too ∙ ap (λ l. x ∷ l) rest ∙ sym (kept (λ y. q y && p y) x xs (ap (λ b. b && p x) on ∙ too))
      by_test rest (inl on) (inr off) =
          ap (filter p) (kept q x xs on) ∙ left_out p x (filter q xs) off ∙ rest ∙ sym (left_out (λ y. q y && p y) x xs (ap (λ b. b && p x) on ∙ off))
      by_test rest (inr off) other = ap (filter p) (left_out q x xs off) ∙ rest ∙ sym (left_out (λ y. q y && p y) x xs (ap (λ b. b && p x) off))

  -- two tests that agree on all of the list
  pub filter_agrees : (p q : A → Bool) (xs : List A) → ((x : A) → Contains xs x → p x ≡ q x) → filter p xs ≡ filter q xs
  filter_agrees p q [] same = refl
  filter_agrees p q (x ∷ xs) same = by_test (filter_agrees p q xs (λ y within. same y (Contains-tail x xs y within))) (same x (Contains-head x xs)) (cases_Bool (q x))
    where
      by_test : filter p xs ≡ filter q xs → p x ≡ q x → ((q x ≡ true) ⊎ (q x ≡ false)) → filter p (x ∷ xs) ≡ filter q (x ∷ xs)
      by_test rest here (inl on) = kept p x xs (here ∙ on) ∙ ap (λ l. x ∷ l) rest ∙ sym (kept q x xs on)
      by_test rest here (inr off) = left_out p x xs (here ∙ off) ∙ rest ∙ sym (left_out q x xs off)

  -- a filter is no longer than the list
  pub filter_shorter : (p : A → Bool) (xs : List A) → length (filter p xs) ≤ length xs
  filter_shorter p [] = omega arith
  filter_shorter p (x ∷ xs) = by_test (filter_shorter p xs) (cases_Bool (p x))
    where
      by_test : length (filter p xs) ≤ length xs → ((p x ≡ true) ⊎ (p x ≡ false)) → length (filter p (x ∷ xs)) ≤ length (x ∷ xs)
      by_test rest (inl on) = let e = ap length (kept p x xs on) in omega arith
      by_test rest (inr off) = let e = ap length (left_out p x xs off) in omega arith

  -- where it is as long, all pass
  pub filter_whole : (p : A → Bool) (xs : List A) → length (filter p xs) ≡ length xs → (x : A) → Contains xs x → p x ≡ true
  filter_whole p [] same y within = absurd (nothing_in_nil y within)
  filter_whole p (x ∷ xs) same y within = by_test (λ e i. filter_whole p xs e y i) (cases_Bool (p x))
    where
      by_test : (length (filter p xs) ≡ length xs → Contains xs y → p y ≡ true) → ((p x ≡ true) ⊎ (p x ≡ false)) → p y ≡ true
      by_test rest (inl on) = elim (Contains-cons_cases x xs y within) [
        | inl here ↦ ap p (sym here) ∙ on
        | inr there ↦ rest (let e = ap length (kept p x xs on) in omega arith) there
      ]
      by_test rest (inr off) = absurd (let e = ap length (left_out p x xs off) in let l = filter_shorter p xs in omega arith)

-- of what each is mapped to
pub any_of_map : {A B : Type 0} (f : A → B) (p : B → Bool) (xs : List A) → list_any p (map f xs) ≡ list_any (λ x. p (f x)) xs
any_of_map f p [] = refl
any_of_map f p (x ∷ xs) = ap (λ b. p (f x) || b) (any_of_map f p xs)
