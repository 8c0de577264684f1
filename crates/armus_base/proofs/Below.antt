-- Lists of what a function gives for the numbers below a bound.
use Rattle.std.proofs.Common.{◌≡◌, ℕ, zero, suc, ◌+◌, ◌<◌, ◌≤◌, Option, Some, None, List, [], ◌∷◌, ◌++◌, length, get_or, add-one, arith, sym, ◌∙◌, ap, subst, refl, inl, inr, length-append}
use Rattle.std.specs.Prelude.{AllPairs, Contains, option_to_list, slice_get}
use Rattle.std.proofs.lemmas.Bool.{cases_eq}
use Rattle.std.proofs.lemmas.List.{append-nil, get_or_default}
use Rattle.std.proofs.lemmas.List.Elements.{Contains-append_cases, Contains-append_left, Contains-append_right}
use Rattle.std.proofs.lemmas.List.Quantifiers.{all_pairs_push}
use Rattle.std.proofs.lemmas.List.{get_or_append_left}
use Rattle.std.proofs.Math.Seq.{get_or-append_seam}
use Rattle.std.proofs.lemmas.Option.{get_or_from_slice_get, slice_get-get_or}
use Rattle.armus_base.specs.Finals.{given_below, list_below}
use Rattle.armus_base.proofs.Elements.{Contains-cons_cases, Contains-head, nothing_in_nil}

-- an item of the list is what the function gives for a number below the bound
pub given_is : {A : Type 0} (f : ℕ → Option A) (n : ℕ) (x : A) → Contains (given_below f n) x → (k : ℕ) × (k < n) × (f k ≡ Some x)
given_is f zero x m = absurd (nothing_in_nil x m)
given_is {A} f (suc n) x m =
    elim (Contains-append_cases (given_below f n) (option_to_list (f n)) x m) [
      | inl l ↦ let before = given_is f n x l in (before.0, omega (arith, before.1), before.2)
      | inr r ↦ (n, omega arith, here (f n) r)
    ]
  where
    here : (o : Option A) → Contains (option_to_list o) x → o ≡ Some x
    here None r = absurd (nothing_in_nil x r)
    here (Some y) r = elim (Contains-cons_cases y [] x r) [ inl e ↦ ap Some e | inr none ↦ absurd (nothing_in_nil x none) ]

-- and what it gives is an item
pub given_from : {A : Type 0} (f : ℕ → Option A) (n k : ℕ) (x : A) → k < n → f k ≡ Some x → Contains (given_below f n) x
given_from f zero k x l e = absurd (omega arith)
given_from f (suc n) k x l e =
    elim (cases_eq k n) [
      | inl same ↦
          Contains-append_right (given_below f n) (option_to_list (f n)) x
          (subst (λ o. Contains (option_to_list o) x) (sym e ∙ ap f same) (Contains-head x []))
      | inr other ↦ Contains-append_left (given_below f n) (option_to_list (f n)) x (given_from f n k x (omega arith) e)
    ]

-- there are no more items than numbers
pub given_few : {A : Type 0} (f : ℕ → Option A) (n : ℕ) → length (given_below f n) ≤ n
given_few f zero = omega arith
given_few {A} f (suc n) =
    let l = length-append (given_below f n) (option_to_list (f n)) in
    let b = given_few f n in
    let one = few (f n) in
    omega arith
  where
    few : (o : Option A) → length (option_to_list o) ≤ 1
    few None = omega arith
    few (Some x) = omega arith

-- an element of a list is contained in it
pub contains_at : {A : Type 0} (xs : List A) (k : ℕ) (d : A) → k < length xs → Contains xs (get_or xs k d)
contains_at xs k d l = (k, l, get_or_default xs k (get_or xs k d) d l)

-- items of which each tells its number still ascend with one more
ascends_more :
    {A : Type 0} (key : A → ℕ) (f : ℕ → Option A) → ((k : ℕ) (x : A) → f k ≡ Some x → key x ≡ k) → (n : ℕ) →
    AllPairs (λ a b. key a < key b) (given_below f n) → (o : Option A) → f n ≡ o → AllPairs (λ a b. key a < key b) (given_below f n ++ option_to_list o)
ascends_more key f tells n before None is = subst (λ v. AllPairs (λ a b. key a < key b) v) (sym (append-nil (given_below f n))) before
ascends_more key f tells n before (Some y) is =
    all_pairs_push (λ a b. key a < key b) (given_below f n) y before
    (λ k d l.
    let at = given_is f n (get_or (given_below f n) k d) (contains_at (given_below f n) k d l) in
    let own = tells at.0 (get_or (given_below f n) k d) at.2 in
    let last = tells n y is in
    let small = at.1 in
    omega arith)

-- items of which each tells its number ascend
pub given_ascends :
    {A : Type 0} (key : A → ℕ) (f : ℕ → Option A) → ((k : ℕ) (x : A) → f k ≡ Some x → key x ≡ k) → (n : ℕ) →
    AllPairs (λ a b. key a < key b) (given_below f n)
given_ascends key f tells zero = λ i j d l m. absurd (omega arith)
given_ascends key f tells (suc n) = ascends_more key f tells n (given_ascends key f tells n) (f n) refl

-- one number more, and two functions that agree
pub given_below_more : {A : Type 0} (f : ℕ → Option A) (n : ℕ) (x : A) (xs : List A) → xs ≡ given_below f n → f n ≡ Some x →
    xs ++ x ∷ [] ≡ given_below f (n + 1)
given_below_more f n x xs e h = ap (λ ys. ys ++ x ∷ []) e ∙ ap (λ o. given_below f n ++ option_to_list o) (sym h) ∙ ap (given_below f) (sym (add-one n))

pub given_below_none : {A : Type 0} (f : ℕ → Option A) (n : ℕ) (xs : List A) → xs ≡ given_below f n → f n ≡ None → xs ≡ given_below f (n + 1)
given_below_none f n xs e h =
    e ∙ sym (append-nil (given_below f n)) ∙ ap (λ o. given_below f n ++ option_to_list o) (sym h) ∙ ap (given_below f) (sym (add-one n))

pub given_below_same : {A : Type 0} (f g : ℕ → Option A) (n : ℕ) → ((k : ℕ) → k < n → f k ≡ g k) → given_below f n ≡ given_below g n
given_below_same f g zero same = refl
given_below_same f g (suc n) same =
    ap (λ xs. xs ++ option_to_list (f n)) (given_below_same f g n (λ k l. same k (omega arith)))
    ∙ ap (λ o. given_below g n ++ option_to_list o) (same n (omega arith))

-- the list has one item for each number below the bound
pub length-list_below : {A : Type 0} (f : ℕ → A) (n : ℕ) → length (list_below f n) ≡ n
length-list_below f zero = refl
length-list_below f (suc n) =
    let l = length-append (list_below f n) (f n ∷ []) in let b = length-list_below f n in omega arith

-- and the item at a number is what the function gives for it
pub list_below-at : {A : Type 0} (f : ℕ → A) (n k : ℕ) → k < n → slice_get (list_below f n) k ≡ Some (f k)
list_below-at f zero k l = absurd (omega arith)
list_below-at {A} f (suc n) k l =
    elim (cases_eq k n) [
      | inl same ↦
          at (subst (λ v. get_or (list_below f n ++ f n ∷ []) v (f k) ≡ f k) (length-list_below f n ∙ sym same)
          (get_or-append_seam (list_below f n) (f n) [] (f k) ∙ ap f (sym same)))
      | inr other ↦
          (let before : k < n = omega arith in
          let within : k < length (list_below f n) = (let m = length-list_below f n in omega arith) in
          at (get_or_append_left (list_below f n) (f n ∷ []) (f k) k within
          ∙ get_or_from_slice_get (list_below f n) k (f k) (f k) (list_below-at f n k before)))
    ]
  where
    inside : k < length (list_below f n ++ f n ∷ [])
    inside = (let m = length-list_below f (suc n) in omega arith)

    at : get_or (list_below f n ++ f n ∷ []) k (f k) ≡ f k → slice_get (list_below f n ++ f n ∷ []) k ≡ Some (f k)
    at e = slice_get-get_or (list_below f n ++ f n ∷ []) k (f k) inside ∙ ap Some e
