-- Lists given below a bound: their lengths, their elements by place, and maps of them.
use Rattle.std.proofs.Common.{◌≡◌, ◌<◌, ◌≤◌, ◌+◌, ◌∙◌, ◌||◌, ℕ, zero, suc, Bool, true, false, List, [], ◌∷◌, ◌++◌, Option, Some, None, length, arith, sym, ap, inl, inr, refl, length-append, zero-add}
use Rattle.std.specs.Prelude.{slice_get, is_some, if◌then◌else◌, option_to_list, option_map, map}
use Rattle.std.specs.List.{flat_map, list_any}
use Rattle.std.proofs.lemmas.Bool.{cases_lt}
use Rattle.std.proofs.lemmas.Grind.{flat_map-append}
use Rattle.std.proofs.lemmas.List.{map-append}
use Rattle.std.proofs.lemmas.List.Folds.{list_any-append}
use Rattle.std.proofs.lemmas.Option.{slice_get_within}
use Rattle.armus_base.specs.Finals.{given_below}
use Rattle.armus_base.specs.Places.{some_before}
use Rattle.armus_base.proofs.Lists.{slice_get-append}
use Rattle.schedule.specs.Passes.{count_below}

one_more : {A : Type 0} (o : Option A) (l c : ℕ) → l ≡ c → l + length (option_to_list o) ≡ (if is_some o then c + 1 else c)
one_more None l c e = omega arith
one_more (Some x) l c e = omega arith

-- how long such a list is
pub length_given : {A : Type 0} (f : ℕ → Option A) (n : ℕ) → length (given_below f n) ≡ count_below (λ k. is_some (f k)) n
length_given f zero = refl
length_given f (suc n) = length-append (given_below f n) (option_to_list (f n)) ∙ one_more (f n) (length (given_below f n)) (count_below (λ k. is_some (f k)) n) (length_given f n)

-- a map of such a list
pub map_given : {A B : Type 0} (g : A → B) (f : ℕ → Option A) (n : ℕ) → map g (given_below f n) ≡ given_below (λ k. option_map g (f k)) n
map_given g f zero = refl
map_given g f (suc n) = map-append g (given_below f n) (option_to_list (f n)) ∙ ap (λ l. l ++ map g (option_to_list (f n))) (map_given g f n) ∙
    ap (λ l. given_below (λ k. option_map g (f k)) n ++ l) (one (f n))
  where
    one : (o : Option _) → map g (option_to_list o) ≡ option_to_list (option_map g o)
    one None = refl
    one (Some x) = refl

-- lists of an optional element each, over such a list
pub flat_given : {A B : Type 0} (g : A → Option B) (f : ℕ → Option A) (h : ℕ → Option B) (n : ℕ)
    → ((k : ℕ) → k < n → flat_map (λ x. option_to_list (g x)) (option_to_list (f k)) ≡ option_to_list (h k))
    → flat_map (λ x. option_to_list (g x)) (given_below f n) ≡ given_below h n
flat_given g f h zero each = refl
flat_given g f h (suc n) each =
    flat_map-append (λ x. option_to_list (g x)) (given_below f n) (option_to_list (f n))
    ∙ ap (λ l. l ++ flat_map (λ x. option_to_list (g x)) (option_to_list (f n))) (flat_given g f h n (λ k l. each k (omega arith)))
    ∙ ap (λ l. given_below h n ++ l) (each n (omega arith))

-- a test of some element
pub any_given : {A : Type 0} (test : A → Bool) (f : ℕ → Option A) (is : ℕ → Bool) (n : ℕ)
    → ((k : ℕ) → k < n → list_any test (option_to_list (f k)) ≡ is k) → list_any test (given_below f n) ≡ some_before is n
any_given test f is zero each = refl
any_given test f is (suc n) each =
    list_any-append test (given_below f n) (option_to_list (f n))
    ∙ ap (λ b. b || list_any test (option_to_list (f n))) (any_given test f is n (λ k l. each k (omega arith)))
    ∙ ap (λ b. some_before is n || b) (each n (omega arith))
    ∙ or_comm (some_before is n) (is n)
  where
    or_comm : (x y : Bool) → (x || y) ≡ (y || x)
    or_comm true true = refl
    or_comm true false = refl
    or_comm false true = refl
    or_comm false false = refl

shift : (n k : ℕ) → suc n + k ≡ suc (n + k)
shift n k = omega arith

get_append_right : {A : Type 0} (xs ys : List A) (k : ℕ) → slice_get (xs ++ ys) (length xs + k) ≡ slice_get ys k
get_append_right [] ys k = ap (slice_get ys) (zero-add k)
get_append_right (x ∷ xs) ys k = ap (slice_get ((x ∷ xs) ++ ys)) (shift (length xs) k) ∙ get_append_right xs ys k

-- the element at a place, and the number that gives it
pub at_place : {A : Type 0} (f : ℕ → Option A) (n k : ℕ) (x : A) → slice_get (given_below f n) k ≡ Some x
    → (t : ℕ) × (t < n) × (f t ≡ Some x) × (count_below (λ j. is_some (f j)) t ≡ k)
at_place f zero k x e = absurd (cc)
at_place f (suc n) k x e =
    elim (cases_lt k (length (given_below f n))) [
      | inl before ↦ (let (t, l, is, counted) = at_place f n k x (sym (slice_get-append (given_below f n) (option_to_list (f n)) k before) ∙ e) in
          (t, omega arith, is, counted))
      | inr past ↦ here (f n) refl past
    ]
  where
    here : (o : Option _) → f n ≡ o → length (given_below f n) ≤ k → (t : ℕ) × (t < suc n) × (f t ≡ Some x) × (count_below (λ j. is_some (f j)) t ≡ k)
    here None is past = absurd (let short = slice_get_within (given_below f n ++ option_to_list (f n)) k x e in
        let l = length-append (given_below f n) (option_to_list (f n)) in let z = ap (λ o. length (option_to_list o)) is in omega arith)
    here (Some y) is past =
        let short = slice_get_within (given_below f n ++ option_to_list (f n)) k x e in
        let l = length-append (given_below f n) (option_to_list (f n)) in
        let one = ap (λ o. length (option_to_list o)) is in
        let same : k ≡ length (given_below f n) + 0 = omega arith in
        let read = sym (get_append_right (given_below f n) (option_to_list (f n)) 0) ∙ ap (slice_get (given_below f n ++ option_to_list (f n))) (sym same) ∙ e in
        (n, omega arith, is ∙ (sym (ap (λ o. slice_get (option_to_list o) 0) is) ∙ read), (let c = length_given f n in omega arith))

-- the element behind a list
pub slice_get_last : {A : Type 0} (xs : List A) (y : A) (ys : List A) → slice_get (xs ++ y ∷ ys) (length xs) ≡ Some y
slice_get_last [] y ys = refl
slice_get_last (x ∷ xs) y ys = slice_get_last xs y ys
