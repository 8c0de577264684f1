-- Tables by names and tables by numbers: the two agree, and stay so where one entry or one column changes in both.
use Rattle.std.proofs.Common.{◌≡◌, ◌≢◌, ℕ, zero, suc, ◌<◌, Bool, true, false, not, List, [], ◌∷◌, arith, sym, ◌∙◌, ap, subst, refl, inl, inr}
use Rattle.std.specs.List.{list_any}
use Rattle.std.specs.Str.{bytes_eq}
use Rattle.std.specs.Prelude.{◌&&◌, ◌||◌, ◌==◌, if◌then◌else◌}
use Rattle.std.proofs.lemmas.Bool.{cases_eq, eq-eqb, eqb-true, false≢true, and_parts}
use Rattle.std.proofs.lemmas.Slice.Eq.{bytes_eq-Decides}
use Rattle.armus_base.specs.Places.{some_before}
use Rattle.clock_laws.specs.calls.Direct.{with_column, with_entry}
use Rattle.clock_semantics.specs.Unfolding.{ClockUnfolding, activities}
use Rattle.clock_laws.specs.TextMachine.{Activity, Made, is_empty, is_made, without_activity}
use Rattle.clock_laws.specs.TextNumbers.{IsActivityIn, IsMadeIn, made_in, number_in}

-- ---- tests of names

pub same_bytes : (a b : List ℕ) → bytes_eq a b ≡ true → a ≡ b
same_bytes a b e = (bytes_eq-Decides a b).0 e

pub bytes_itself : (a : List ℕ) → bytes_eq a a ≡ true
bytes_itself a = (bytes_eq-Decides a a).1 refl

-- two tests that hold in the same cases
pub same_test : (b c : Bool) → (b ≡ true → c ≡ true) → (c ≡ true → b ≡ true) → b ≡ c
same_test true c f g = sym (f refl)
same_test false true f g = g refl
same_test false false f g = refl

pub bytes_swap : (a b : List ℕ) → bytes_eq a b ≡ bytes_eq b a
bytes_swap a b =
    same_test (bytes_eq a b) (bytes_eq b a) (λ e. (bytes_eq-Decides b a).1 (sym (same_bytes a b e))) (λ e. (bytes_eq-Decides a b).1 (sym (same_bytes b a e)))

pub other_bytes : (a b : List ℕ) → a ≢ b → bytes_eq a b ≡ false
other_bytes a b n = by (bytes_eq a b) refl
  where
    by : (c : Bool) → bytes_eq a b ≡ c → bytes_eq a b ≡ false
    by true e = absurd (n (same_bytes a b e))
    by false e = e

pub both_true : (b c : Bool) → b ≡ true → c ≡ true → (b && c) ≡ true
both_true b c e g = ap (λ z. z && c) e ∙ g

pub made_same : (p q : Made) → is_made p q ≡ true → p ≡ q
made_same p q e =
    let both = and_parts (bytes_eq p.maker q.maker) (p.before == q.before) e in
    let maker = same_bytes p.maker q.maker both.0 in
    let order = eqb-true p.before q.before both.1 in
    λ i. record { maker = maker i; before = order i }

pub made_itself : (p : Made) → is_made p p ≡ true
made_itself p = both_true (bytes_eq p.maker p.maker) (p.before == p.before) (bytes_itself p.maker) (eq-eqb p.before p.before refl)

pub same_made_is : (p q : Made) → p ≡ q → is_made p q ≡ true
same_made_is p q e = subst (λ z. is_made p z ≡ true) e (made_itself p)

pub other_made : (p q : Made) → p ≢ q → is_made p q ≡ false
other_made p q n = by (is_made p q) refl
  where
    by : (c : Bool) → is_made p q ≡ c → is_made p q ≡ false
    by true e = absurd (n (made_same p q e))
    by false e = e

-- ---- lists of activities

-- an activity stands in a list
abbrev pub is_in : Activity → List Activity → Bool
is_in b xs = list_any (bytes_eq b) xs

pub in_more : (a b : Activity) (xs : List Activity) → is_in b (a ∷ xs) ≡ (if bytes_eq a b then true else is_in b xs)
in_more a b xs = ap (λ c. c || is_in b xs) (bytes_swap b a) ∙ by (bytes_eq a b)
  where
    by : (c : Bool) → (c || is_in b xs) ≡ (if c then true else is_in b xs)
    by true = refl
    by false = refl

pub in_without : (a b : Activity) (xs : List Activity) → is_in b (without_activity a xs) ≡ (if bytes_eq a b then false else is_in b xs)
in_without a b [] = by (bytes_eq a b)
  where
    by : (c : Bool) → false ≡ (if c then false else false)
    by true = refl
    by false = refl
in_without a b (x ∷ xs) = by (bytes_eq a x) refl (in_without a b xs)
  where
    last : (c d : Bool) → bytes_eq a b ≡ c → bytes_eq b x ≡ d → bytes_eq a x ≡ false → (rest : Bool) → rest ≡ (if bytes_eq a b then false else is_in b xs) →
        (bytes_eq b x || rest) ≡ (if bytes_eq a b then false else (bytes_eq b x || is_in b xs))
    last true true e g n rest h =
        absurd (false≢true (sym n ∙ (bytes_eq-Decides a x).1 (same_bytes a b e ∙ same_bytes b x g)))
    last true false e g n rest h =
        ap (λ z. z || rest) g ∙ h ∙ ap (λ z. if z then false else is_in b xs) e ∙ sym (ap (λ z. if z then false else (bytes_eq b x || is_in b xs)) e)
    last false d e g n rest h =
        ap (λ z. bytes_eq b x || z) (h ∙ ap (λ z. if z then false else is_in b xs) e) ∙ sym (ap (λ z. if z then false else (bytes_eq b x || is_in b xs)) e)

    same : (c : Bool) → bytes_eq a b ≡ c → bytes_eq a x ≡ true → (if bytes_eq a b then false else is_in b xs) ≡ (if bytes_eq a b then false else (bytes_eq b x || is_in b xs))
    same true e g = ap (λ z. if z then false else is_in b xs) e ∙ sym (ap (λ z. if z then false else (bytes_eq b x || is_in b xs)) e)
    same false e g =
        let differ : bytes_eq b x ≡ false = other_bytes b x (λ s. absurd (false≢true (sym e ∙ (bytes_eq-Decides a b).1 (same_bytes a x g ∙ sym s)))) in
        ap (λ z. if bytes_eq a b then false else z) (sym (ap (λ z. z || is_in b xs) differ))

    by : (c : Bool) → bytes_eq a x ≡ c → is_in b (without_activity a xs) ≡ (if bytes_eq a b then false else is_in b xs) →
        is_in b (if bytes_eq a x then without_activity a xs else (x ∷ without_activity a xs)) ≡ (if bytes_eq a b then false else (bytes_eq b x || is_in b xs))
    by true e h = ap (λ z. is_in b (if z then without_activity a xs else (x ∷ without_activity a xs))) e ∙ h ∙ same (bytes_eq a b) refl e
    by false e h =
        ap (λ z. is_in b (if z then without_activity a xs else (x ∷ without_activity a xs))) e
        ∙ last (bytes_eq a b) (bytes_eq b x) refl refl e (is_in b (without_activity a xs)) h

-- ---- tests below a number

pub none_before : (test : ℕ → Bool) (n : ℕ) → ((t : ℕ) → t < n → test t ≡ false) → some_before test n ≡ false
none_before test zero none = refl
none_before test (suc n) none = ap (λ b. b || some_before test n) (none n (omega arith)) ∙ none_before test n (λ t l. none t (omega arith))

pub one_before : (test : ℕ → Bool) (n t : ℕ) → t < n → test t ≡ true → some_before test n ≡ true
one_before test zero t l is = absurd (omega arith)
one_before test (suc n) t l is =
    elim (cases_eq t n) [
      | inl same ↦ ap (λ b. b || some_before test n) (subst (λ k. test k ≡ true) same is)
      | inr other ↦ ap (λ b. test n || b) (one_before test n t (omega arith) is) ∙ by (test n)
    ]
  where
    by : (b : Bool) → (b || true) ≡ true
    by true = refl
    by false = refl

-- ---- names and numbers

module _ (u : ClockUnfolding) where
  -- activities, clocks and finishes have one name each
  pub record HaveNames : Type 0 where
    pub inside : (a : Activity) → IsActivityIn u a → number_in u a < activities u
    pub one : (a b : Activity) → IsActivityIn u a → IsActivityIn u b → number_in u a ≡ number_in u b → a ≡ b
    pub one_made : (p q : Made) → IsMadeIn u p → IsMadeIn u q → made_in u p ≡ made_in u q → p ≡ q
    pub named : (t : ℕ) → t < activities u → (a : Activity) × IsActivityIn u a × (number_in u a ≡ t)

  -- a table by names, and one by numbers
  abbrev pub Agrees : {A : Type 0} → (Made → Activity → A) → (ℕ → ℕ → A) → Type 0
  Agrees f g = (p : Made) (a : Activity) → IsMadeIn u p → IsActivityIn u a → f p a ≡ g (made_in u p) (number_in u a)

  module _ (h : HaveNames) where
    pub same_activity : (a b : Activity) → IsActivityIn u a → IsActivityIn u b → bytes_eq a b ≡ (number_in u b == number_in u a)
    same_activity a b x y =
        same_test (bytes_eq a b) (number_in u b == number_in u a) (λ e. eq-eqb (number_in u b) (number_in u a) (ap (number_in u) (sym (same_bytes a b e))))
        (λ e. (bytes_eq-Decides a b).1 (sym (h.one b a y x (eqb-true (number_in u b) (number_in u a) e))))

    pub same_made : (p q : Made) → IsMadeIn u p → IsMadeIn u q → is_made p q ≡ (made_in u q == made_in u p)
    same_made p q x y =
        same_test (is_made p q) (made_in u q == made_in u p) (λ e. eq-eqb (made_in u q) (made_in u p) (ap (made_in u) (sym (made_same p q e))))
        (λ e. same_made_is p q (sym (h.one_made q p y x (eqb-true (made_in u q) (made_in u p) e))))

    -- one entry
    pub entry_agrees :
        {A : Type 0} (f f' : Made → Activity → A) (g : ℕ → ℕ → A) (p : Made) (a : Activity) (v : A) → IsMadeIn u p → IsActivityIn u a →
        ((q : Made) (b : Activity) → f' q b ≡ (if is_made p q && bytes_eq a b then v else f q b)) → Agrees f g → Agrees f' (with_entry g (made_in u p) (number_in u a) v)
    entry_agrees f f' g p a v x y is agrees q b m n =
        is q b
        ∙ ap (λ z. if z && bytes_eq a b then v else f q b) (same_made p q x m)
        ∙ ap (λ z. if (made_in u q == made_in u p) && z then v else f q b) (same_activity a b y n)
        ∙ ap (λ z. if (made_in u q == made_in u p) && (number_in u b == number_in u a) then v else z) (agrees q b m n)

    -- one column
    pub column_agrees :
        {A : Type 0} (f f' : Made → Activity → A) (g : ℕ → ℕ → A) (a : Activity) (v : A) → IsActivityIn u a →
        ((q : Made) (b : Activity) → f' q b ≡ (if bytes_eq a b then v else f q b)) → Agrees f g → Agrees f' (with_column g (number_in u a) v)
    column_agrees f f' g a v y is agrees q b m n =
        is q b ∙ ap (λ z. if z then v else f q b) (same_activity a b y n)
        ∙ ap (λ z. if number_in u b == number_in u a then v else z) (agrees q b m n)

    -- a list of activities is empty just where no number of its table holds
    pub empties :
        (xs : List Activity) (g : ℕ → Bool) → ((b : Activity) → is_in b xs ≡ true → IsActivityIn u b) →
        ((b : Activity) → IsActivityIn u b → is_in b xs ≡ g (number_in u b)) → some_before g (activities u) ≡ not (is_empty xs)
    empties [] g inside agrees =
        none_before g (activities u) (λ t l. let a = h.named t l in ap g (sym a.2) ∙ sym (agrees a.0 a.1))
    empties (b ∷ xs) g inside agrees =
        let here : is_in b (b ∷ xs) ≡ true = ap (λ z. z || is_in b xs) (bytes_itself b) in
        let is = inside b here in
        one_before g (activities u) (number_in u b) (h.inside b is) (sym (agrees b is) ∙ here)
