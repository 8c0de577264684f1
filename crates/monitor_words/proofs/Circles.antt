-- The first of the shortest circles of a task: there is at most one, and one where there is any.
use Rattle.std.proofs.Common.{◌≡◌, ℕ, zero, suc, ◌<◌, ◌≤◌, Bool, true, false, ◌&&◌, List, [], ◌∷◌, refl, sym, ◌∙◌, ap, subst, inl, inr, ◌⊎◌, arith, length}
use Rattle.std.specs.Prelude.{Contains, slice_index_or}
use Rattle.std.specs.List.{list_any}
use Rattle.std.proofs.lemmas.Bool.{cases_Bool, cases_lt, or_cases, and_parts, and_from, true≢false}
use Rattle.armus_base.specs.Counts.{IsDistinct}
use Rattle.armus_base.proofs.Counts.{distinct_le}
use Rattle.armus_base.proofs.Elements.{Contains-cons_cases, Contains-head, Contains-tail, nothing_in_nil}
use Rattle.monitor_laws.specs.Lines.{TraceLine}
use Rattle.monitor_laws.specs.States.{Participant, TraceState, after_lines}
use Rattle.monitor_laws.proofs.Filters.{any_from}
use Rattle.monitor_laws.specs.Lawful.{IsLawfulState}
use Rattle.monitor_laws.proofs.Lawful.{lawful_lines}
use Rattle.monitor_words.specs.Laws.{HasOneCircle, HasSomeCircle}
use Rattle.monitor_words.specs.Stops.{ComesFirst, IsChain, IsCircle, IsFirstCircle, stops}
use Rattle.monitor_words.proofs.Ascending.{Ascends, above_first, numbers_ascend, rest_ascends}

-- the first of a list that passes
abbrev IsFirstThat : (Participant → Bool) → List Participant → Participant → Type 0
IsFirstThat p xs x = Contains xs x × (p x ≡ true) × ((y : Participant) → Contains xs y → p y ≡ true → (x.number < y.number) ⊎ (x ≡ y))

-- of an ascending list, where the rest has one if somebody of it passes
first_or_rest : (p : Participant → Bool) (x : Participant) (xs : List Participant) → Ascends (x ∷ xs) → list_any p (x ∷ xs) ≡ true →
    (list_any p xs ≡ true → (z : Participant) × IsFirstThat p xs z) → ((p x ≡ true) ⊎ (p x ≡ false)) → (z : Participant) × IsFirstThat p (x ∷ xs) z
first_or_rest p x xs up any rest (inl passes) = (
  x,
  (
    Contains-head x xs,
    passes,
    λ y within is. elim (Contains-cons_cases x xs y within) [
      | inl here ↦ inr here
      | inr there ↦ inl (above_first x xs up y there)
    ],
  ),
)
first_or_rest p x xs up any rest (inr fails) =
    let later : list_any p xs ≡ true = elim (or_cases (p x) (list_any p xs) any) [ inl passes ↦ absurd (true≢false (sym passes ∙ fails)) | inr later ↦ later ] in
    let m = rest later in (
      m.0,
      (
        Contains-tail x xs m.0 m.1.0,
        m.1.1,
        λ y within is. elim (Contains-cons_cases x xs y within) [
          | inl here ↦ absurd (true≢false (sym is ∙ ap p (sym here) ∙ fails))
          | inr there ↦ m.1.2 y there is
        ],
      ),
    )

first_that : (p : Participant → Bool) (xs : List Participant) → Ascends xs → list_any p xs ≡ true → (z : Participant) × IsFirstThat p xs z
first_that p [] up any = absurd (cc)
first_that p (x ∷ xs) up any = first_or_rest p x xs up any (λ later. first_that p xs (rest_ascends x xs up) later) (cases_Bool (p x))

-- the least number that passes
least_below : (p : ℕ → Bool) (n : ℕ) → ((m : ℕ) × (p m ≡ true) × (m < n) × ((j : ℕ) → p j ≡ true → m ≤ j)) ⊎ ((j : ℕ) → j < n → p j ≡ false)
least_below p zero = inr (λ j lt. absurd (omega arith))
least_below p (suc n) = elim (least_below p n) [
  | inl found ↦ inl (found.0, found.1, (let lt = found.2 in omega arith), found.3)
  | inr none ↦ elim (cases_Bool (p n)) [
    | inl passes ↦ inl (
      n,
      passes,
      omega arith,
      λ j is. elim (cases_lt j n) [
        | inl less ↦ absurd (true≢false (sym is ∙ none j less))
        | inr not_less ↦ (omega arith)
      ],
    )
    | inr fails ↦ inr (λ j lt. elim (cases_lt j n) [
      | inl less ↦ none j less
      | inr not_less ↦ (let e : n ≡ j = omega arith in subst (λ k. p k ≡ false) e fails)
    ])
  ]
]

module _ (s : TraceState) (stuck : ℕ → Bool) (f : Participant) where
  -- a chain of this length from t to f
  abbrev pub leads : ℕ → Participant → Bool
  leads zero t = stops s stuck f t
  leads (suc n) t = list_any (λ u. stops s stuck u t && leads n u) s.list

  pub chain_leads : (t : Participant) (l : List Participant) → IsChain s stuck f t l → leads (length l) t ≡ true
  chain_leads t [] chain = chain
  chain_leads t (u ∷ l) chain =
      any_from (λ v. stops s stuck v t && leads (length l) v) s.list u chain.0
      (and_from (stops s stuck u t) (leads (length l) u) chain.1 (chain_leads u l chain.2))

  -- no chain from t is shorter
  abbrev IsShortestChain : Participant → List Participant → Type 0
  IsShortestChain t l = IsChain s stuck f t l × ((k : List Participant) → IsChain s stuck f t k → length l ≤ length k)

  rest_is_shortest : (t u : Participant) (l : List Participant) → IsShortestChain t (u ∷ l) → IsShortestChain u l
  rest_is_shortest t u l short = (short.0.2, λ k chain. let e = short.1 (u ∷ k) (short.0.0, short.0.1, chain) in omega arith)

  -- from each of a chain there is a shorter one
  from_place : (t : Participant) (l : List Participant) → IsChain s stuck f t l → (i : ℕ) (d : Participant) → i < length l →
      Contains s.list (slice_index_or l i d) × ((k : List Participant) × IsChain s stuck f (slice_index_or l i d) k × (length k < length l))
  from_place t [] chain i d lt = absurd (omega arith)
  from_place t (u ∷ l) chain zero d lt = (chain.0, (l, chain.2, omega arith))
  from_place t (u ∷ l) chain (suc i) d lt = let m = from_place u l chain.2 i d (omega arith) in (m.0, (m.1.0, m.1.1, (let less = m.1.2 in omega arith)))

  not_again : (t : Participant) (l : List Participant) → IsShortestChain t l → Contains l t → ⊥
  not_again t l short (k, lt, e) =
      let m = from_place t l short.0 k t lt in
      let least = short.1 m.1.0 (subst (λ x. IsChain s stuck f x m.1.0) e m.1.1) in
      let less = m.1.2 in
      omega arith

  all_different : (t : Participant) (l : List Participant) → IsShortestChain t l → IsDistinct (t ∷ l)
  all_different t [] short = (not_again t [] short, tt)
  all_different t (u ∷ l) short = (not_again t (u ∷ l) short, all_different u l (rest_is_shortest t u l short))

  -- the others of a chain are of the list
  chain_within : (t : Participant) (l : List Participant) → IsChain s stuck f t l → (x : Participant) → Contains l x → Contains s.list x
  chain_within t [] chain x within = absurd (nothing_in_nil x within)
  chain_within t (u ∷ l) chain x within = elim (Contains-cons_cases u l x within) [
    | inl here ↦ subst (λ y. Contains s.list y) here chain.0
    | inr there ↦ chain_within u l chain.2 x there
  ]

  -- so a circle is no longer than the list
  circle_le : (l : List Participant) → IsCircle s stuck f l → length l ≤ length s.list
  circle_le l (chain, different) = distinct_le l s.list different.1 (chain_within f l chain)

  -- and where f is of the list it is shorter
  pub circle_lt : Contains s.list f → (l : List Participant) → IsCircle s stuck f l → length l < length s.list
  circle_lt listed l (chain, different) =
      let le = distinct_le (f ∷ l) s.list different (λ x within. elim (Contains-cons_cases f l x within) [
        | inl here ↦ subst (λ y. Contains s.list y) here listed
        | inr there ↦ chain_within f l chain x there
      ]) in
      omega arith

  -- of chains from f back to it that are as long as the shortest, the one that comes first is the first circle
  pub first_by_length : (n : ℕ) → ((j : ℕ) → leads j f ≡ true → n ≤ j) → (k : List Participant) → IsChain s stuck f f k → length k ≡ n →
      ((j : List Participant) → IsChain s stuck f f j → length j ≡ n → ComesFirst k j) → IsFirstCircle s stuck f k
  first_by_length n least k chain long first =
      let shortest : (j : List Participant) → IsChain s stuck f f j → length k ≤ length j =
      λ j other. (let e = least (length j) (chain_leads f j other) in omega arith) in (
        ((chain, all_different f k (chain, shortest)), λ j other. shortest j other.0),
        λ j other. first j other.0.0 (let a = shortest j other.0.0 in let b = other.1 k (chain, all_different f k (chain, shortest)) in omega arith),
      )

module _ (s : TraceState) (stuck : ℕ → Bool) (f : Participant) (lawful : IsLawfulState s) (up : Ascends s.list) where
  -- the first chain of a length
  first_chain : (n : ℕ) (t : Participant) → leads s stuck f n t ≡ true →
      (l : List Participant) × IsChain s stuck f t l × (length l ≡ n) × ((k : List Participant) → IsChain s stuck f t k → length k ≡ n → ComesFirst l k)
  first_chain zero t is = ([], is, refl, λ k chain e. tt)
  first_chain (suc n) t is =
      let m = first_that (λ u. stops s stuck u t && leads s stuck f n u) s.list up is in
      let parts = and_parts (stops s stuck m.0 t) (leads s stuck f n m.0) m.1.1 in
      let rest = first_chain n m.0 parts.1 in
      (m.0 ∷ rest.0, (m.1.0, parts.0, rest.1), ap suc rest.2, first m.0 m.1.2 rest.0 rest.3)
    where
      first : (c : Participant) →
          ((y : Participant) → Contains s.list y → (stops s stuck y t && leads s stuck f n y) ≡ true → (c.number < y.number) ⊎ (c ≡ y)) →
          (l : List Participant) → ((k : List Participant) → IsChain s stuck f c k → length k ≡ n → ComesFirst l k) →
          (k : List Participant) → IsChain s stuck f t k → length k ≡ suc n → ComesFirst (c ∷ l) k
      first c low l later [] chain e = absurd (omega arith)
      first c low l later (d ∷ k) chain e =
          let same : length k ≡ n = omega arith in
          let goes = subst (λ j. leads s stuck f j d ≡ true) same (chain_leads s stuck f d k chain.2) in
          elim (low d chain.0 (and_from (stops s stuck d t) (leads s stuck f n d) chain.1 goes)) [
            | inl less ↦ inl less
            | inr is_d ↦ inr (ap (λ (x : Participant). x.number) is_d, later k (subst (λ x. IsChain s stuck f x k) (sym is_d) chain.2) same)
          ]

  -- there is a first circle, or no circle
  circle_or_none : ((k : List Participant) × IsFirstCircle s stuck f k) ⊎ ((l : List Participant) → IsCircle s stuck f l → ⊥)
  circle_or_none = elim (least_below (λ n. leads s stuck f n f) (suc (length s.list))) [
    | inl found ↦ inl (let m = first_chain found.0 f found.1 in (m.0, first_by_length s stuck f found.0 found.3 m.0 m.1 m.2 m.3))
    | inr none ↦ inr (λ l circle. true≢false (sym (chain_leads s stuck f f l circle.0) ∙ none (length l) (let e = circle_le s stuck f l circle in omega arith)))
  ]

  -- two chains of which each comes first are the same
  same_chain : (t u : Participant) (l k : List Participant) → IsChain s stuck f t l → IsChain s stuck f u k → length l ≡ length k → ComesFirst l k → ComesFirst k l → l ≡ k
  same_chain t u [] [] one other long first second = refl
  same_chain t u [] (d ∷ k) one other long first second = absurd (omega arith)
  same_chain t u (c ∷ l) [] one other long first second = absurd (omega arith)
  same_chain t u (c ∷ l) (d ∷ k) one other long first second = elim first [
    | inl less ↦ absurd (elim second [ inl more ↦ (omega arith) | inr equal ↦ (let e = equal.0 in omega arith) ])
    | inr same ↦ elim second [
      | inl more ↦ absurd (let e = same.0 in omega arith)
      | inr back ↦
          (let e = lawful.one_number c d one.0 other.0 same.0 in
          let rest = same_chain c d l k one.2 other.2 (omega arith) same.1 back.1 in
          subst (λ x. c ∷ l ≡ x ∷ k) e (ap (λ x. c ∷ x) rest))
    ]
  ]

  one_circle : (l k : List Participant) → IsFirstCircle s stuck f l → IsFirstCircle s stuck f k → l ≡ k
  one_circle l k one other =
      same_chain f f l k one.0.0.0 other.0.0.0
      (let a = one.0.1 k other.0.0 in let b = other.0.1 l one.0.0 in omega arith)
      (one.1 k other.0) (other.1 l one.0)

pub has_one_circle : HasOneCircle
has_one_circle h stuck f others more one other = one_circle (after_lines h) stuck f (lawful_lines h) (numbers_ascend h) others more one other

pub first_circle_or_none :
    (h : List TraceLine) (stuck : ℕ → Bool) (f : Participant) →
    ((k : List Participant) × IsFirstCircle (after_lines h) stuck f k) ⊎ ((l : List Participant) → IsCircle (after_lines h) stuck f l → ⊥)
first_circle_or_none h stuck f = circle_or_none (after_lines h) stuck f (lawful_lines h) (numbers_ascend h)

pub has_some_circle : HasSomeCircle
has_some_circle h stuck f others circle = elim (first_circle_or_none h stuck f) [
  | inl first ↦ first
  | inr none ↦ absurd (none others circle)
]
