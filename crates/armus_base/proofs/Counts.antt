-- Counting: one more, the same along a correspondence, and that a property has one count.
use Rattle.std.proofs.Common.{◌≡◌, ℕ, zero, suc, ◌+◌, ◌≤◌, List, [], ◌∷◌, ◌++◌, length, refl, sym, ap, ◌∙◌, subst, ◌⊎◌, inl, inr, arith, length-append}
use Rattle.std.specs.Prelude.{Contains, ◌↔◌}
use Rattle.std.proofs.lemmas.List.Elements.{Contains-append_left, Contains-push, Contains-push_cases}
use Rattle.armus_base.specs.Counts.{IsDistinct, IsCount}
use Rattle.armus_base.proofs.Elements.{nothing_in_nil, Contains-head, Contains-tail, Contains-cons_cases}

pub count_none : {X : Type 0} (P : X → Type 0) → ((x : X) → P x → ⊥) → IsCount P 0
count_none P none = record { members = []; distinct = tt; exact = λ x. (λ h. absurd (nothing_in_nil x h), λ h. absurd (none x h)); counted = refl }

pub IsDistinct-push : {X : Type 0} (xs : List X) (x : X) → IsDistinct xs → (Contains xs x → ⊥) → IsDistinct (xs ++ x ∷ [])
IsDistinct-push [] x d new = (nothing_in_nil x, tt)
IsDistinct-push (y ∷ ys) x d new = (
  λ h. elim (Contains-push_cases ys x y h) [ inl l ↦ d.0 l | inr e ↦ new (subst (λ z. Contains (y ∷ ys) z) (sym e) (Contains-head y ys)) ],
  IsDistinct-push ys x d.1 (λ h. new (Contains-tail y ys x h)),
)

pub count_more : {X : Type 0} (P Q : X → Type 0) (n : ℕ) (x : X) → IsCount P n → (P x → ⊥) → ((y : X) → Q y ↔ (P y ⊎ (y ≡ x))) → IsCount Q (n + 1)
count_more P Q n x c new adds =
    record {
      members = c.members ++ x ∷ [];
      distinct = IsDistinct-push c.members x c.distinct (λ h. new ((c.exact x).0 h));
      exact = λ y. (
        λ h. (adds y).1 (elim (Contains-push_cases c.members x y h) [ inl l ↦ inl ((c.exact y).0 l) | inr e ↦ inr (sym e) ]),
        λ q. elim ((adds y).0 q) [
          | inl p ↦ Contains-append_left c.members (x ∷ []) y ((c.exact y).1 p)
          | inr e ↦ subst (λ z. Contains (c.members ++ x ∷ []) z) (sym e) (Contains-push c.members x)
        ],
      );
      counted = omega (arith, length-append c.members (x ∷ []), c.counted);
    }

pub count_same : {X : Type 0} (P Q : X → Type 0) (n : ℕ) → IsCount P n → ((y : X) → P y ↔ Q y) → IsCount Q n
count_same P Q n c same =
    record { members = c.members; distinct = c.distinct; exact = λ y. (λ h. (same y).0 ((c.exact y).0 h), λ q. (c.exact y).1 ((same y).1 q)); counted = c.counted }

-- a list without one of its elements
without : {X : Type 0} (x : X) (ys : List X) → Contains ys x → (zs : List X) × (length ys ≡ suc (length zs)) × ((z : X) → Contains ys z → (x ≡ z) ⊎ Contains zs z)
without x [] m = absurd (nothing_in_nil x m)
without x (y ∷ ys) (zero, lt, e) =
    (ys, refl, λ z m. elim (Contains-cons_cases y ys z m) [ inl f ↦ inl (sym e ∙ f) | inr l ↦ inr l ])
without x (y ∷ ys) (suc k, lt, e) =
    let (zs, n, keeps) = without x ys (k, omega arith, e) in (
      y ∷ zs,
      ap suc n,
      λ z m. elim (Contains-cons_cases y ys z m) [
        | inl f ↦ inr (subst (λ w. Contains (y ∷ zs) w) f (Contains-head y zs))
        | inr l ↦ elim (keeps z l) [ inl f ↦ inl f | inr h ↦ inr (Contains-tail y zs z h) ]
      ],
    )

-- distinct elements of a list are no more than the list has
pub distinct_le : {X : Type 0} (xs ys : List X) → IsDistinct xs → ((x : X) → Contains xs x → Contains ys x) → length xs ≤ length ys
distinct_le [] ys d all = omega arith
distinct_le (x ∷ xs) ys d all =
    let (zs, n, keeps) = without x ys (all x (Contains-head x xs)) in
    let le = distinct_le xs zs d.1 (λ z m. elim (keeps z (all z (Contains-tail x xs z m))) [
      | inl e ↦ absurd (d.0 (subst (λ w. Contains xs w) (sym e) m))
      | inr h ↦ h
    ]) in
    omega (arith, le, n)

pub count_le : {X : Type 0} (P Q : X → Type 0) (m n : ℕ) → IsCount P m → IsCount Q n → ((x : X) → P x → Q x) → m ≤ n
count_le P Q m n c d sub =
    omega (arith, distinct_le c.members d.members c.distinct (λ x h. (d.exact x).1 (sub x ((c.exact x).0 h))), c.counted, d.counted)

pub count_unique : {X : Type 0} (P : X → Type 0) (m n : ℕ) → IsCount P m → IsCount P n → m ≡ n
count_unique P m n c d = omega (arith, count_le P P m n c d (λ x h. h), count_le P P n m d c (λ x h. h))

-- the images of distinct elements under a correspondence
record Along {X Y : Type 0} (Q : X → Y → Type 0) (xs : List X) : Type 0 where
  list : List Y
  sized : length list ≡ length xs
  apart : IsDistinct list
  has : (x : X) → Contains xs x → (y : Y) × Contains list y × Q x y
  from : (y : Y) → Contains list y → (x : X) × Contains xs x × Q x y

along :
    {X Y : Type 0} (Q : X → Y → Type 0) (xs : List X) → IsDistinct xs → ((x z : X) (y : Y) → Q x y → Q z y → x ≡ z) →
    ((x : X) → Contains xs x → (y : Y) × Q x y) → Along Q xs
along Q [] d one all =
    record { list = []; sized = refl; apart = tt; has = λ x h. absurd (nothing_in_nil x h); from = λ y h. absurd (nothing_in_nil y h) }
along {X} {Y} Q (x ∷ xs) d one all =
    let (y, q) = all x (Contains-head x xs) in
    let rest = along Q xs d.1 one (λ z m. all z (Contains-tail x xs z m)) in
    record {
      list = y ∷ rest.list;
      sized = ap suc rest.sized;
      apart = (λ h. let (z, m, p) = rest.from y h in d.0 (subst (λ w. Contains xs w) (one z x y p q) m), rest.apart);
      has = λ z m. elim (Contains-cons_cases x xs z m) [
        | inl e ↦ subst (λ w. (v : Y) × Contains (y ∷ rest.list) v × Q w v) e (y, Contains-head y rest.list, q)
        | inr l ↦ let (v, i, p) = rest.has z l in (v, Contains-tail y rest.list v i, p)
      ];
      from = λ v m. elim (Contains-cons_cases y rest.list v m) [
        | inl e ↦ subst (λ w. (u : X) × Contains (x ∷ xs) u × Q u w) e (x, Contains-head x xs, q)
        | inr l ↦ let (u, i, p) = rest.from v l in (u, Contains-tail x xs u i, p)
      ];
    }

-- a count is the same along a correspondence of P's things with S's
pub count_along :
    {X Y : Type 0} (P : X → Type 0) (S : Y → Type 0) (Q : X → Y → Type 0) (n : ℕ) → IsCount P n →
    ((x z : X) (y : Y) → Q x y → Q z y → x ≡ z) → ((x : X) (y z : Y) → Q x y → Q x z → y ≡ z) →
    ((x : X) → P x → (y : Y) × Q x y × S y) → ((y : Y) → S y → (x : X) × Q x y × P x) → IsCount S n
count_along {X} {Y} P S Q n c one other to back =
    let im = along Q c.members c.distinct one (λ x m. let (y, q, s) = to x ((c.exact x).0 m) in (y, q)) in
    record {
      members = im.list;
      distinct = im.apart;
      exact = λ y. (
        λ h. let (x, m, q) = im.from y h in let (z, p, s) = to x ((c.exact x).0 m) in subst S (other x z y p q) s,
        λ s. let (x, q, p) = back y s in let (z, m, r) = im.has x ((c.exact x).1 p) in subst (λ w. Contains im.list w) (other x z y r q) m,
      );
      counted = im.sized ∙ c.counted;
    }
