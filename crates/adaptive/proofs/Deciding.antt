-- Whether something holds can be told: of both, of one of a list, and of how many there are.
use Rattle.std.proofs.Common.{◌≡◌, ℕ, ◌<◌, ◌≤◌, Bool, true, List, [], ◌∷◌, ◌++◌, length, refl, sym, ap, ◌∙◌, subst, ◌⊎◌, inl, inr, arith}
use Rattle.std.specs.Prelude.{Contains, ◌↔◌, map}
use Rattle.std.proofs.lemmas.Bool.{cases_Bool, cases_eq, cases_lt, false≢true}
use Rattle.std.proofs.lemmas.List.Elements.{Contains-append_left, Contains-append_right}
use Rattle.armus_base.specs.Counts.{IsDistinct, IsCount}
use Rattle.armus_base.proofs.Elements.{nothing_in_nil, Contains-head, Contains-tail, Contains-cons_cases}
use Rattle.dep_state.proofs.DeadSets.{Contains-map}

-- it holds, or it does not
abbrev pub Told : Type 0 → Type 0
Told P = P ⊎ (P → ⊥)

pub told_both : {P Q : Type 0} → Told P → Told Q → Told (P × Q)
told_both (inl p) (inl q) = inl (p, q)
told_both (inl p) (inr n) = inr (λ h. n h.1)
told_both (inr n) q = inr (λ h. n h.0)

pub told_same : {P Q : Type 0} → (P → Q) → (Q → P) → Told P → Told Q
told_same to back (inl p) = inl (to p)
told_same to back (inr n) = inr (λ q. n (back q))

pub told_less : (m n : ℕ) → Told (m < n)
told_less m n = elim (cases_lt m n) [ inl less ↦ inl less | inr more ↦ inr (λ less. absurd (omega arith)) ]

pub told_number : (m n : ℕ) → Told (m ≡ n)
told_number m n = cases_eq m n

pub told_true : (b : Bool) → Told (b ≡ true)
told_true b = elim (cases_Bool b) [ inl on ↦ inl on | inr off ↦ inr (λ on. false≢true (sym off ∙ on)) ]

-- an element of the list has P, or none has
pub told_some : {X : Type 0} (P : X → Type 0) → ((x : X) → Told (P x)) → (xs : List X) → Told ((x : X) × Contains xs x × P x)
told_some P tell [] = inr (λ (x, m, p). nothing_in_nil x m)
told_some P tell (x ∷ xs) =
    elim (tell x) [
      | inl p ↦ inl (x, Contains-head x xs, p)
      | inr n ↦ elim (told_some P tell xs) [
        | inl one ↦ let (y, m, p) = one in inl (y, Contains-tail x xs y m, p)
        | inr none ↦ inr (λ (y, m, p). elim (Contains-cons_cases x xs y m) [ inl e ↦ n (subst P (sym e) p) | inr l ↦ none (y, l, p) ])
      ]
    ]

-- the same where two things are asked of the element
pub told_some_both :
    {X : Type 0} (P Q : X → Type 0) → ((x : X) → Told (P x)) → ((x : X) → Told (Q x)) → (xs : List X) →
    Told ((x : X) × Contains xs x × P x × Q x)
told_some_both P Q tell ask xs =
    told_same (λ (x, m, h). (x, m, h.0, h.1)) (λ (x, m, p, q). (x, m, (p, q)))
    (told_some (λ x. P x × Q x) (λ x. told_both (tell x) (ask x)) xs)

-- an element stands in the list, or it does not
pub told_in : {X : Type 0} → ((a b : X) → Told (a ≡ b)) → (xs : List X) (x : X) → Told (Contains xs x)
told_in same xs x =
    told_same (λ (y, m, e). subst (λ z. Contains xs z) e m) (λ m. (x, m, refl)) (told_some (λ y. y ≡ x) (λ y. same y x) xs)

pub told_pair : {X Y : Type 0} → ((a b : X) → Told (a ≡ b)) → ((a b : Y) → Told (a ≡ b)) → (a b : X × Y) → Told (a ≡ b)
told_pair {X} {Y} same other a b =
    let join : (a.0 ≡ b.0) × (a.1 ≡ b.1) → a ≡ b =
    λ h. let left : X → X × Y = λ x. (x, a.1) in let right : Y → X × Y = λ y. (b.0, y) in ap left h.0 ∙ ap right h.1 in
    told_same join (λ e. (ap (λ z. z.0) e, ap (λ z. z.1) e)) (told_both (same a.0 b.0) (other a.1 b.1))

-- of all elements with P the one with the least key
module _ {X : Type 0} (key : X → ℕ) (P : X → Type 0) (tell : (x : X) → Told (P x)) where
  -- it has P, and no element of the list that has P is less
  pub record IsLeastOf (xs : List X) (y : X) : Type 0 where
    pub holds : P y
    pub least : (z : X) → Contains xs z → P z → key y ≤ key z

  pub least_or_none : (xs : List X) → ((y : X) × IsLeastOf xs y) ⊎ ((z : X) → Contains xs z → P z → ⊥)
  least_or_none [] = inr (λ z m p. nothing_in_nil z m)
  least_or_none (x ∷ xs) =
      elim (tell x) [
        | inr n ↦ elim (least_or_none xs) [
          | inl one ↦
              let (y, h) = one in
              inl (
                y,
                record {
                  holds = h.holds;
                  least = λ z m p. elim (Contains-cons_cases x xs z m) [ inl e ↦ absurd (n (subst P (sym e) p)) | inr l ↦ h.least z l p ];
                },
              )
          | inr none ↦ inr (λ z m p. elim (Contains-cons_cases x xs z m) [ inl e ↦ n (subst P (sym e) p) | inr l ↦ none z l p ])
        ]
        | inl p ↦ elim (least_or_none xs) [
          | inl one ↦
              let (y, h) = one in
              elim (cases_lt (key x) (key y)) [
                | inl less ↦ inl (
                  x,
                  record {
                    holds = p;
                    least = λ z m q. elim (Contains-cons_cases x xs z m) [ inl e ↦ omega (arith, ap key e) | inr l ↦ let k = h.least z l q in omega arith ];
                  },
                )
                | inr more ↦ inl (
                  y,
                  record {
                    holds = h.holds;
                    least = λ z m q. elim (Contains-cons_cases x xs z m) [ inl e ↦ omega (arith, ap key e) | inr l ↦ h.least z l q ];
                  },
                )
              ]
          | inr none ↦ inl (
            x,
            record {
              holds = p;
              least = λ z m q. elim (Contains-cons_cases x xs z m) [ inl e ↦ omega (arith, ap key e) | inr l ↦ absurd (none z l q) ];
            },
          )
        ]
      ]

-- the elements of a list that have P, once each
module _ {X : Type 0} (P : X → Type 0) (same : (a b : X) → Told (a ≡ b)) (tell : (x : X) → Told (P x)) where
  record Picked (xs : List X) : Type 0 where
    list : List X
    apart : IsDistinct list
    exact : (x : X) → Contains list x ↔ (Contains xs x × P x)

  one_more : (x : X) (xs : List X) (p : P x) (rest : Picked xs) → Told (Contains rest.list x) → Picked (x ∷ xs)
  one_more x xs p rest (inl there) =
      record {
        list = rest.list;
        apart = rest.apart;
        exact = λ y. (
          λ h. let (m, q) = (rest.exact y).0 h in (Contains-tail x xs y m, q),
          λ (m, q). elim (Contains-cons_cases x xs y m) [ inl e ↦ subst (λ z. Contains rest.list z) e there | inr l ↦ (rest.exact y).1 (l, q) ],
        );
      }
  one_more x xs p rest (inr new) =
      record {
        list = x ∷ rest.list;
        apart = (new, rest.apart);
        exact = λ y. (
          λ h. elim (Contains-cons_cases x rest.list y h) [
            | inl e ↦ (subst (λ z. Contains (x ∷ xs) z) e (Contains-head x xs), subst P e p)
            | inr l ↦ let (m, q) = (rest.exact y).0 l in (Contains-tail x xs y m, q)
          ],
          λ (m, q). elim (Contains-cons_cases x xs y m) [
            | inl e ↦ subst (λ z. Contains (x ∷ rest.list) z) e (Contains-head x rest.list)
            | inr l ↦ Contains-tail x rest.list y ((rest.exact y).1 (l, q))
          ],
        );
      }

  picked : (xs : List X) → Picked xs
  picked [] = record { list = []; apart = tt; exact = λ x. (λ h. absurd (nothing_in_nil x h), λ h. absurd (nothing_in_nil x h.0)) }
  picked (x ∷ xs) =
      let rest = picked xs in
      elim (tell x) [
        | inl p ↦ one_more x xs p rest (told_in same rest.list x)
        | inr n ↦ record {
          list = rest.list;
          apart = rest.apart;
          exact = λ y. (
            λ h. let (m, q) = (rest.exact y).0 h in (Contains-tail x xs y m, q),
            λ (m, q). elim (Contains-cons_cases x xs y m) [ inl e ↦ absurd (n (subst P (sym e) q)) | inr l ↦ (rest.exact y).1 (l, q) ],
          );
        }
      ]

  -- what stands in a list can be counted
  pub counted : (xs : List X) → ((x : X) → P x → Contains xs x) → (n : ℕ) × IsCount P n
  counted xs all =
      let h = picked xs in (
        length h.list,
        record { members = h.list; distinct = h.apart; exact = λ x. (λ m. ((h.exact x).0 m).1, λ p. (h.exact x).1 (all x p, p)); counted = refl },
      )

-- each of one list with each of another
pub pairs : {X Y : Type 0} → List X → List Y → List (X × Y)
pairs [] ys = []
pairs {X} {Y} (x ∷ xs) ys = map (λ y. (x, y)) ys ++ pairs xs ys

pub pairs-has : {X Y : Type 0} (xs : List X) (ys : List Y) (x : X) (y : Y) → Contains xs x → Contains ys y → Contains (pairs xs ys) (x, y)
unfolding pairs
pairs-has [] ys x y m n = absurd (nothing_in_nil x m)
pairs-has {X} {Y} (z ∷ xs) ys x y m n =
    let with : Y → X × Y = λ w. (z, w) in
    elim (Contains-cons_cases z xs x m) [
      | inl e ↦
          subst (λ w. Contains (map with ys ++ pairs xs ys) (w, y)) e (Contains-append_left (map with ys) (pairs xs ys) (z, y) (Contains-map with ys y n))
      | inr l ↦ Contains-append_right (map with ys) (pairs xs ys) (x, y) (pairs-has xs ys x y l n)
    ]
