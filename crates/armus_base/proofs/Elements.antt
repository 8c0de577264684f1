-- What a list contains, and what holds of two lists, place by place.
use Rattle.std.proofs.Common.{◌≡◌, zero, suc, List, [], ◌∷◌, ◌++◌, refl, subst, ◌⊎◌, inl, inr, arith}
use Rattle.std.specs.Prelude.{Contains, map}
use Rattle.std.specs.List.{AllZip}

pub nothing_in_nil : {X : Type 0} (x : X) → Contains [] x → ⊥
nothing_in_nil x (k, lt, e) = omega arith

pub Contains-head : {X : Type 0} (x : X) (xs : List X) → Contains (x ∷ xs) x
Contains-head x xs = (0, omega arith, refl)

pub Contains-tail : {X : Type 0} (y : X) (xs : List X) (x : X) → Contains xs x → Contains (y ∷ xs) x
Contains-tail y xs x (k, h, e) = (suc k, omega arith, e)

pub Contains-cons_cases : {X : Type 0} (y : X) (xs : List X) (x : X) → Contains (y ∷ xs) x → (y ≡ x) ⊎ Contains xs x
Contains-cons_cases y xs x (zero, h, e) = inl e
Contains-cons_cases y xs x (suc k, h, e) = inr (k, omega arith, e)

pub in_map : {X Y : Type 0} (g : X → Y) (xs : List X) (x : X) → Contains xs x → Contains (map g xs) (g x)
in_map g [] x i = absurd (nothing_in_nil x i)
in_map g (y ∷ xs) x i = elim (Contains-cons_cases y xs x i) [
  | inl here ↦ subst (λ z. Contains (map g (y ∷ xs)) (g z)) here (Contains-head (g y) (map g xs))
  | inr there ↦ Contains-tail (g y) (map g xs) (g x) (in_map g xs x there)
]

pub from_map : {X Y : Type 0} (g : X → Y) (xs : List X) (y : Y) → Contains (map g xs) y → (x : X) × Contains xs x × (g x ≡ y)
from_map g [] y i = absurd (nothing_in_nil y i)
from_map g (x ∷ xs) y i = elim (Contains-cons_cases (g x) (map g xs) y i) [
  | inl here ↦ (x, Contains-head x xs, here)
  | inr there ↦ (let r = from_map g xs y there in (r.0, Contains-tail x xs r.0 r.1, r.2))
]

module _ {X Y : Type 0} (R : X → Y → Type 0) where
  pub AllZip-append : (xs more : List X) (ys others : List Y) → AllZip R xs ys → AllZip R more others → AllZip R (xs ++ more) (ys ++ others)
  AllZip-append [] more [] others a b = b
  AllZip-append [] more (y ∷ ys) others a b = absurd a
  AllZip-append (x ∷ xs) more [] others a b = absurd a
  AllZip-append (x ∷ xs) more (y ∷ ys) others a b = (a.0, AllZip-append xs more ys others a.1 b)

  -- where each has one, a list has one
  pub one_zip : ((x : X) (y z : Y) → R x y → R x z → y ≡ z) → (xs : List X) (ys zs : List Y) → AllZip R xs ys → AllZip R xs zs → ys ≡ zs
  one_zip one [] [] [] a b = refl
  one_zip one [] (y ∷ ys) zs a b = absurd a
  one_zip one [] [] (z ∷ zs) a b = absurd b
  one_zip one (x ∷ xs) [] zs a b = absurd a
  one_zip one (x ∷ xs) (y ∷ ys) [] a b = absurd b
  one_zip one (x ∷ xs) (y ∷ ys) (z ∷ zs) a b =
      let first = one x y z a.0 b.0 in
      let others = one_zip one xs ys zs a.1 b.1 in
      cc
