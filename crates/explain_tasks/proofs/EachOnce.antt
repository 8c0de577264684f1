-- Each element of a list once, where a test tells which are equal.
use Rattle.std.proofs.Common.{◌≡◌, Bool, true, false, List, [], ◌∷◌, ◌++◌, sym, ◌∙◌, ap, subst, refl, inl, inr, ◌⊎◌}
use Rattle.std.specs.Prelude.{Contains, filter, if◌then◌else◌, not, ◌||◌}
use Rattle.std.specs.List.{list_any}
use Rattle.std.proofs.lemmas.Bool.{cases_Bool}
use Rattle.indexmap.specs.IndexSet.{insert_key}
use Rattle.indexmap.proofs.SetLemmas.{filter_keep, filter_skip}
use Rattle.armus_base.proofs.Elements.{Contains-cons_cases, Contains-head, Contains-tail, nothing_in_nil}
use Rattle.explain_tasks.specs.Groups.{each_once}
use Rattle.explain_tasks.proofs.Filters.{passed_from, passed_is}

module _ {A : Type 0} (same : A → A → Bool) (is : (a b : A) → same a b ≡ true → a ≡ b) (itself : (a : A) → same a a ≡ true) where
  -- what the test finds is an element
  pub any_has : (xs : List A) (y : A) → list_any (same y) xs ≡ true → Contains xs y
  any_has [] y e = absurd (cc)
  any_has (x ∷ xs) y e =
      elim (cases_Bool (same y x)) [
        | inl on ↦ subst (λ z. Contains (x ∷ xs) z) (sym (is y x on)) (Contains-head x xs)
        | inr off ↦ Contains-tail x xs y (any_has xs y (sym (ap (λ b. b || list_any (same y) xs) off) ∙ e))
      ]

  -- and an element is found
  pub has_any : (xs : List A) (y : A) → Contains xs y → list_any (same y) xs ≡ true
  has_any [] y m = absurd (nothing_in_nil y m)
  has_any (x ∷ xs) y m =
      elim (Contains-cons_cases x xs y m) [
        | inl e ↦ ap (λ b. b || list_any (same y) xs) (subst (λ z. same y z ≡ true) (sym e) (itself y))
        | inr n ↦ either (same y x) (list_any (same y) xs) (has_any xs y n)
      ]
    where
      either : (a b : Bool) → b ≡ true → (a || b) ≡ true
      either true b e = refl
      either false b e = e

  -- what is not equal one way is not the other way
  pub other_way : (x y : A) → same y x ≡ false → not (same x y) ≡ true
  other_way x y off =
      elim (cases_Bool (same x y)) [
        | inl on ↦ let e = is x y on in let t = subst (λ z. same z x ≡ true) e (itself x) in absurd (cc)
        | inr out ↦ ap not out
      ]

  -- an element that is there stays as it is, and a new one goes last
  pub insert_found : (xs : List A) (y : A) → list_any (same y) xs ≡ true → insert_key same xs y ≡ xs
  insert_found xs y e = ap (λ b. if b then xs else xs ++ y ∷ []) e

  pub insert_new : (xs : List A) (y : A) → list_any (same y) xs ≡ false → insert_key same xs y ≡ xs ++ y ∷ []
  insert_new xs y e = ap (λ b. if b then xs else xs ++ y ∷ []) e

  -- an element that is not among others is not found there
  pub not_found : (xs : List A) (y : A) → (Contains xs y → ⊥) → list_any (same y) xs ≡ false
  not_found xs y none = elim (cases_Bool (list_any (same y) xs)) [ inl on ↦ absurd (none (any_has xs y on)) | inr off ↦ off ]

  differ : (x y : A) → same y x ≡ false → x ≡ y → ⊥
  differ x y off e = let t = subst (λ z. same z x ≡ true) e (itself x) in cc

  -- an element that is put in, behind one that is there, of which no other stays
  step : (x y : A) (all : List A) → ((same y x ≡ true) ⊎ (same y x ≡ false)) → ((list_any (same y) all ≡ true) ⊎ (list_any (same y) all ≡ false))
      → x ∷ filter (λ z. not (same x z)) (insert_key same all y) ≡ insert_key same (x ∷ filter (λ z. not (same x z)) all) y
  step x y all (inl on) (inl old) =
      ap (λ zs. x ∷ filter (λ z. not (same x z)) zs) (insert_found all y old)
      ∙ sym (insert_found (x ∷ filter (λ z. not (same x z)) all) y (has_any (x ∷ filter (λ z. not (same x z)) all) y (subst (λ z. Contains (x ∷ filter (λ z. not (same x z)) all) z) (sym (is y x on)) (Contains-head x _))))
  step x y all (inl on) (inr new) =
      ap (λ zs. x ∷ filter (λ z. not (same x z)) zs) (insert_new all y new)
      ∙ ap (λ zs. x ∷ zs) (filter_skip (λ z. not (same x z)) all y (ap not (subst (λ z. same x z ≡ true) (sym (is y x on)) (itself x))))
      ∙ sym (insert_found (x ∷ filter (λ z. not (same x z)) all) y (has_any (x ∷ filter (λ z. not (same x z)) all) y (subst (λ z. Contains (x ∷ filter (λ z. not (same x z)) all) z) (sym (is y x on)) (Contains-head x _))))
  step x y all (inr off) (inl old) =
      ap (λ zs. x ∷ filter (λ z. not (same x z)) zs) (insert_found all y old)
      ∙ sym (insert_found (x ∷ filter (λ z. not (same x z)) all) y (has_any (x ∷ filter (λ z. not (same x z)) all) y
      (Contains-tail x _ y (passed_from (λ z. not (same x z)) all y (any_has all y old) (other_way x y off)))))
  step x y all (inr off) (inr new) =
      ap (λ zs. x ∷ filter (λ z. not (same x z)) zs) (insert_new all y new)
      ∙ ap (λ zs. x ∷ zs) (filter_keep (λ z. not (same x z)) all y (other_way x y off))
      ∙ sym (insert_new (x ∷ filter (λ z. not (same x z)) all) y (not_found (x ∷ filter (λ z. not (same x z)) all) y
      (λ m. elim (Contains-cons_cases x (filter (λ z. not (same x z)) all) y m) [
        | inl e ↦ differ x y off e
        | inr n ↦ let t = has_any all y (passed_is (λ z. not (same x z)) all y n).0 in absurd (cc)
      ])))

  -- one more element
  pub once_push : (xs : List A) (y : A) → each_once same (xs ++ y ∷ []) ≡ insert_key same (each_once same xs) y
  once_push [] y = refl
  once_push (x ∷ xs) y =
      ap (λ zs. x ∷ filter (λ z. not (same x z)) zs) (once_push xs y)
      ∙ step x y (each_once same xs) (cases_Bool (same y x)) (cases_Bool (list_any (same y) (each_once same xs)))

  -- each element is one of those
  pub once_has : (xs : List A) (y : A) → Contains xs y → Contains (each_once same xs) y
  once_has [] y m = m
  once_has (x ∷ xs) y m =
      elim (Contains-cons_cases x xs y m) [
        | inl e ↦ subst (λ z. Contains (each_once same (x ∷ xs)) z) e (Contains-head x _)
        | inr n ↦ elim (cases_Bool (same y x)) [
          | inl on ↦ subst (λ z. Contains (each_once same (x ∷ xs)) z) (sym (is y x on)) (Contains-head x _)
          | inr off ↦ Contains-tail x _ y (passed_from (λ z. not (same x z)) (each_once same xs) y (once_has xs y n) (other_way x y off))
        ]
      ]

  -- no element is equal to one ahead of it
  abbrev pub AreOnce : List A → Type 0
  AreOnce [] = Unit {0}
  AreOnce (x ∷ xs) = ((z : A) → Contains xs z → same x z ≡ false) × AreOnce xs

  once_filter : (p : A → Bool) (xs : List A) → AreOnce xs → AreOnce (filter p xs)
  once_filter p [] o = o
  once_filter p (x ∷ xs) o = by (cases_Bool (p x)) (once_filter p xs o.1)
    where
      by : ((p x ≡ true) ⊎ (p x ≡ false)) → AreOnce (filter p xs) → AreOnce (filter p (x ∷ xs))
      by (inl on) rest = subst AreOnce (sym (ap (λ b. if b then x ∷ filter p xs else filter p xs) on)) ((λ z m. o.0 z (passed_is p xs z m).0), rest)
      by (inr off) rest = subst AreOnce (sym (ap (λ b. if b then x ∷ filter p xs else filter p xs) off)) rest

  pub are_once : (xs : List A) → AreOnce (each_once same xs)
  are_once [] = tt
  are_once (x ∷ xs) = (
    (λ z m. let off = (passed_is (λ z. not (same x z)) (each_once same xs) z m).1 in elim (cases_Bool (same x z)) [ inl on ↦ absurd (let t = ap not on in cc) | inr out ↦ out ]),
    once_filter (λ z. not (same x z)) (each_once same xs) (are_once xs),
  )
