-- The tasks whose answer is true are picked one after another.
use Rattle.std.proofs.Common.{◌≡◌, ℕ, suc, ◌+◌, ◌<◌, Bool, true, false, List, [], ◌∷◌, ◌++◌, Option, Some, None, length, refl, sym, ap, ◌∙◌, subst, inl, inr, arith, get_or}
use Rattle.std.specs.Prelude.{Contains, ◌↔◌, if◌then◌else◌, option_to_list, slice_get}
use Rattle.std.proofs.lemmas.List.{append-nil}
use Rattle.std.proofs.lemmas.Option.{slice_get-get_or}
use Rattle.std.proofs.lemmas.Bool.{cases_eq}
use Rattle.std.proofs.lemmas.List.{get_or_default}
use Rattle.std.proofs.lemmas.List.Elements.{Contains-append_left, Contains-push, Contains-push_cases, Contains-get_or}
use Rattle.std.proofs.lemmas.List.Quantifiers.{all_pairs_push}
use Rattle.armus_base.specs.declared.ids.TaskId.{TaskId}
use Rattle.armus_base.specs.Finals.{given_below}
use Rattle.dep_state.specs.calls.Picks.{Ascend, picked_at}

-- t stands at a place before n whose answer is true
abbrev pub IsPicked : List TaskId → List Bool → ℕ → TaskId → Type 0
IsPicked tasks answers n t = (k : ℕ) × (k < n) × (get_or answers k false ≡ true) × (get_or tasks k t ≡ t)

module _ (tasks : List TaskId) (answers : List Bool) (picked : List TaskId) (i : ℕ) where
  module _ (exact : (t : TaskId) → Contains picked t ↔ IsPicked tasks answers i t) where
    pub skip : get_or answers i false ≡ false → (t : TaskId) → Contains picked t ↔ IsPicked tasks answers (i + 1) t
    skip off t = (
      λ h. let (k, lt, a, e) = (exact t).0 h in (k, omega arith, a, e),
      λ (k, lt, a, e). elim (cases_eq k i) [
        | inl same ↦ absurd (let b = ap (λ j. get_or answers j false) same in cc)
        | inr ne ↦ (exact t).1 (k, omega arith, a, e)
      ],
    )

    module _ (x : TaskId) (is : get_or tasks i x ≡ x) (lt : i < length tasks) where
      pub pick : get_or answers i false ≡ true → (t : TaskId) → Contains (picked ++ x ∷ []) t ↔ IsPicked tasks answers (i + 1) t
      pick on t = (
        λ h. elim (Contains-push_cases picked x t h) [
          | inl l ↦ let (k, in', a, e) = (exact t).0 l in (k, omega arith, a, e)
          | inr same ↦ (i, omega arith, on, subst (λ z. get_or tasks i z ≡ z) same is)
        ],
        λ (k, in', a, e). elim (cases_eq k i) [
          | inl same ↦
              let here : x ≡ t = sym is ∙ get_or_default tasks i x t lt ∙ ap (λ j. get_or tasks j t) (sym same) ∙ e in
              subst (λ z. Contains (picked ++ x ∷ []) z) here (Contains-push picked x)
          | inr ne ↦ Contains-append_left picked (x ∷ []) t ((exact t).1 (k, omega arith, a, e))
        ],
      )

      pub pick_ascends : (Ascend tasks → Ascend picked) → Ascend tasks → Ascend (picked ++ x ∷ [])
      pick_ascends before up =
          all_pairs_push (λ c d. c.0 < d.0) picked x (before up) (λ k d in'.
          let (j, below, a, e) = (exact (get_or picked k d)).0 (Contains-get_or picked k d in') in
          let u = up j i x below lt in
          let v : get_or tasks j x ≡ get_or picked k d = get_or_default tasks j x (get_or picked k d) (omega arith) ∙ e in
          let m : (get_or tasks j x).0 ≡ (get_or picked k d).0 = ap (λ z. z.0) v in
          let n : (get_or tasks i x).0 ≡ x.0 = ap (λ z. z.0) is in
          omega arith)

one_more : {A : Type 0} (f : ℕ → Option A) (i : ℕ) → given_below f (i + 1) ≡ given_below f i ++ option_to_list (f i)
one_more f i = (let e : i + 1 ≡ suc i = omega arith in subst (λ n. given_below f n ≡ given_below f i ++ option_to_list (f i)) (sym e) refl)

-- the list of those picked below i, with one that is picked, and with one that is not
pub pick_list :
    (tasks : List TaskId) (answers : List Bool) (picked : List TaskId) (i : ℕ) (x : TaskId) → get_or tasks i x ≡ x → i < length tasks → get_or answers i false ≡ true →
    picked ≡ given_below (picked_at tasks answers) i → picked ++ x ∷ [] ≡ given_below (picked_at tasks answers) (i + 1)
pick_list tasks answers picked i x is lt on list =
    let here : picked_at tasks answers i ≡ Some x = ap (λ b. if b then slice_get tasks i else None) on ∙ slice_get-get_or tasks i x lt ∙ ap Some is in
    ap (λ xs. xs ++ x ∷ []) list ∙ sym (one_more (picked_at tasks answers) i ∙ ap (λ o. given_below (picked_at tasks answers) i ++ option_to_list o) here)

pub skip_list :
    (tasks : List TaskId) (answers : List Bool) (picked : List TaskId) (i : ℕ) → get_or answers i false ≡ false →
    picked ≡ given_below (picked_at tasks answers) i → picked ≡ given_below (picked_at tasks answers) (i + 1)
skip_list tasks answers picked i off list =
    let here : picked_at tasks answers i ≡ None = ap (λ b. if b then slice_get tasks i else None) off in
    list ∙ sym (append-nil (given_below (picked_at tasks answers) i)) ∙
    sym (one_more (picked_at tasks answers) i ∙ ap (λ o. given_below (picked_at tasks answers) i ++ option_to_list o) here)
