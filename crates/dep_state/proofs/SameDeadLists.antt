-- Two ascending lists of tasks with the same elements are equal, so there is one list of the dead tasks.
use Rattle.std.proofs.Common.{◌≡◌, suc, ◌<◌, List, [], ◌∷◌, refl, sym, ap, ◌∙◌, inl, inr, arith, get_or}
use Rattle.std.specs.Prelude.{Contains, ◌↔◌}
use Rattle.armus_base.proofs.Elements.{nothing_in_nil}
use Rattle.armus_base.proofs.Elements.{Contains-head, Contains-tail, Contains-cons_cases}
use Rattle.armus_base.specs.declared.ids.TaskId.{TaskId}
use Rattle.dep_state.specs.calls.Picks.{Ascend}

head_below : (x : TaskId) (xs : List TaskId) (t : TaskId) → Ascend (x ∷ xs) → Contains xs t → x.0 < t.0
head_below x xs t up (k, lt, e) =
    let a : x.0 < (get_or xs k t).0 = up 0 (suc k) t (omega arith) (omega arith) in
    omega (arith, a, ap (λ z. z.0) e)

tail_up : (x : TaskId) (xs : List TaskId) → Ascend (x ∷ xs) → Ascend xs
tail_up x xs up i j d lt in' = up (suc i) (suc j) d (omega arith) (omega arith)

same_head : (x y : TaskId) (xs ys : List TaskId) → Ascend (x ∷ xs) → Ascend (y ∷ ys) → ((t : TaskId) → Contains (x ∷ xs) t ↔ Contains (y ∷ ys) t) → x ≡ y
same_head x y xs ys up up' same =
    elim (Contains-cons_cases y ys x ((same x).0 (Contains-head x xs))) [
      | inl e ↦ sym e
      | inr m ↦ elim (Contains-cons_cases x xs y ((same y).1 (Contains-head y ys))) [
        | inl e ↦ e
        | inr n ↦ absurd (omega (arith, head_below y ys x up' m, head_below x xs y up n))
      ]
    ]

rest_of : (x y : TaskId) (xs ys : List TaskId) → x ≡ y → Ascend (x ∷ xs) → ((t : TaskId) → Contains (x ∷ xs) t → Contains (y ∷ ys) t) → (t : TaskId) → Contains xs t → Contains ys t
rest_of x y xs ys e up to t m =
    elim (Contains-cons_cases y ys t (to t (Contains-tail x xs t m))) [
      | inl f ↦ absurd (omega (arith, head_below x xs t up m, ap (λ z. z.0) (e ∙ f)))
      | inr n ↦ n
    ]

pub same_ascending : (xs ys : List TaskId) → Ascend xs → Ascend ys → ((t : TaskId) → Contains xs t ↔ Contains ys t) → xs ≡ ys
same_ascending [] [] up up' same = refl
same_ascending [] (y ∷ ys) up up' same = absurd (nothing_in_nil y ((same y).1 (Contains-head y ys)))
same_ascending (x ∷ xs) [] up up' same = absurd (nothing_in_nil x ((same x).0 (Contains-head x xs)))
same_ascending (x ∷ xs) (y ∷ ys) up up' same =
    let e = same_head x y xs ys up up' same in
    let r = same_ascending xs ys (tail_up x xs up) (tail_up y ys up')
    (λ t. (rest_of x y xs ys e up (λ u m. (same u).0 m) t, rest_of y x ys xs (sym e) up' (λ u m. (same u).1 m) t)) in
    ap (λ z. z ∷ xs) e ∙ ap (λ zs. y ∷ zs) r
