-- The order of lists of tasks: the shorter one is before, and of two that are as long the one with the less task where they first differ.
use Rattle.std.proofs.Common.{◌≡◌, ◌<◌, List, [], ◌∷◌, ◌++◌, length, length-append, arith, sym, ◌∙◌, ap, subst, refl, inl, inr}
use Rattle.std.proofs.lemmas.List.{append-nil}
use Rattle.armus_base.specs.declared.ids.TaskId.{TaskId}
use Rattle.explain_deadlock.specs.Circles.{HasLess, IsListedBefore, IsNoLater}

less_trans : (a b c : List TaskId) → HasLess a b → HasLess b c → HasLess a c
less_trans [] b c one two = absurd one
less_trans (x ∷ a) [] c one two = absurd one
less_trans (x ∷ a) (y ∷ b) [] one two = absurd two
less_trans (x ∷ a) (y ∷ b) (z ∷ c) one two =
    elim one [
      | inl less ↦ elim two [ inl also ↦ inl (omega arith) | inr (same, rest) ↦ inl (subst (λ (v : TaskId). x.0 < v.0) same less) ]
      | inr (same, rest) ↦ elim two [
        | inl also ↦ inl (subst (λ (v : TaskId). v.0 < z.0) (sym same) also)
        | inr (equal, others) ↦ inr (same ∙ equal, less_trans a b c rest others)
      ]
    ]

-- nothing is before itself
less_same : (a : List TaskId) → HasLess a a → ⊥
less_same [] is = absurd is
less_same (x ∷ a) is = elim is [ inl less ↦ omega arith | inr (same, rest) ↦ less_same a rest ]

pub before_same : (a : List TaskId) → IsListedBefore a a → ⊥
before_same a is = elim is [ inl less ↦ omega arith | inr (same, less) ↦ less_same a less ]

pub before_trans : (a b c : List TaskId) → IsListedBefore a b → IsListedBefore b c → IsListedBefore a c
before_trans a b c one two =
    elim one [
      | inl less ↦ elim two [ inl also ↦ inl (omega arith) | inr (same, rest) ↦ inl (omega arith) ]
      | inr (same, rest) ↦ elim two [ inl also ↦ inl (omega arith) | inr (equal, others) ↦ inr (same ∙ equal, less_trans a b c rest others) ]
    ]

pub no_later_trans : (a b c : List TaskId) → IsNoLater a b → IsNoLater b c → IsNoLater a c
no_later_trans a b c one two =
    elim one [
      | inl same ↦ subst (λ xs. IsNoLater xs c) (sym same) two
      | inr before ↦ elim two [ inl same ↦ inr (subst (λ xs. IsListedBefore a xs) same before) | inr also ↦ inr (before_trans a b c before also) ]
    ]

-- two lists of which none is later are one
pub no_later_same : (a b : List TaskId) → IsNoLater a b → IsNoLater b a → a ≡ b
no_later_same a b one two =
    elim one [
      | inl same ↦ same
      | inr before ↦ elim two [ inl same ↦ sym same | inr also ↦ absurd (before_same a (before_trans a b a before also)) ]
    ]

-- ---- with one more task behind

less_push : (a b : List TaskId) (x y : TaskId) → length a ≡ length b → HasLess a b → HasLess (a ++ x ∷ []) (b ++ y ∷ [])
less_push [] b x y sized is = absurd is
less_push (v ∷ a) [] x y sized is = absurd is
less_push (v ∷ a) (w ∷ b) x y sized is = elim is [ inl less ↦ inl less | inr (same, rest) ↦ inr (same, less_push a b x y (omega arith) rest) ]

less_last : (a : List TaskId) (x y : TaskId) → x.0 < y.0 → HasLess (a ++ x ∷ []) (a ++ y ∷ [])
less_last [] x y less = inl less
less_last (v ∷ a) x y less = inr (refl, less_last a x y less)

pub before_push : (a b : List TaskId) (x y : TaskId) → IsListedBefore a b → IsListedBefore (a ++ x ∷ []) (b ++ y ∷ [])
before_push a b x y is =
    let n = length-append a (x ∷ []) in
    let m = length-append b (y ∷ []) in
    elim is [ inl less ↦ inl (omega arith) | inr (same, less) ↦ inr (omega arith, less_push a b x y same less) ]

pub before_last : (a : List TaskId) (x y : TaskId) → x.0 < y.0 → IsListedBefore (a ++ x ∷ []) (a ++ y ∷ [])
before_last a x y less =
    let n = length-append a (x ∷ []) in
    let m = length-append a (y ∷ []) in
    inr (omega arith, less_last a x y less)

-- the list of nothing is before each other one
pub nothing_before : (a : List TaskId) (x : TaskId) → IsListedBefore [] (a ++ x ∷ [])
nothing_before a x = let n = length-append a (x ∷ []) in inl (omega arith)

pub no_later_push : (a b : List TaskId) (x : TaskId) → IsNoLater a b → IsNoLater (a ++ x ∷ []) (b ++ x ∷ [])
no_later_push a b x is = elim is [ inl same ↦ inl (ap (λ xs. xs ++ x ∷ []) same) | inr before ↦ inr (before_push a b x x before) ]

-- more tasks behind make a list later
pub no_later_more : (a b more : List TaskId) → IsNoLater a b → IsNoLater a (b ++ more)
no_later_more a b [] is = subst (λ xs. IsNoLater a xs) (sym (append-nil b)) is
no_later_more a b (x ∷ more) is =
    let n = length-append b (x ∷ more) in
    elim is [
      | inl same ↦ inr (inl (let m = ap length same in omega arith))
      | inr before ↦ elim before [ inl less ↦ inr (inl (omega arith)) | inr (same, less) ↦ inr (inl (omega arith)) ]
    ]

-- ---- with one more task in front

pub no_later_cons : (x : TaskId) (a b : List TaskId) → IsNoLater a b → IsNoLater (x ∷ a) (x ∷ b)
no_later_cons x a b is =
    elim is [
      | inl same ↦ inl (ap (λ xs. x ∷ xs) same)
      | inr before ↦ elim before [ inl less ↦ inr (inl (omega arith)) | inr (same, less) ↦ inr (inr (omega arith, inr (refl, less))) ]
    ]

pub nothing_no_later : (a : List TaskId) → IsNoLater [] a
nothing_no_later [] = inl refl
nothing_no_later (x ∷ a) = inr (inl (omega arith))
