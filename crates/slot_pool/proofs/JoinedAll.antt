-- One worker more is joined.
use Rattle.std.proofs.Common.{◌≡◌, ℕ, zero, suc, ◌<◌, List, [], ◌∷◌, ◌++◌, length, get_or, sym, refl, ap, ◌∙◌, subst, arith, length-append, inl, inr, ◌⊎◌}
use Rattle.std.specs.Prelude.{All, Any, Contains}
use Rattle.std.proofs.lemmas.List.{get_or_append_left}
use Rattle.std.proofs.lemmas.List.Elements.{All-contains, Contains-append_left, Contains-append_right, Contains-append_cases, Contains-push}
use Rattle.slot_pool.specs.declared.view.PoolView.{PoolView}
use Rattle.slot_pool.specs.inside.Gathering.{Gathers}
use Rattle.slot_pool.specs.calls.PoolValues.{WorkerValue, IsNumberOf}
use Rattle.slot_pool.specs.inside.Views.{joined}
use Rattle.slot_pool.proofs.Members.{contains_one}

-- one of a longer list is the first, or one of the others
module _ (P : WorkerValue → Type 0) where
  pub any_cases : (w : WorkerValue) (ws : List WorkerValue) → Any P (w ∷ ws) → P w ⊎ Any P ws
  any_cases w ws a = by_place a.0 a.2 a.3
    where
      by_place : (k : ℕ) → k < length (w ∷ ws) → get_or (w ∷ ws) k a.1 ≡ a.1 → P w ⊎ Any P ws
      by_place zero l e = inl (subst P (sym e) a.4)
      by_place (suc k) l e = inr (k, a.1, (omega arith), e, a.4)

  pub any_first : (w : WorkerValue) (ws : List WorkerValue) → P w → Any P (w ∷ ws)
  any_first w ws p = (0, w, (omega arith), refl, p)

  pub any_rest : (w : WorkerValue) (ws : List WorkerValue) → Any P ws → Any P (w ∷ ws)
  any_rest w ws a = (suc a.0, a.1, (let l = a.2 in omega arith), a.3, a.4)

  pub any_none : Any P [] → ⊥
  any_none a = absurd (let l = a.2 in omega arith)

-- what is true of all is true of the last and of the others
module _ (P : WorkerValue → Type 0) (all ws : List WorkerValue) (w : WorkerValue) (list : all ≡ ws ++ w ∷ []) (is_true : All P all) where
  pub all_last : P w
  all_last = All-contains P all w is_true (subst (λ xs. Contains xs w) (sym list) (Contains-push ws w))

  pub all_others : All P ws
  all_others k d l =
      let longer : k < length (ws ++ w ∷ []) = let e = length-append ws (w ∷ []) in omega arith in
      subst P (ap (λ xs. get_or xs k d) list ∙ get_or_append_left ws (w ∷ []) d k l) (is_true k d (subst (λ (xs : List WorkerValue). k < length xs) (sym list) longer))

pub no_items : {A : Type 0} (xs : List A) → length xs ≡ 0 → xs ≡ []
no_items [] e = refl
no_items (x ∷ xs) e = absurd (omega arith)

-- worker 0 is among these workers: it is the first of them, or one of the others
pub zero_cases : (w : WorkerValue) (ws : List WorkerValue) (k : ℕ) → w.view.numbers ≡ k ∷ [] → IsNumberOf (w ∷ ws) 0 → (k ≡ 0) ⊎ IsNumberOf ws 0
zero_cases w ws k mine a = elim (any_cases (λ (x : WorkerValue). Contains x.view.numbers 0) w ws a) [
  | inl c ↦ inl (sym (contains_one k 0 (subst (λ ns. Contains ns 0) mine c)))
  | inr b ↦ inr b
]

pub gathers_one : (w : WorkerValue) (v : PoolView) → v ≡ w.view → w.view.has ≡ [] → Gathers (w ∷ []) v
gathers_one w v is idle = subst (Gathers (w ∷ [])) (sym is) (record {
  numbers = λ k a. only (λ (x : WorkerValue). Contains x.view.numbers k) a;
  placed = λ t a. only (λ (x : WorkerValue). Contains x.view.placed t) a;
  no_more = λ t c. any_first (λ (x : WorkerValue). Contains x.view.placed t) w [] c;
  idle = idle;
})
  where
    only : (P : WorkerValue → Type 0) → Any P (w ∷ []) → P w
    only P a = elim (any_cases P w [] a) [
      | inl p ↦ p
      | inr n ↦ absurd (any_none P n)
    ]

pub gathers_more : (w : WorkerValue) (ws : List WorkerValue) (v now : PoolView) → now ≡ joined v w.view → Gathers ws v → Gathers (w ∷ ws) now
gathers_more w ws v now is g = subst (Gathers (w ∷ ws)) (sym is) (record {
  numbers = λ k a. elim (any_cases (λ (x : WorkerValue). Contains x.view.numbers k) w ws a) [
    | inl c ↦ Contains-append_right v.numbers w.view.numbers k c
    | inr b ↦ Contains-append_left v.numbers w.view.numbers k (g.numbers k b)
  ];
  placed = λ t a. elim (any_cases (λ (x : WorkerValue). Contains x.view.placed t) w ws a) [
    | inl c ↦ Contains-append_right v.placed w.view.placed t c
    | inr b ↦ Contains-append_left v.placed w.view.placed t (g.placed t b)
  ];
  no_more = λ t c. elim (Contains-append_cases v.placed w.view.placed t c) [
    | inl d ↦ any_rest (λ (x : WorkerValue). Contains x.view.placed t) w ws (g.no_more t d)
    | inr d ↦ any_first (λ (x : WorkerValue). Contains x.view.placed t) w ws d
  ];
  idle = g.idle;
})
