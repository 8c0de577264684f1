-- Groups of tasks and wildcards by names.
use Rattle.std.proofs.Common.{◌≡◌, ℕ, ◌+◌, ◌<◌, true, false, Some, List, [], ◌∷◌, ◌++◌, length, get_or, take, sym, ◌∙◌, ap, subst, ◌⊎◌, inl, inr}
use Rattle.std.specs.Prelude.{Contains, bytes_eq, is_some}
use Rattle.std.specs.Map.{lookup}
use Rattle.std.proofs.lemmas.Bool.{cases_Bool, cond-true, cond-false}
use Rattle.std.proofs.lemmas.List.{take_more}
use Rattle.std.proofs.lemmas.List.Elements.{Contains-append_cases, Contains-append_left, Contains-append_right}
use Rattle.std.proofs.lemmas.Slice.Eq.{bytes_eq-Decides}
use Rattle.armus_base.proofs.Elements.{Contains-cons_cases, Contains-head, nothing_in_nil}
use Rattle.monitor_laws.specs.States.{Participant}
use Rattle.monitor_laws.specs.Faults.{phase_on}
use Rattle.monitor_search.specs.inside.Cascades.{AreOfList, HaveMembers}

-- one more in the group with a name
module _ (f g : List ℕ → List Participant) (name : List ℕ) (u : Participant) (own : g name ≡ f name ++ u ∷ []) (others : (q : List ℕ) → bytes_eq name q ≡ false → g q ≡ f q) where
  pub kept_added : (q : List ℕ) (v : Participant) → Contains (f q) v → Contains (g q) v
  kept_added q v within = elim (cases_Bool (bytes_eq name q)) [
    | inl same ↦
        (let e = (bytes_eq-Decides name q).0 same in
        subst (λ x. Contains (g x) v) e (subst (λ l. Contains l v) (sym own) (Contains-append_left (f name) (u ∷ []) v (subst (λ x. Contains (f x) v) (sym e) within))))
    | inr other ↦ subst (λ l. Contains l v) (sym (others q other)) within
  ]

  pub now_added : (q : List ℕ) → bytes_eq q name ≡ true → Contains (g q) u
  now_added q same =
      subst (λ x. Contains (g x) u) (sym ((bytes_eq-Decides q name).0 same)) (subst (λ l. Contains l u) (sym own) (Contains-append_right (f name) (u ∷ []) u (Contains-head u [])))

  from_added : (q : List ℕ) (v : Participant) → Contains (g q) v → Contains (f q) v ⊎ (u ≡ v)
  from_added q v within = elim (cases_Bool (bytes_eq name q)) [
    | inl same ↦
        (let e = (bytes_eq-Decides name q).0 same in
        elim (Contains-append_cases (f name) (u ∷ []) v (subst (λ l. Contains l v) own (subst (λ x. Contains (g x) v) (sym e) within))) [
          | inl old ↦ inl (subst (λ x. Contains (f x) v) e old)
          | inr new ↦ elim (Contains-cons_cases u [] v new) [ inl here ↦ inr here | inr there ↦ absurd (nothing_in_nil v there) ]
        ])
    | inr other ↦ inl (subst (λ l. Contains l v) (others q other) within)
  ]

  pub of_list_added : (list : List Participant) → Contains list u → AreOfList list f → AreOfList list g
  of_list_added list listed before v q within = elim (from_added q v within) [ inl old ↦ before v q old | inr new ↦ subst (Contains list) new listed ]

some_behind : (ms : List (List ℕ × ℕ)) (m : List ℕ × ℕ) (q : List ℕ) → is_some (lookup (bytes_eq q) (ms ++ m ∷ [])) ≡ true → (is_some (lookup (bytes_eq q) ms) ≡ true) ⊎ (bytes_eq q m.0 ≡ true)
some_behind [] m q some = elim (cases_Bool (bytes_eq q m.0)) [
  | inl on ↦ inr on
  | inr off ↦ absurd (let e = ap is_some (cond-false (bytes_eq q m.0) (Some m.1) (lookup (bytes_eq q) []) off) in cc)
]
some_behind (k ∷ ms) m q some = by_test (some_behind ms m q) (cases_Bool (bytes_eq q k.0))
  where
    by_test : (is_some (lookup (bytes_eq q) (ms ++ m ∷ [])) ≡ true → (is_some (lookup (bytes_eq q) ms) ≡ true) ⊎ (bytes_eq q m.0 ≡ true)) → ((bytes_eq q k.0 ≡ true) ⊎ (bytes_eq q k.0 ≡ false)) →
        (is_some (lookup (bytes_eq q) (k ∷ ms)) ≡ true) ⊎ (bytes_eq q m.0 ≡ true)
    by_test rest (inl on) = inl (ap is_some (cond-true (bytes_eq q k.0) (Some k.1) (lookup (bytes_eq q) ms) on))
    by_test rest (inr off) =
        elim (rest (sym (ap is_some (cond-false (bytes_eq q k.0) (Some k.1) (lookup (bytes_eq q) (ms ++ m ∷ [])) off)) ∙ some)) [
          | inl before ↦ inl (ap is_some (cond-false (bytes_eq q k.0) (Some k.1) (lookup (bytes_eq q) ms) off) ∙ before)
          | inr here ↦ inr here
        ]

pub some_more : (ms : List (List ℕ × ℕ)) (i : ℕ) (m : List ℕ × ℕ) (q : List ℕ) → i < length ms → m ≡ get_or ms i m → is_some (lookup (bytes_eq q) (take (i + 1) ms)) ≡ true →
    (is_some (lookup (bytes_eq q) (take i ms)) ≡ true) ⊎ (bytes_eq q m.0 ≡ true)
some_more ms i m q within is some =
    some_behind (take i ms) m q (sym (ap (λ l. is_some (lookup (bytes_eq q) l)) (take_more ms i m within ∙ ap (λ x. take i ms ++ x ∷ []) (sym is))) ∙ some)

-- one more of the list
pub members_more : (list : List Participant) (i : ℕ) (u : Participant) (f g : List ℕ → List Participant) → i < length list → u ≡ get_or list i u → HaveMembers (take i list) f →
    ((q : List ℕ) → is_some (phase_on u q) ≡ true → Contains (g q) u) → ((q : List ℕ) (v : Participant) → Contains (f q) v → Contains (g q) v) → HaveMembers (take (i + 1) list) g
members_more list i u f g within is before own others v q listed some =
    elim (Contains-append_cases (take i list) (u ∷ []) v (subst (λ l. Contains l v) (take_more list i u within ∙ ap (λ x. take i list ++ x ∷ []) (sym is)) listed)) [
      | inl old ↦ others q v (before v q old some)
      | inr new ↦ elim (Contains-cons_cases u [] v new) [
        | inl here ↦ subst (λ x. Contains (g q) x) here (own q (subst (λ (x : Participant). is_some (phase_on x q) ≡ true) (sym here) some))
        | inr there ↦ absurd (nothing_in_nil v there)
      ]
    ]
