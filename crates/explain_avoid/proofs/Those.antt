-- The tasks below a bound of which something holds, as an ascending list.
use Rattle.std.proofs.Common.{◌≡◌, ℕ, zero, suc, ◌+◌, ◌<◌, Bool, true, false, List, [], ◌∷◌, ◌++◌, add-one, ap, arith, get_or, inl, inr, refl, subst, sym}
use Rattle.std.specs.Prelude.{◌⊎◌, Contains, if◌then◌else◌}
use Rattle.std.proofs.lemmas.Bool.{cases_lt}
use Rattle.std.proofs.lemmas.List.{append-nil}
use Rattle.std.proofs.lemmas.List.Elements.{Contains-append_cases, Contains-append_left, Contains-append_right, Contains-get_or}
use Rattle.std.proofs.lemmas.List.Quantifiers.{all_pairs_push}
use Rattle.armus_base.specs.declared.ids.TaskId.{TaskId}
use Rattle.armus_base.proofs.Elements.{Contains-cons_cases, Contains-head, nothing_in_nil}
use Rattle.explain_avoid.specs.inside.Freed.{AreThoseBelow}

module _ (Holds : ℕ → Type 0) where
  pub none_below : AreThoseBelow Holds 0 []
  none_below = record {
    ascends = λ i j d l m. absurd (omega (arith, m));
    exact = λ u. (λ m. absurd (nothing_in_nil u m), λ is. absurd (omega (arith, is.0)));
  }

  module _ (n : ℕ) (tasks : List TaskId) (those : AreThoseBelow Holds n tasks) where
    abbrev next : TaskId
    next = record { 0 = n }

    -- one task more of which it holds
    one_more : Holds n → AreThoseBelow Holds (n + 1) (tasks ++ next ∷ [])
    one_more holds = record {
      ascends = all_pairs_push (λ (t u : TaskId). t.0 < u.0) tasks next those.ascends
          (λ k d l. ((those.exact (get_or tasks k d)).0 (Contains-get_or tasks k d l)).0);
      exact = λ u. (
        λ m. elim (Contains-append_cases tasks (next ∷ []) u m) [
          | inl before ↦ let is = (those.exact u).0 before in (omega (arith, is.0), is.1)
          | inr last ↦ elim (Contains-cons_cases next [] u last) [
            | inl same ↦
                let number : n ≡ u.0 = ap (λ (v : TaskId). v.0) same in
                (omega (arith, number), subst Holds number holds)
            | inr none ↦ absurd (nothing_in_nil u none)
          ]
        ],
        λ is. elim (cases_lt u.0 n) [
          | inl less ↦ Contains-append_left tasks (next ∷ []) u ((those.exact u).1 (less, is.1))
          | inr more ↦
              let number : n ≡ u.0 = omega (arith, is.0, more) in
              let task : ℕ → TaskId = λ k. record { 0 = k } in
              Contains-append_right tasks (next ∷ []) u
              (subst (λ (v : TaskId). Contains (next ∷ []) v) (ap task number) (Contains-head next []))
        ],
      );
    }

    -- one of which it does not
    no_more : (Holds n → ⊥) → AreThoseBelow Holds (n + 1) tasks
    no_more not = record {
      ascends = those.ascends;
      exact = λ u. (
        λ m. (let is = (those.exact u).0 m in (omega (arith, is.0), is.1)),
        λ is. elim (cases_lt u.0 n) [
          | inl less ↦ (those.exact u).1 (less, is.1)
          | inr more ↦
              let number : u.0 ≡ n = omega (arith, is.0, more) in
              absurd (not (subst Holds number is.1))
        ],
      );
    }

    pub those_more : (passes : Bool) → (passes ≡ true → Holds n) → (Holds n → passes ≡ true) →
        AreThoseBelow Holds (n + 1) (tasks ++ (if passes then next ∷ [] else []))
    those_more true on off = one_more (on refl)
    those_more false on off =
        subst (λ (xs : List TaskId). AreThoseBelow Holds (n + 1) xs) (sym (append-nil tasks)) (no_more (λ holds. absurd (let no = off holds in cc)))

  -- there are such tasks, where each can be tested
  pub those_exist : ((u : ℕ) → Holds u ⊎ (Holds u → ⊥)) → (n : ℕ) → (tasks : List TaskId) × AreThoseBelow Holds n tasks
  those_exist test zero = ([], none_below)
  those_exist test (suc n) =
      let before = those_exist test n in
      let task : TaskId = record { 0 = n } in
      subst (λ k. (tasks : List TaskId) × AreThoseBelow Holds k tasks) (add-one n)
      (elim (test n) [
        | inl holds ↦ (before.0 ++ task ∷ [], one_more n before.0 before.1 holds)
        | inr not ↦ (before.0, no_more n before.0 before.1 not)
      ])
