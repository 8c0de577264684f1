-- One more status in the list of those that impede an event.
use Rattle.std.proofs.Common.{◌≡◌, ℕ, ◌+◌, ◌<◌, List, [], ◌∷◌, ◌++◌, length, sym, ◌∙◌, subst, inl, inr, arith, get_or}
use Rattle.std.specs.Prelude.{Contains}
use Rattle.std.proofs.lemmas.Bool.{cases_eq}
use Rattle.std.proofs.lemmas.List.{get_or_default}
use Rattle.std.proofs.lemmas.List.Elements.{Contains-append_left, Contains-push, Contains-push_cases, All-push, All-weaker, All-contains}
use Rattle.std.proofs.lemmas.List.Quantifiers.{all_pairs_push}
use Rattle.armus_base.specs.declared.event.Event.{Event}
use Rattle.armus_base.specs.declared.status.Status.{Status}
use Rattle.armus_base.specs.Statuses.{Impedes}
use Rattle.dep_state.specs.inside.Made.{IsImpederRow}

module _ (ss : List Status) (e : Event) (k : ℕ) (row : List ℕ) (h : IsImpederRow ss e k row) (s : Status) (lt : k < length ss) (at : s ≡ get_or ss k s) where
  same : (v : Status) → get_or ss k v ≡ s
  same v = get_or_default ss k v s lt ∙ sym at

  pub row_more : Impedes s e → IsImpederRow ss e (k + 1) (row ++ k ∷ [])
  row_more p =
      record {
        ascends = all_pairs_push (λ i j. i < j) row k h.ascends h.below;
        below = All-push (λ i. i < k + 1) row k (All-weaker (λ i. i < k) (λ i. i < k + 1) (λ i l. omega arith) row h.below) (omega arith);
        exact = λ j v l.
            elim (cases_eq j k) [
              | inl f ↦ (λ _. subst (λ i. Impedes (get_or ss i v) e) (sym f) (rw (same v) p), λ _. subst (λ i. Contains (row ++ k ∷ []) i) (sym f) (Contains-push row k))
              | inr ne ↦ (
                λ c. elim (Contains-push_cases row k j c) [ inl m ↦ (h.exact j v (omega arith)).0 m | inr f ↦ absurd (ne (sym f)) ],
                λ q. Contains-append_left row (k ∷ []) j ((h.exact j v (omega arith)).1 q),
              )
            ];
      }

  pub row_same : (Impedes s e → ⊥) → IsImpederRow ss e (k + 1) row
  row_same off =
      record {
        ascends = h.ascends;
        below = All-weaker (λ i. i < k) (λ i. i < k + 1) (λ i l. omega arith) row h.below;
        exact = λ j v l.
            elim (cases_eq j k) [
              | inl f ↦ (
                λ c. absurd (let l = All-contains (λ i. i < k) row j h.below c in omega arith),
                λ q. absurd (off (subst (λ x. Impedes x e) (same v) (subst (λ i. Impedes (get_or ss i v) e) f q))),
              )
              | inr ne ↦ h.exact j v (omega arith)
            ];
      }
