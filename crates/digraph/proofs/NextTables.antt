-- Tables of each node's next one, and the walks by them.
use Rattle.std.proofs.Common.{◌≡◌, ℕ, ◌+◌, ◌<◌, List, [], ◌∷◌, ◌++◌, length, arith, sym, ◌∙◌, subst, inl, inr, get_or, length-append}
use Rattle.std.proofs.lemmas.Bool.{cases_eq}
use Rattle.std.proofs.lemmas.List.{get_or_append_left, get_or_push}
use Rattle.std.proofs.lemmas.List.Elements.{All-push}
use Rattle.armus_base.specs.Relations.{IsWalkCycle}
use Rattle.digraph.specs.inside.NextTables.{AreNext}
use Rattle.digraph.proofs.WalksAlong.{walk_along}

-- one more node
pub next_more : (S : ℕ → ℕ → Type 0) (m n : ℕ) (next : List ℕ) (b : ℕ) → AreNext S m n next → b < m → S n b → AreNext S m (n + 1) (next ++ b ∷ [])
next_more S m n next b h lt step =
    record {
      sized = omega (arith, length-append next (b ∷ []), h.sized);
      inside = All-push (λ x. x < m) next b h.inside lt;
      steps = λ k in'. elim (cases_eq k n) [
        | inl same ↦
            let e : get_or (next ++ b ∷ []) k 0 ≡ b = get_or_push next b 0 k (h.sized ∙ sym same) in
            subst (λ x. S k x) (sym e) (subst (λ j. S j b) (sym same) step)
        | inr ne ↦ subst (λ x. S k x) (sym (get_or_append_left next (b ∷ []) 0 k (omega (arith, h.sized)))) (h.steps k (omega arith))
      ];
    }

-- a walk by the table is one along Q, where steps along S from nodes that are on lead along Q to nodes that are on
pub walk_by_table :
    (S Q : ℕ → ℕ → Type 0) (On : ℕ → Type 0) (on : (a b : ℕ) → On a → S a b → Q a b × On b) (m : ℕ) (next : List ℕ) (start : ℕ) (cycle : List ℕ) →
    AreNext S m m next → start < m → On start → IsWalkCycle (λ a b. b ≡ get_or next a 0) start cycle → IsWalkCycle Q start cycle
walk_by_table S Q On on m next start cycle h lt first w =
    walk_along (λ a b. b ≡ get_or next a 0) Q (λ a. (a < m) × On a)
    (λ a b (in', here) e.
    let s : S a b = subst (λ x. S a x) (sym e) (h.steps a in') in
    let r = on a b here s in
    (r.0, (subst (λ x. x < m) (sym e) (h.inside a 0 (omega (arith, h.sized))), r.1)))
    start (lt, first) cycle w
