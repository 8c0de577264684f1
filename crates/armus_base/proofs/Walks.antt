-- Cycles that a walk reaches, against sets that it need not leave.
use Rattle.std.proofs.Common.{ℕ, zero, suc, List, [], ◌∷◌, ◌++◌, refl, sym, subst, inl, inr, arith}
use Rattle.std.specs.Prelude.{Contains}
use Rattle.std.proofs.lemmas.List.Elements.{Contains-append_left, Contains-append_right, Contains-append_cases}
use Rattle.armus_base.specs.calls.Relations.{Walk, ReachesCycle, IsInClosedSet}
use Rattle.armus_base.proofs.Elements.{Contains-head, Contains-tail, Contains-cons_cases}

module _ {X : Type 0} (R : X → X → Type 0) where
  -- a step before a node that reaches a cycle
  pub reaches_back : (a b : X) → R a b → ReachesCycle R b → ReachesCycle R a
  reaches_back a b r h = record { node = h.node; steps = suc h.steps; walk = (b, r, h.walk); more = h.more; cycle = h.cycle }

  -- one more step
  pub walk_push : (n : ℕ) (a b c : X) → Walk R n a b → R b c → Walk R (suc n) a c
  walk_push zero a b c e r = (c, subst (λ x. R x c) (sym e) r, refl)
  walk_push (suc n) a b c (d, s, w) r = (d, s, walk_push n d b c w r)

  -- a node with a walk back to it
  pub reaches_own : (n : ℕ) (a b : X) → Walk R n a b → R b a → ReachesCycle R a
  reaches_own n a b w r = record { node = a; steps = 0; walk = refl; more = n; cycle = walk_push n a b a w r }

  -- the nodes of a walk, but for its last
  nodes : (n : ℕ) (a b : X) → Walk R n a b → List X
  nodes zero a b w = []
  nodes (suc n) a b (c, r, w) = a ∷ nodes n c b w

  -- a walk starts in such a set
  first_in :
      (set : List X) (n : ℕ) (a b : X) (w : Walk R n a b) → ((x : X) → Contains (nodes n a b w) x → Contains set x) → Contains set b → Contains set a
  unfolding nodes
  first_in set zero a b e all end = subst (λ z. Contains set z) (sym e) end
  first_in set (suc n) a b (c, r, w) all end = all a (Contains-head a (nodes n c b w))

  -- each of them has a successor in any set that has them all and the walk's end
  nodes_keep :
      (set : List X) (n : ℕ) (a b : X) (w : Walk R n a b) → ((x : X) → Contains (nodes n a b w) x → Contains set x) → Contains set b →
      (x : X) → Contains (nodes n a b w) x → (y : X) × R x y × Contains set y
  unfolding nodes
  nodes_keep set zero a b w all end x (k, h, e) = absurd (omega arith)
  nodes_keep set (suc n) a b (c, r, w) all end x h =
      elim (Contains-cons_cases a (nodes n c b w) x h) [
        | inl e ↦ subst (λ z. (y : X) × R z y × Contains set y) e (c, r, first_in set n c b w (λ z m. all z (Contains-tail a (nodes n c b w) z m)) end)
        | inr m ↦ nodes_keep set n c b w (λ z l. all z (Contains-tail a (nodes n c b w) z l)) end x m
      ]

  -- the nodes on the way to a cycle and on the cycle are such a set
  pub closed_from_reaches : (a : X) → ReachesCycle R a → IsInClosedSet R a
  unfolding nodes
  closed_from_reaches a h =
      let way : List X = nodes h.steps a h.node h.walk in
      let round : List X = nodes (suc h.more) h.node h.node h.cycle in
      let on_cycle : Contains (way ++ round) h.node = Contains-append_right way round h.node (Contains-head h.node _) in
      let left : (x : X) → Contains way x → Contains (way ++ round) x = λ x m. Contains-append_left way round x m in
      let right : (x : X) → Contains round x → Contains (way ++ round) x = λ x m. Contains-append_right way round x m in (
        way ++ round,
        first_in (way ++ round) h.steps a h.node h.walk left on_cycle,
        λ x m.
            elim (Contains-append_cases way round x m) [
              | inl l ↦ nodes_keep (way ++ round) h.steps a h.node h.walk left on_cycle x l
              | inr r ↦ nodes_keep (way ++ round) (suc h.more) h.node h.node h.cycle right on_cycle x r
            ],
      )
