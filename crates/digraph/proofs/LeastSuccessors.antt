-- The least successor that reaches a cycle, by the answers of a search.
use Rattle.std.proofs.Common.{◌≡◌, ℕ, ◌<◌, Bool, true, false, List, [], length, get_or, set}
use Rattle.std.specs.Prelude.{All}
use Rattle.std.proofs.lemmas.List.Elements.{All-contains}
use Rattle.digraph.specs.calls.Graph.{HasEdge, TellsCycles}
use Rattle.digraph.specs.inside.Rows.{IsGraph}
use Rattle.digraph.specs.inside.Search.{row_of}
use Rattle.digraph.specs.calls.Cycle.{IsLeastSuccessor, IsLeastMarked}

module _ (g : List (List ℕ)) (answers : List Bool) (ok : IsGraph g) (tells : TellsCycles g answers) (node : ℕ) (lt : node < length g) where
  -- each successor is a node
  pub edge_inside : (b : ℕ) → HasEdge g node b → b < length g
  edge_inside b m = All-contains (λ x. x < length g) (row_of g node) b (ok node [] lt).1 m

  pub row_answers : All (λ b. b < length answers) (row_of g node)
  row_answers k d in' = rw tells.sized ((ok node [] lt).1 k d in')

  -- a node that reaches a cycle has a successor that does
  pub some_answer : get_or answers node false ≡ true → All (λ b. get_or answers b false ≡ false) (row_of g node) → ⊥
  some_answer on none =
      let (set, here, keeps) = (tells.sets node lt).0 on in
      let (b, edge, m) = keeps node here in
      let t = (tells.sets b (edge_inside b edge)).1 (set, m, keeps) in
      let f = All-contains (λ x. get_or answers x false ≡ false) (row_of g node) b none edge in
      cc

  pub step_from_least : (b : ℕ) → IsLeastMarked (row_of g node) answers b → IsLeastSuccessor g node b
  step_from_least b h =
      record {
        edge = h.there;
        reaches = (tells.cycles b (edge_inside b h.there)).0 h.marked;
        least = λ u edge r. h.least u edge ((tells.cycles u (edge_inside u edge)).1 r);
      }
