use Rattle.std.proofs.Common.{◌≡◌, ◌<◌, List, [], ◌∷◌, ◌++◌, length, arith, subst, length-append, length-set, refl}
use Rattle.std.specs.Prelude.{All}
use Rattle.std.proofs.lemmas.List.Elements.{All-contains, Contains-push}
use Rattle.std.proofs.lemmas.List.{get_or_append_left}
use Rattle.armus_base.specs.calls.Relations.{ReachesCycle}
use Rattle.digraph.specs.calls.Graph.{HasEdge}
use Rattle.digraph.specs.inside.Search.{IsSearch, IsMarked}
use Rattle.digraph.specs.declared.search.Mark.TheVariants.{Cyclic, Unvisited}
use Rattle.digraph.proofs.SearchLemmas.{pop_step, at_set}
use Rattle.digraph.proofs.SearchSteps.{count_less}
use Rattle.digraph.proofs.search.mark_cyclic.Goals as goal

-- what is true of each element is true of each in the front
front : {X : Type 0} (P : X → Type 0) (xs ys : List X) (x : X) → xs ≡ ys ++ x ∷ [] → All P xs → All P ys
front P xs ys x e all k d lt =
    let all' = subst (All P) e all in
    subst P (get_or_append_left ys (x ∷ []) d k lt) (all' k d (omega (arith, length-append ys (x ∷ []))))

pub loop-v-preserved : goal.loop-v-preserved
loop-v-preserved c =
    let s = c.pop.new.self.items in
    let v = c.in-Some.v in
    let split : c.loop-v.stack.items ≡ s ++ v ∷ [] = c.in-Some.ensures.items in
    let below = All-contains (λ x. x < length c.loop-v.marks.items) (s ++ v ∷ []) v
    (subst (All (λ x. x < length c.loop-v.marks.items)) split c.loop-v.invariant.within) (Contains-push s v) in
    let less = count_less c.loop-v.marks.items v Cyclic Cyclic below refl in
    record {
      within = λ k d lt. rw length-set (front (λ x. x < length c.loop-v.marks.items) _ s v split c.loop-v.invariant.within k d lt);
      fewer = omega (arith, less, c.loop-v.invariant.fewer);
      stays = λ u old. at_set (λ w m. IsMarked c.loop-v.marks.items w → m ≡ Unvisited → ⊥) c.loop-v.marks.items v Cyclic Unvisited below (λ w _ h. h)
          (λ _ e. absurd cc) u (c.loop-v.invariant.stays u old);
      search = λ g left h all.
          let now = c.loop-v.invariant.search g left h all in
          let reach = All-contains (ReachesCycle (HasEdge g)) (s ++ v ∷ []) v (subst (All (ReachesCycle (HasEdge g))) split now.1) (Contains-push s v) in (
            pop_step g c.loop-v.marks.items left s v Cyclic (subst (IsSearch g c.loop-v.marks.items left) split now.0) (λ e. absurd cc) (λ _. reach) (λ e. absurd cc),
            front (ReachesCycle (HasEdge g)) _ s v split now.1,
          );
    }
