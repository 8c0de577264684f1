use Rattle.std.proofs.Common.{◌≡◌, ℕ, ◌-◌, ◌<◌, List, length, arith, refl, ◌∙◌, take, drop, true, false, get_or, length-set, length-drop}
use Rattle.std.proofs.lemmas.List.{take_all, get_or_default}
use Rattle.std.proofs.lemmas.Result.{IfOk-weaker}
use Rattle.armus_base.specs.Relations.{IsWalkCycle}
use Rattle.armus_base.proofs.WalkCycles.{walk_more, walk_done, set_flags}
use Rattle.digraph.proofs.SearchSteps.{read_at}
use Rattle.digraph.proofs.cycle.walk_cycle.Goals as goal

pub walk-preserved : goal.walk-preserved
walk-preserved c =
    let inv = c.walk.invariant in
    let lt : c.walk.node < length c.walk.seen.items = rw inv.sized inv.inside in
    let unseen = read_at c.walk.seen.items c.walk.node c.index.result.now false lt c.index.ensures ∙ c.walk-test.true in
    record {
      walk = rw c.in_ok-push.ensures.items (walk_more _ _ _ _ inv.walk (get_or c.args.next.now c.walk.node 0) (λ m. let t = (inv.marks c.walk.node).1 m in cc) refl);
      marks = rw c.in_ok-push.ensures.items (set_flags _ _ _ lt inv.marks);
      inside = c.requires.inside c.walk.node 0 inv.inside;
      sized = length-set c.walk.seen.items c.walk.node true ∙ inv.sized;
    }

pub returns : goal.returns
returns c =
    let path : List ℕ = c.walk.path.items in
    let at : ℕ = c.place-at.result in
    let inside : at < length path = rw c.deref.ensures.value at c.place-at.ensures.inside in
    let there = rw c.deref.ensures.value at c.place-at.ensures.there in
    let all : take (length path - at) (drop at path) ≡ drop at path = take_all (length path - at) (drop at path) (omega (arith, length-drop at path)) in
    IfOk-weaker c.from_slice.result (λ v. v.items ≡ take (length c.deref-2.result.now - at) (drop at c.deref-2.result.now))
    (λ v. IsWalkCycle (λ a b. b ≡ get_or c.args.next.now a 0) c.args.start v.items)
    (λ v e. rw (e, c.deref-2.ensures.value, all) (walk_done _ _ _ _ c.walk.invariant.walk at inside (λ d. get_or_default path at d 0 inside ∙ there)))
    c.from_slice.ensures.items
