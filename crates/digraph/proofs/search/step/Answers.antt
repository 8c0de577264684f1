use Rattle.std.proofs.Common.{◌-◌, ◌<◌, length, arith, subst, ◌∙◌, set}
use Rattle.digraph.specs.calls.Graph.{graph_of}
use Rattle.digraph.specs.inside.Search.{IsSearch}
use Rattle.digraph.specs.declared.search.Mark.TheVariants.{Unvisited}
use Rattle.digraph.proofs.SearchSteps.{top_below, finish, look, go_on, cyclic, read_at}
use Rattle.digraph.proofs.search.step.Goals as goal

pub returns-in-None-clause-search : goal.returns-in-None-clause-search
returns-in-None-clause-search c =
    let top = rw c.deref.ensures.value at c.last-top.ensures in
    let none = rw c.deref-2.ensures.value at c.in-None.ensures.none in
    let took = rw c.args.stack.now.ok.0 at (c.pop.ensures.value 0 (omega (arith, c.args.stack.now.ok.0))) in
    finish _ _ _ _ c.requires.search c.requires.more c.pop.new.self.items c.last-top.result c.pop.result top c.pop.ensures.items took none

pub returns-in-Acyclic-clause-search : goal.returns-in-Acyclic-clause-search
returns-in-Acyclic-clause-search c =
    let top = rw c.deref.ensures.value at c.last-top.ensures in
    let ahead = rw c.deref-2.ensures.value at c.in-Some.ensures.some in
    let at = read_at c.args.marks.now.items c.in-Some.next c.index.result.now Unvisited (omega (arith, ahead.inside, c.requires.search.marks_sized)) c.index.ensures in
    let below = top_below _ _ _ _ c.requires.search c.requires.more in
    let lt : c.last-top.result < length c.args.left.now.items = rw (c.requires.search.left_sized, top) below in
    let e = read_at c.args.left.now.items c.last-top.result c.index_mut-in-Acyclic.result.now 0 lt c.index_mut-in-Acyclic.ensures.value in
    subst (λ k. IsSearch (graph_of c.args.rows.now) c.args.marks.now.items (set c.args.left.now.items c.last-top.result (k - 1)) c.args.stack.now.items) e
    (look _ _ _ _ c.requires.search c.requires.more c.last-top.result c.in-Some.next top ahead (at ∙ c.in-Acyclic.is))

pub returns-in_ok-push-in-Unvisited-clause-search : goal.returns-in_ok-push-in-Unvisited-clause-search
returns-in_ok-push-in-Unvisited-clause-search c =
    let top = rw c.deref.ensures.value at c.last-top.ensures in
    let ahead = rw c.deref-2.ensures.value at c.in-Some.ensures.some in
    rw c.in_ok-push-in-Unvisited.ensures.items (go_on _ _ _ _ c.requires.search c.requires.more c.last-top.result c.in-Some.next top ahead)

pub returns-in_default-clause-search : goal.returns-in_default-clause-search
returns-in_default-clause-search c =
    let top = rw c.deref.ensures.value at c.last-top.ensures in
    let ahead = rw c.deref-2.ensures.value at c.in-Some.ensures.some in
    let at = read_at c.args.marks.now.items c.in-Some.next c.index.result.now Unvisited (omega (arith, ahead.inside, c.requires.search.marks_sized)) c.index.ensures in
    let reach = cyclic _ _ _ _ c.requires.search c.requires.more c.last-top.result c.in-Some.next top ahead c.index.result.now at c.in_default.not-Unvisited
    c.in_default.not-Acyclic in
    rw c.mark_cyclic.ensures.empty (c.mark_cyclic.ensures.search _ _ c.requires.search reach)
