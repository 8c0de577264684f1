use Rattle.std.proofs.Common.{◌≡◌, ◌<◌, ◌∙◌, ◌⊎◌, ◌++◌, ◌∷◌, [], ap, arith, length, inl, inr, subst, sym, List}
use Rattle.std.specs.Prelude.{All, Contains}
use Rattle.std.proofs.lemmas.List.Elements.{All-push, Contains-push}
use Rattle.armus_base.specs.declared.ids.TaskId.{TaskId}
use Rattle.order_graph.specs.calls.Orders.{IsTaskOf, successors_of}
use Rattle.order_graph.specs.calls.Waits.{Awaits}
use Rattle.order_graph.proofs.PairEdges.{HasOthersBelow, keeps_below_all, keeps_below_more, others_more, others_noted, own_pairs}
use Rattle.order_graph.proofs.following.drop_others.Goals.{Joined-not-keep_only, then-not-keep_only+in_ok-push, else-not-keep_only}
use Rattle.order_graph.proofs.following.drop_others.Goals as goal

module _ (c : Joined-not-keep_only) where
  abbrev t : TaskId
  t = record { 0 = c.loop-t.t }

  -- the task has all its pairs, or is noted beside those that were
  record IsNoted (behind : List TaskId) : Type 0 where
    tasks : All (IsTaskOf c.args.order.now) behind
    others : HasOthersBelow (Awaits c.args.waits.now) c.loop-t.t behind c.loop-t.order
    here : successors_of c.keep_only.new.self t ≡ c.own_set.result.now ⊎ Contains behind t

  noted : IsNoted c.if-not-keep_only.behind.items
  noted = elim c.if-not-keep_only.branch [
    | then-not-keep_only+in_ok-push w ↦
        let before = c.loop-t.behind.items in
        let more : c.if-not-keep_only.behind.items ≡ before ++ t ∷ [] = rw w.behind-is w.in_ok-push.ensures.items in
        subst IsNoted (sym more) (record {
          tasks = All-push (IsTaskOf c.args.order.now) before t c.loop-t.invariant.tasks (omega (arith, c.loop-t-test.true, c.tasks-t-end.ensures.tasks));
          others = others_noted (Awaits c.args.waits.now) c.loop-t.t t before c.loop-t.order c.loop-t.invariant.others;
          here = inr (Contains-push before t);
        })
    | else-not-keep_only w ↦
        subst IsNoted (sym (ap (λ b. b.items) w.behind-is)) (record {
          tasks = c.loop-t.invariant.tasks;
          others = c.loop-t.invariant.others;
          here = inl (c.keep_only.ensures.all w.if-not-keep_only.false);
        })
  ]

pub loop-t-preserved : goal.loop-t-preserved
loop-t-preserved c =
    let inv = c.loop-t.invariant in
    let kept = c.keep_only.ensures.kept in
    let w = c.args.waits.now in
    let inside : c.loop-t.t < length w.own.items = omega (arith, c.loop-t-test.true, c.tasks-t-end.ensures.tasks, c.requires.among.sized) in
    let own = own_pairs w (t c) inside c.own_set.result.now c.own_set.ensures in
    let is = noted c in
    record {
      order = c.keep_only.ensures.order;
      positions = kept.positions ∙ inv.positions;
      pairs = keeps_below_more (Awaits w) (t c) c.own_set.result.now c.args.order.now c.loop-t.order c.keep_only.new.self inv.pairs kept own;
      tasks = is.tasks;
      others = others_more (Awaits w) (t c) c.own_set.result.now c.if-not-keep_only.behind.items c.loop-t.order c.keep_only.new.self kept own is.others is.here;
    }

pub returns-clause-pairs : goal.returns-clause-pairs
returns-clause-pairs c =
    keeps_below_all (Awaits c.args.waits.now) c.loop-t.t c.args.order.now c.loop-t.order c.tasks-t-end.ensures.order (omega (arith, c.tasks-t-end.ensures.tasks))
    c.loop-t.invariant.positions c.loop-t.invariant.pairs

pub returns-clause-others : goal.returns-clause-others
returns-clause-others c a b p =
    c.loop-t.invariant.others a b (omega (arith, p.0, c.loop-t-test.false, c.loop-t.auto.t-end, c.tasks-t-end.ensures.tasks, c.requires.among.sized)) p
