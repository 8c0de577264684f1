use Rattle.std.proofs.Common.{◌∙◌, [], ◌∷◌, All, None, arith, length, length-append, subst, sym, ap}
use Rattle.std.proofs.lemmas.List.Elements.{All-push}
use Rattle.board.specs.calls.Seats.{IsNewSeat, Known}
use Rattle.board.specs.calls.Views.{seen}
use Rattle.task_runner.proofs.site_runs.split_views.Goals as goal

pub loop-preserved : goal.loop-preserved
loop-preserved c =
    let i = c.loop.invariant in
    let New = IsNewSeat c.args.board.now None (seen c.args.view.now.view) in
    let other = c.in_ok-other.other in
    record {
      same = c.split.ensures.seat ∙ i.same;
      count =
          (let grown = ap length c.in_ok-push.ensures.items in let one = length-append c.loop.views.items (other ∷ []) in let before = i.count in omega arith);
      new =
          subst (All New) (sym c.in_ok-push.ensures.items)
          (All-push New c.loop.views.items other i.new
          (subst (λ (k : Known). IsNewSeat c.args.board.now None (seen k.view) other) i.same c.in_ok-other.ensures.other));
    }

pub returns-clause-count : goal.returns-clause-count
returns-clause-count c = (let i = c.loop.invariant.count in let l = c.loop-test.false in let m = c.loop.auto.counter-end in omega arith)
