use Rattle.std.proofs.Common.{[], ◌∷◌, ◌++◌, ◌∙◌, All, List, sym, subst}
use Rattle.std.proofs.lemmas.Bool.{false≢true}
use Rattle.std.proofs.lemmas.List.Elements.{All-push}
use Rattle.std.specs.List.Sorted.{IsPermutation}
use Rattle.board_runs.specs.calls.Turns.{ActsNoMore, Working}
use Rattle.board_runs.proofs.Rejoining.{one_ends, one_lives}
use Rattle.board_runs.proofs.board_tasks.sort_out.Goals as goal

pub loop-task-preserved-in-Continue-1 : goal.loop-task-preserved-in-Continue-1
loop-task-preserved-in-Continue-1 c =
    let i = c.loop-task.invariant in
    let E : List Working = c.args.ended.now.items in
    let Y : List Working = c.loop-task.yielded ++ c.in-Some.task ∷ [] in
    record {
      same = subst (λ (ws : List Working). IsPermutation (E ++ Y) (c.loop-task.live.items ++ ws)) (sym c.in_ok-push.ensures.items) (one_ends E c.loop-task.yielded c.loop-task.live.items c.loop-task.ended.items c.in-Some.task i.same);
      ended =
          subst (λ (ws : List Working). All (λ (w : Working). ActsNoMore w.seat) ws) (sym c.in_ok-push.ensures.items)
          (All-push (λ (w : Working). ActsNoMore w.seat) c.loop-task.ended.items c.in-Some.task i.ended (c.has_ended.ensures.0 c.if-has_ended.true));
      live = i.live;
    }

pub loop-task-preserved : goal.loop-task-preserved
loop-task-preserved c =
    let i = c.loop-task.invariant in
    let E : List Working = c.args.ended.now.items in
    let Y : List Working = c.loop-task.yielded ++ c.in-Some.task ∷ [] in
    record {
      same = subst (λ (ws : List Working). IsPermutation (E ++ Y) (ws ++ c.loop-task.ended.items)) (sym c.in_ok-push-2.ensures.items) (one_lives E c.loop-task.yielded c.loop-task.live.items c.loop-task.ended.items c.in-Some.task i.same);
      ended = i.ended;
      live =
          subst (λ (ws : List Working). All (λ (w : Working). ActsNoMore w.seat → ⊥) ws) (sym c.in_ok-push-2.ensures.items)
          (All-push (λ (w : Working). ActsNoMore w.seat → ⊥) c.loop-task.live.items c.in-Some.task i.live
          (λ ended. false≢true (sym c.if-has_ended.false ∙ c.has_ended.ensures.1 ended)));
    }
