use Rattle.std.proofs.Common.{◌++◌, List, Result, Ok, Err, OnOk, subst}
use Rattle.std.specs.List.Sorted.{IsPermutation}
use Rattle.board_runs.specs.calls.Turns.{Working}
use Rattle.board_runs.proofs.Rejoining.{all_moved}
use Rattle.board_runs.proofs.board_tasks.retire.Goals as goal

when_ok : {A B : Type 0} (r : Result A B) (P Q : Type 0) → (P → Q) → OnOk r P → OnOk r Q
when_ok (Ok x) P Q f p = f p
when_ok (Err e) P Q f p = tt

pub returns-clause-same : goal.returns-clause-same
returns-clause-same c =
    let E : List Working = c.args.ended.now.items in
    let zs : List Working = c.sort_out.new.live.items ++ c.sort_out.new.ended.items in
    when_ok c.sort_out.result (IsPermutation (E ++ c.replace-tasks.result.items) zs) (IsPermutation (c.args.live.now.items ++ E) zs)
    (λ p. all_moved E c.args.live.now.items zs (subst (λ (ws : List Working). IsPermutation (E ++ ws) zs) (λ i. (c.replace-tasks.ensures.value i).items) p))
    c.sort_out.ensures.same
