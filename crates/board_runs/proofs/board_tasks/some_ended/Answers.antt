use Rattle.std.proofs.Common.{◌≡◌, ◌∙◌, length, get_or, sym, subst, arith}
use Rattle.std.specs.Prelude.{All}
use Rattle.std.proofs.lemmas.Bool.{false≢true}
use Rattle.std.proofs.lemmas.List.{take_all}
use Rattle.std.proofs.lemmas.List.Elements.{All-more}
use Rattle.board_runs.specs.calls.Turns.{ActsNoMore, Working}
use Rattle.board_runs.proofs.board_tasks.some_ended.Goals as goal

pub loop-task-preserved : goal.loop-task-preserved
loop-task-preserved c =
    let w : Working = c.task-item.result in
    let n = c.loop-task.task-index in
    let P : Working → Type 0 = λ task. ActsNoMore task.seat → ⊥ in
    let is : w ≡ get_or c.args.tasks.now n w = c.task-item.is in
    let here : P w = λ ended. false≢true (sym c.if-has_ended.false ∙ c.has_ended.ensures.1 ended) in
    All-more P c.args.tasks.now n w c.loop-task-test.true c.loop-task.invariant (subst P is here)

pub returns : goal.returns
returns c = λ none.
    let all : length c.args.tasks.now ≡ c.loop-task.task-index = (let l = c.loop-task-test.false in let m = c.loop-task.auto.task-index-end in omega arith) in
    subst (All (λ (task : Working). ActsNoMore task.seat → ⊥)) (take_all c.loop-task.task-index c.args.tasks.now (omega arith)) c.loop-task.invariant
