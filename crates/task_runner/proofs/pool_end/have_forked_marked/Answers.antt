use Rattle.std.proofs.Common.{◌≡◌, ◌∙◌, ◌<◌, List, length, get_or, sym, ap, subst, arith}
use Rattle.std.specs.Prelude.{All, unwrap_or}
use Rattle.std.proofs.lemmas.List.Elements.{All-more}
use Rattle.std.proofs.lemmas.List.{take_all}
use Rattle.armus_base.specs.declared.op.Op.{Op}
use Rattle.armus_base.specs.Plans.{code_of}
use Rattle.pl_core.specs.declared.place.Place.{Place as KeptPlace}
use Rattle.board_runs.specs.calls.Turns.{Working}
use Rattle.board_runs.specs.calls.TaskSeats.{done_of, own_number}
use Rattle.task_runner.specs.inside.Pooled.{AreForksMarked}
use Rattle.task_runner.proofs.pool_end.have_forked_marked.Goals as goal

pub cursor-cursor-requires : goal.cursor-cursor-requires
cursor-cursor-requires c =
    let w : Working = c.task-item.result in
    let is : w ≡ get_or c.args.tasks.now c.loop-task.task-index w = c.task-item.is in
    let inside : own_number w < length c.args.plan.now.parents =
    subst (λ (v : Working). own_number v < length c.args.plan.now.parents) (sym is) (c.requires.within c.loop-task.task-index w c.loop-task-test.true) in
    let here : c.id.result.0 ≡ own_number w = sym (ap (λ o. unwrap_or o 0) c.id.ensures) in
    record { task = omega arith }

pub loop-task-preserved : goal.loop-task-preserved
loop-task-preserved c =
    let w : Working = c.task-item.result in
    let n = c.loop-task.task-index in
    let P : Working → Type 0 = λ task. AreForksMarked (code_of c.args.plan.now (own_number task)) (done_of task) c.args.marks.now in
    let is : w ≡ get_or c.args.tasks.now n w = c.task-item.is in
    let named : c.id.result.0 ≡ own_number w = sym (ap (λ o. unwrap_or o 0) c.id.ensures) in
    let here : P w =
    subst (λ d. AreForksMarked (code_of c.args.plan.now (own_number w)) d c.args.marks.now) (ap (λ (p : KeptPlace). p.events) c.place.ensures)
    (subst (λ (ops : List Op). AreForksMarked ops c.place.result.events c.args.marks.now)
    (c.cursor-cursor.ensures.code ∙ ap (code_of c.args.plan.now) named) (c.are_forks_marked.ensures c.if-not-are_forks_marked.false)) in
    All-more P c.args.tasks.now n w c.loop-task-test.true c.loop-task.invariant (subst P is here)

pub returns : goal.returns
returns c = λ yes.
    let all : length c.args.tasks.now ≡ c.loop-task.task-index = (let l = c.loop-task-test.false in let m = c.loop-task.auto.task-index-end in omega arith) in
    subst (All (λ (task : Working). AreForksMarked (code_of c.args.plan.now (own_number task)) (done_of task) c.args.marks.now))
    (take_all c.loop-task.task-index c.args.tasks.now (omega arith)) c.loop-task.invariant
