use Rattle.std.proofs.Common.{◌++◌, ◌<◌, [], add-one, length, set, get_or, take, sym, ap, ◌∙◌, subst, arith}
use Rattle.std.proofs.lemmas.List.{flat_map_more, take_more}
use Rattle.std.proofs.lemmas.List.Elements.{Contains-get_or}
use Rattle.std.specs.List.{flat_map}
use Rattle.std.specs.Prelude.{All, Contains}
use Rattle.board_runs.specs.calls.Turns.{Working}
use Rattle.board_runs.specs.calls.Rounds.{fresh_of}
use Rattle.board_runs.specs.inside.Rounds.{IsAtStart}
use Rattle.board_runs.proofs.Emptying.{IsEmptiedUpTo, grows, none_yet, there, whole}
use Rattle.board_runs.proofs.board_tasks.new_tasks.Goals as goal

pub loop-task-init : goal.loop-task-init
loop-task-init c = (none_yet, c.new-children.ensures.items)

pub add_children-requires : goal.add_children-requires
add_children-requires c =
    let i = c.loop-task.invariant in
    let d = c.task-item.result in
    let n = c.loop-task.task-index in
    let l : n < length c.args.tasks.now = (let t = c.loop-task-test.true in let s = c.loop-task.auto.tasks in omega arith) in
    let start : All (IsAtStart c.args.plan.now) (get_or c.loop-task.tasks n d).children = λ k e less. c.requires.start (get_or (get_or c.loop-task.tasks n d).children k e) (
      get_or c.args.tasks.now n d,
      Contains-get_or c.args.tasks.now n d l,
      subst (λ (w : Working). Contains w.children (get_or (get_or c.loop-task.tasks n d).children k e)) (there d i.0) (Contains-get_or (get_or c.loop-task.tasks n d).children k e less),
    ) in record {
      first = λ k e less. (start k e less).0;
      plan = λ k e less. (start k e less).1;
    }

pub loop-task-preserved : goal.loop-task-preserved
loop-task-preserved c =
    let i = c.loop-task.invariant in
    let d = c.task-item.result in
    let n = c.loop-task.task-index in
    let s = c.loop-task.auto.tasks in
    let l : n < length c.args.tasks.now = (let t = c.loop-task-test.true in omega arith) in
    let m : n < length c.loop-task.tasks = (let t = c.loop-task-test.true in omega arith) in
    let made = c.in_ok-add_children.ensures in (
      subst (λ k. IsEmptiedUpTo k c.args.tasks.now (set c.loop-task.tasks n c.add_children.new.task)) (sym (add-one n)) (grows d c.add_children.new.task i.0 m made.task),
      made.children ∙ ap (λ xs. xs ++ fresh_of (get_or c.loop-task.tasks n d)) i.1
          ∙ ap (λ (w : Working). flat_map fresh_of (take n c.args.tasks.now) ++ fresh_of w) (there d i.0)
          ∙ flat_map_more fresh_of [] (take n c.args.tasks.now) (get_or c.args.tasks.now n d)
          ∙ ap (flat_map fresh_of) (sym (take_more c.args.tasks.now n d l)),
    )

pub returns-clause-tasks : goal.returns-clause-tasks
returns-clause-tasks c =
    whole c.loop-task.invariant.0 (let l = c.loop-task-test.false in let m = c.loop-task.auto.task-index-end in omega arith)
