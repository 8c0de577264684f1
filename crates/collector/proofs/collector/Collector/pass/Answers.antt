use Rattle.std.proofs.Common.{◌≡◌, ◌<◌, ◌∙◌, List, Bool, ap, arith, length, subst, sym, vec_len}
use Rattle.std.specs.Prelude.{All}
use Rattle.armus_base.specs.declared.ids.TaskId.{TaskId}
use Rattle.armus_base.specs.declared.event.Event.{Event}
use Rattle.armus_base.specs.declared.status.Status.{Status}
use Rattle.armus_base.specs.DeadLists.{IsDeadList}
use Rattle.armus_base.specs.Deadlocks.{IsListedOn}
use Rattle.collector.specs.inside.Names.{AreFresh}
use Rattle.collector.specs.calls.Passes.{NamesToo, Watch}
use Rattle.collector.proofs.Verdicts.{pass_listed, pass_settled, pass_verdict, pass_within}
use Rattle.collector.proofs.collector.Collector.pass.Goals as goal

pub fresh-requires-clause-listed : goal.fresh-requires-clause-listed
fresh-requires-clause-listed c =
    let list = c.collect.new.self.statuses in
    let dead = c.in_ok-dead.dead in
    let first = c.as_slice.ensures.items ∙ c.in_ok-list.ensures.statuses in
    let second = c.as_slice-2.ensures.items ∙ c.in_ok-list.ensures.statuses in
    let are = subst (λ (xs : List Status). IsDeadList xs dead) first c.in_ok-dead.ensures in
    let all = pass_listed c.args.board.now c.args.view.now c.collect.new.by list c.requires.made c.collect.ensures.collected dead are in
    subst (λ (xs : List TaskId). All (λ t. (e : Event) × IsListedOn c.as_slice-2.result.now t.0 e) xs) (sym c.as_slice-3.ensures.items)
    (subst (λ (xs : List Status). All (λ t. (e : Event) × IsListedOn xs t.0 e) dead) (sym second) all)

pub fresh-requires-clause-tasks : goal.fresh-requires-clause-tasks
fresh-requires-clause-tasks c =
    let list = c.collect.new.self.statuses in
    let dead = c.in_ok-dead.dead in
    let first = c.as_slice.ensures.items ∙ c.in_ok-list.ensures.statuses in
    let are = subst (λ (xs : List Status). IsDeadList xs dead) first c.in_ok-dead.ensures in
    let all = pass_within c.args.board.now c.args.view.now c.collect.new.by list c.requires.made c.collect.ensures.collected dead are in
    let tasks = ap (λ (w : Watch). w.tasks) c.self.view_is ∙ c.requires.tasks in
    let count : length c.deref.result.now ≡ length c.args.board.now.plan.parents =
    (let value = ap length c.deref.ensures.value in let counted : vec_len c.self.inside.names ≡ length c.self.inside.names.items = c.self.inside.names.ok.0 in let kept = c.self.invariant in omega arith) in
    subst (λ (xs : List TaskId). All (λ t. t.0 < length c.deref.result.now) xs) (sym c.as_slice-3.ensures.items)
    (subst (λ n. All (λ t. t.0 < n) dead) (sym count) all)

pub name-requires : goal.name-requires
name-requires c =
    let list = c.collect.new.self.statuses in
    let dead = c.in_ok-dead.dead in
    let first = c.as_slice.ensures.items ∙ c.in_ok-list.ensures.statuses in
    let are = subst (λ (xs : List Status). IsDeadList xs dead) first c.in_ok-dead.ensures in
    let all = pass_within c.args.board.now c.args.view.now c.collect.new.by list c.requires.made c.collect.ensures.collected dead are in
    let count : vec_len c.self.inside.names ≡ length c.args.board.now.plan.parents = c.self.invariant ∙ ap (λ (w : Watch). w.tasks) c.self.view_is ∙ c.requires.tasks in
    record {
      tasks = subst (λ (xs : List TaskId). All (λ t. t.0 < vec_len c.self.inside.names) xs) (sym c.as_slice-4.ensures.items)
          (subst (λ n. All (λ t. t.0 < n) dead) (sym count) all);
    }

pub returns-clause-pass : goal.returns-clause-pass
returns-clause-pass c =
    let list = c.collect.new.self.statuses in
    let dead = c.in_ok-dead.dead in
    let fresh = c.in_ok-fresh.fresh in
    let first = c.as_slice.ensures.items ∙ c.in_ok-list.ensures.statuses in
    let second = c.as_slice-2.ensures.items ∙ c.in_ok-list.ensures.statuses in
    let names = c.deref.ensures.value ∙ ap (λ (w : Watch). w.names) c.self.view_is in
    let are = subst (λ (xs : List Status). IsDeadList xs dead) first c.in_ok-dead.ensures in
    let new = subst (λ (ns : List Bool). AreFresh ns list dead fresh) names
    (subst (λ (xs : List Status). AreFresh c.deref.result.now xs dead fresh) second
    (subst (λ (ts : List TaskId). AreFresh c.deref.result.now c.as_slice-2.result.now ts fresh) c.as_slice-3.ensures.items c.in_ok-fresh.ensures)) in
    record {
      verdict = pass_verdict c.args.board.now c.args.view.now c.collect.new.by list c.requires.made c.collect.ensures.collected
          c.args.self.now.names (record { dead = dead; fresh = fresh }) are new;
      named = subst (λ (ts : List TaskId). NamesToo ts c.args.self.now.names c.name.new.names.items) c.as_slice-4.ensures.items
          (subst (λ (ns : List Bool). NamesToo c.as_slice-4.result.now ns c.name.new.names.items) (ap (λ (w : Watch). w.names) c.self.view_is) c.name.ensures.named);
      settled_dead = pass_settled c.args.board.now c.args.view.now c.collect.new.by list c.requires.made c.collect.ensures.collected dead are;
    }
