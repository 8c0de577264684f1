use Rattle.std.proofs.Common.{◌≡◌, length, ap, ◌∙◌}
use Rattle.std.proofs.lemmas.List.{length-map}
use Rattle.dep_state.specs.calls.Deps.{rows_of}
use Rattle.dep_state.specs.calls.Deps.{IsDepsOf}
use Rattle.dep_state.proofs.Made.{deps_of, impeders_inside}
use Rattle.dep_state.proofs.TaskPlaces.{tasks_ascend}
use Rattle.dep_state.proofs.WaitRows.{all_named_ascend}
use Rattle.dep_state.proofs.dep_state.DepState.of.Goals as goal

made :
    (c : goal.In_ok-impeding) →
    IsDepsOf c.args.list.now (record {
      tasks = c.in_ok-tasks.tasks.items;
      awaits = c.in_ok-awaits.awaits.items;
      events = c.in_ok-events.events.items;
      impeders = rows_of c.in_ok-impeders.impeders.items;
    })
made c =
    deps_of c.args.list.now _ c.requires c.in_ok-tasks.ensures c.in_ok-events.ensures (rw c.deref.ensures.value at c.in_ok-awaits.ensures)
    (rw c.deref-2.ensures.value at c.in_ok-impeders.ensures)

pub invariant_of-result : goal.invariant_of-result
invariant_of-result c =
    let is = made c in
    let named = rw (c.deref-3.ensures.value, c.deref-4.ensures.value) at c.in_ok-impeding.ensures in
    let up = tasks_ascend c.args.list.now c.requires _ is in (
      is.formed,
      named,
      up,
      all_named_ascend (record {
        tasks = c.in_ok-tasks.tasks.items;
        awaits = c.in_ok-awaits.awaits.items;
        events = c.in_ok-events.events.items;
        impeders = rows_of c.in_ok-impeders.impeders.items;
      }) _ is.formed is.ascend up named,
    )

pub returns : goal.returns
returns c = made c

pub all_names-requires : goal.all_names-requires
all_names-requires c =
    let n : length c.in_ok-tasks.tasks.items ≡ length c.args.list.now = ap length c.in_ok-tasks.ensures ∙ length-map c.args.list.now (λ s. s.t) in
    rw (c.deref-3.ensures.value, c.deref-4.ensures.value) (impeders_inside c.args.list.now c.deref-2.result.now _ c.in_ok-impeders.ensures _ n)
