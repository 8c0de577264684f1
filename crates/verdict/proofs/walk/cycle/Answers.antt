use Rattle.armus_base.specs.declared.ids.TaskId.{TaskId}
use Rattle.verdict.specs.calls.Cycles.{IsCycleOf}
use Rattle.verdict.proofs.Verdicts.{dead_stands, first_dead, places_inside, cycle_of, some_dead, placed}
use Rattle.verdict.proofs.DeadPlaces.{flag_dead, walkable}
use Rattle.verdict.proofs.Passes.{is_cycle}
use Rattle.verdict.proofs.walk.cycle.Goals as goal

pub status_place-start-requires : goal.status_place-start-requires
status_place-start-requires c = dead_stands _ _ (first_dead _ _ c.requires.dead _ (some_dead c.args.dead.now c.is_empty.result c.is_empty.ensures c.if-is_empty.false))

pub walk_dead-requires-clause-walkable : goal.walk_dead-requires-clause-walkable
walk_dead-requires-clause-walkable c =
    let flags = rw c.tasks.ensures.tasks at c.in_ok-flags.ensures in
    rw c.deref.ensures.value (walkable c.args.list.now c.requires.order _ c.in_ok-deps.ensures c.args.dead.now c.requires.dead _ flags)

pub walk_dead-requires-clause-dead : goal.walk_dead-requires-clause-dead
walk_dead-requires-clause-dead c =
    let lt = some_dead c.args.dead.now c.is_empty.result c.is_empty.ensures c.if-is_empty.false in
    let o : TaskId = record { 0 = 0 } in
    let by = first_dead _ _ c.requires.dead o lt in
    let (s, i, e) = dead_stands _ _ by in
    let at = placed c.args.list.now c.status_place-start.result _ c.status_place-start.ensures.inside c.status_place-start.ensures.there s in
    let flags = rw c.tasks.ensures.tasks at c.in_ok-flags.ensures in
    rw c.deref.ensures.value ((flag_dead c.args.list.now c.requires.order _ c.in_ok-deps.ensures c.args.dead.now c.requires.dead _ flags _ _ at).1 by)

pub made-requires : goal.made-requires
made-requires c =
    let lt = some_dead c.args.dead.now c.is_empty.result c.is_empty.ensures c.if-is_empty.false in
    let o : TaskId = record { 0 = 0 } in
    let (s, i, e) = dead_stands _ _ (first_dead _ _ c.requires.dead o lt) in
    let flags = rw c.tasks.ensures.tasks at c.in_ok-flags.ensures in
    rw c.deref-2.ensures.value
    (places_inside c.args.list.now c.requires.order _ c.in_ok-deps.ensures c.args.dead.now c.requires.dead _ flags s c.status_place-start.result
    c.status_place-start.ensures.inside _ (rw c.deref.ensures.value at c.in_ok-places.ensures))

found : (c : goal.After-drop-deps-inside-6) → IsCycleOf c.args.list.now c.args.dead.now c.in_ok-cycle.cycle
found c =
    let lt = some_dead c.args.dead.now c.is_empty.result c.is_empty.ensures c.if-is_empty.false in
    let o : TaskId = record { 0 = 0 } in
    let (s, i, e) = dead_stands _ _ (first_dead _ _ c.requires.dead o lt) in
    let flags = rw c.tasks.ensures.tasks at c.in_ok-flags.ensures in
    cycle_of c.args.list.now c.requires.order _ c.in_ok-deps.ensures c.args.dead.now c.requires.dead _ flags s c.status_place-start.result
    c.status_place-start.ensures.inside _ (rw c.deref.ensures.value at c.in_ok-places.ensures)
    o lt c.status_place-start.ensures.there c.in_ok-cycle.cycle (rw c.deref-2.ensures.value at c.in_ok-cycle.ensures)

pub returns-clause-cycle : goal.returns-clause-cycle
returns-clause-cycle c = found c

pub returns-clause-passes : goal.returns-clause-passes
returns-clause-passes c = is_cycle c.args.list.now c.requires.order c.args.dead.now c.in_ok-cycle.cycle (found c)
