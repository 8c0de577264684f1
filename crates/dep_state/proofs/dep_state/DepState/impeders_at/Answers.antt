use Rattle.std.proofs.Common.{[], ◌<◌, length, arith}
use Rattle.std.proofs.lemmas.List.{length-map}
use Rattle.dep_state.proofs.TaskPlaces.{row_at}
use Rattle.dep_state.proofs.dep_state.DepState.impeders_at.Goals as goal

pub returns-clause-inside : goal.returns-clause-inside
returns-clause-inside c =
    let lt : c.args.event < length c.self.inside.impeders.items =
    omega (arith, rw (← c.self.view_is) at c.requires, c.self.invariant.0.impeders_sized, length-map c.self.inside.impeders.items (λ r. r.items)) in
    let row = row_at c.self.inside.impeders.items c.args.event c.index.result.now lt c.index.ensures in
    let all = c.self.invariant.0.tasks_inside c.args.event [] (rw length-map lt) in
    rw (← c.self.view_is, c.deref.ensures.value) (rw row at all)
