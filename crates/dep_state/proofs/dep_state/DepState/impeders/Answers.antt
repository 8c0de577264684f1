use Rattle.std.proofs.Common.{◌≡◌, ◌<◌, [], length, arith, ◌∙◌, sym, ap, get_or}
use Rattle.std.specs.Prelude.{map}
use Rattle.std.proofs.lemmas.List.{length-map, get_or-map}
use Rattle.dep_state.specs.inside.Names.{named}
use Rattle.dep_state.specs.calls.Deps.{rows_of}
use Rattle.dep_state.proofs.NamedTasks.{named_impeders}
use Rattle.dep_state.proofs.TaskPlaces.{row_at}
use Rattle.dep_state.proofs.dep_state.DepState.impeders.Goals as goal

pub returns : goal.returns
returns c ss ok is =
    let is' = rw (← c.self.view_is) at is in
    let at = c.event_place-at.result in
    let inside = rw c.deref.ensures.value at c.event_place-at.ensures.inside in
    let there = rw c.deref.ensures.value at c.event_place-at.ensures.there in
    let found = named_impeders ss ok _ is' at c.args.e (inside, there) in
    let n = ap length c.self.invariant.1 in
    let lt : at < length (rows_of c.self.inside.impeders.items) = omega (arith, c.self.invariant.0.impeders_sized) in
    let lt' : at < length c.self.inside.impeding.items =
    omega (arith, n, length-map c.self.inside.impeding.items (λ r. r.items), length-map (rows_of c.self.inside.impeders.items) (named c.self.inside.tasks.items)) in
    let row = row_at c.self.inside.impeding.items at c.index.result.now lt' c.index.ensures in
    let named_row : get_or (map (named c.self.inside.tasks.items) (rows_of c.self.inside.impeders.items)) at [] ≡ named c.self.inside.tasks.items
    (get_or (rows_of c.self.inside.impeders.items) at []) =
    get_or-map (named c.self.inside.tasks.items) (rows_of c.self.inside.impeders.items) at [] [] lt in
    let items : c.deref-2.result.now ≡ named c.self.inside.tasks.items (get_or (rows_of c.self.inside.impeders.items) at []) =
    c.deref-2.ensures.value ∙ sym row ∙ ap (λ xs. get_or xs at []) c.self.invariant.1 ∙ named_row in
    rw items found
