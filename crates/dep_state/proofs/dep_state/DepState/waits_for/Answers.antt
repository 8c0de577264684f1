use Rattle.std.proofs.Common.{◌≡◌, ◌<◌, [], length, arith, ◌∙◌, sym, ap, get_or}
use Rattle.std.proofs.lemmas.List.{length-map, get_or-map, get_or_default}
use Rattle.armus_base.proofs.Elements.{nothing_in_nil}
use Rattle.dep_state.specs.inside.Names.{named}
use Rattle.dep_state.specs.calls.Deps.{rows_of}
use Rattle.dep_state.proofs.TaskPlaces.{row_at, task_stands, stands_task}
use Rattle.dep_state.proofs.WaitRows.{named_inside, row_is_waits}
use Rattle.dep_state.proofs.dep_state.DepState.waits_for.Goals as goal

pub returns-in-None-clause-pairs : goal.returns-in-None-clause-pairs
returns-in-None-clause-pairs c ss ok is b =
    let is' = rw (← c.self.view_is) at is in
    let none = rw c.deref.ensures.value at c.in-None.ensures in (
      λ m. absurd (nothing_in_nil b m),
      λ (s, (k, lt, e), st, rest).
          let there = stands_task ss ok _ is' k c.args.t (s, lt, e, st) in
          absurd (none (k, there.0, there.1)),
    )

-- the row that is answered is one of the names, and that of the event's place
module _ (c : goal.After-deref-in-Some) where
  place : c.in-Some.at < length c.self.inside.tasks.items
  place = (rw c.deref.ensures.value at c.in-Some.ensures).0

  awaits_inside : c.in-Some.at < length c.self.inside.awaits.items
  awaits_inside = omega (arith, c.self.invariant.0.awaits_sized, place)

  event_inside : c.index.result.now < length c.self.inside.events.items
  event_inside = rw c.index.ensures (c.self.invariant.0.events_inside c.in-Some.at c.index.result.now awaits_inside)

  row_inside : c.index.result.now < length (rows_of c.self.inside.impeders.items)
  row_inside = omega (arith, event_inside, c.self.invariant.0.impeders_sized)

  names_inside : c.index.result.now < length c.self.inside.impeding.items
  names_inside =
      omega (
        arith,
        row_inside,
        ap length c.self.invariant.1,
        length-map c.self.inside.impeding.items (λ r. r.items),
        length-map (rows_of c.self.inside.impeders.items) (named c.self.inside.tasks.items),
      )

  row : get_or (rows_of c.self.inside.impeding.items) c.index.result.now [] ≡ c.deref-in-Some.result.now
  row = row_at c.self.inside.impeding.items c.index.result.now c.index-in-Some.result.now names_inside c.index-in-Some.ensures ∙ sym c.deref-in-Some.ensures.value

  named_row : c.deref-in-Some.result.now ≡ named c.self.inside.tasks.items (get_or (rows_of c.self.inside.impeders.items) c.index.result.now [])
  named_row =
      sym row ∙ ap (λ xs. get_or xs c.index.result.now []) c.self.invariant.1 ∙
      get_or-map (named c.self.inside.tasks.items) (rows_of c.self.inside.impeders.items) c.index.result.now [] [] row_inside

pub returns-in-Some-clause-ascends : goal.returns-in-Some-clause-ascends
returns-in-Some-clause-ascends c = rw (← row c) (c.self.invariant.3 c.index.result.now [] (rw length-map (names_inside c)))

pub returns-in-Some-clause-inside : goal.returns-in-Some-clause-inside
returns-in-Some-clause-inside c =
    rw (← c.self.view_is, named_row c) (named_inside c.self.inside.tasks.items _ (c.self.invariant.0.tasks_inside c.index.result.now [] (row_inside c)))

pub returns-in-Some-clause-pairs : goal.returns-in-Some-clause-pairs
returns-in-Some-clause-pairs c ss ok is b =
    let is' = rw (← c.self.view_is) at is in
    let there = rw c.deref.ensures.value at c.in-Some.ensures in
    let stands = task_stands ss ok _ is' c.in-Some.at c.args.t there.0 (there.1 c.args.t) in
    let at : get_or c.self.inside.awaits.items c.in-Some.at 0 ≡ c.index.result.now = get_or_default c.self.inside.awaits.items c.in-Some.at 0 c.index.result.now
    (awaits_inside c) ∙ sym c.index.ensures in
    let is_waits = row_is_waits ss ok _ is' c.in-Some.at c.args.t stands b in
    rw (named_row c) (rw at at is_waits)
