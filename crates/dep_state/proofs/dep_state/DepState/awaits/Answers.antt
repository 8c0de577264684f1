use Rattle.std.proofs.Common.{◌∙◌, sym, ap, get_or}
use Rattle.std.proofs.lemmas.List.{get_or_default}
use Rattle.dep_state.proofs.EventPlaces.{awaited_at}
use Rattle.dep_state.proofs.TaskPlaces.{task_stands, stands_task}
use Rattle.dep_state.proofs.dep_state.DepState.awaits.Goals as goal

pub returns-in-None : goal.returns-in-None
returns-in-None c ss ok is s (k, lt, e) st =
    let is' = rw (← c.self.view_is) at is in
    let there = stands_task ss ok _ is' k c.args.t (s, lt, e, st) in
    let none = rw c.deref.ensures.value at c.in-None.ensures in
    none (k, there.0, there.1)

pub returns-in-Some : goal.returns-in-Some
returns-in-Some c ss ok is =
    let is' = rw (← c.self.view_is) at is in
    let there = rw c.deref.ensures.value at c.in-Some.ensures in
    let (s, lt, here, st) = task_stands ss ok _ is' c.in-Some.at c.args.t there.0 (there.1 c.args.t) in
    let place = awaited_at ss ok _ is' c.in-Some.at s lt here in
    let at = rw (← c.self.view_is) at c.awaits_at.ensures.event in
    let same = get_or_default c.self.inside.events.items (get_or c.self.inside.awaits.items c.in-Some.at 0) s.event c.index.result.now place.0 in
    (s, (c.in-Some.at, lt, here), st, sym place.1 ∙ same ∙ ap (λ i. get_or c.self.inside.events.items i c.index.result.now) (sym at) ∙ sym c.index.ensures)
