use Rattle.std.proofs.Common.{◌≡◌, false, List, Bor, sym, ◌∙◌, ap, subst, map}
use Rattle.std.specs.Prelude.{filter}
use Rattle.std.specs.List.{list_any}
use Rattle.monitor_laws.specs.States.{Participant}
use Rattle.monitor_laws.specs.Faults.{waits_now}
use Rattle.monitor_laws.specs.Lawful.{AreAscending}
use Rattle.monitor_state.proofs.Ascending.{ascending_filter}
use Rattle.monitor_search.specs.Known.{AreStuckTasks, known_task}
use Rattle.monitor_search.specs.inside.Partings.{referred}
use Rattle.monitor_search.proofs.Parted.{none_stuck, stuck_of_parting}
use Rattle.monitor_search.proofs.stuck.stuck_tasks.Goals as goal

pub returns-then-not-somebody_waits : goal.returns-then-not-somebody_waits
returns-then-not-somebody_waits c =
    let none : list_any (λ u. waits_now u.condition) c.args.state.now.list ≡ false =
    ap (λ (l : List Participant). list_any (λ u. waits_now u.condition) l) (sym c.participants.ensures.list) ∙ sym c.somebody_waits.ensures ∙ c.if-not-somebody_waits.true in
    subst (AreStuckTasks c.args.state.now) (sym c.none.ensures) (none_stuck c.args.state.now none)

pub returns : goal.returns
returns c =
    let parting = c.in_ok-parting.parting in
    let is : c.in_ok-known.known ≡ map known_task (filter (λ u. waits_now u.condition) (referred parting.inside.items)) =
    c.in_ok-known.ensures ∙ ap (λ (l : List (Bor Participant)). map known_task (filter (λ u. waits_now u.condition) (referred l))) c.deref.ensures.value in
    subst (AreStuckTasks c.args.state.now) (sym is)
    (stuck_of_parting c.args.state.now (referred parting.inside.items) (referred parting.outside.items) c.in_ok-parting.ensures.parting c.participants.ensures.lawful c.in_ok-parting.ensures.closed)

pub waiting_of-requires : goal.waiting_of-requires
waiting_of-requires c =
    let parting = c.in_ok-parting.ensures.parting in
    subst (λ (l : List (Bor Participant)). AreAscending (referred l)) (sym c.deref.ensures.value)
    (subst AreAscending (sym parting.chosen.1) (ascending_filter parting.chosen.0 c.args.state.now.list c.participants.ensures.ascending))
