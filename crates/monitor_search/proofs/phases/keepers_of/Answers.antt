use Rattle.std.proofs.Common.{◌&&◌, ◌==◌, List, Bor, ◌∙◌, ap}
use Rattle.std.specs.List.{list_any}
use Rattle.monitor_laws.specs.States.{Participant, is_live_task}
use Rattle.monitor_laws.specs.Stuck.{has_phase_below}
use Rattle.monitor_search.specs.inside.Partings.{referred}
use Rattle.monitor_search.proofs.KeptByTable.{keeps_same}
use Rattle.monitor_search.proofs.References.{any_referred}
use Rattle.monitor_search.proofs.phases.keepers_of.Goals as goal

pub returns : goal.returns
returns c =
    let parting = c.args.parting.now in
    keeps_same (record { least = c.in_ok-least.least; live_outside = c.some_live-live_outside.result; numbers = c.in_ok-numbers.numbers }) (referred parting.inside.items) (referred parting.outside.items)
    (λ q n. c.in_ok-least.ensures q n ∙ ap (λ (l : List (Bor Participant)). list_any (λ u. has_phase_below u q n) (referred l)) c.deref.ensures.value)
    (c.some_live-live_outside.ensures ∙ any_referred (λ u. is_live_task u.condition) c.deref-2.result.now
    ∙ ap (λ (l : List (Bor Participant)). list_any (λ u. is_live_task u.condition) (referred l)) c.deref-2.ensures.value)
    (λ k. c.in_ok-numbers.ensures k ∙ ap (λ (l : List (Bor Participant)). list_any (λ u. is_live_task u.condition && k == u.number) (referred l)) c.deref-3.ensures.value)
