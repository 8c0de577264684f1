use Rattle.std.proofs.Common.{◌≡◌, List, [], length, sym, ◌∙◌, ap, subst, arith}
use Rattle.std.proofs.lemmas.List.{get_or_read}
use Rattle.monitor_laws.specs.States.{Participant, new_participant}
use Rattle.monitor_words.specs.Reasons.{HasNoCircle, IsStuckBecause}
use Rattle.monitor_search.specs.Known.{has_stuck_number}
use Rattle.monitor_reasons.specs.Found.{participant_at, reason_value}
use Rattle.monitor_reasons.specs.inside.Distances.{IsFoundCircle}
use Rattle.monitor_reasons.proofs.reasons.reason_of.Goals as goal

pub returns-in_ok-found-in-None-clause-reason : goal.returns-in_ok-found-in-None-clause-reason
returns-in_ok-found-in-None-clause-reason c =
    let s = c.args.state.now in
    let stuck = has_stuck_number c.args.stuck.now in
    let same = c.participants-list.ensures.list in
    let list = c.participants-list.result.now in
    let f = c.index-list-task.result in
    let is : f ≡ participant_at s.list c.args.task =
    get_or_read list c.args.task f (omega (arith, c.requires, ap length same)) c.index-list-task.is (new_participant 0 [])
    ∙ ap (λ (us : List Participant). participant_at us c.args.task) same in
    let no_circle : HasNoCircle s stuck (participant_at s.list c.args.task) = subst (λ o. IsFoundCircle s stuck c.args.task o) c.in-None.is c.in_ok-places.ensures in
    subst (λ u. IsStuckBecause s stuck u (reason_value s.list c.in_ok-found-in-None.found)) is
    (c.in_ok-found-in-None.ensures.reason.reason s (sym same) (subst (λ u. HasNoCircle s stuck u) (sym is) no_circle))
