use Rattle.std.proofs.Common.{sym, ◌∙◌, ap, List, ℕ}
use Rattle.std.specs.List.{list_any}
use Rattle.monitor_laws.specs.States.{Participant}
use Rattle.monitor_words.specs.Messages.{others_told}
use Rattle.monitor_search.specs.Known.{has_stuck_number}
use Rattle.monitor_reasons.specs.Found.{participant_at, reason_value}
use Rattle.monitor_reasons.proofs.AtPlaces.{any_at_places}
use Rattle.monitor_reasons.proofs.telling.tells_old.Goals as goal

pub returns-in-InCircle : goal.returns-in-InCircle
returns-in-InCircle c =
    let us = c.args.state.now.list in
    let was = has_stuck_number c.args.was.now in
    c.is_any_old.ensures
    ∙ ap (λ (ks : List ℕ). list_any (λ i. was (participant_at c.participants-list.result.now i).number) ks) c.deref.ensures.value
    ∙ ap (λ (l : List Participant). list_any (λ i. was (participant_at l i).number) c.in-InCircle.places.items) c.participants-list.ensures.list
    ∙ any_at_places (λ u. was u.number) us c.in-InCircle.places.items
    ∙ ap (λ x. list_any (λ u. was u.number) (others_told (reason_value us x))) (sym c.in-InCircle.is)
