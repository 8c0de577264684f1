use Rattle.std.proofs.Common.{ℕ, List, [], ◌∷◌, ◌++◌, sym, ◌∙◌, ap}
use Rattle.monitor_words.specs.Words.{groups_by, wait_alike}
use Rattle.monitor_words.specs.calls.Values.{rows_shown}
use Rattle.monitor_search.specs.Known.{has_stuck_number}
use Rattle.monitor_reasons.specs.Found.{reason_value}
use Rattle.monitor_rows.specs.Places.{participants_at}
use Rattle.monitor_messages.proofs.Places.{rows_are_told}
use Rattle.monitor_messages.proofs.telling.told_rows.Goals as goal

pub returns : goal.returns
returns c =
    let s = c.args.state.now in
    let stuck = has_stuck_number c.args.stuck.now in
    let newly = c.args.newly.now in
    c.in_ok-rows.ensures
    ∙ ap (λ (places : List ℕ). rows_shown s stuck (groups_by wait_alike (participants_at s.list (newly.first ∷ []) ++ participants_at s.list places) (participants_at s.list places))) c.deref.ensures.value
    ∙ rows_are_told s (has_stuck_number c.args.was.now) stuck newly.first newly.places.items (reason_value s.list c.args.found.now) c.requires.first c.requires.places
    (sym c.leaves_rows.ensures ∙ c.if-leaves_rows.false)
