use Rattle.std.proofs.Common.{◌++◌, map, refl, ◌∙◌, ap}
use Rattle.std.specs.Prelude.{codes}
use Rattle.monitor_words.specs.Messages.{rows_told}
use Rattle.monitor_words.specs.Sentences.{sentence_words, told_verdict}
use Rattle.monitor_words.specs.Words.{message_line}
use Rattle.monitor_words.specs.calls.Values.{sentence_shown}
use Rattle.monitor_words.specs.inside.ValueMessages.{shown_told_words}
use Rattle.monitor_words.proofs.Joined.{joins_told}
use Rattle.monitor_search.specs.Known.{has_stuck_number}
use Rattle.monitor_reasons.specs.Found.{participant_at, reason_value}
use Rattle.monitor_messages.proofs.telling.put_newly_stuck.Goals as goal

pub returns : goal.returns
returns c =
    let s = c.args.state.now in
    let was = has_stuck_number c.args.was.now in
    let stuck = has_stuck_number c.args.stuck.now in
    let f = participant_at s.list c.args.newly.now.first in
    let newly = map (participant_at s.list) c.args.newly.now.places.items in
    let because = reason_value s.list c.in_ok-found.found in (
      message_line (told_verdict because ++ sentence_words (codes " waits for ") f because) ++ rows_told s was stuck f newly because,
      c.in_ok-put_told.ensures
          ∙ ap (λ w. c.args.out.now.items ++ w)
          (ap (λ x. shown_told_words x c.in_ok-rows.rows) c.in_ok-sentence.ensures
          ∙ ap (shown_told_words (sentence_shown f because)) c.in_ok-rows.ensures
          ∙ joins_told s was stuck f newly because),
      (because, c.in_ok-found.ensures.reason, refl),
    )
