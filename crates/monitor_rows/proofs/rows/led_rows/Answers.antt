use Rattle.std.proofs.Common.{[], ◌∷◌, ◌++◌, Option, sym, ◌∙◌, ap}
use Rattle.std.specs.Borrow.{Bor}
use Rattle.std.specs.Option.{option_copied}
use Rattle.std.specs.Prelude.{List, filter, not, option_to_list}
use Rattle.monitor_laws.specs.States.{Participant}
use Rattle.monitor_words.specs.Words.{groups_by, wait_alike}
use Rattle.monitor_words.specs.calls.Values.{row_shown, rows_shown}
use Rattle.monitor_search.specs.Known.{has_stuck_number}
use Rattle.monitor_rows.specs.inside.Lent.{lent_ones}
use Rattle.monitor_rows.proofs.LedRows.{nine_turns, ten_turns}
use Rattle.monitor_rows.proofs.rows.led_rows.Goals as goal

pub returns-in_ok-shown-in-None : goal.returns-in_ok-shown-in-None
returns-in_ok-shown-in-None c =
    let s = c.args.state.now in
    let stuck = has_stuck_number c.args.stuck.now in
    let xs = lent_ones c.args.tasks.items in
    ten_turns s stuck c.in_ok-shown-in-None.shown c.new-rows.result xs c.new-rows.ensures.empty c.in_ok-shown-in-None.ensures.rows c.in_ok-shown-in-None.ensures.left
    ∙ sym (ap (λ (o : Option (Bor Participant)). rows_shown s stuck (groups_by wait_alike (option_to_list (option_copied o) ++ xs) xs)) c.in-None.is)

pub returns-in_ok-shown-in-Some : goal.returns-in_ok-shown-in-Some
returns-in_ok-shown-in-Some c =
    let s = c.args.state.now in
    let stuck = has_stuck_number c.args.stuck.now in
    let xs = lent_ones c.args.tasks.items in
    let f = c.in-Some.first.now in
    nine_turns s stuck c.in_ok-shown-in-Some.shown f c.new-rows.result c.take_row.new.rows xs (lent_ones c.in_ok-others-in-Some.others.items) c.new-rows.ensures.empty
    (c.in_ok-others-in-Some.ensures.row ∙ ap (λ (l : List (Bor Participant)). c.new-rows.result ++ row_shown s stuck (f, filter (wait_alike f) (lent_ones l)) ∷ []) c.deref.ensures.value)
    (c.in_ok-others-in-Some.ensures.others ∙ ap (λ (l : List (Bor Participant)). filter (λ u. not (wait_alike f u)) (lent_ones l)) c.deref.ensures.value)
    c.in_ok-shown-in-Some.ensures.rows c.in_ok-shown-in-Some.ensures.left
    ∙ sym (ap (λ (o : Option (Bor Participant)). rows_shown s stuck (groups_by wait_alike (option_to_list (option_copied o) ++ xs) xs)) c.in-Some.is)
