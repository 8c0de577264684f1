use Rattle.std.proofs.Common.{◌≡◌, ◌∷◌, drop, refl, ap}
use Rattle.std.specs.Prelude.{filter}
use Rattle.armus_base.proofs.Lists.{headed}
use Rattle.monitor_words.specs.Words.{wait_alike}
use Rattle.monitor_words.specs.calls.Values.{row_shown}
use Rattle.monitor_search.specs.Known.{has_stuck_number}
use Rattle.monitor_rows.specs.inside.Lent.{lent_ones}
use Rattle.monitor_rows.proofs.Turning.{turned, turned_left}
use Rattle.monitor_rows.proofs.rows.next_row.Goals as goal

pub returns-in_ok-others-in-len1-up-clause-rows : goal.returns-in_ok-others-in-len1-up-clause-rows
returns-in_ok-others-in-len1-up-clause-rows c =
    let row = row_shown c.args.state.now (has_stuck_number c.args.stuck.now) in
    let x = c.first-item.result.now in
    let xs = lent_ones c.args.tasks.now in
    let is : xs ≡ x ∷ lent_ones (drop 1 c.args.tasks.now) = ap lent_ones (headed c.args.tasks.now c.first-item.result c.in-len1-up.len_at_least c.first-item.is) in
    turned wait_alike x (lent_ones (drop 1 c.args.tasks.now)) xs (lent_ones c.in_ok-others-in-len1-up.others.items) is c.in_ok-others-in-len1-up.ensures.others
    row c.args.rows.now c.take_row.new.rows (row (x, filter (wait_alike x) xs)) refl c.in_ok-others-in-len1-up.ensures.row

pub returns-in_ok-others-in-len1-up-clause-left : goal.returns-in_ok-others-in-len1-up-clause-left
returns-in_ok-others-in-len1-up-clause-left c =
    let x = c.first-item.result.now in
    let xs = lent_ones c.args.tasks.now in
    let is : xs ≡ x ∷ lent_ones (drop 1 c.args.tasks.now) = ap lent_ones (headed c.args.tasks.now c.first-item.result c.in-len1-up.len_at_least c.first-item.is) in
    turned_left wait_alike x (lent_ones (drop 1 c.args.tasks.now)) xs (lent_ones c.in_ok-others-in-len1-up.others.items) is c.in_ok-others-in-len1-up.ensures.others
