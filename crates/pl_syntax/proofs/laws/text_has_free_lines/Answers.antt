use Rattle.pl_syntax.proofs.LineFeeds.{line_feed_changes_nothing, no_line_is_a_mark}
use Rattle.pl_syntax.proofs.laws.text_has_free_lines.Goals as goal

pub returns : goal.returns
returns c = record { line_feed = line_feed_changes_nothing; no_mark = no_line_is_a_mark }
