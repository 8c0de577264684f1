use Rattle.order_graph.proofs.WordBits.{with_clear}
use Rattle.order_graph.proofs.words.clear_bit.Goals as goal

pub returns-then-at-words : goal.returns-then-at-words
returns-then-at-words c = record { bits = with_clear c.args.words.now c.args.n c.if-at-words.true }
