use Rattle.order_graph.proofs.WordBits.{with_set}
use Rattle.order_graph.proofs.words.set_bit.Goals as goal

pub returns : goal.returns
returns c = record { bits = with_set c.args.words.now c.args.n c.requires.room }
