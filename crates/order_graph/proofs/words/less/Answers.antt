use Rattle.order_graph.proofs.WordBits.{less_bits}
use Rattle.order_graph.proofs.words.less.Goals as goal

pub returns : goal.returns
returns c i lt = less_bits c.args.word c.args.other c.ranges.other.fits i lt
