use Rattle.std.proofs.Common.{arith}
use Rattle.sites.proofs.decoding.are_own.Goals as goal

pub returns : goal.returns
returns c = λ k d l. c.loop-status.invariant k d (omega arith)
