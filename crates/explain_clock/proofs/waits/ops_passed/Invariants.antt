use Rattle.armus_base.specs.Plans.{code_of}
use Rattle.explain_clock.proofs.PassedOps.{Passing}
use Rattle.explain_clock.proofs.waits.ops_passed.Given as goal

abbrev pub invariant-loop : goal.invariant-loop
invariant-loop l = Passing (code_of l.world.plan l.fn.t.0) l.counter l.waits l.pending l.cursor
