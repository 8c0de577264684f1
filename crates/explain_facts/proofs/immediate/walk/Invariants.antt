use Rattle.explain_facts.specs.inside.Noted.{HasWalkedTo}
use Rattle.explain_facts.proofs.immediate.walk.Given as goal

abbrev pub invariant-loop-t : goal.invariant-loop-t
invariant-loop-t l = HasWalkedTo l.facts.program.now l.plan l.t 0 l.walk
