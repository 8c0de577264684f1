use Rattle.explain.proofs.Fronts.{BeginsSoFar}
use Rattle.explain.proofs.shortened.last_line_begin.Given as goal

abbrev pub invariant-loop-index : goal.invariant-loop-index
invariant-loop-index l = BeginsSoFar l.text l.index l.begin
