use Rattle.explain.proofs.Fronts.{AreFronts}
use Rattle.explain.proofs.shortened.displayed_bytes.Given as goal

abbrev pub invariant-loop-index : goal.invariant-loop-index
invariant-loop-index l = AreFronts l.room l.text l.index l.lines l.shown
