use Rattle.std.proofs.Common.{◌≡◌, ◌++◌, map, take}
use Rattle.explain_syntax.specs.CaretLines.{below_byte}
use Rattle.explain_syntax.proofs.caret.put_below.Given as goal

abbrev pub invariant-loop-b : goal.invariant-loop-b
invariant-loop-b l = l.out.items ≡ l.initial.out.items ++ map below_byte (take l.b-index l.front)
