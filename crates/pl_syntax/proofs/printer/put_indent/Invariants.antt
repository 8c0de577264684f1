use Rattle.std.proofs.Common.{◌≡◌, ◌++◌, replicate}
use Rattle.pl_syntax.proofs.printer.put_indent.Given as goal

abbrev pub invariant-loop : goal.invariant-loop
invariant-loop l = l.out.items ≡ l.fn.out.items ++ replicate l.counter 32
