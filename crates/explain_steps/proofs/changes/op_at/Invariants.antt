use Rattle.std.proofs.Common.{◌≡◌, drop}
use Rattle.armus_base.specs.Plans.{code_of}
use Rattle.explain_steps.proofs.changes.op_at.Given as goal

abbrev pub invariant-loop : goal.invariant-loop
invariant-loop l = l.cursor ≡ drop l.counter (code_of l.plan l.fn.t.0)
