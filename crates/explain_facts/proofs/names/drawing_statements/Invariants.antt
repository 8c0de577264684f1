use Rattle.std.proofs.Common.{◌≡◌}
use Rattle.armus_base.specs.Finals.{given_below}
use Rattle.source_map.specs.Origins.{drawing_statement}
use Rattle.explain_facts.proofs.names.drawing_statements.Given as goal

abbrev pub invariant-loop-t : goal.invariant-loop-t
invariant-loop-t l = l.statements.items ≡ given_below (drawing_statement l.origins.tasks) l.t
