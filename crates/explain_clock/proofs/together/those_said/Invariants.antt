use Rattle.std.proofs.Common.{◌≡◌, map, take}
use Rattle.std.specs.Prelude.{filter}
use Rattle.explain_clock.specs.inside.ToldTogether.{activity_of, is_said_of}
use Rattle.explain_clock.proofs.together.those_said.Given as goal

abbrev pub invariant-loop-one : goal.invariant-loop-one
invariant-loop-one l = l.all.items ≡ map activity_of (filter (is_said_of l.said) (take l.one-index l.told))
