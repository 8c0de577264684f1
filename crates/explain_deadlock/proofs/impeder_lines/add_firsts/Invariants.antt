use Rattle.std.proofs.Common.{length, map, take}
use Rattle.explain_tasks.specs.Sayings.{impeder_said}
use Rattle.explain_deadlock.specs.inside.Numbered.{AddsFirst, AreWithin}
use Rattle.explain_deadlock.proofs.impeder_lines.add_firsts.Given as goal

abbrev pub invariant-loop-impeder : goal.invariant-loop-impeder
invariant-loop-impeder l = record {
  within : AreWithin (length l.numbers) l.firsts.items;
  added : AddsFirst l.facts (map (impeder_said l.facts) (take l.impeder-index l.impeders)) l.initial.firsts.items l.firsts.items;
}
