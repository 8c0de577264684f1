use Rattle.std.proofs.Common.{◌≡◌, ◌++◌, flat_map, take}
use Rattle.explain_deadlock.specs.Notes.{immediate_note}
use Rattle.explain_deadlock.proofs.notes.put_immediate_notes.Given as goal

abbrev pub invariant-loop-told : goal.invariant-loop-told
invariant-loop-told l = l.out.items ≡ l.initial.out.items ++ flat_map (immediate_note l.facts) (take l.told-index l.awaits)
