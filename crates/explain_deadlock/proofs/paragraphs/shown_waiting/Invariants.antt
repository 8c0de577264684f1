use Rattle.std.proofs.Common.{◌≡◌, take}
use Rattle.explain_deadlock.specs.Paragraphs.{shown_waiting}
use Rattle.explain_deadlock.proofs.paragraphs.shown_waiting.Given as goal

abbrev pub invariant-loop-t : goal.invariant-loop-t
invariant-loop-t l = l.all.items ≡ shown_waiting l.facts (take l.t-index l.shown)
