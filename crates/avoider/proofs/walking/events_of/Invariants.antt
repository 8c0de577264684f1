use Rattle.std.proofs.Common.{take}
use Rattle.verdict.specs.calls.Cycles.{HaveEvents}
use Rattle.avoider.specs.calls.Decisions.{supposed_statuses}
use Rattle.avoider.proofs.walking.events_of.Given as goal

abbrev pub invariant-loop-u : goal.invariant-loop-u
invariant-loop-u l = HaveEvents (supposed_statuses l.world l.t.0 l.event) (take l.u-index l.tasks) l.events.items
