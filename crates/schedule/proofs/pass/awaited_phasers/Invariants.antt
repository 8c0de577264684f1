use Rattle.schedule.proofs.Marks.{AreMarks}
use Rattle.schedule.proofs.pass.awaited_phasers.Given as goal

-- the phasers of the tasks so far are marked
abbrev pub invariant-loop-w : goal.invariant-loop-w
invariant-loop-w l = AreMarks l.is_awaited.items l.waiting l.fn.phasers l.w-index
