use Rattle.std.proofs.Common.{◌∙◌, ap, sym}
use Rattle.armus_base.specs.calls.Seats.{scanned_after}
use Rattle.board.proofs.Loaded.{phase_sitting}
use Rattle.board.proofs.Called.{task_small}
use Rattle.board.proofs.task_seat.TaskSeatLoads.load_phase.Goals as goal

pub invariant_of-self : goal.invariant_of-self
invariant_of-self c =
    let i = c.self.invariant.sitting in
    let load = c.load_phase_by-found.ensures.answer.load in
    let found = c.load_phase_by-found.result in
    let scanned = c.scanned_next-self-inside.ensures in
    record {
      no_slot = c.load_phase_by-found.ensures.slot ∙ c.self.invariant.no_slot;
      sitting = phase_sitting i (task_small c.self.view_is c.requires.made c.requires.task) load
          (scanned ∙ (λ j. scanned_after (i.event j) (i.scanned_is j) c.args.t.0 c.args.p.0 found) ∙ sym load.seen_now.scanned)
          (λ idle. scanned ∙ ap (λ o. scanned_after o c.self.inside.scanned c.args.t.0 c.args.p.0 found) (i.event ∙ idle) ∙ i.idle idle);
    }
