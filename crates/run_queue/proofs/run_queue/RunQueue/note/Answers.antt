use Rattle.std.proofs.Common.{◌∙◌, sym}
use Rattle.std.proofs.lemmas.Bool.{false≢true}
use Rattle.pl_core.proofs.GoingOn.{phaser_of_waiting}
use Rattle.run_queue.proofs.Queued.{over_by_stand, waiting_on}
use Rattle.run_queue.proofs.run_queue.RunQueue.note.Goals as goal

pub is_reached-requires : goal.is_reached-requires
is_reached-requires c =
    record { phaser = phaser_of_waiting c.args.world.now c.in-Waits.ensures.checked c.in-Waits.ensures.reachable c.args.t.0 c.in-Waits.event c.in-Waits.ensures.stand }

pub returns-in_ok-put-in-Waits-clause-noted : goal.returns-in_ok-put-in-Waits-clause-noted
returns-in_ok-put-in-Waits-clause-noted c = λ is first turn h.
    let put = c.in_ok-put-in-Waits.ensures in
    waiting_on first c.args.world.now c.args.self.now c.put.new.self c.args.t.0 put.ready put.children put.phasers put.stays c.in-Waits.event c.requires.task
    c.in-Waits.ensures.stand (λ reached. absurd (false≢true (sym c.if-is_reached.false ∙ c.is_reached.ensures.1 reached))) put.others (put.there is) turn h

pub returns-in_default-clause-noted : goal.returns-in_default-clause-noted
returns-in_default-clause-noted c = λ is first turn h. (
  h,
  over_by_stand c.args.world.now c.args.self.now.waiting.items c.args.self.now.children.items c.args.t.0 c.stand.result c.stand.ensures.stand c.in_default.not-Ready
      (λ e. c.in_default.not-Await e) (λ e. c.in_default.not-Waits e),
)
