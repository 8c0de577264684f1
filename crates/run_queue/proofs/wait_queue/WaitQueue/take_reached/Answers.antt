use Rattle.std.proofs.Common.{◌∙◌, ◌-◌, arith, refl, sym}
use Rattle.std.proofs.lemmas.Bool.{false≢true}
use Rattle.run_queue.proofs.Waiters.{last_least, unreached_later}
use Rattle.pl_core.specs.calls.Worlds.{state_of}
use Rattle.run_queue.proofs.wait_queue.WaitQueue.take_reached.Goals as goal

pub returns-then-not-is_reached : goal.returns-then-not-is_reached
returns-then-not-is_reached c = (
  refl,
  λ w i.
      let last = c.index-last.result.now in
      let queue = c.args.self.now in
      unreached_later (state_of c.args.world.now) c.args.p.0 last.phase w
      (last_least queue.waiters.items (c.len-len.result - 1) last w queue.later_first (omega arith) (sym c.index-last.ensures) i)
      (λ reached. absurd (false≢true (sym c.if-not-is_reached.true ∙ c.is_reached.ensures.1 reached))),
)
