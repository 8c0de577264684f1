use Rattle.std.proofs.Common.{arith, inl, inr, subst, sym}
use Rattle.std.proofs.lemmas.Bool.{cases_eq}
use Rattle.pl_core.specs.calls.Worlds.{state_of}
use Rattle.run_queue.specs.inside.Waking.{AreUnreached}
use Rattle.run_queue.proofs.Waking.{wakes_on}
use Rattle.run_queue.proofs.run_queue.RunQueue.wake_all.Goals as goal

pub loop-p-preserved : goal.loop-p-preserved
loop-p-preserved c = record {
  wakes = wakes_on c.args.self.now c.loop-p.self c.wake.new.self c.loop-p.invariant.wakes c.wake.ensures.wakes;
  unreached = λ p l. elim (cases_eq p c.loop-p.p) [
    | inl same ↦ subst (λ k. AreUnreached (state_of c.args.world.now) c.wake.new.self k) (sym same) c.wake.ensures.unreached
    | inr other ↦ λ v i. c.loop-p.invariant.unreached p (omega arith) v (c.wake.ensures.wakes.fewer p v i)
  ];
}
