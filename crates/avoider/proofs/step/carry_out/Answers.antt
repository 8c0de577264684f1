use Rattle.armus_base.specs.Deadlocks.{WouldBeDead}
use Rattle.pl_core.specs.calls.Worlds.{state_of}
use Rattle.avoider.specs.calls.Decisions.{ExplainsDeath, supposed_statuses}
use Rattle.avoider.proofs.NobodyDies.{block_kills_nobody, refusal_kills_nobody}
use Rattle.avoider.proofs.RefusedInCycle.{refused_in_cycle}
use Rattle.avoider.proofs.Supposing.{told_by_statuses}
use Rattle.avoider.proofs.step.carry_out.Goals.{After-step}
use Rattle.avoider.proofs.step.carry_out.Goals as goal

pub returns-in-Some-clause-decision : goal.returns-in-Some-clause-decision
returns-in-Some-clause-decision c =
    let w = c.args.world.now in
    let at = c.stand.ensures in
    let event = c.args.event in
    let there : ExplainsDeath (supposed_statuses w c.args.t.0 event) c.args.t.0 c.in-Some.cycle = rw c.in-Some.is at c.requires.told in
    record {
      event = event;
      before = c.requires.before;
      dead = (told_by_statuses w at.checked at.reachable c.args.t.0 c.requires.task event).0 there.among;
      refusal = c.refuse.ensures;
      cycle = there;
      stands =
          refused_in_cycle w at.checked at.reachable c.args.t.0 event c.requires.before c.requires.nobody c.in-Some.cycle.tasks c.in-Some.cycle.events there.links;
    }

pub returns-in-Some-clause-nobody : goal.returns-in-Some-clause-nobody
returns-in-Some-clause-nobody c =
    let at = c.stand.ensures in
    refusal_kills_nobody c.args.world.now c.refuse.new.self at.checked at.reachable c.args.t.0 c.requires.nobody c.refuse.ensures

module _ (c : After-step) where
  alive : WouldBeDead (state_of c.args.world.now) c.args.t.0 c.args.event → ⊥
  alive would =
      let at = c.stand.ensures in
      let none = rw c.in-None.is at c.requires.told in
      none ((told_by_statuses c.args.world.now at.checked at.reachable c.args.t.0 c.requires.task c.args.event).1 would)

pub returns-in-None-clause-decision : goal.returns-in-None-clause-decision
returns-in-None-clause-decision c = record { before = c.requires.before; alive = alive c; step = c.step.ensures }

pub returns-in-None-clause-nobody : goal.returns-in-None-clause-nobody
returns-in-None-clause-nobody c =
    let at = c.stand.ensures in
    block_kills_nobody c.args.world.now c.step.new.self at.checked at.reachable c.args.t.0 c.requires.nobody c.args.event c.requires.before (alive c) c.step.ensures
