use Rattle.std.proofs.Common.{◌<◌, length, subst}
use Rattle.std.specs.Prelude.{option_copied}
use Rattle.armus_base.specs.Plans.{Plan}
use Rattle.avoider.proofs.NobodyDies.{opening_alive}
use Rattle.explain_facts.specs.calls.Known.{kept_layout}
use Rattle.explain_avoid.proofs.Rounds.{none_yet, round_comes, round_ends}
use Rattle.explain_avoid.proofs.avoiding.avoided_to_end.Goals as goal

pub rounds-init : goal.rounds-init
rounds-init c = record {
  nobody = opening_alive c.args.plan.now c.in_ok-world.world c.in_ok-world.ensures.opening;
  queue = c.in_ok-queue.ensures;
  come = none_yet (option_copied c.args.text.now.file) (kept_layout c.args.text.now.facts.now) c.args.text.now.facts.now.program.now c.args.plan.now
      (record { world = c.in_ok-world.world; judge = c.new.result; refusals = c.new-2.result }) c.in_ok-world.ensures.opening c.new-2.ensures.items;
}

pub rounds-preserved : goal.rounds-preserved
rounds-preserved c =
    let inv = c.rounds.invariant in
    let made = c.in_ok-round.ensures in
    record {
      nobody = made.left.kept;
      queue = made.queue;
      come = round_comes (option_copied c.args.text.now.file) (kept_layout c.args.text.now.facts.now) c.args.text.now.facts.now.program.now c.args.plan.now
          c.rounds.run c.round.new.self c.in_ok-round.field-0 made.left.plan made.round inv.come;
    }

pub returns-clause-ended : goal.returns-clause-ended
returns-clause-ended c =
    round_ends (option_copied c.args.text.now.file) (kept_layout c.args.text.now.facts.now) c.args.text.now.facts.now.program.now c.args.plan.now c.rounds.run
    c.round.new.self c.in_ok-round.field-0 c.if-branch.false c.in_ok-round.ensures.left.plan c.in_ok-round.ensures.round c.rounds.invariant.come

pub returns-clause-quiet : goal.returns-clause-quiet
returns-clause-quiet c = λ t lt enabled.
    let made = c.in_ok-round.ensures in
    made.quiet c.if-branch.false t (subst (λ (q : Plan). t < length q.parents) made.left.plan lt) enabled
