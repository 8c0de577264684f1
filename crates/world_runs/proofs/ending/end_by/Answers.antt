use Rattle.std.proofs.Common.{◌∙◌, false, length, refl}
use Rattle.world_runs.specs.inside.WorldRounds.{begun, round}
use Rattle.world_runs.proofs.WorldRounds.{last_round, nobody_goes_on}
use Rattle.world_runs.proofs.ending.end_by.Goals as goal

pub rounds-init : goal.rounds-init
rounds-init g c =
    record {
      plan = refl;
      keeps = c.requires.keeps;
      queue = c.in_ok-queue.ensures;
      rounds = begun;
    }

pub rounds-preserved : goal.rounds-preserved
rounds-preserved g c =
    let inv = c.rounds.invariant in
    let made = c.in_ok-round.ensures in
    record {
      plan = made.left.plan ∙ inv.plan;
      keeps = made.left.kept;
      queue = made.queue;
      rounds = round c.in_ok-round.field-0 inv.rounds made.round;
    }

pub finish-requires : goal.finish-requires
finish-requires g c =
    let made = c.in_ok-round.ensures in
    let last = last_round g.S.NextStep.makes c.rounds.world c.round.new.world c.in_ok-round.field-0 made.round c.if-branch.false in
    record {
      quiet = nobody_goes_on g.S.NextStep.makes c.round.new.world (length c.round.new.world.plan.parents) c.round.new.world false last refl;
    }

pub returns : goal.returns
returns g c =
    let inv = c.rounds.invariant in
    let made = c.in_ok-round.ensures in
    record {
      end = record {
        same_plan = made.left.plan ∙ inv.plan;
        checked = c.in_ok-end.ensures.checked;
        reachable = c.in_ok-end.ensures.reachable;
        kept = made.left.kept;
        rounds = round c.in_ok-round.field-0 inv.rounds made.round;
        last = last_round g.S.NextStep.makes c.rounds.world c.round.new.world c.in_ok-round.field-0 made.round c.if-branch.false;
        value = c.in_ok-end.ensures.end;
      };
    }
