use Rattle.std.proofs.Common.{inr, refl, sym, true}
use Rattle.std.proofs.lemmas.Bool.{false≢true}
use Rattle.world_runs.specs.inside.WorldRounds.{stays, steps}
use Rattle.world_runs.proofs.WorldRounds.{leaves_none, leaves_on}
use Rattle.world_runs.proofs.world_round.turn.Goals as goal

pub turn-init : goal.turn-init
turn-init g c = record { left = leaves_none g.S.NextStep.keeps c.args.world.now c.requires.keeps; goes = stays; queue = λ first ready h. (ready, h) }

pub turn-smaller : goal.turn-smaller
turn-smaller g c = c.in_ok-make.ensures.left.less refl

pub turn-preserved : goal.turn-preserved
turn-preserved g c =
    let inv = c.turn.invariant in
    let made = c.in_ok-make.ensures in
    record {
      left = leaves_on g.S.NextStep.keeps c.args.world.now c.turn.world c.make.new.world c.turn.moved true true inv.left made.left (λ _. inr refl)
          (λ e. absurd (false≢true (sym e)));
      goes = steps inv.goes made.made;
      queue = λ first ready h.
          let before = inv.queue first ready h in
          c.in_ok-step_made.ensures first c.turn.world made.moved c.in-Some.ensures.kind.1 before.0 before.1;
    }

pub returns-clause-queue : goal.returns-clause-queue
returns-clause-queue g c = λ first ready h.
    let before = c.turn.invariant.queue first ready h in
    c.in_ok-turn_ended.ensures first before.0 before.1
