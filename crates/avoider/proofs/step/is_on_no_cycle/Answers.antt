use Rattle.std.proofs.Common.{◌+◌, arith}
use Rattle.pl_core.specs.calls.Worlds.{state_of}
use Rattle.avoider.proofs.OnNoCycle.{lives_behind, lives_impeding_nobody, lives_reached}
use Rattle.avoider.proofs.step.is_on_no_cycle.Goals as goal

pub returns-then-is_reached : goal.returns-then-is_reached
returns-then-is_reached c = λ _. lives_reached (state_of c.args.world.now) c.args.t.0 c.args.event (c.is_reached.ensures.0 c.if-is_reached.true)

pub returns-then-impedes_nobody : goal.returns-then-impedes_nobody
returns-then-impedes_nobody c = λ _. λ would.
    lives_impeding_nobody (state_of c.args.world.now) c.args.t.0 c.args.event c.requires.nobody (c.impedes_nobody.ensures c.if-impedes_nobody.true) would

pub returns-then-not-has_many_phasers : goal.returns-then-not-has_many_phasers
returns-then-not-has_many_phasers c = λ goes.
    lives_behind (state_of c.args.world.now) c.args.t.0 c.args.event (λ u impedes f waits. c.impeders_go_on.ensures goes (u + 1) u (omega arith) impedes f waits)

pub returns-then-impeders_go_on : goal.returns-then-impeders_go_on
returns-then-impeders_go_on c = λ _.
    lives_behind (state_of c.args.world.now) c.args.t.0 c.args.event
    (λ u impedes f waits. c.impeders_go_on-2.ensures c.if-impeders_go_on.true (u + 1) u (omega arith) impedes f waits)

pub returns : goal.returns
returns c = λ free. λ would.
    lives_impeding_nobody (state_of c.args.world.now) c.args.t.0 c.args.event c.requires.nobody (c.impedes_nobody-2.ensures free) would
