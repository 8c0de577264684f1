use Rattle.std.proofs.Common.{◌∙◌, refl, sym, ap}
use Rattle.armus_base.specs.Places.{done_by}
use Rattle.pl_core.specs.calls.Worlds.{places_of, state_of}
use Rattle.source_map.specs.Origins.{statement_in}
use Rattle.explain_facts.specs.Accounts.{words_of}
use Rattle.explain_facts.proofs.AtPlaces.{reached_there}
use Rattle.explain_facts.proofs.Awaiting.{event_of_plan, waiter_is_member, waits_at_await}
use Rattle.explain_facts.proofs.waiting.waiting_of.Goals as goal

pub unreachable-requires : goal.unreachable-requires
unfolding state_of
unreachable-requires c =
    let (n, x, off, origin, statement) = waits_at_await c.args.facts.now.program.now c.args.world.now.plan (places_of c.args.world.now) c.args.t.0
    c.op-op.result c.args.event c.requires.unfolds c.requires.waits c.op-op.ensures.op in
    let none = c.in_default.ensures in cc

pub phase-requires-clause-phaser : goal.phase-requires-clause-phaser
unfolding state_of
phase-requires-clause-phaser c =
    event_of_plan c.args.world.now.plan (state_of c.args.world.now) (done_by (places_of c.args.world.now))
    (reached_there c.args.world.now.plan (places_of c.args.world.now) c.requires.checked c.requires.reachable) c.args.t.0 c.args.event c.requires.waits c.requires.checked

pub unreachable-requires-in_default-phase : goal.unreachable-requires-in_default-phase
unfolding state_of
unreachable-requires-in_default-phase c =
    let (m, is) = waiter_is_member c.args.world.now.plan (state_of c.args.world.now) (done_by (places_of c.args.world.now))
    (reached_there c.args.world.now.plan (places_of c.args.world.now) c.requires.checked c.requires.reachable) c.args.t.0 c.args.event
    c.requires.waits in
    let none = c.in_default-phase.ensures.phase in cc

pub returns : goal.returns
unfolding state_of
returns c = record {
  op = c.op-op.result;
  stands = c.op-op.ensures.op;
  n = c.in-Some.n;
  origin = sym c.in-Some.ensures;
  at = c.statement.ensures;
  words = c.in_ok-words_of.ensures ∙ ap words_of (c.statement-2.ensures ∙ ap (λ ss. statement_in ss c.in-Some.n) c.requires.known.origins.statements);
  event = refl;
  phase = sym c.in-Some-phase.ensures.phase;
  turns = c.in_ok-turns_of.ensures;
}
