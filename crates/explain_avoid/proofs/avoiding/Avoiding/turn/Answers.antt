use Rattle.std.proofs.Common.{inr, refl, sym, true}
use Rattle.std.specs.Prelude.{option_copied}
use Rattle.std.proofs.lemmas.Bool.{false≢true}
use Rattle.explain_facts.specs.calls.Known.{kept_layout}
use Rattle.world_runs.proofs.WorldRounds.{leaves_none, leaves_on}
use Rattle.explain_avoid.specs.inside.SoFar.{NobodyDeadIn}
use Rattle.explain_avoid.proofs.Turning.{goes_more, goes_none}
use Rattle.explain_avoid.proofs.avoiding.Avoiding.turn.Goals as goal

pub turn-init : goal.turn-init
turn-init c = record {
  left = leaves_none NobodyDeadIn c.args.self.now.world c.requires.nobody;
  goes = goes_none (option_copied c.args.text.now.file) (kept_layout c.args.text.now.facts.now) c.args.text.now.facts.now.program.now c.args.t.0 c.args.self.now;
  queue = λ first ready h. (ready, h);
}

pub turn-smaller : goal.turn-smaller
turn-smaller c = c.in_ok-go_on.ensures.left.less refl

pub turn-preserved : goal.turn-preserved
turn-preserved c =
    let inv = c.turn.invariant in
    let made = c.in_ok-go_on.ensures in
    record {
      left = leaves_on NobodyDeadIn c.args.self.now.world c.turn.self.world c.go_on.new.self.world c.turn.moved true true inv.left made.left (λ _. inr refl)
          (λ e. absurd (false≢true (sym e)));
      goes = goes_more (option_copied c.args.text.now.file) (kept_layout c.args.text.now.facts.now) c.args.text.now.facts.now.program.now c.args.t.0 c.args.self.now
          c.turn.self c.go_on.new.self c.turn.moved inv.left.plan inv.goes made.goes;
      queue = λ first ready h.
          let before = inv.queue first ready h in
          c.in_ok-step_made.ensures first c.turn.self.world made.moved c.in-Some.ensures.kind.1 before.0 before.1;
    }

pub returns-clause-queue : goal.returns-clause-queue
returns-clause-queue c = λ first ready h.
    let before = c.turn.invariant.queue first ready h in
    c.in_ok-turn_ended.ensures first before.0 before.1
