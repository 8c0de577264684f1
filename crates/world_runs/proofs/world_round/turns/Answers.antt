use Rattle.std.proofs.Common.{◌≡◌, ◌⊎◌, ◌∙◌, add-one, ap, arith, false, inl, inr, length, refl, subst, sym, true}
use Rattle.std.proofs.lemmas.Bool.{false≢true}
use Rattle.armus_base.specs.Plans.{Plan}
use Rattle.world_runs.specs.inside.WorldRounds.{HaveTurns}
use Rattle.world_runs.proofs.WorldRounds.{leaves_none, leaves_on, skip_turns, turns_more}
use Rattle.world_runs.proofs.world_round.turns.Goals.{then-moved, else-moved}
use Rattle.world_runs.proofs.world_round.turns.Goals as goal

pub turns-init : goal.turns-init
turns-init g c = record {
  within = omega arith;
  left = leaves_none g.S.NextStep.keeps c.args.world.now c.requires.keeps;
  turns = (refl, refl);
  queue = c.requires.queue;
}

pub turn-requires-clause-task : goal.turn-requires-clause-task
turn-requires-clause-task g c κs within = (c.in-Some.ensures c.args.world.now c.turns.invariant.queue).1

pub overflow_add-from : goal.overflow_add-from
overflow_add-from g c =
    let inv = c.turns.invariant in
    let found = c.in-Some.ensures c.args.world.now inv.queue in
    let within = found.1 in
    let parents = ap (λ (p : Plan). length p.parents) inv.left.plan in
    let few = c.plan-plan.ensures.checked.limits.few_tasks in
    omega (arith, within, parents, few)

pub turns-preserved : goal.turns-preserved
turns-preserved g c =
    let inv = c.turns.invariant in
    let turn = c.in_ok-acted.ensures in
    let first = c.args.world.now in
    let mid = c.turns.world in
    let new = c.turn.new.world in
    let t = c.in-Some.t.0 in
    let before = c.turns.moved in
    let acted = c.in_ok-acted.acted in
    let both = c.if-moved.moved in
    let found = c.in-Some.ensures first inv.queue in
    let parents = ap (λ (p : Plan). length p.parents) inv.left.plan in
    let none : (both ≡ false → (before ≡ false) × (acted ≡ false)) = elim c.if-moved.branch [
      | then-moved w ↦ λ e. absurd (false≢true (sym e ∙ w.moved-is ∙ w.if-moved.true))
      | else-moved w ↦ λ e. (w.if-moved.false, sym w.moved-is ∙ e)
    ] in
    let some : (both ≡ true → (before ≡ true) ⊎ (acted ≡ true)) = elim c.if-moved.branch [
      | then-moved w ↦ λ e. inl w.if-moved.true
      | else-moved w ↦ λ e. inr (sym w.moved-is ∙ e)
    ] in
    let skipped = skip_turns g.S.NextStep.makes first mid c.turns.from t before found.0 inv.turns found.4 in
    record {
      within = (let b = found.1 in omega (arith, parents));
      left = leaves_on g.S.NextStep.keeps first mid new before acted both inv.left turn.left some none;
      turns = subst (λ n. HaveTurns g.S.NextStep.makes first n new both) (sym (add-one t))
          (turns_more g.S.NextStep.makes first mid new t true before acted both found.3 skipped turn.turn none);
      queue = turn.queue first found.2 inv.queue;
    }

pub returns-clause-round : goal.returns-clause-round
returns-clause-round g c =
    let inv = c.turns.invariant in
    let first = c.args.world.now in
    let found = c.in_default.ensures first inv.queue in
    let parents = ap (λ (p : Plan). length p.parents) inv.left.plan in
    skip_turns g.S.NextStep.makes first c.turns.world c.turns.from (length first.plan.parents) c.turns.moved inv.within inv.turns
    (λ u a l. found u a (omega (arith, l, parents)))
