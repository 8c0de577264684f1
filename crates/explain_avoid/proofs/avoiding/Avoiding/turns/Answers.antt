use Rattle.std.proofs.Common.{◌≡◌, ◌⊎◌, ◌∙◌, ap, arith, false, inl, inr, length, subst, sym, true}
use Rattle.std.specs.Prelude.{option_copied}
use Rattle.std.proofs.lemmas.Bool.{cases_lt, false≢true}
use Rattle.armus_base.specs.Plans.{Plan}
use Rattle.pl_core.specs.calls.Stands.{IsEnabled}
use Rattle.pl_core.specs.calls.Worlds.{WorldValue}
use Rattle.explain_facts.specs.calls.Known.{kept_layout}
use Rattle.world_runs.proofs.WorldRounds.{leaves_none, leaves_on}
use Rattle.explain_avoid.specs.inside.SoFar.{NobodyDeadIn}
use Rattle.explain_avoid.proofs.Turning.{passed_rests, round_begun, round_more, skip_turns}
use Rattle.explain_avoid.proofs.avoiding.Avoiding.turns.Goals.{then-moved, else-moved}
use Rattle.explain_avoid.proofs.avoiding.Avoiding.turns.Goals as goal

pub turns-init : goal.turns-init
turns-init c = record {
  within = omega arith;
  left = leaves_none NobodyDeadIn c.args.self.now.world c.requires.nobody;
  round = round_begun (option_copied c.args.text.now.file) (kept_layout c.args.text.now.facts.now) c.args.text.now.facts.now.program.now c.args.self.now;
  quiet = λ e u lt. absurd (omega (arith, lt));
  queue = c.requires.queue;
}

pub turn-requires-clause-task : goal.turn-requires-clause-task
turn-requires-clause-task c = (c.in-Some.ensures c.args.self.now.world c.turns.invariant.queue).1

pub turn-requires-clause-nobody : goal.turn-requires-clause-nobody
turn-requires-clause-nobody c = c.turns.invariant.left.kept

pub turns-preserved : goal.turns-preserved
turns-preserved c =
    let inv = c.turns.invariant in
    let turn = c.in_ok-acted.ensures in
    let first = c.args.self.now in
    let mid = c.turns.self in
    let new = c.turn.new.self in
    let file = option_copied c.args.text.now.file in
    let l = kept_layout c.args.text.now.facts.now in
    let p = c.args.text.now.facts.now.program.now in
    let t = c.in-Some.t.0 in
    let before = c.turns.moved in
    let acted = c.in_ok-acted.acted in
    let both = c.if-moved.moved in
    let found = c.in-Some.ensures first.world inv.queue in
    let parents = ap (λ (q : Plan). length q.parents) inv.left.plan in
    let none : (both ≡ false → (before ≡ false) × (acted ≡ false)) = elim c.if-moved.branch [
      | then-moved w ↦ λ e. absurd (false≢true (sym e ∙ w.moved-is ∙ w.if-moved.true))
      | else-moved w ↦ λ e. (w.if-moved.false, sym w.moved-is ∙ e)
    ] in
    let some : (both ≡ true → (before ≡ true) ⊎ (acted ≡ true)) = elim c.if-moved.branch [
      | then-moved w ↦ λ e. inl w.if-moved.true
      | else-moved w ↦ λ e. inr (sym w.moved-is ∙ e)
    ] in
    let skipped = skip_turns file l p first mid before c.plan-plan.ensures.checked inv.left.plan c.turns.from t found.0 inv.round found.4 in
    record {
      within = (let within = found.1 in omega (arith, parents));
      left = leaves_on NobodyDeadIn first.world mid.world new.world before acted both inv.left turn.left some none;
      round = round_more file l p first mid new t true before acted both c.plan-plan.ensures.checked inv.left.plan turn.left.plan found.3 skipped none
          (turn.goes, turn.ended);
      quiet = λ e u lt.
          let was : mid.world ≡ first.world = inv.left.still (none e).0 in
          let is : new.world ≡ mid.world = turn.left.still (none e).1 in
          elim (cases_lt u t) [
            | inl less ↦
                subst (λ (w : WorldValue). IsEnabled w u → ⊥) (sym is)
                (elim (cases_lt u c.turns.from) [
                  | inl early ↦ inv.quiet (none e).0 u early
                  | inr late ↦ passed_rests first.world mid.world u was (found.4 u late less)
                ])
            | inr more ↦
                let same : u ≡ t = omega (arith, lt, more) in
                subst (λ v. IsEnabled new.world v → ⊥) (sym same) turn.ended
          ];
      queue = turn.queue first.world found.2 inv.queue;
    }

pub overflow_add-from : goal.overflow_add-from
overflow_add-from c =
    let inv = c.turns.invariant in
    let found = c.in-Some.ensures c.args.self.now.world inv.queue in
    let within = found.1 in
    let parents = ap (λ (q : Plan). length q.parents) inv.left.plan in
    let few = c.plan-plan.ensures.checked.limits.few_tasks in
    omega (arith, within, parents, few)

pub returns-clause-round : goal.returns-clause-round
returns-clause-round c =
    let inv = c.turns.invariant in
    let first = c.args.self.now in
    let found = c.in_default.ensures first.world inv.queue in
    let parents = ap (λ (q : Plan). length q.parents) inv.left.plan in
    skip_turns (option_copied c.args.text.now.file) (kept_layout c.args.text.now.facts.now) c.args.text.now.facts.now.program.now first c.turns.self c.turns.moved
    c.plan-plan.ensures.checked inv.left.plan c.turns.from (length first.world.plan.parents) inv.within inv.round
    (λ u a l. found u a (omega (arith, l, parents)))

pub returns-clause-quiet : goal.returns-clause-quiet
returns-clause-quiet c = λ e u lt.
    let inv = c.turns.invariant in
    let first = c.args.self.now in
    let found = c.in_default.ensures first.world inv.queue in
    let parents = ap (λ (q : Plan). length q.parents) inv.left.plan in
    elim (cases_lt u c.turns.from) [
      | inl early ↦ inv.quiet e u early
      | inr late ↦ passed_rests first.world c.turns.self.world u (inv.left.still e) (found u late (omega (arith, lt, parents)))
    ]
