use Rattle.std.proofs.Common.{Some, ap, arith, length, set, subst, sym, ◌<◌, ◌∙◌, ◌≡◌, ◌≤◌}
use Rattle.std.specs.Prelude.{slice_get}
use Rattle.pl_core.specs.calls.Moves.{IsWorldStep}
use Rattle.pl_core.specs.calls.Stands.{IsAtAwaitOf}
use Rattle.pl_core.specs.inside.Kept.{KeepsState}
use Rattle.pl_core.specs.calls.Tables.{world_from}
use Rattle.pl_core.specs.calls.Worlds.{WorldValue}
use Rattle.pl_core.proofs.StepKinds.{block_stepped, events_fit_block}
use Rattle.pl_core.proofs.HighestKept.{highest_set}
use Rattle.pl_core.specs.inside.Highest.{highest_at}
use Rattle.pl_core.proofs.KeptCursors.{stays}
use Rattle.pl_core.proofs.world.World.block.Goals as goal

pub after_block-requires : goal.after_block-requires
after_block-requires c =
    let read = subst (λ xs. slice_get xs c.args.t.0 ≡ Some c.task_at.result) c.deref.ensures.value c.task_at.ensures in
    let before = subst (λ (w : WorldValue). IsAtAwaitOf w c.args.t.0 c.args.event) (sym c.self.view_is) c.requires.before in
    record {
      fits = events_fit_block c.self.inside.plan.now c.self.inside.tasks.items c.self.inside.phases c.self.invariant.kept c.args.t.0 c.task_at.result
          read c.args.event before;
    }

pub invariant_of-self : goal.invariant_of-self
invariant_of-self c =
    let read = subst (λ xs. slice_get xs c.args.t.0 ≡ Some c.task_at.result) c.deref.ensures.value c.task_at.ensures in
    let before = subst (λ (w : WorldValue). IsAtAwaitOf w c.args.t.0 c.args.event) (sym c.self.view_is) c.requires.before in
    let stepped = block_stepped c.self.inside.plan.now c.self.inside.tasks.items c.self.inside.phases c.self.invariant.kept c.args.t.0 c.task_at.result read c.args.event before in
    record {
      kept = subst (λ task. KeepsState c.self.inside.plan.now (set c.self.inside.tasks.items c.args.t.0 task) c.self.inside.phases) (sym c.after_block.ensures) stepped.0;
      cursors =
          stays c.self.inside.plan.now c.self.inside.tasks.items c.self.inside.cursors.items c.self.invariant.cursors c.self.invariant.kept.one_each c.args.t.0 c.task_at.result read c.after_block.result
          (ap (λ v. v.op) c.after_block.ensures);
      highest =
          highest_set c.self.inside.tasks.items (length c.self.inside.plan.now.makers) c.self.inside.highest.items c.raise.new.highest.items c.args.t.0
          c.after_block.result c.self.invariant.highest
          c.raise.ensures.len c.raise.ensures.keeps
          (λ e unrefused is inside.
          let same : e ≡ c.args.event = (let both : Some c.args.event ≡ Some e = sym (ap (λ v. v.event) c.after_block.ensures) ∙ is in cc) in
          let sized = c.self.invariant.highest.one_each in
          let within : c.args.event.p.0 < length c.self.inside.highest.items = (let at = ap (λ v. v.p.0) same in omega arith) in
          subst (λ v. v.n ≤ highest_at c.raise.new.highest.items v.p.0) (sym same) (c.raise.ensures.reaches within));
    }

pub returns : goal.returns
returns c =
    let read = subst (λ xs. slice_get xs c.args.t.0 ≡ Some c.task_at.result) c.deref.ensures.value c.task_at.ensures in
    let before = subst (λ (w : WorldValue). IsAtAwaitOf w c.args.t.0 c.args.event) (sym c.self.view_is) c.requires.before in
    let stepped = block_stepped c.self.inside.plan.now c.self.inside.tasks.items c.self.inside.phases c.self.invariant.kept c.args.t.0 c.task_at.result read c.args.event before in
    subst (λ w. IsWorldStep w (world_from c.self.inside.plan.now (set c.self.inside.tasks.items c.args.t.0 c.after_block.result)) c.args.t.0) c.self.view_is
    (subst (λ task. IsWorldStep (world_from c.self.inside.plan.now c.self.inside.tasks.items)
    (world_from c.self.inside.plan.now (set c.self.inside.tasks.items c.args.t.0 task)) c.args.t.0) (sym c.after_block.ensures) stepped.1)
