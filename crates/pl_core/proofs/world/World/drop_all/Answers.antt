use Rattle.std.proofs.Common.{Some, ap, length, set, subst, sym, ◌≡◌}
use Rattle.std.specs.Prelude.{slice_get}
use Rattle.pl_core.specs.calls.Moves.{MakesRefusal}
use Rattle.pl_core.specs.calls.Stands.{IsAtAwaitOf}
use Rattle.pl_core.specs.inside.Kept.{KeepsState}
use Rattle.pl_core.specs.calls.Tables.{world_from}
use Rattle.pl_core.specs.calls.Worlds.{WorldValue}
use Rattle.pl_core.proofs.RefusalKept.{refusal_kept, refusal_made}
use Rattle.pl_core.proofs.HighestKept.{highest_refused}
use Rattle.pl_core.proofs.KeptCursors.{stays}
use Rattle.pl_core.proofs.world.World.drop_all.Goals as goal

pub invariant_of-self : goal.invariant_of-self
invariant_of-self c =
    let task = c.task_at-task.result in
    let read = subst (λ xs. slice_get xs c.args.t.0 ≡ Some task) c.deref.ensures.value c.task_at-task.ensures in
    let before = subst (λ (w : WorldValue). IsAtAwaitOf w c.args.t.0 c.args.event) (sym c.self.view_is) c.requires.before in
    record {
      kept =
          subst (λ k. KeepsState c.self.inside.plan.now (set c.self.inside.tasks.items c.args.t.0 k) c.clear.new.self) (sym c.after_refusal.ensures)
          (refusal_kept c.self.inside.plan.now c.self.inside.tasks.items c.self.inside.phases c.self.invariant.kept c.args.t.0 task read c.args.event before
          c.clear.new.self c.clear.ensures.cells c.clear.ensures.phasers c.clear.ensures.cleared);
      cursors =
          stays c.self.inside.plan.now c.self.inside.tasks.items c.self.inside.cursors.items c.self.invariant.cursors c.self.invariant.kept.one_each c.args.t.0 task read c.after_refusal.result
          (ap (λ v. v.op) c.after_refusal.ensures);
      highest =
          highest_refused c.self.inside.tasks.items (length c.self.inside.plan.now.makers) c.self.inside.highest.items c.args.t.0 c.after_refusal.result c.self.invariant.highest
          (ap (λ v. v.place.refused) c.after_refusal.ensures);
    }

pub returns : goal.returns
returns c =
    let task = c.task_at-task.result in
    let read = subst (λ xs. slice_get xs c.args.t.0 ≡ Some task) c.deref.ensures.value c.task_at-task.ensures in
    let before = subst (λ (w : WorldValue). IsAtAwaitOf w c.args.t.0 c.args.event) (sym c.self.view_is) c.requires.before in
    subst (λ w. MakesRefusal w (world_from c.self.inside.plan.now (set c.self.inside.tasks.items c.args.t.0 c.after_refusal.result)) c.args.t.0) c.self.view_is
    (subst (λ k. MakesRefusal (world_from c.self.inside.plan.now c.self.inside.tasks.items)
    (world_from c.self.inside.plan.now (set c.self.inside.tasks.items c.args.t.0 k)) c.args.t.0) (sym c.after_refusal.ensures)
    (refusal_made c.self.inside.plan.now c.self.inside.tasks.items c.self.inside.phases c.self.invariant.kept c.args.t.0 task read c.args.event before))
