use Rattle.std.proofs.Common.{◌∙◌, ap, length, subst}
use Rattle.pl_core.specs.inside.Changes.{opening_tasks}
use Rattle.pl_core.specs.inside.Highest.{AreHighest}
use Rattle.pl_core.proofs.KeptCursors.{at_opening}
use Rattle.pl_core.proofs.Opening.{kept_opening, opening_made}
use Rattle.pl_core.proofs.world.World.start.Goals as goal

pub invariant_of-result : goal.invariant_of-result
invariant_of-result c = record {
  kept =
      kept_opening c.args.plan.now c.tasks-count.ensures.checked c.in_ok-tasks.tasks.items c.in_ok-phases.phases
      (c.in_ok-tasks.ensures ∙ ap opening_tasks c.tasks-count.ensures.counted)
      c.in_ok-phases.ensures.cells c.in_ok-phases.ensures.phasers c.in_ok-phases.ensures.empty;
  cursors =
      at_opening c.args.plan.now (length c.args.plan.now.parents) c.in_ok-tasks.tasks.items c.in_ok-cursors.cursors.items
      (c.in_ok-tasks.ensures ∙ ap opening_tasks c.tasks-count.ensures.counted) c.in_ok-cursors.ensures;
  highest =
      subst (λ xs. AreHighest xs (length c.args.plan.now.makers) c.in_ok-highest.highest.items) c.deref.ensures.value
      (subst (λ n. AreHighest c.deref.result.now n c.in_ok-highest.highest.items) c.phasers.ensures.counted c.in_ok-highest.ensures);
}

pub returns : goal.returns
returns c =
    record {
      opening = opening_made c.args.plan.now c.tasks-count.ensures.checked c.in_ok-tasks.tasks.items c.in_ok-phases.phases
          (c.in_ok-tasks.ensures ∙ ap opening_tasks c.tasks-count.ensures.counted)
          c.in_ok-phases.ensures.cells c.in_ok-phases.ensures.phasers c.in_ok-phases.ensures.empty;
    }
