use Rattle.std.proofs.Common.{◌≡◌, ◌+◌, ◌∙◌, ap, arith, length, subst, sym}
use Rattle.pl_core.specs.inside.Changes.{opening_tasks}
use Rattle.pl_core.specs.inside.Cursors.{AreAt}
use Rattle.pl_core.specs.inside.Walks.{HasWalked, walked}
use Rattle.pl_core.specs.calls.Worlds.{places_at}
use Rattle.pl_core.proofs.KeptCursors.{at_more, at_none}
use Rattle.pl_core.proofs.WalkDone.{same_places, walk_done, walk_start}
use Rattle.pl_core.proofs.walk.CodeWalk.to_places.Goals as goal

pub loop-t-init : goal.loop-t-init
loop-t-init c = record {
  walked =
      walk_start c.args.plan.now c.tasks-count.ensures.checked c.args.places.now c.in_ok-tasks.tasks.items c.in_ok-phases.phases
      (c.in_ok-tasks.ensures ∙ ap opening_tasks c.tasks-count.ensures.counted)
      c.in_ok-phases.ensures.cells c.in_ok-phases.ensures.phasers c.in_ok-phases.ensures.empty;
  cursors = at_none c.args.plan.now c.in_ok-tasks.tasks.items c.new-cursors.result.items c.new-cursors.ensures.items;
}

pub loop-t-preserved : goal.loop-t-preserved
loop-t-preserved c =
    let t = c.loop-t.t in
    record {
      walked = c.settle.ensures.walked;
      cursors =
          subst (AreAt c.args.plan.now (t + 1) c.settle.new.self.tasks.items) (sym c.in_ok-push.ensures.items)
          (at_more c.args.plan.now t c.loop-t.walk.tasks.items c.settle.new.self.tasks.items c.loop-t.cursors.items c.loop-t.invariant.cursors
          c.settle.ensures.others c.settle.result c.settle.ensures.cursor);
    }

pub returns-clause-kept : goal.returns-clause-kept
returns-clause-kept c =
    let plan = c.args.plan.now in
    let places = c.args.places.now in
    let last : c.loop-t.t ≡ length plan.parents = omega arith in
    walk_done plan places c.requires.given c.loop-t.walk.tasks.items c.loop-t.walk.phases
    (subst (λ n. HasWalked plan places (walked (places_at plan places) n) n c.loop-t.walk.tasks.items c.loop-t.walk.phases) last c.loop-t.invariant.walked)

pub returns-clause-places : goal.returns-clause-places
returns-clause-places c =
    let plan = c.args.plan.now in
    let places = c.args.places.now in
    let last : c.loop-t.t ≡ length plan.parents = omega arith in
    same_places plan places c.requires.given c.loop-t.walk.tasks.items c.loop-t.walk.phases
    (subst (λ n. HasWalked plan places (walked (places_at plan places) n) n c.loop-t.walk.tasks.items c.loop-t.walk.phases) last c.loop-t.invariant.walked)

pub returns-clause-cursors : goal.returns-clause-cursors
returns-clause-cursors c =
    let last : c.loop-t.t ≡ length c.args.plan.now.parents = omega arith in
    subst (λ n. AreAt c.args.plan.now n c.loop-t.walk.tasks.items c.loop-t.cursors.items) last c.loop-t.invariant.cursors
