use Rattle.std.proofs.Common.{◌≡◌, ◌∙◌, Some, None, add-one, ap, set, subst, suc, sym}
use Rattle.std.specs.Prelude.{slice_get, ◌||◌, if◌then◌else◌}
use Rattle.std.proofs.lemmas.Option.{slice_get_within}
use Rattle.pl_core.specs.inside.PhaseTables.{phases_in}
use Rattle.pl_core.specs.inside.Walks.{AwaitsBelow, AwaitsNear, HasWalked, event_of_op, walked}
use Rattle.pl_core.specs.calls.Worlds.{places_at}
use Rattle.pl_core.proofs.KeptCursors.{keeps_others, op_set_same}
use Rattle.pl_core.proofs.WalkEnds.{awaits_below, awaits_near, walk_stands}
use Rattle.pl_core.proofs.walk.CodeWalk.stand.Goals as goal

pub event-event-requires-clause-phaser : goal.event-event-requires-clause-phaser
event-event-requires-clause-phaser c =
    let op_is = c.requires.op in
    subst (AwaitsBelow c.args.self.now.phases.phasers) (sym op_is)
    (awaits_below c.args.plan.now c.requires.walking.checked c.args.places.now c.requires.given c.args.t.0 c.place_within-place.result c.place_within-place.ensures
    c.args.stop c.requires.stop c.args.self.now.tasks.items c.args.self.now.phases c.requires.walking)

pub event-event-requires-clause-near : goal.event-event-requires-clause-near
event-event-requires-clause-near c =
    let op_is = c.requires.op in
    λ here.
    subst (AwaitsNear (phases_in c.args.self.now.phases c.args.t.0)) (sym op_is)
    (awaits_near c.args.plan.now c.requires.walking.checked c.args.places.now c.requires.given c.args.t.0 c.place_within-place.result c.place_within-place.ensures
    c.args.stop c.requires.stop c.args.self.now.tasks.items c.args.self.now.phases c.requires.walking here)

pub returns-clause-walked : goal.returns-clause-walked
returns-clause-walked c =
    let plan = c.args.plan.now in
    let places = c.args.places.now in
    let t = c.args.t.0 in
    let place = c.place_within-place.result in
    let was = c.task_at-forked.result in
    let op_is = c.requires.op in
    let event_is = c.event-event.ensures ∙ ap (λ o. if c.args.stop.begun || place.refused then event_of_op o (phases_in c.args.self.now.phases t) else None) op_is in
    let read = subst (λ xs. slice_get xs t ≡ Some was) c.deref.ensures.value c.task_at-forked.ensures in
    let stood = walk_stands plan c.requires.walking.checked places c.requires.given t place c.place_within-place.ensures c.args.stop c.requires.stop
    c.args.self.now.tasks.items c.args.self.now.phases c.requires.walking was read
    c.clear_refused.new.phases c.clear_refused.ensures.cells c.clear_refused.ensures.phasers c.clear_refused.ensures.cleared in
    subst (λ n. HasWalked plan places (walked (places_at plan places) n) n
    (set c.args.self.now.tasks.items t (record { place = place; op = c.args.stop.op; event = c.event-event.result; forked = was.forked }))
    c.clear_refused.new.phases) (sym (add-one t))
    (subst (λ e. HasWalked plan places (walked (places_at plan places) (suc t)) (suc t)
    (set c.args.self.now.tasks.items t (record { place = place; op = c.args.stop.op; event = e; forked = was.forked })) c.clear_refused.new.phases)
    (sym event_is)
    stood)

pub returns-clause-stands : goal.returns-clause-stands
returns-clause-stands c =
    let read = subst (λ xs. slice_get xs c.args.t.0 ≡ Some c.task_at-forked.result) c.deref.ensures.value c.task_at-forked.ensures in
    op_set_same c.args.self.now.tasks.items c.args.t.0
    (record { place = c.place_within-place.result; op = c.args.stop.op; event = c.event-event.result; forked = c.task_at-forked.result.forked })
    (slice_get_within c.args.self.now.tasks.items c.args.t.0 c.task_at-forked.result read)

pub returns-clause-others : goal.returns-clause-others
returns-clause-others c =
    keeps_others c.args.self.now.tasks.items c.args.t.0
    (record { place = c.place_within-place.result; op = c.args.stop.op; event = c.event-event.result; forked = c.task_at-forked.result.forked })
