use Rattle.std.proofs.Common.{Ok, subst}
use Rattle.pl_plan.specs.inside.Numbers.{spelling}
use Rattle.explain_check.specs.inside.Seeks.{SoughtAll, NamedProgram, a_source}
use Rattle.explain_check.proofs.ScenesTold.{can_be_told, scene_is}
use Rattle.explain_check.proofs.SoughtFirst.{has_plan}
use Rattle.explain_check.proofs.finding.find_scene.Goals as goal

pub seek_tasks-requires : goal.seek_tasks-requires
seek_tasks-requires c =
    let n = c.requires.next in
    record { next = (a_source n.0 (spelling c.args.names.now) c.args.steps.now, n.1, n.2) }

pub returns-in-None : goal.returns-in-None
returns-in-None c = λ program form now.
    let g : NamedProgram = a_source program (spelling c.args.names.now) c.args.steps.now in
    has_plan g
    (subst (λ o. SoughtAll g (Ok o) c.seek_tasks.new.seeker.notes c.seek_tasks.new.seeker.last_turns.items) c.in-None.is (c.in_ok-seek_tasks.ensures g form now))

pub place_scene-requires : goal.place_scene-requires
place_scene-requires c =
    let n = c.requires.next in
    let g : NamedProgram = a_source n.0 (spelling c.args.names.now) c.args.steps.now in
    can_be_told g c.in-Some.stop c.seek_tasks.new.seeker.notes c.seek_tasks.new.seeker.last_turns.items
    (subst (λ o. SoughtAll g (Ok o) c.seek_tasks.new.seeker.notes c.seek_tasks.new.seeker.last_turns.items) c.in-Some.is (c.in_ok-seek_tasks.ensures g n.1 n.2))

pub returns-in_ok-place_scene-in-Some : goal.returns-in_ok-place_scene-in-Some
returns-in_ok-place_scene-in-Some c = λ program form now.
    let g : NamedProgram = a_source program (spelling c.args.names.now) c.args.steps.now in
    scene_is g c.in-Some.stop c.seek_tasks.new.seeker.notes c.seek_tasks.new.seeker.last_turns.items
    (subst (λ o. SoughtAll g (Ok o) c.seek_tasks.new.seeker.notes c.seek_tasks.new.seeker.last_turns.items) c.in-Some.is (c.in_ok-seek_tasks.ensures g form now))
    c.in_ok-place_scene-in-Some.field-0 c.in_ok-place_scene-in-Some.ensures
