use Rattle.std.proofs.Common.{◌∙◌, sym, ap}
use Rattle.armus_base.specs.Finals.{given_below}
use Rattle.schedule.specs.inside.OpenPasses.{phaser_of}
use Rattle.schedule.proofs.Awaiting.{await_loaded}
use Rattle.schedule.proofs.pass.OpenPass.load_await.Goals as goal

pub returns-in_ok-self : goal.returns-in_ok-self
returns-in_ok-self c =
    let kept = c.in_ok-keep_event.ensures.kept in
    let listed = c.in_ok-self.ensures in
    record {
      loaded = await_loaded c.args.plan.now c.args.world.now c.args.self.now _ c.published-found.result c.tasks-tasks.ensures.checked c.requires.plan
          c.requires.next c.published-found.ensures
          record {
            kept = record { loaded = kept.loaded; waiting = kept.waiting; row = kept.row; column = kept.column; statuses = kept.statuses; members = kept.members };
            awaited = λ _. listed ∙ ap (λ w. given_below (phaser_of w) c.phasers.result) c.as_slice.ensures.value ∙
                ap (given_below (phaser_of c.keep_event.new.self.waiting.items)) c.phasers.ensures.counted;
          };
    }

pub returns-else-self-tasks : goal.returns-else-self-tasks
returns-else-self-tasks c =
    record {
      loaded = await_loaded c.args.plan.now c.args.world.now c.args.self.now _ c.published-found.result c.tasks-tasks.ensures.checked c.requires.plan
          c.requires.next c.published-found.ensures
          record {
            kept = c.in_ok-keep_event.ensures.kept;
            awaited = λ full. absurd (c.if-self-tasks.false (full ∙ sym c.tasks-tasks.ensures.counted));
          };
    }
