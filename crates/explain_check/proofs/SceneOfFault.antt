-- A first check fault has a scene.
use Rattle.std.proofs.Common.{refl}
use Rattle.pl_plan.specs.Unfolding.{opening_state}
use Rattle.explain_check.specs.calls.Scenes.{HasScene}
use Rattle.explain_check.specs.Scenes.{Past, about, forked_at, named_task, current_task, turns_around}

pub has_scene : HasScene
has_scene program fault found =
    let past : Past = record { first = opening_state program.body; stages = found.stages; there = found.there } in (
      record {
        fault = fault;
        task = named_task past (current_task found.stage);
        forked = forked_at past (current_task found.stage);
        turns = turns_around past found.stage;
        matter = about past fault.kind found.stage;
      },
      record { found = found; task_is = refl; forked_is = refl; turns_are = refl; matter_is = refl },
      refl,
    )
