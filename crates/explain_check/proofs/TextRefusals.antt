-- A text with a check fault has a refusal.
use Rattle.std.proofs.Common.{refl}
use Rattle.pl_syntax.proofs.StatementsStand.{offsets_exist}
use Rattle.explain_check.proofs.SceneOfFault.{has_scene}
use Rattle.explain_check.specs.CheckRefusals.{check_lines}
use Rattle.explain_check.specs.calls.Laws.{HasCheckRefusal}

pub has_refusal : HasCheckRefusal
has_refusal file text p fault is found =
    let scene = has_scene p fault found in
    let offsets = offsets_exist text p is in (
      check_lines file text offsets.0 scene.0,
      record { reads = is; scene = scene.0; is_scene = scene.1; offsets = offsets.0; are_offsets = offsets.1; lines_are = refl },
    )
