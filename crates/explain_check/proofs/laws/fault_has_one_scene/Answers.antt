use Rattle.explain_check.proofs.OneScene.{one_scene}
use Rattle.explain_check.proofs.laws.fault_has_one_scene.Goals as goal

pub returns : goal.returns
returns c = one_scene
