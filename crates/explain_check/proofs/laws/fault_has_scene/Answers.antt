use Rattle.explain_check.proofs.SceneOfFault.{has_scene}
use Rattle.explain_check.proofs.laws.fault_has_scene.Goals as goal

pub returns : goal.returns
returns c = has_scene
