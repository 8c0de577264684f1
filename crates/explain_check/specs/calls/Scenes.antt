-- What is known of the first fault of a program's unfolding, by the stages before it.
use Rattle.std.specs.Prelude.{◌≡◌, ℕ, [], Option, Some, None, Ok}
use Rattle.armus_base.specs.Plans.{Plan}
use Rattle.pl_syntax.specs.declared.tree.Program.{Program}
use Rattle.pl_plan.specs.Unfolding.{plan_of}
use Rattle.pl_plan.specs.declared.fault.CheckFault.{CheckFault}
use Rattle.pl_plan.specs.Stages.{IsFirstCheckFault}
use Rattle.explain_check.specs.declared.scene.Scene.{Scene}
use Rattle.explain_check.specs.Scenes.{IsScene}

-- the first fault of a program is known in one way
abbrev pub HasOneScene : Type 0
HasOneScene = (program : Program) (a b : Scene) → IsScene program a → IsScene program b → a ≡ b

-- the scene of a program's first fault; where there is none, the program has a plan
abbrev pub TellsScene : Program → Option Scene → Type 0
TellsScene program (Some scene) = IsScene program scene
TellsScene program None = (plan : Plan) × (plan_of program ≡ Ok plan)

-- each program with a first check fault has a scene
abbrev pub HasScene : Type 0
HasScene = (program : Program) (fault : CheckFault) → IsFirstCheckFault program fault → (scene : Scene) × IsScene program scene × (scene.fault ≡ fault)
