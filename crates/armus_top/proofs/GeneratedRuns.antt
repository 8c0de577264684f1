-- The run of a generated text, unless memory was wanting.
use Rattle.std.specs.Prelude.{Err, IfOk, Ok, Result}
use Rattle.armus_base.specs.declared.errors.NoMemory.{NoMemory}
use Rattle.armus_base.specs.Plans.{Plan}
use Rattle.adaptive.specs.declared.analysis.Wanted.{Wanted}
use Rattle.program_io.specs.Texts.{Text}
use Rattle.armus_top.specs.declared.output.Output.{Output}
use Rattle.program_io.specs.Programs.{IsPlanOf}
use Rattle.armus_top.specs.Runs.{IsRunOf}
use Rattle.program_io.specs.calls.ExitNumbers.{number_of_status}

pub with_plan : (text : Text) (plan : Plan) (wanted : Wanted) (r : Result Output NoMemory) → IsPlanOf text plan
    → IfOk r (λ o. IsRunOf plan wanted (number_of_status o.status) o.text)
    → IfOk r (λ o. (x : Plan) × IsPlanOf text x × IsRunOf x wanted (number_of_status o.status) o.text)
with_plan text plan wanted (Ok o) is run = (plan, is, run)
with_plan text plan wanted (Err e) is run = tt
