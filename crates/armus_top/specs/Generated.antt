-- What `gen` writes.
use Rattle.std.specs.Prelude.{◌≡◌, ℕ, List, [], ◌∷◌, ◌++◌}
use Rattle.armus_base.specs.Plans.{Plan}
use Rattle.adaptive.specs.declared.analysis.Wanted.TheVariants as wanted
use Rattle.pl_generator.specs.Generated.{generated_text}
use Rattle.schedule.specs.Lines.{IsCut}
use Rattle.program_io.specs.Texts.{Text}
use Rattle.pl_syntax.specs.Printed.{line}
use Rattle.program_io.specs.Programs.{IsPlanOf}
use Rattle.armus_top.specs.Runs.{IsRunOf}

-- the text is the first and the last line of the report
pub record IsFirstAndLast (report text : Text) : Type 0 where
  pub first : Text
  pub between : List Text
  pub last : Text
  pub cut : IsCut report (first ∷ between ++ last ∷ [])
  pub text_is : text ≡ line first ++ line last

-- the first and the last line of the report of the run of the generated text with this many workers in it, and the status of that run
pub record IsGenOf (count status : ℕ) (text : Text) : Type 0 where
  pub plan : Plan
  pub plan_is : IsPlanOf (generated_text count) plan
  pub report : Text
  pub run : IsRunOf plan wanted.Auto status report
  pub short : IsFirstAndLast report text
