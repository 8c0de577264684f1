use Rattle.std.proofs.Common.{refl}
use Rattle.std.proofs.lemmas.Result.{IfOk-weaker}
use Rattle.adaptive.specs.inside.ByGraph.{IsAnalysisBy}
use Rattle.adaptive.specs.calls.Choice.{IsAnalysis}
use Rattle.adaptive.specs.declared.analysis.Used.TheVariants.{Wfg}
use Rattle.adaptive.specs.declared.analysis.Wanted.TheVariants.{Auto}
use Rattle.adaptive.proofs.Choices.{by_left}
use Rattle.adaptive.proofs.choice.by_choice.Goals as goal

pub returns-in-Err-Left : goal.returns-in-Err-Left
returns-in-Err-Left c =
    let list = c.args.list.now in
    let left = rw c.in-Err-Left.field-0-is at (c.in-Err-Left.ensures list c.requires.order c.in_ok-deps.ensures) in
    IfOk-weaker c.by_waits-in-Err-Left.result (IsAnalysisBy list Wfg) (IsAnalysis list Auto)
    (λ a h. by_left list Auto refl a c.in-Err-Left.field-0-0 c.in-Err-Left.field-0-1 left h) c.by_waits-in-Err-Left.ensures
