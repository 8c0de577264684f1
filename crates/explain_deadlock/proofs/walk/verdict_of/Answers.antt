use Rattle.std.proofs.Common.{Option, Some, arith, ◌∙◌, sym, subst}
use Rattle.std.proofs.lemmas.Result.{IfOk-weaker}
use Rattle.armus_base.specs.declared.ids.TaskId.{TaskId}
use Rattle.pl_core.specs.calls.Worlds.{state_of}
use Rattle.explain_deadlock.specs.Verdicts.{IsVerdict, IsVerdictFrom}
use Rattle.explain_deadlock.proofs.Starts.{start_waits}
use Rattle.explain_deadlock.proofs.walk.verdict_of.Goals as goal

pub walk_from-requires-clause-inside : goal.walk_from-requires-clause-inside
walk_from-requires-clause-inside c =
    let w = start_waits c.args.facts.now c.in-Some.start (sym c.start.ensures ∙ c.in-Some.is) in
    let l = w.0 in
    let s = c.requires.fits.sized in
    omega arith

pub walk_from-requires-clause-waits : goal.walk_from-requires-clause-waits
walk_from-requires-clause-waits c = (start_waits c.args.facts.now c.in-Some.start (sym c.start.ensures ∙ c.in-Some.is)).1

pub returns-in-Some : goal.returns-in-Some
returns-in-Some c =
    let f = c.args.facts.now in
    let phases = (state_of c.args.world.now).phases in
    IfOk-weaker c.walk_from.result (IsVerdictFrom f phases (Some c.in-Some.start)) (IsVerdict f phases)
    (λ v is. subst (λ (o : Option TaskId). IsVerdictFrom f phases o v) (sym (sym c.start.ensures ∙ c.in-Some.is)) is)
    c.walk_from.ensures
