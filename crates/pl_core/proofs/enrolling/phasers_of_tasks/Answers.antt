use Rattle.std.proofs.Common.{◌≡◌, ◌∙◌, Some, arith, inl, inr, subst}
use Rattle.std.specs.Prelude.{slice_get}
use Rattle.std.proofs.lemmas.Bool.{cases_eq}
use Rattle.armus_base.specs.Plans.{code_of}
use Rattle.pl_core.specs.inside.Enrolling.{Enrols}
use Rattle.pl_core.proofs.Noted.{by_pieces}
use Rattle.pl_core.proofs.enrolling.phasers_of_tasks.Goals as goal

pub loop-t-preserved : goal.loop-t-preserved
loop-t-preserved c =
    let plan = c.args.plan.now in
    let t = c.loop-t.t in
    let i = c.loop-t.invariant in
    record {
      sized = c.in_ok-note_code.ensures.sized ∙ i.sized;
      noted = λ s u p l inside (k, op, e, enrols). elim (cases_eq s t) [
        | inl same ↦
            c.in_ok-note_code.ensures.there u p (let sized = i.sized in omega arith)
            (by_pieces c.pieces.result.now (code_of plan t) t u p c.pieces.ensures.stands k op (subst (λ v. slice_get (code_of plan v) k ≡ Some op) same e)
            (subst (λ v. Enrols v op u p) same enrols))
        | inr other ↦ c.in_ok-note_code.ensures.keeps u p (i.noted s u p (omega (arith, other)) inside (k, op, e, enrols))
      ];
    }

pub returns-clause-noted : goal.returns-clause-noted
returns-clause-noted c s u p l inside enrolled = c.loop-t.invariant.noted s u p (omega arith) inside enrolled
