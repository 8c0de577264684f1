use mathlib.Core.Path.{fun_ext}
use Rattle.std.proofs.Common.{◌≡◌, ◌∙◌, ap, arith, inl, inr, None, refl, subst, sym}
use Rattle.std.proofs.lemmas.Bool.{cases_eq, cases_lt}
use Rattle.armus_base.specs.States.{updated}
use Rattle.armus_base.proofs.Steps.{updated_other, updated_same}
use Rattle.pl_core.specs.inside.PhaseTables.{phases_in}
use Rattle.pl_core.proofs.Tables.{past_rows}
use Rattle.pl_core.proofs.phase_table.MemberTable.clear.Goals as goal

pub returns-clause-cleared : goal.returns-clause-cleared
returns-clause-cleared c =
    let inv = c.loop-p.invariant in
    let t = c.args.t in
    let before = phases_in c.args.self.now in
    fun_ext (λ u. elim (cases_eq u t) [
      | inl same ↦
          subst (λ v. phases_in c.loop-p.self v ≡ updated before t (λ _. None) v) (sym same)
          (fun_ext (λ q. elim (cases_lt q c.loop-p.p) [
            | inl l ↦ inv.done q l ∙ ap (λ m. m q) (sym (updated_same before t t (λ _. None) refl))
            | inr l ↦
                past_rows c.loop-p.self t q (let f = c.loop-p-test.false in let e = inv.phasers in let s = c.loop-p.self.sized in let n = c.loop-p.self.rows.ok.0 in omega arith)
                ∙ ap (λ m. m q) (sym (updated_same before t t (λ _. None) refl))
          ]))
      | inr other ↦ fun_ext (λ q. inv.others u q other) ∙ sym (updated_other before t u (λ _. None) other)
    ])
