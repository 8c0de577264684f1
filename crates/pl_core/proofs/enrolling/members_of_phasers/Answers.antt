use Rattle.std.proofs.Common.{◌≡◌, ◌∙◌, ◌+◌, ℕ, Some, Vec, ap, arith, inl, inr, length, refl, subst, sym}
use Rattle.std.specs.Global.{Global}
use Rattle.std.specs.Prelude.{slice_get}
use Rattle.std.proofs.lemmas.Bool.{cases_eq}
use Rattle.std.proofs.lemmas.Option.{slice_get_read, slice_get_within}
use Rattle.pl_core.specs.inside.Cells.{StandsIn}
use Rattle.pl_core.specs.inside.PhaseTables.{cells_at}
use Rattle.pl_core.proofs.NewMembers.{new_later}
use Rattle.pl_core.proofs.enrolling.members_of_phasers.Goals as goal

pub admit_to_all-requires : goal.admit_to_all-requires
admit_to_all-requires c = record { kept = new_later c.args.phasers c.loop-t.t (c.loop-t.t + 1) c.loop-t.rows.items c.loop-t.invariant.kept (omega arith) }

pub loop-t-preserved : goal.loop-t-preserved
loop-t-preserved c =
    let t = c.loop-t.t in
    let noted = c.args.noted.now in
    let kept = c.loop-t.invariant.kept in
    let row = c.index-noted-t.result in
    let read : slice_get noted t ≡ Some row = slice_get_read noted (length noted) t row refl (omega arith) c.index-noted-t.is in
    record {
      kept = c.in_ok-admit_to_all.ensures.kept;
      cells = λ u p l inside (r, e, k, f). elim (cases_eq u t) [
        | inl same ↦
            let is : row ≡ r = (let at : slice_get noted t ≡ Some r = subst (λ v. slice_get noted v ≡ Some r) same e in cc) in
            subst (StandsIn (cells_at c.admit_to_all.new.rows.items p)) (sym same)
            (c.in_ok-admit_to_all.ensures.admits.there p (let s = kept.sized in omega arith)
            (k, ap (λ xs. slice_get xs k) (c.deref.ensures.value ∙ ap (λ (v : Vec ℕ Global). v.items) is) ∙ f))
        | inr other ↦ c.in_ok-admit_to_all.ensures.admits.keeps u p (c.loop-t.invariant.cells u p (omega (arith, other)) inside (r, e, k, f))
      ];
    }

pub returns-clause-cells : goal.returns-clause-cells
returns-clause-cells c u p inside (r, e, k, f) =
    c.loop-t.invariant.cells u p (let w = slice_get_within c.args.noted.now u r e in omega arith) inside (r, e, k, f)
