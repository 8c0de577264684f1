use Rattle.std.proofs.Common.{◌≡◌, ◌<◌, ◌∙◌, Option, Some, Vec, length, refl, subst, sym, ℕ}
use Rattle.std.specs.Global.{Global}
use Rattle.std.specs.Prelude.{slice_get}
use Rattle.std.proofs.lemmas.Option.{slice_get_read, slice_get_within}
use Rattle.explain_facts.proofs.PhasesInRows.{cells_stay, phases_set}
use Rattle.explain_facts.proofs.phase_rows.PhaseRows.set.Goals as goal

pub returns-clause-cells : goal.returns-clause-cells
returns-clause-cells c =
    let rows = c.args.self.now.rows.items in
    let (row, is, within) = c.requires.cell in
    let below : c.args.t.0 < length rows = slice_get_within rows c.args.t.0 row is in
    let read : slice_get rows c.args.t.0 ≡ Some c.index_mut.result.now =
    slice_get_read rows (length rows) c.args.t.0 c.index_mut.result.now refl below c.index_mut.ensures.value in
    let same : row ≡ c.index_mut.result.now = (let two : Some row ≡ Some c.index_mut.result.now = sym is ∙ read in cc) in
    let fit : c.args.p.0 < length c.index_mut.result.now.items = subst (λ (w : Vec (Option ℕ) Global). c.args.p.0 < length w.items) same within in
    cells_stay rows c.args.t.0 c.args.p.0 c.args.phase c.index_mut.result.now c.set_in_row.new.row read fit c.set_in_row.ensures

pub returns-clause-set : goal.returns-clause-set
returns-clause-set c =
    let rows = c.args.self.now.rows.items in
    let (row, is, within) = c.requires.cell in
    let below : c.args.t.0 < length rows = slice_get_within rows c.args.t.0 row is in
    let read : slice_get rows c.args.t.0 ≡ Some c.index_mut.result.now =
    slice_get_read rows (length rows) c.args.t.0 c.index_mut.result.now refl below c.index_mut.ensures.value in
    let same : row ≡ c.index_mut.result.now = (let two : Some row ≡ Some c.index_mut.result.now = sym is ∙ read in cc) in
    let fit : c.args.p.0 < length c.index_mut.result.now.items = subst (λ (w : Vec (Option ℕ) Global). c.args.p.0 < length w.items) same within in
    phases_set rows c.args.t.0 c.args.p.0 c.args.phase c.index_mut.result.now c.set_in_row.new.row read fit c.set_in_row.ensures
