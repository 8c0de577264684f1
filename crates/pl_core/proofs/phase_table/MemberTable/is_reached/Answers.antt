use Rattle.std.proofs.Common.{◌≡◌, ◌∙◌, ◌<◌, Some, arith, length, refl, sym}
use Rattle.std.specs.Prelude.{slice_get}
use Rattle.std.proofs.lemmas.Option.{slice_get_read}
use Rattle.pl_core.proofs.Tables.{row_says}
use Rattle.pl_core.proofs.phase_table.MemberTable.is_reached.Goals as goal

pub returns : goal.returns
returns c =
    let table = c.args.self.now in
    let within : c.args.p < length table.rows.items = (let s = table.sized in let n = table.rows.ok.0 in let l = c.requires.phaser in omega arith) in
    let read : slice_get table.rows.items c.args.p ≡ Some c.index.result.now =
    slice_get_read table.rows.items (length table.rows.items) c.args.p c.index.result.now refl within c.index.ensures in (
      λ yes u m e. c.is_reached.ensures.0 yes u m (sym (row_says table u c.args.p c.index.result.now read) ∙ e),
      λ each. c.is_reached.ensures.1 (λ u m e. each u m (row_says table u c.args.p c.index.result.now read ∙ e)),
    )
