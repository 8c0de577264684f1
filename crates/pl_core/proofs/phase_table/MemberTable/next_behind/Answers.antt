use Rattle.std.proofs.Common.{◌≡◌, ◌<◌, Some, arith, length, refl}
use Rattle.std.specs.Prelude.{slice_get}
use Rattle.std.proofs.lemmas.Option.{slice_get_read}
use Rattle.pl_core.specs.inside.Cells.{phase_among}
use Rattle.pl_core.specs.inside.PhaseTables.{phases_in}
use Rattle.pl_core.proofs.NextBehind.{next_same}
use Rattle.pl_core.proofs.Tables.{row_says}
use Rattle.pl_core.proofs.phase_table.MemberTable.next_behind.Goals as goal

pub returns : goal.returns
returns c =
    let table = c.args.self.now in
    let row = c.index.result.now in
    let within : c.args.p < length table.rows.items = (let s = table.sized in let n = table.rows.ok.0 in let l = c.requires.phaser in omega arith) in
    let read : slice_get table.rows.items c.args.p ≡ Some row = slice_get_read table.rows.items (length table.rows.items) c.args.p row refl within c.index.ensures in
    next_same (phase_among row.cells.items) (λ u. phases_in table u c.args.p) c.args.n c.args.from c.next_behind.result (λ u. row_says table u c.args.p row read)
    c.next_behind.ensures
