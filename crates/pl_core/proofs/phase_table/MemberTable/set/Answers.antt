use Rattle.std.proofs.Common.{◌≡◌, ◌<◌, Some, arith, length, refl, set}
use Rattle.std.specs.Prelude.{slice_get}
use Rattle.std.proofs.lemmas.Option.{slice_get_read}
use Rattle.pl_core.proofs.Tables.{row_changed, row_keeps}
use Rattle.pl_core.proofs.phase_table.MemberTable.set.Goals as goal

pub returns-clause-set : goal.returns-clause-set
returns-clause-set c =
    let table = c.args.self.now in
    let within : c.args.p < length table.rows.items = (let s = table.sized in let n = table.rows.ok.0 in let l = c.requires.phaser in omega arith) in
    let read : slice_get table.rows.items c.args.p ≡ Some c.index_mut.result.now =
    slice_get_read table.rows.items (length table.rows.items) c.args.p c.index_mut.result.now refl within c.index_mut.ensures.value in
    row_changed table _ c.args.t c.args.p c.args.phase c.index_mut.result.now c.set.new.self refl within read c.set.ensures.here c.set.ensures.others

pub returns-clause-cells : goal.returns-clause-cells
returns-clause-cells c =
    let table = c.args.self.now in
    let within : c.args.p < length table.rows.items = (let s = table.sized in let n = table.rows.ok.0 in let l = c.requires.phaser in omega arith) in
    let read : slice_get table.rows.items c.args.p ≡ Some c.index_mut.result.now =
    slice_get_read table.rows.items (length table.rows.items) c.args.p c.index_mut.result.now refl within c.index_mut.ensures.value in
    row_keeps table.rows.items (set table.rows.items c.args.p c.set.new.self) c.args.p c.index_mut.result.now c.set.new.self refl within read c.set.ensures.cells
