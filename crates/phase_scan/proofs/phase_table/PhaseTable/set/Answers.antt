use Rattle.std.proofs.Common.{◌+◌, ◌*◌, ◌<◌, arith, length, vec_len, ◌≡◌}
use Rattle.std.proofs.lemmas.Nat.{mul-add-lt}
use Rattle.phase_scan.proofs.Tables.{cell_set}
use Rattle.phase_scan.proofs.phase_table.PhaseTable.set.Goals as goal

pub returns-clause-set : goal.returns-clause-set
returns-clause-set c =
    let at = mul-add-lt c.args.t c.args.self.now.phasers c.args.p c.args.self.now.tasks c.requires.task c.requires.phaser in
    let within : c.args.t * c.args.self.now.phasers + c.args.p < length c.args.self.now.cells.items = (let sized = c.args.self.now.sized in
    let counted : vec_len c.args.self.now.cells ≡ length c.args.self.now.cells.items = c.args.self.now.cells.ok.0 in omega arith) in
    cell_set c.args.self.now.phasers c.args.self.now.cells.items c.args.t c.args.p c.args.phase c.requires.phaser within
