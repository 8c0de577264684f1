use Rattle.std.proofs.Common.{◌+◌, ◌*◌, ◌<◌, ◌∙◌, ap, arith, length, vec_len, ◌≡◌, refl, sym, None}
use Rattle.std.specs.Prelude.{unwrap_or}
use Rattle.std.proofs.lemmas.Nat.{mul-add-lt}
use Rattle.std.proofs.lemmas.Option.{slice_get_read}
use Rattle.phase_scan.proofs.Tables.{cell_is}
use Rattle.phase_scan.proofs.phase_table.PhaseTable.get.Goals as goal

pub returns : goal.returns
returns c =
    let at = mul-add-lt c.args.t c.args.self.now.phasers c.args.p c.args.self.now.tasks c.requires.task c.requires.phaser in
    let within : c.args.t * c.args.self.now.phasers + c.args.p < length c.args.self.now.cells.items = (let sized = c.args.self.now.sized in
    let counted : vec_len c.args.self.now.cells ≡ length c.args.self.now.cells.items = c.args.self.now.cells.ok.0 in omega arith) in
    record {
      phase =
          ap (λ o. unwrap_or o None)
          (sym (slice_get_read c.args.self.now.cells.items (length c.args.self.now.cells.items) (c.args.t * c.args.self.now.phasers + c.args.p) c.index.result.now refl within
          c.index.ensures))
          ∙ sym (cell_is c.args.self.now.phasers c.args.self.now.cells.items c.args.t c.args.p c.requires.phaser);
    }
