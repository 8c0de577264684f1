use Rattle.std.proofs.Common.{◌∙◌, None, arith, refl}
use Rattle.phase_scan.proofs.Columns.{keeps_next}
use Rattle.phase_scan.proofs.findings.Findings.load_column.Goals as goal

pub loop-number-init : goal.loop-number-init
loop-number-init c =
    record {
      made = c.requires.made;
      count = c.requires.count;
      keeps = record { loaded = λ u. None; loads = refl; kept = λ u l. absurd (omega arith) };
    }

pub loop-number-preserved : goal.loop-number-preserved
loop-number-preserved c =
    let i = c.loop-number.invariant in
    record {
      made = c.load_waiting-loaded.ensures.made;
      count = c.keep.ensures.count ∙ i.count;
      keeps =
          keeps_next c.args.self.now c.args.p.0 c.loop-number.column c.keep.new.phases c.loop-number.number c.load_waiting-loaded.result c.phase_used-used.result
          c.args.seat.now c.loop-number.seat c.load_waiting-loaded.new.seat i.keeps c.load_waiting-loaded.ensures.load c.phase_used-used.ensures c.keep.ensures.set;
    }
