use Rattle.std.proofs.Common.{◌∙◌, ap, arith, false, slice_index_or, sym}
use Rattle.explain_clock.specs.ClockFacts.{ClockWait}
use Rattle.explain_clock.proofs.PendingRows.{row_beyond, row_within}
use Rattle.explain_clock.proofs.facts.Wait.is_pending.Goals as goal

pub returns-then-p-self : goal.returns-then-p-self
returns-then-p-self c =
    let row = row_within (λ p. slice_index_or c.self.inside.pending p false) c.self.inside.clocks c.args.p.0 c.if-p-self.true in
    c.is_of.ensures ∙ sym (ap (λ (w : ClockWait). slice_index_or w.pending c.args.p.0 false) (sym c.self.view_is) ∙ row)

pub returns-else-p-self : goal.returns-else-p-self
returns-else-p-self c =
    let row = row_beyond (λ p. slice_index_or c.self.inside.pending p false) c.self.inside.clocks c.args.p.0 (omega (arith, c.if-p-self.false)) in
    sym (ap (λ (w : ClockWait). slice_index_or w.pending c.args.p.0 false) (sym c.self.view_is) ∙ row)
