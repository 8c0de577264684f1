use Rattle.std.proofs.Common.{subst, sym}
use Rattle.armus_base.specs.calls.Statuses.{IsInOrder}
use Rattle.adaptive.specs.calls.Choice.{IsAnalysis}
use Rattle.sites.proofs.checking.check_rows.Goals as goal

pub analyse-requires : goal.analyse-requires
analyse-requires g c =
    subst IsInOrder (sym c.as_slice.ensures.value) (c.in_ok-list.ensures (g.K.KeepsRows.kept c.args.keeper.now) c.in_ok-all.ensures.ok).in_order

pub returns-clause-check : goal.returns-clause-check
returns-clause-check g c =
    record {
      list = c.in_ok-list.list.items;
      all = c.in_ok-list.ensures (g.K.KeepsRows.kept c.args.keeper.now) c.in_ok-all.ensures.ok;
      analysis = subst (λ ss. IsAnalysis ss c.args.wanted c.in_ok-analysis.analysis) c.as_slice.ensures.value c.in_ok-analysis.ensures;
    }
