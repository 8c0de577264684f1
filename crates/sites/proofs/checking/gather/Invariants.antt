use Rattle.std.proofs.Common.{◌≡◌}
use Rattle.sites.specs.inside.Gathering.{AreGathered, NoneBad}
use Rattle.sites.proofs.checking.gather.Given as goal

abbrev pub invariant-loop-site : goal.invariant-loop-site
invariant-loop-site g l =
    record {
      rows : g.K.KeepsRows.kept l.keeper ≡ g.K.KeepsRows.kept l.initial.keeper;
      faults : g.K.KeepsRows.failures l.keeper ≡ g.K.KeepsRows.failures l.initial.keeper;
      gathered : AreGathered l.sites (g.K.KeepsRows.kept l.initial.keeper) l.site l.all.items;
      none : NoneBad l.sites (g.K.KeepsRows.kept l.initial.keeper) l.site;
    }
