use Rattle.std.proofs.Common.{◌≡◌}
use Rattle.std.specs.Prelude.{map}
use Rattle.sites.specs.inside.Passing.{HaveSnapped}
use Rattle.sites.proofs.passing.snap_sites.Given as goal

abbrev pub invariant-loop-site : goal.invariant-loop-site
invariant-loop-site g l =
    record {
      faults : g.K.KeepsRows.failures l.keeper ≡ g.K.KeepsRows.failures l.initial.keeper;
      snapped : HaveSnapped l.board l.sites l.site (map g.V.Snaps.known l.initial.views) (map g.V.Snaps.known l.views) (g.K.KeepsRows.kept l.initial.keeper)
          (g.K.KeepsRows.kept l.keeper);
    }
