use Rattle.std.proofs.Common.{◌≡◌}
use Rattle.sites.specs.inside.Putting.{HavePut}
use Rattle.sites.proofs.parts.put_parts.Given as goal

abbrev pub invariant-loop-site : goal.invariant-loop-site
invariant-loop-site g l =
    record {
      faults : g.K.Keeper.faults l.keeper ≡ g.K.Keeper.faults l.initial.keeper;
      put : HavePut l.sites l.site l.list (g.K.Keeper.rows l.initial.keeper) (g.K.Keeper.rows l.keeper);
    }
