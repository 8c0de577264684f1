use Rattle.std.proofs.Common.{sym, subst}
use Rattle.sites.specs.calls.Checks.{IsSiteEnd}
use Rattle.sites.specs.calls.Parts.{HoldParts, PutsParts}
use Rattle.sites.proofs.PuttingParts.{parts_not_bad}
use Rattle.task_runner.proofs.site_runs.put_final.Goals as goal

pub unreachable-requires : goal.unreachable-requires
unreachable-requires g c =
    let rows = g.K.Keeper.rows c.put_parts.new.keeper in
    parts_not_bad c.args.sites c.args.statuses.now rows c.in_ok-put_parts.ensures.parts c.in-Err-Bad.field-0-0
    (subst (IsSiteEnd c.args.sites rows) c.in-Err-Bad.field-0-is c.in-Err-Bad.ensures.end)

pub returns-in-Ok-clause-rows : goal.returns-in-Ok-clause-rows
returns-in-Ok-clause-rows g c =
    subst (PutsParts c.args.sites c.args.statuses.now (g.K.Keeper.rows c.args.keeper.now)) (sym c.check_sites.ensures.rows) c.put_parts.ensures.rows

pub returns-in-Err-Fault-clause-rows : goal.returns-in-Err-Fault-clause-rows
returns-in-Err-Fault-clause-rows g c =
    subst (PutsParts c.args.sites c.args.statuses.now (g.K.Keeper.rows c.args.keeper.now)) (sym c.check_sites.ensures.rows) c.put_parts.ensures.rows

pub returns-in-Err-NoMemory-clause-rows : goal.returns-in-Err-NoMemory-clause-rows
returns-in-Err-NoMemory-clause-rows g c =
    subst (PutsParts c.args.sites c.args.statuses.now (g.K.Keeper.rows c.args.keeper.now)) (sym c.check_sites.ensures.rows) c.put_parts.ensures.rows

pub returns-in-Ok-clause-parts : goal.returns-in-Ok-clause-parts
returns-in-Ok-clause-parts g c =
    subst (λ rows. HoldParts c.args.sites rows c.args.statuses.now) (sym c.check_sites.ensures.rows) c.in_ok-put_parts.ensures.parts
