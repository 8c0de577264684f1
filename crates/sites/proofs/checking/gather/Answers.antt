use Rattle.std.proofs.Common.{◌∙◌, subst}
use Rattle.std.proofs.lemmas.Result.{err_from_is_err_and}
use Rattle.sites.specs.calls.Keeping.{held}
use Rattle.sites.specs.inside.Gathering.{EndsAtSite, TakesRow}
use Rattle.sites.proofs.Gathered.{end_first, gathered_more, none_more}
use Rattle.sites.proofs.checking.gather.Goals as goal

pub returns-in_err-take_site-clause-end : goal.returns-in_err-take_site-clause-end
returns-in_err-take_site-clause-end g c =
    let i = c.loop-site.invariant in
    let rows = g.K.KeepsRows.kept c.args.keeper.now in
    let p = err_from_is_err_and c.from_residual.result c.from_residual.ensures.1 in
    rw (p.1, p.2) (end_first c.args.sites rows c.loop-site.site c.in_err-take_site.field-0.0 c.loop-site-test.true i.none
    (subst (λ r. EndsAtSite c.args.sites r c.loop-site.site c.in_err-take_site.field-0.0) i.rows c.in_err-take_site.ensures.end))

pub loop-site-preserved : goal.loop-site-preserved
loop-site-preserved g c =
    let i = c.loop-site.invariant in
    let rows = g.K.KeepsRows.kept c.args.keeper.now in
    let sites = c.args.sites in
    let n = c.loop-site.site in
    let takes : TakesRow sites n (held rows n) c.loop-site.all.items c.take_site.new.all.items =
    subst (λ r. TakesRow sites n (held r n) c.loop-site.all.items c.take_site.new.all.items) i.rows c.in_ok-take_site.ensures.ok in
    record {
      rows = c.take_site.ensures.rows ∙ i.rows;
      faults = c.in_ok-take_site.ensures.count ∙ i.faults;
      gathered = gathered_more sites rows n c.loop-site.all.items c.take_site.new.all.items i.gathered takes;
      none = none_more sites rows n c.loop-site.all.items c.take_site.new.all.items i.none takes;
    }
