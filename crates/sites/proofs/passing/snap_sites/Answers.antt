use Rattle.std.proofs.Common.{◌≡◌, ◌∙◌, ◌<◌, ◌+◌, Some, sym, refl, ap, subst, length, set, get_or, arith}
use Rattle.std.specs.Prelude.{map, slice_get}
use Rattle.std.proofs.lemmas.List.{map-set}
use Rattle.sites.specs.calls.Passes.{ChangesRows, HaveLookedOn}
use Rattle.sites.specs.inside.Passing.{HaveSnapped}
use Rattle.sites.proofs.PassSteps.{looked_more, made_of, length_map, read_here, rows_more, snapped_looked, snapped_more, snapped_none, snapped_rows}
use Rattle.sites.proofs.passing.snap_sites.Goals as goal
use Rattle.sites.proofs.passing.snap_sites.Goals.{After-index-views-site}

-- in a turn of the loop a site is left, and its viewer is read
site_left : (g : _) (c : After-index-views-site g) → c.loop-site.site < length c.loop-site.views
site_left g c = (let count = c.loop-site.auto.views in let l = c.loop-site-test.true in let have = c.requires.sites in omega arith)

viewer_read : (g : _) (c : After-index-views-site g) →
    slice_get (map g.V.Snaps.known c.loop-site.views) c.loop-site.site
    ≡ Some (g.V.Snaps.known (get_or c.loop-site.views c.loop-site.site c.index-views-site.result))
viewer_read g c =
    read_here g.V.Snaps.known c.loop-site.views c.loop-site.site c.index-views-site.result (site_left g c) c.index-views-site.is
    ∙ ap (λ v. Some (g.V.Snaps.known v)) c.index-views-site.is

pub loop-site-init : goal.loop-site-init
loop-site-init g c =
    record {
      faults = refl;
      snapped =
          snapped_none c.args.board.now c.args.sites (map g.V.Snaps.known c.args.views.now) (g.K.KeepsRows.kept c.args.keeper.now)
          (made_of g.V.Snaps.known c.args.views.now c.args.board.now c.requires.views);
    }

pub snap_site-requires-clause-made : goal.snap_site-requires-clause-made
snap_site-requires-clause-made g c =
    let c' = (goal.at.snap_site-requires-clause-made g c).After-index-views-site in
    c.loop-site.invariant.snapped.made c.loop-site.site (g.V.Snaps.known (get_or c.loop-site.views c.loop-site.site c.index-views-site.result)) (viewer_read g c')

pub loop-site-preserved : goal.loop-site-preserved
loop-site-preserved g c =
    let known = g.V.Snaps.known in
    let views = c.loop-site.views in
    let n = c.loop-site.site in
    let m = c.snap_site.new.view in
    let i = c.loop-site.invariant in
    let here = viewer_read g (goal.at.loop-site-preserved g c).After-index-views-site in
    let room : n < length (g.K.KeepsRows.kept c.loop-site.keeper) = (let l = c.loop-site-test.true in let kept = i.snapped.kept in let have = c.requires.kept in omega arith) in
    record {
      faults = c.in_ok-snap_site.ensures.count ∙ i.faults;
      snapped =
          subst (λ vs. HaveSnapped c.args.board.now c.args.sites (n + 1) (map known c.args.views.now) vs (g.K.KeepsRows.kept c.args.keeper.now)
          (g.K.KeepsRows.kept c.snap_site.new.keeper))
          (sym (map-set known views n m))
          (snapped_more c.args.board.now c.args.sites n (map known c.args.views.now) (map known views) (g.K.KeepsRows.kept c.args.keeper.now)
          (g.K.KeepsRows.kept c.loop-site.keeper) i.snapped
          (known (get_or views n c.index-views-site.result)) (known m) here c.snap_site.ensures.made c.snap_site.ensures.looked (g.K.KeepsRows.kept c.snap_site.new.keeper) room
          c.in_ok-snap_site.ensures.ok);
    }

pub returns-in_err-snap_site-clause-looked : goal.returns-in_err-snap_site-clause-looked
returns-in_err-snap_site-clause-looked g c =
    let known = g.V.Snaps.known in
    let views = c.loop-site.views in
    let n = c.loop-site.site in
    let m = c.snap_site.new.view in
    let here = viewer_read g (goal.at.returns-in_err-snap_site-clause-looked g c).After-index-views-site in
    subst (HaveLookedOn c.args.board.now (map known c.args.views.now)) (sym (map-set known views n m))
    (looked_more c.args.board.now c.args.sites n (map known c.args.views.now) (map known views) (g.K.KeepsRows.kept c.args.keeper.now) (g.K.KeepsRows.kept c.loop-site.keeper)
    c.loop-site.invariant.snapped
    (known (get_or views n c.index-views-site.result)) (known m) here c.snap_site.ensures.made c.snap_site.ensures.looked)

pub returns-in_err-snap_site-clause-rows : goal.returns-in_err-snap_site-clause-rows
returns-in_err-snap_site-clause-rows g c =
    let known = g.V.Snaps.known in
    let views = c.loop-site.views in
    let n = c.loop-site.site in
    let m = c.snap_site.new.view in
    let plan = c.args.board.now.plan in
    let here = viewer_read g (goal.at.returns-in_err-snap_site-clause-rows g c).After-index-views-site in
    let counted = sym (length_map known views ∙ c.loop-site.auto.views ∙ c.requires.sites) in
    subst (λ new. ChangesRows plan (g.K.KeepsRows.kept c.args.keeper.now) new (map known (set views n m))) (sym c.in_err-snap_site.ensures.err)
    (subst (ChangesRows plan (g.K.KeepsRows.kept c.args.keeper.now) (g.K.KeepsRows.kept c.loop-site.keeper)) (sym (map-set known views n m))
    (rows_more c.args.board.now c.args.sites n (map known c.args.views.now) (map known views) (g.K.KeepsRows.kept c.args.keeper.now) (g.K.KeepsRows.kept c.loop-site.keeper)
    c.loop-site.invariant.snapped
    (known (get_or views n c.index-views-site.result)) (known m) here c.snap_site.ensures.made c.snap_site.ensures.looked counted))

pub returns : goal.returns
returns g c =
    let known = g.V.Snaps.known in
    let views = c.loop-site.views in
    let i = c.loop-site.invariant in
    let f = c.args.board.now in
    let old = g.K.KeepsRows.kept c.args.keeper.now in
    let new = g.K.KeepsRows.kept c.loop-site.keeper in
    let same : c.loop-site.site ≡ c.args.sites = (let le = c.loop-site-test.false in let ge = c.loop-site.auto.site-end in omega arith) in
    let counted = sym (length_map known views ∙ c.loop-site.auto.views ∙ c.requires.sites) in
    let done = subst (λ k. HaveSnapped f c.args.sites k (map known c.args.views.now) (map known views) old new) same i.snapped in
    record {
      looked = snapped_looked f c.args.sites c.args.sites (map known c.args.views.now) (map known views) old new done;
      rows = snapped_rows f c.args.sites c.args.sites (map known c.args.views.now) (map known views) old new done counted;
      count = i.faults;
      ok = done;
    }
