use Rattle.std.proofs.Common.{◌≡◌, Some, length, map, refl, sym, subst}
use Rattle.std.specs.Prelude.{slice_get}
use Rattle.std.proofs.lemmas.List.{map-id}
use Rattle.sites.specs.calls.Checks.{IsSiteEnd}
use Rattle.sites.specs.calls.Passes.{IsSitePass}
use Rattle.sites.specs.inside.Passing.{HaveSnapped}
use Rattle.sites.proofs.Passed.{put_not_bad, site_passed}
use Rattle.sites.proofs.PassSteps.{backed_after, made_of}
use Rattle.sites.proofs.passing.pass_over.Goals as goal
use Rattle.sites.proofs.passing.pass_over.Goals.{In_ok-snap_sites}

-- all sites have snapped
all_snapped : (g : _) (c : In_ok-snap_sites g) →
    HaveSnapped c.args.board.now (length c.args.views.now) (length c.args.views.now) c.args.views.now c.snap_sites.new.views (g.K.KeepsRows.kept c.args.keeper.now)
    (g.K.KeepsRows.kept c.snap_sites.new.keeper)
all_snapped g c =
    let f = c.args.board.now in
    let before = c.args.views.now in
    let now = c.snap_sites.new.views in
    let old = g.K.KeepsRows.kept c.args.keeper.now in
    let rows = g.K.KeepsRows.kept c.snap_sites.new.keeper in
    let one : HaveSnapped f (length before) (length before) before (map (λ s. s) now) old rows =
    subst (λ xs. HaveSnapped f (length before) (length before) xs (map (λ s. s) now) old rows) (map-id before) c.in_ok-snap_sites.ensures.ok in
    subst (λ xs. HaveSnapped f (length before) (length before) before xs old rows) (map-id now) one

pub returns-in_err-snap_sites-clause-backed : goal.returns-in_err-snap_sites-clause-backed
returns-in_err-snap_sites-clause-backed g c =
    backed_after c.args.board.now c.args.views.now c.snap_sites.new.views (g.K.KeepsRows.kept c.args.keeper.now) (g.K.KeepsRows.kept c.snap_sites.new.keeper)
    (g.K.KeepsRows.kept c.snap_sites.new.keeper) c.snap_sites.ensures.looked c.snap_sites.ensures.rows refl

pub returns-in-Ok-clause-backed : goal.returns-in-Ok-clause-backed
returns-in-Ok-clause-backed g c =
    backed_after c.args.board.now c.args.views.now c.snap_sites.new.views (g.K.KeepsRows.kept c.args.keeper.now) (g.K.KeepsRows.kept c.snap_sites.new.keeper)
    (g.K.KeepsRows.kept c.check_rows.new.keeper) c.snap_sites.ensures.looked c.snap_sites.ensures.rows c.check_rows.ensures.rows

pub returns-in-Err-Fault-clause-backed : goal.returns-in-Err-Fault-clause-backed
returns-in-Err-Fault-clause-backed g c =
    backed_after c.args.board.now c.args.views.now c.snap_sites.new.views (g.K.KeepsRows.kept c.args.keeper.now) (g.K.KeepsRows.kept c.snap_sites.new.keeper)
    (g.K.KeepsRows.kept c.check_rows.new.keeper) c.snap_sites.ensures.looked c.snap_sites.ensures.rows c.check_rows.ensures.rows

pub returns-in-Err-NoMemory-clause-backed : goal.returns-in-Err-NoMemory-clause-backed
returns-in-Err-NoMemory-clause-backed g c =
    backed_after c.args.board.now c.args.views.now c.snap_sites.new.views (g.K.KeepsRows.kept c.args.keeper.now) (g.K.KeepsRows.kept c.snap_sites.new.keeper)
    (g.K.KeepsRows.kept c.check_rows.new.keeper) c.snap_sites.ensures.looked c.snap_sites.ensures.rows c.check_rows.ensures.rows

pub returns-in-Ok-clause-pass : goal.returns-in-Ok-clause-pass
returns-in-Ok-clause-pass g c =
    let f = c.args.board.now in
    let before = c.args.views.now in
    let now = c.snap_sites.new.views in
    let old = g.K.KeepsRows.kept c.args.keeper.now in
    let rows = g.K.KeepsRows.kept c.snap_sites.new.keeper in
    let wanted = c.args.wanted in
    let a = c.in-Ok.analysis in
    let snapped = all_snapped g (goal.at.returns-in-Ok-clause-pass g c).In_ok-snap_sites in
    subst (λ r. IsSitePass f.plan f.mode wanted before now r a) (sym c.check_rows.ensures.rows)
    (site_passed f before now old rows (λ site k is. made_of (λ s. s) before f c.requires.views site k (subst (λ xs. slice_get xs site ≡ Some k) (sym (map-id before)) is))
    c.tasks.ensures.checked c.requires.sites.0 snapped wanted a c.in-Ok.ensures.check)

pub unreachable-requires : goal.unreachable-requires
unreachable-requires g c =
    let f = c.args.board.now in
    let before = c.args.views.now in
    let now = c.snap_sites.new.views in
    let old = g.K.KeepsRows.kept c.args.keeper.now in
    let rows = g.K.KeepsRows.kept c.snap_sites.new.keeper in
    let snapped = all_snapped g (goal.at.unreachable-requires g c).In_ok-snap_sites in
    put_not_bad f before now old rows (λ site k is. made_of (λ s. s) before f c.requires.views site k (subst (λ xs. slice_get xs site ≡ Some k) (sym (map-id before)) is))
    c.tasks.ensures.checked c.requires.sites.0 snapped
    c.in-Err-Bad.field-0-0 (subst (IsSiteEnd (length before) rows) c.in-Err-Bad.field-0-is c.in-Err-Bad.ensures.end)
