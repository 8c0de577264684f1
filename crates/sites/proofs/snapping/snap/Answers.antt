use Rattle.std.proofs.Common.{◌≡◌, List, Option, length, refl, subst, sym, All}
use Rattle.armus_base.specs.declared.event.Event.{Event}
use Rattle.phase_scan.specs.calls.Tables.{event_for}
use Rattle.sites.specs.calls.Rows.{HasNumbers}
use Rattle.sites.specs.calls.Snaps.{IsSnap}
use Rattle.sites.specs.inside.Snapping.{FindsRows}
use Rattle.sites.proofs.CountingSnaps.{counts_snap}
use Rattle.sites.proofs.Snapped.{snap_made, snap_stored, snap_told}
use Rattle.sites.proofs.SnapSteps.{looked_both}
use Rattle.sites.proofs.snapping.snap.Goals as goal

pub returns : goal.returns
returns c =
    let f = c.args.board.now in
    let plan = f.plan in
    let before = c.args.view.now in
    let between = c.load_awaits.new.view in
    let now = c.load_rows.new.view in
    let sites = c.args.sites in
    let site = c.args.site in
    let list = c.in_ok-statuses.statuses.items in
    let found = c.in_ok-events.ensures in
    let events = c.in_ok-events.events.items in
    let rows : FindsRows plan (event_for events) (length plan.parents) list between now =
    subst (λ (xs : List (Option Event)). FindsRows plan (event_for xs) (length plan.parents) list between now) c.as_slice.ensures.value c.in_ok-statuses.ensures.rows in
    let same : list ≡ c.from_vec.result = sym c.from_vec.ensures.items in
    let is : IsSnap plan sites site c.from_vec.result before now =
    subst (λ ss. IsSnap plan sites site ss before now) same (snap_made plan sites site (event_for events) list before between now found.loads found.others rows) in
    let checked = c.load_rows.ensures.checked in
    record {
      made = c.load_rows.ensures.made;
      looked = looked_both before between now c.load_awaits.ensures.looked c.load_rows.ensures.looked;
      site = refl;
      snapshot = record {
        snap = is;
        loads = counts_snap plan sites site c.from_vec.result before now is;
        stored = snap_stored plan sites site c.from_vec.result before now checked is (subst (All HasNumbers) same rows.numbers);
        tells = snap_told f sites site c.from_vec.result before now c.requires.made checked is;
      };
    }
