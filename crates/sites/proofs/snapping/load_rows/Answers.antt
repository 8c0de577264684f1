use Rattle.std.proofs.Common.{refl, inl, subst, length}
use Rattle.phase_scan.specs.calls.Tables.{event_for}
use Rattle.sites.specs.inside.Snapping.{FindsStatus}
use Rattle.sites.proofs.SnapSteps.{looked_both, rows_none, rows_one_more}
use Rattle.sites.proofs.snapping.load_rows.Goals as goal

pub loop-number-init : goal.loop-number-init
loop-number-init c =
    record {
      made = c.requires.made;
      looked = inl refl;
      rows = rows_none c.args.board.now.plan (event_for c.args.events.now) c.args.view.now c.new-list.result.items
          c.new-list.ensures.items;
    }

pub returns-in_err-status-clause-looked : goal.returns-in_err-status-clause-looked
returns-in_err-status-clause-looked c =
    looked_both c.args.view.now c.loop-number.view c.load_status.new.view c.loop-number.invariant.looked c.load_status.ensures.looked

pub returns-in_err-keep-clause-looked : goal.returns-in_err-keep-clause-looked
returns-in_err-keep-clause-looked c =
    looked_both c.args.view.now c.loop-number.view c.load_status.new.view c.loop-number.invariant.looked c.load_status.ensures.looked

pub loop-number-preserved : goal.loop-number-preserved
loop-number-preserved c =
    let i = c.loop-number.invariant in
    let plan = c.args.board.now.plan in
    let events = event_for c.args.events.now in
    let t = c.loop-number.number in
    let status = c.in_ok-status.status in
    let finds : FindsStatus (length plan.makers) t (events t) status c.loop-number.view c.load_status.new.view =
    subst (λ o. FindsStatus (length plan.makers) t o status c.loop-number.view c.load_status.new.view) c.event_in-event.ensures c.in_ok-status.ensures.status in
    record {
      made = c.load_status.ensures.made;
      looked = looked_both c.args.view.now c.loop-number.view c.load_status.new.view i.looked c.load_status.ensures.looked;
      rows = rows_one_more plan events t c.loop-number.list.items c.keep.new.items.items c.args.view.now c.loop-number.view c.load_status.new.view i.rows status finds
          c.in_ok-keep.ensures;
    }
