use Rattle.std.proofs.Common.{◌≡◌, suc, ◌<◌, length, sym, ap, ◌∙◌, subst, arith}
use Rattle.armus_base.specs.Plans.{Plan}
use Rattle.board.specs.calls.Views.{seen}
use Rattle.phase_scan.proofs.Loads.{event_phaser, goes_next, reached_all, scans_next, scans_on, scans_to}
use Rattle.phase_scan.proofs.scan.look.Goals as goal

pub scan_next-found-requires-clause-phaser : goal.scan_next-found-requires-clause-phaser
scan_next-found-requires-clause-phaser c =
    let i = c.loop-number.invariant in
    subst (λ (q : Plan). c.unwrap-event.result.p.0 < length q.makers) i.made.plan (event_phaser c.loop-number.seat c.unwrap-event.result i.goes_on.kept i.event)

pub returns-in-Some-clause-goes_on : goal.returns-in-Some-clause-goes_on
returns-in-Some-clause-goes_on c =
    let i = c.loop-number.invariant in
    let count = c.tasks-tasks.ensures.counted ∙ ap (λ (q : Plan). length q.parents) (sym i.made.plan) in
    goes_next _ c.loop-number.seat _ _ _ _ i.goes_on (subst (λ n. c.loop-number.number < n) count c.loop-number-test.true) c.scan_next-found.ensures.answer

pub loop-number-preserved : goal.loop-number-preserved
loop-number-preserved c =
    let i = c.loop-number.invariant in
    let count = c.tasks-tasks.ensures.counted ∙ ap (λ (q : Plan). length q.parents) (sym i.made.plan) in
    let load = c.scan_next-found.ensures.answer in
    let goes = goes_next _ c.loop-number.seat c.scan_next-found.new.self _ _ _ i.goes_on (subst (λ n. c.loop-number.number < n) count c.loop-number-test.true) load in
    let on : c.scan_next-found.new.self.view.sight.scanned ≡ suc c.loop-number.number =
    scans_on c.loop-number.seat c.scan_next-found.new.self c.unwrap-event.result c.loop-number.number c.scan_next-found.result i.event i.scanned load c.in_default.ensures in
    record {
      made = record { table = load.table ∙ i.made.table; plan = load.load.same.plan ∙ i.made.plan; mode = load.load.same.mode ∙ i.made.mode };
      goes_on = goes;
      event = goes.event ∙ sym i.goes_on.event ∙ i.event;
      scanned = on ∙ omega arith;
      scans = scans_next _ _ _ _ _ _ i.scans c.in_default.ensures load;
    }

pub returns-clause-answer : goal.returns-clause-answer
returns-clause-answer c =
    let i = c.loop-number.invariant in
    let seat = c.loop-number.seat in
    let count : c.tasks-tasks.result ≡ length seat.view.plan.parents = c.tasks-tasks.ensures.counted ∙ ap (λ (q : Plan). length q.parents) (sym i.made.plan) in
    let all : (seen seat.view).scanned ≡ length seat.view.plan.parents = (let at = i.scanned in let few = i.goes_on.kept.few in let ended = c.loop-number-test.false in
    omega arith) in record {
      event = c.unwrap-event.result;
      published = sym i.goes_on.event ∙ i.event;
      scans = scans_to i.scans (sym i.scanned ∙ all ∙ ap (λ (q : Plan). length q.parents) i.goes_on.same.plan);
      scanned = all;
      reached = λ e is. reached_all seat e i.goes_on.kept (i.goes_on.event ∙ is) all;
    }
