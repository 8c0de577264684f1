use Rattle.std.proofs.Common.{arith, length, vec_len, ◌≡◌}
use Rattle.sites.specs.calls.Rows.{is_of_site}
use Rattle.sites.proofs.SnapSteps.{chosen_more, looked_both, others_more}
use Rattle.sites.proofs.snapping.load_awaits.Goals as goal

pub returns-in_err-push-clause-looked : goal.returns-in_err-push-clause-looked
returns-in_err-push-clause-looked c =
    looked_both c.args.view.now c.loop-number.view c.load_event-event.new.view c.loop-number.invariant.looked c.load_event-event.ensures.looked

pub loop-number-preserved : goal.loop-number-preserved
loop-number-preserved c =
    let i = c.loop-number.invariant in
    let one = c.load_event-event.ensures in
    let own = is_of_site c.args.sites c.args.site in
    let xs = c.loop-number.events.items in
    let ys = c.push.new.self.items in
    let x = c.load_event-event.result in
    let n = c.loop-number.number in
    let counted : length xs ≡ n = (let has : vec_len c.loop-number.events ≡ length xs = c.loop-number.events.ok.0 in let same = i.count in omega arith) in
    record {
      made = one.made;
      looked = looked_both c.args.view.now c.loop-number.view c.load_event-event.new.view i.looked one.looked;
      count = (let same = c.in_ok-push.ensures.len in let before = i.count in omega arith);
      loads = chosen_more own xs ys x n c.args.view.now c.loop-number.view c.load_event-event.new.view counted c.in_ok-push.ensures.items i.loads one.load;
      others = others_more own xs ys x n counted c.in_ok-push.ensures.items i.others one.others;
    }
