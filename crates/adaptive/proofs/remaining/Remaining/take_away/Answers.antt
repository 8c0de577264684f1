use Rattle.adaptive.proofs.TakenAway.{fronts_stay, still_remaining, within_set}
use Rattle.adaptive.proofs.remaining.Remaining.take_away.Goals as goal

pub returns-clause-kept : goal.returns-clause-kept
returns-clause-kept c =
    let kept = c.requires.kept in
    record {
      are = kept.are;
      ordered = kept.ordered;
      within = within_set c.args.self.now.standings.items c.args.self.now.remains.items c.args.k kept.within;
      fronts = fronts_stay c.args.self.now.standings.items c.args.self.now.remains.items c.args.self.now.columns.items c.args.k kept.fronts;
      remaining = still_remaining c.args.list.now c.requires.order c.args.self.now.remains.items kept.remaining c.args.k c.requires.status c.requires.unimpeded;
    }
