use Rattle.adaptive.proofs.StandingLists.{same_standings, sorted_never_falls}
use Rattle.adaptive.proofs.standings.standings_of.Goals as goal

pub returns-clause-are : goal.returns-clause-are
returns-clause-are c =
    same_standings c.args.list.now c.in_ok-standings.standings.items c.sort_unstable.new.self.items c.sort_unstable.ensures.permutation c.in_ok-standings.ensures

pub returns-clause-ordered : goal.returns-clause-ordered
returns-clause-ordered c = sorted_never_falls c.sort_unstable.new.self.items c.sort_unstable.ensures.sorted
