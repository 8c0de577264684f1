use Rattle.armus_base.proofs.WalkCycles.{walk_more}
use Rattle.avoider.specs.calls.Decisions.{supposed_statuses}
use Rattle.avoider.specs.inside.Walks.{GoesTo}
use Rattle.avoider.proofs.walking.ImpederWalk.go_on.Goals as goal

pub returns-in_ok-push-in-Some : goal.returns-in_ok-push-in-Some
returns-in_ok-push-in-Some c =
    let on = c.requires.walk in
    let told = rw c.in-Some.is at c.next_of.ensures in
    record {
      alive = on.alive;
      start = on.start;
      least = on.least;
      walk = rw c.in_ok-push-in-Some.ensures.items
          (walk_more (GoesTo (supposed_statuses c.args.world.now c.args.t.0 c.args.event)) on.start c.args.self.now.path.items c.args.self.now.at on.walk c.in-Some.next
          c.requires.is_new told.1);
      inside = told.0;
    }
