use Rattle.std.proofs.Common.{◌∙◌, List, length, subst, true, ap}
use Rattle.std.proofs.lemmas.List.{length-replicate}
use Rattle.adaptive.specs.declared.standings.PhaseStanding.{PhaseStanding}
use Rattle.adaptive.specs.inside.Remaining.{AreFronts}
use Rattle.adaptive.proofs.RemainingDead.{first_remaining, first_within}
use Rattle.adaptive.proofs.dead.begin.Goals as goal

pub returns : goal.returns
returns c =
    let ss = c.args.list.now in
    let remains = c.in_ok-remains.remains.items in
    let all = c.in_ok-remains.ensures.items_if_clones_equal (λ y e. e) in
    let xs = c.in_ok-standings.standings.items in
    record {
      are = c.in_ok-standings.ensures.are;
      ordered = c.in_ok-standings.ensures.ordered;
      within = first_within ss xs (length remains) c.in_ok-standings.ensures.are (ap length all ∙ length-replicate (length ss) true);
      fronts = subst (λ (ys : List PhaseStanding). AreFronts ys remains c.in_ok-columns.columns.items) c.deref.ensures.value (c.in_ok-columns.ensures remains);
      remaining = first_remaining ss remains all;
    }
