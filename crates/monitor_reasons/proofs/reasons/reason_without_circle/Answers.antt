use Rattle.std.proofs.Common.{subst}
use Rattle.monitor_words.specs.Reasons.{ended_keeps}
use Rattle.monitor_search.specs.Known.{has_stuck_number}
use Rattle.monitor_reasons.specs.inside.Listings.{IsFoundStopper}
use Rattle.monitor_reasons.proofs.FirstFound.{first_of_list, first_stopper, no_stopper, none_of_list}
use Rattle.monitor_reasons.proofs.reasons.reason_without_circle.Goals as goal

pub returns-in-Some-clause-reason : goal.returns-in-Some-clause-reason
returns-in-Some-clause-reason c =
    record { reason = λ s same none. (none, first_of_list s c.args.list.now same (ended_keeps c.args.f.now) c.in-Some.at c.in-Some.ensures.at) }

pub returns-in-Some-2-clause-reason : goal.returns-in-Some-2-clause-reason
returns-in-Some-2-clause-reason c =
    let stuck = has_stuck_number c.args.stuck.now in
    let found = subst (λ o. IsFoundStopper c.args.list.now stuck c.args.f.now o) c.in-Some-2.is c.in_ok-at-in-None.ensures in
    record {
      reason = λ s same none. (
        none,
        none_of_list s c.args.list.now same (ended_keeps c.args.f.now) c.in-None.ensures.none,
        first_stopper s c.args.list.now same stuck c.args.f.now c.in-Some-2.at found,
      );
    }

pub returns-in-None-2-clause-reason : goal.returns-in-None-2-clause-reason
returns-in-None-2-clause-reason c =
    let stuck = has_stuck_number c.args.stuck.now in
    let found = subst (λ o. IsFoundStopper c.args.list.now stuck c.args.f.now o) c.in-None-2.is c.in_ok-at-in-None.ensures in
    record {
      reason = λ s same none. (
        none,
        none_of_list s c.args.list.now same (ended_keeps c.args.f.now) c.in-None.ensures.none,
        no_stopper s c.args.list.now same stuck c.args.f.now found,
      );
    }
