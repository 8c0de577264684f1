use Rattle.std.proofs.Common.{inl}
use Rattle.avoider.proofs.Followed.{deps_tasks, followed_alive, followed_pairs, holds_or_dead}
use Rattle.avoider.proofs.kept.death_kept.Goals as goal

pub follow-requires : goal.follow-requires
follow-requires c = deps_tasks c.args.list.now c.in_ok-deps.deps c.in_ok-deps.ensures c.args.order.now c.requires.tasks

pub returns-in-Kept-clause-outcome : goal.returns-in-Kept-clause-outcome
returns-in-Kept-clause-outcome c =
    let followed = rw c.in-Kept.is at (c.in_ok-follow.ensures.followed c.args.list.now c.requires.in_order c.in_ok-deps.ensures) in
    followed_alive c.args.list.now c.args.order.now c.follow.new.self c.in_ok-follow.ensures.order followed c.args.t.0

pub returns-in-Kept-clause-pairs : goal.returns-in-Kept-clause-pairs
returns-in-Kept-clause-pairs c =
    let followed = rw c.in-Kept.is at (c.in_ok-follow.ensures.followed c.args.list.now c.requires.in_order c.in_ok-deps.ensures) in
    inl (followed_pairs c.args.list.now c.args.order.now c.follow.new.self followed)

pub returns-clause-pairs : goal.returns-clause-pairs
returns-clause-pairs c =
    let finds = rw c.in-Dead.is at (c.in_ok-follow.ensures.followed c.args.list.now c.requires.in_order c.in_ok-deps.ensures) in
    holds_or_dead c.args.list.now c.args.order.now c.follow.new.self finds c.death_of.result
