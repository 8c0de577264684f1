use Rattle.std.proofs.Common.{◌∙◌, inl, subst, sym}
use Rattle.armus_base.specs.calls.Statuses.{IsInOrder}
use Rattle.avoider.specs.calls.Decisions.{supposed_statuses}
use Rattle.avoider.proofs.Followed.{followed_alive, followed_pairs, holds_or_dead}
use Rattle.avoider.proofs.Supposing.{supposed_in_order}
use Rattle.avoider.proofs.kept.death_in_world.Goals as goal

pub returns-in-Kept-clause-outcome : goal.returns-in-Kept-clause-outcome
returns-in-Kept-clause-outcome c =
    let ss = supposed_statuses c.args.world.now c.args.t.0 c.args.event in
    followed_alive ss c.args.order.now c.follow_world.new.order c.in_ok-follow_world.ensures.order (rw c.in-Kept.is at c.in_ok-follow_world.ensures.followed) c.args.t.0

pub returns-in-Kept-clause-pairs : goal.returns-in-Kept-clause-pairs
returns-in-Kept-clause-pairs c =
    let ss = supposed_statuses c.args.world.now c.args.t.0 c.args.event in
    inl (followed_pairs ss c.args.order.now c.follow_world.new.order (rw c.in-Kept.is at c.in_ok-follow_world.ensures.followed))

pub death_of-requires : goal.death_of-requires
death_of-requires c =
    subst IsInOrder (sym (c.as_slice.ensures.items ∙ c.in_ok-list-in-Dead.ensures.statuses)) (supposed_in_order c.args.world.now c.requires.checked c.args.t.0 c.args.event)

pub returns-in_ok-list-in-Dead-clause-pairs : goal.returns-in_ok-list-in-Dead-clause-pairs
returns-in_ok-list-in-Dead-clause-pairs c =
    let ss = supposed_statuses c.args.world.now c.args.t.0 c.args.event in
    holds_or_dead ss c.args.order.now c.follow_world.new.order (rw c.in-Dead.is at c.in_ok-follow_world.ensures.followed) c.death_of.result
