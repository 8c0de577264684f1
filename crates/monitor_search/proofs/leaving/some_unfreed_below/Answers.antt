use Rattle.std.proofs.Common.{◌∙◌, subst, []}
use Rattle.std.specs.Option.{option_copied}
use Rattle.monitor_members.specs.Noted.{pairs_of}
use Rattle.monitor_state.specs.Indexes.{AreResting}
use Rattle.monitor_search.specs.inside.Leaving.{is_unfreed}
use Rattle.monitor_search.proofs.Resting.{resting_told, unfreed_rests}
use Rattle.monitor_search.proofs.leaving.some_unfreed_below.Goals as goal

pub returns-in-None : goal.returns-in-None
returns-in-None c =
    let list = c.args.state.now.list in
    let p = c.args.p.now in
    let resting : AreResting list p [] = subst (λ o. AreResting list p (pairs_of (option_copied o))) c.in-None.is (c.resting_at.ensures list c.index.ensures.members) in
    resting_told list c.index.ensures.lawful.one_number p c.args.n [] resting (is_unfreed list) (λ u. unfreed_rests list u.condition)

pub returns-in-Some : goal.returns-in-Some
returns-in-Some c =
    let list = c.args.state.now.list in
    let p = c.args.p.now in
    let pairs = c.in-Some.pairs.now.keys in
    let resting : AreResting list p pairs = subst (λ o. AreResting list p (pairs_of (option_copied o))) c.in-Some.is (c.resting_at.ensures list c.index.ensures.members) in
    c.some_unfreed_at.ensures ∙ resting_told list c.index.ensures.lawful.one_number p c.args.n pairs resting (is_unfreed list) (λ u. unfreed_rests list u.condition)
