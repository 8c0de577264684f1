use Rattle.std.proofs.Common.{◌<◌, length, take, subst, ℕ, List, rules}
use Rattle.std.specs.Prelude.{Contains, filter}
use Rattle.monitor_laws.specs.Faults.{waits_now}
use Rattle.monitor_laws.proofs.Filters.{from_filter}
use Rattle.monitor_search.specs.inside.Partings.{referred}
use Rattle.monitor_search.proofs.NumberSearch.{known_below, lower_before}
use Rattle.monitor_search.proofs.parting.waiting_of.Goals as goal

pub push-requires : goal.push-requires
push-requires c = λ t within.
    let items = c.args.these.now in
    let i = c.loop-u.u-index in
    let r = c.u-item.result in
    let inside : i < length items = search rules in
    known_below (filter (λ u. waits_now u.condition) (referred (take i items))) r.now.number
    (λ u listed. lower_before items i r c.requires inside c.u-item.is u (from_filter (λ v. waits_now v.condition) (referred (take i items)) u listed).0)
    t (subst (λ (l : List (ℕ × List ℕ)). Contains l t) c.loop-u.invariant within)
