use Rattle.std.proofs.Common.{◌<◌, ◌||◌, ◌==◌, get_or, length, take, ℕ, List, subst, ◌∙◌, ap, rules}
use Rattle.std.specs.Prelude.{Contains, filter}
use Rattle.monitor_laws.specs.States.{Participant}
use Rattle.monitor_laws.proofs.Filters.{from_filter}
use Rattle.monitor_search.specs.Known.{has_stuck_number}
use Rattle.monitor_search.proofs.NumberSearch.{known_below, lower_in_front}
use Rattle.monitor_search.proofs.joining.stuck_with.Goals as goal

pub push-requires : goal.push-requires
push-requires c = λ t within.
    let list = c.args.state.now.list in
    let i = c.loop-u.u-index in
    let u = c.u-item.result in
    let same = c.participants-u-items.ensures.list in
    let inside : i < length list = search rules in
    let is = c.u-item.is ∙ ap (λ (l : List Participant). get_or l i u) same in
    let passes = λ (x : Participant). has_stuck_number c.args.was.now x.number || x.number == c.args.number in
    known_below (filter passes (take i list)) u.number
    (λ x listed. lower_in_front list i u c.participants-u-items.ensures.ascending inside is x (from_filter passes (take i list) x listed).0)
    t (subst (λ (l : List (ℕ × List ℕ)). Contains l t) c.loop-u.invariant within)
