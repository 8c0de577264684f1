-- Beginnings of a list of statuses: they are in order, and what leaves the state graph over one leaves it over the list.
use Rattle.std.proofs.Common.{◌≡◌, ℕ, ◌≤◌, List, length, subst, arith, take}
use Rattle.std.proofs.lemmas.List.{take-take}
use Rattle.armus_base.specs.Counts.{IsCount}
use Rattle.armus_base.specs.Graphs.{StateCount, StateEdge, StaysSmall}
use Rattle.armus_base.specs.declared.event.Event.{Event}
use Rattle.armus_base.specs.declared.status.Status.{Status}
use Rattle.state_graph.specs.calls.BoundedEnds.{IsFirstLarge}

pub not_small : (ss : List Status) (m k n : ℕ) → IsFirstLarge (take m ss) k n → length (take m ss) ≤ m → length (take m ss) ≤ length ss → StaysSmall ss → ⊥
not_small ss m k n large short within small =
    let same : take k (take m ss) ≡ take k ss = take-take k m ss (let i = large.inside in omega arith) in
    let count : StateCount ss k n = subst (λ xs. IsCount (λ (r : Event × Event). StateEdge xs r.0 r.1) n) same large.count in
    (let few = small k n (let i = large.inside in omega arith) count in let l = large.large in omega arith)
