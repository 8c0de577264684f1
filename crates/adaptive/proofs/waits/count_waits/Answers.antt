use Rattle.std.proofs.Common.{◌≡◌, ◌+◌, ◌≤◌, ◌∙◌, ap, arith, get_or, length, subst, sum_by, sym, take, map}
use Rattle.std.proofs.lemmas.List.{length-map, take_all}
use Rattle.std.proofs.lemmas.List.Sorted.{length_permutation}
use Rattle.std.proofs.lemmas.List.Sums.{sum_by_more}
use Rattle.armus_base.specs.Counts.{IsCount}
use Rattle.armus_base.specs.Graphs.{WaitsFor}
use Rattle.armus_base.specs.declared.ids.TaskId.{TaskId}
use Rattle.armus_base.specs.declared.status.Status.{Status}
use Rattle.adaptive.specs.inside.Waits.{waits_on}
use Rattle.adaptive.proofs.CountedWaits.{waits_counted, waits_few}
use Rattle.adaptive.proofs.waits.count_waits.Goals as goal
use Rattle.adaptive.proofs.waits.count_waits.Goals.{After-waits_on-waits}

-- what the call answers, by the events in order
by_events : (c : After-waits_on-waits) → c.waits_on-waits.result ≡ waits_on c.in_ok-events.events.items (get_or c.args.list.now c.loop-k.k c.index-list-k.result).phases
by_events c =
    c.waits_on-waits.ensures
    ∙ ap (λ xs. waits_on xs c.as_slice.result.now) c.deref.ensures.value
    ∙ ap (waits_on c.in_ok-events.events.items) c.as_slice.ensures.items

-- a task impedes the events of as many tasks as there are, at most
bounded : (c : After-waits_on-waits) → c.waits_on-waits.result ≤ length c.args.list.now
bounded c =
    let list = c.args.list.now in
    let s = c.index-list-k.result in
    (let le = waits_few list c.requires.order c.in_ok-events.events.items c.in_ok-events.ensures s (c.loop-k.k, omega arith, sym c.index-list-k.is) in
    let is = by_events c ∙ ap (λ (v : Status). waits_on c.in_ok-events.events.items v.phases) (sym c.index-list-k.is) in
    omega arith)

pub waits_on-waits-requires-clause-few : goal.waits_on-waits-requires-clause-few
waits_on-waits-requires-clause-few c =
    (let few = c.requires.order.few in
    let same = length_permutation (map (λ (s : Status). s.event) c.args.list.now) c.in_ok-events.events.items c.in_ok-events.ensures.same in
    let mapped = length-map c.args.list.now (λ (s : Status). s.event) in
    let at = ap length c.deref.ensures.value in
    omega arith)

pub overflow_add-waits : goal.overflow_add-waits
overflow_add-waits c = (let le = bounded c in let f = c.loop-k.invariant.few in let few = c.requires.order.few in omega arith)

pub loop-k-preserved : goal.loop-k-preserved
loop-k-preserved c =
    let k = c.loop-k.k in
    let list = c.args.list.now in
    let events = c.in_ok-events.events.items in
    let i = c.loop-k.invariant in
    record {
      counted =
          ap (λ n. n + c.waits_on-waits.result) i.counted
          ∙ ap (λ n. sum_by (λ (s : Status). waits_on events s.phases) (take k list) + n) (by_events c)
          ∙ sym (sum_by_more (λ (s : Status). waits_on events s.phases) list k c.index-list-k.result (omega arith));
      few = (let le = bounded c in let f = i.few in let few = c.requires.order.few in omega arith);
    }

pub returns : goal.returns
returns c =
    subst (IsCount (λ (p : TaskId × TaskId). WaitsFor c.args.list.now p.0 p.1))
    (sym (c.loop-k.invariant.counted ∙ ap (sum_by (λ (s : Status). waits_on c.in_ok-events.events.items s.phases)) (take_all c.loop-k.k c.args.list.now (omega arith))))
    (waits_counted c.args.list.now c.requires.order c.in_ok-events.events.items c.in_ok-events.ensures)
