use Rattle.std.proofs.Common.{◌≤◌, ◌-◌, arith, inl, inr, subst, sym}
use Rattle.std.specs.Prelude.{slice_index_or}
use Rattle.std.proofs.lemmas.Bool.{cases_eq}
use Rattle.std.proofs.lemmas.List.{get_or_default}
use Rattle.run_queue.specs.declared.waiter.Waiter.{Waiter}
use Rattle.run_queue.proofs.wait_queue.place_behind.Goals as goal

pub returns-then-phase-waiters-clause-ahead : goal.returns-then-phase-waiters-clause-ahead
returns-then-phase-waiters-clause-ahead c = λ k d l.
    let vs = c.args.waiters.now in
    let n = c.ahead.at - 1 in
    let within = c.ahead.invariant.within in
    let some = c.ahead-test.true in
    let last : c.args.phase ≤ (slice_index_or vs n d).phase =
    subst (λ (w : Waiter). c.args.phase ≤ w.phase) (get_or_default vs n (record { task = record { 0 = 0 }; phase = 0 }) d (omega arith)) c.if-phase-waiters.true in
    elim (cases_eq k n) [
      | inl same ↦ subst (λ i. c.args.phase ≤ (slice_index_or vs i d).phase) (sym same) last
      | inr other ↦ (let more = c.requires.later_first k n d (omega arith) (omega arith) in omega arith)
    ]
