use Rattle.std.proofs.Common.{◌≡◌, ℕ, ◌+◌, ◌<◌, ◌≤◌, ◌∷◌, ◌++◌, [], map, sym, ap, ap₂, ◌∙◌, subst, arith}
use Rattle.std.specs.List.{range_with_len}
use Rattle.std.proofs.lemmas.List.FromFn.{map-range_with_len_more}
use Rattle.std.specs.Vec.{vec_capacity}
use Rattle.atomic_table.specs.Seated.{TableId}
use Rattle.atomic_table.specs.Table.{Splits}
use Rattle.slot_pool.specs.declared.view.PoolView.{PoolView}
use Rattle.slot_pool.specs.calls.PoolValues.{WorkerValue}
use Rattle.slot_pool.specs.inside.Rule.{PoolHolds}
use Rattle.slot_pool.specs.calls.Views.{starting_view}
use Rattle.slot_pool.specs.inside.Views.{left_over, split_off}
use Rattle.slot_pool.proofs.SplitOff.{first_at_work, left_last, left_next, split_first, splits_left}
use Rattle.slot_pool.proofs.parting.part.Goals as goal

abbrev worker_value : TableId → PoolView → WorkerValue
worker_value t v = record { table = t; view = v }

pub split_seat-other-requires : goal.split_seat-other-requires
split_seat-other-requires g c =
    let before = c.loop-number.invariant in
    let key = c.pool.inside.slots.shared.key in
    let id = c.loop-number.place.id in (
      before.0 ∙ sym (ap (λ f. f.table) c.pool.view_is),
      (let a = c.pool.invariant.words in let b = c.pool.invariant.some_task in omega arith),
      subst (λ v. Splits (PoolHolds g.R.Named.number key) id v (left_over v) (split_off v)) (sym (ap (λ m. m.0) before.1))
          (splits_left g.R.Named.number key id c.args.workers c.loop-number.number (let l = c.loop-number-test.true in omega arith)),
    )

pub of-requires-clause-work : goal.of-requires-clause-work
of-requires-clause-work g c =
    let k = c.loop-number.number in
    first_at_work c.split_seat-other.result.table_id.words c.args.workers k c.split_seat-other.result.me c.requires.workers.2
    (c.split_seat-other.ensures.4 ∙ ap (λ m. (split_off m.0, [])) c.loop-number.invariant.1
    ∙ ap (λ v. (v, [])) (split_first c.args.workers k (let l = c.loop-number-test.true in omega arith)))

pub loop-number-preserved : goal.loop-number-preserved
loop-number-preserved g c =
    let before = c.loop-number.invariant in
    let split = c.split_seat-other.ensures in
    let k = c.loop-number.number in
    let small : k < c.args.workers = let l = c.loop-number-test.true in omega arith in
    let f : ℕ → WorkerValue = λ n. record { table = c.args.pool.now.table; view = starting_view c.args.workers n } in
    let new : c.of.result ≡ f k =
    c.of.ensures ∙ ap₂ worker_value (split.3 ∙ before.0) (ap (λ m. m.0) split.4 ∙ ap (λ m. split_off m.0) before.1 ∙ split_first c.args.workers k small) in (
      split.0 ∙ before.0,
      split.2 ∙ ap (λ m. (left_over m.0, m.1)) before.1 ∙ ap (λ v. (v, [])) (left_next c.args.workers k small),
      c.push_reserved.ensures.items ∙ ap₂ (λ xs (x : WorkerValue). xs ++ x ∷ []) before.2 new ∙ sym (map-range_with_len_more f 0 k k (let e : 0 + k ≡ k = omega arith in e)),
      (let a = c.push_reserved.ensures.len in let b = before.3 in omega arith),
      (let a = c.push_reserved.ensures.capacity in let b = before.4 in omega arith),
      record { empty = ap (λ v. v.items) c.replace-own.ensures.after ∙ c.new.ensures.items; enough = λ zero. absurd (omega arith) },
    )

pub returns : goal.returns
returns g c =
    let before = c.loop-number.invariant in
    let k = c.loop-number.number in
    let whole : c.args.workers ≡ k + 1 = let l = c.loop-number-test.false in let m = c.loop-number.auto.number-end in let n = c.requires.workers.1 in omega arith in
    let f : ℕ → WorkerValue = λ n. record { table = c.args.pool.now.table; view = starting_view c.args.workers n } in
    let new : c.of-2.result ≡ f k = c.of-2.ensures ∙ ap₂ worker_value before.0 (ap (λ m. m.0) before.1 ∙ left_last c.args.workers k whole) in
    c.push_reserved-2.ensures.items ∙ ap₂ (λ xs (x : WorkerValue). xs ++ x ∷ []) before.2 new ∙ sym (map-range_with_len_more f 0 k k (let e : 0 + k ≡ k = omega arith in e))
    ∙ ap (λ n. map f (range_with_len 0 n)) (sym whole) ∙ ap (λ w. map (λ n. worker_value c.args.pool.now.table (starting_view w n)) (range_with_len 0 w)) c.requires.workers.0

pub of-requires-clause-room : goal.of-requires-clause-room
of-requires-clause-room g c =
    let before = c.loop-number.invariant in
    let table = c.split_seat-other.ensures.3 ∙ before.0 in
    let room = before.5 in
    record {
      empty = ap (λ v. v.items) c.replace-own.ensures.value ∙ room.empty;
      enough = λ zero.
          let l : c.split_seat-other.result.table_id.words ≤ vec_capacity c.loop-number.entries = subst
          (λ (i : TableId). i.words ≤ vec_capacity c.loop-number.entries) (sym table) (room.enough zero) in
          let e = ap (λ v. vec_capacity v) c.replace-own.ensures.value in omega arith;
    }

pub of-requires-2-clause-room : goal.of-requires-2-clause-room
of-requires-2-clause-room g c =
    let before = c.loop-number.invariant in
    record {
      empty = before.5.empty;
      enough = λ zero. subst (λ (i : TableId). i.words ≤ vec_capacity c.loop-number.entries) (sym before.0)
          (before.5.enough (let l = c.loop-number.auto.number-end in omega arith));
    }
