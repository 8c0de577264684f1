use Rattle.std.proofs.Common.{ℕ, ◌<◌, List, Option, sym, ap, ◌∙◌, subst, subst₂, arith}
use Rattle.std.specs.Prelude.{Contains}
use Rattle.std.specs.Mem.Slots.{slots_items}
use Rattle.slot_pool.specs.calls.Closing.{AreHome}
use Rattle.slot_pool.specs.calls.PoolValues.{WorkerValue, IsNumberOf, IsPlacedBy}
use Rattle.slot_pool.proofs.Closed.{closes, home_same}
use Rattle.slot_pool.proofs.pool.Pool.close.Goals as goal

pub gather-place-requires-clause-first : goal.gather-place-requires-clause-first
gather-place-requires-clause-first g c =
    let few : 0 < c.args.self.workers = let a = c.self.invariant.some_worker in let b = ap (λ f. f.workers) c.self.view_is in omega arith in
    subst (λ (ws : List WorkerValue). IsNumberOf ws 0) (sym c.into_vec.ensures.items) (c.requires.all_workers 0 few)

pub returns : goal.returns
returns g c =
    let number_of = g.R.Named.number in
    let key = c.self.inside.slots.shared.key in
    let told = c.self.invariant.told in
    let view = c.gather-place.ensures.view in
    let v = c.gather-place.result.0.me.0 in
    let workers = ap (λ k. k.workers) told ∙ ap (λ f. f.workers) c.self.view_is in
    let tasks = ap (λ k. k.tasks) told ∙ ap (λ f. f.tasks) c.self.view_is in
    let items = c.into_vec.ensures.items in
    let all : (k : ℕ) → k < key.workers → Contains v.numbers k = λ k l. view.numbers k
    (subst (λ (ws : List WorkerValue). IsNumberOf ws k) (sym items) (c.requires.all_workers k (subst (λ n. k < n) workers l))) in
    let home = closes number_of key c.gather-place.result.0.id v _ (slots_items c.close_with.result.slots) view.idle all c.close_with.ensures.values.2 in
    record {
      home = subst₂ (λ n (es : List (Option g.row.R.Denot)). AreHome number_of n (IsPlacedBy c.args.workers) es) tasks (sym (c.from_vec.ensures.items ∙ c.take_all.ensures))
          (home_same number_of key.tasks (Contains v.placed) (IsPlacedBy c.args.workers) (slots_items c.close_with.result.slots)
          (λ t p. subst (λ (ws : List WorkerValue). IsPlacedBy ws t) items (view.no_more t p)) (λ t q. view.placed t (subst (λ (ws : List WorkerValue). IsPlacedBy ws t) (sym items) q)) home);
    }
