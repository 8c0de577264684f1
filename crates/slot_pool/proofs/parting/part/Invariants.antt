use Rattle.std.proofs.Common.{◌≡◌, ◌≤◌, [], map}
use Rattle.std.specs.List.{range_with_len}
use Rattle.std.specs.Vec.{vec_capacity, vec_len}
use Rattle.slot_pool.specs.inside.Parting.{left_for}
use Rattle.slot_pool.specs.inside.Workers.{HasRoom}
use Rattle.slot_pool.specs.calls.Views.{starting_view}
use Rattle.slot_pool.proofs.parting.part.Given as goal

abbrev pub invariant-loop-number : goal.invariant-loop-number
invariant-loop-number g l =
    (l.place.table_id ≡ l.pool.table) × (l.place.me ≡ (left_for l.workers l.number, []))
    × (l.hands.items ≡ map (λ k. record { table = l.pool.table; view = starting_view l.workers k }) (range_with_len 0 l.number))
    × (vec_len l.hands ≡ l.number) × (l.workers ≤ vec_capacity l.hands) × HasRoom l.pool.table.words l.number l.entries.items (vec_capacity l.entries)
