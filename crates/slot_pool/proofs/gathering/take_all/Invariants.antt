use Rattle.std.proofs.Common.{◌≡◌, ℕ, ◌<◌, ◌≤◌, false, get_or, take}
use Rattle.std.specs.Vec.{vec_capacity, vec_len}
use Rattle.std.specs.Mem.Slots.{slots_filled, slots_items, slots_len}
use Rattle.std.specs.Mem.Slots.Ownership.{Filled}
use Rattle.slot_pool.proofs.gathering.take_all.Given as goal

abbrev pub invariant-loop-slot : goal.invariant-loop-slot
invariant-loop-slot g l =
    record {
      left : Filled (slots_filled l.closed.slots) l.slot (slots_len l.closed.slots);
      taken : (k : ℕ) → k < l.slot → get_or (slots_filled l.closed.slots) k false ≡ false;
      items : slots_items l.closed.slots ≡ slots_items l.fn.closed.slots;
      count : slots_len l.closed.slots ≡ l.slot-end;
      entries : l.entries.items ≡ take l.slot (slots_items l.fn.closed.slots);
      len : vec_len l.entries ≡ l.slot;
      room : slots_len l.closed.slots ≤ vec_capacity l.entries;
    }
