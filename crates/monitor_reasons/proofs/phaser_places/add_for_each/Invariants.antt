use Rattle.std.proofs.Common.{◌≡◌, ◌==◌, ℕ, true, take}
use Rattle.std.specs.Prelude.{Contains}
use Rattle.std.specs.List.{list_any}
use Rattle.monitor_reasons.specs.inside.PhaserPlaces.{places_numbered}
use Rattle.monitor_reasons.proofs.phaser_places.add_for_each.Given as goal

-- so far
abbrev pub invariant-loop-number : goal.invariant-loop-number
invariant-loop-number l = record {
  own : (k : ℕ) → list_any (λ j. j == k) (take l.number-index l.numbers) ≡ true → Contains (places_numbered l.groups k) l.place;
  others : (k : ℕ) (i : ℕ) → Contains (places_numbered l.fn.groups k) i → Contains (places_numbered l.groups k) i;
}
