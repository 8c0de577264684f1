use Rattle.std.proofs.Common.{◌≡◌, ◌<◌, ℕ, false, true}
use Rattle.std.specs.Prelude.{slice_index_or}
use Rattle.armus_base.specs.declared.status.Status.{Status}
use Rattle.adaptive.specs.inside.Remaining.{IsRemainingOf, count_remaining}
use Rattle.adaptive.specs.inside.Standings.{IsRemainingImpeder, remains_at}
use Rattle.adaptive.proofs.remaining.Remaining.take_round.Given as goal

abbrev pub invariant-loop-k : goal.invariant-loop-k
invariant-loop-k l =
    record {
      kept : IsRemainingOf l.list l.self;
      quiet :
          l.taken ≡ false → (count_remaining l.self.remains.items ≡ count_remaining l.initial.self.remains.items)
          × ((k : ℕ) (s : Status) → k < l.k → remains_at l.self.remains.items k ≡ true →
          (j : ℕ) × IsRemainingImpeder l.list l.self.remains.items (slice_index_or l.list k s).event j);
      less : l.taken ≡ true → count_remaining l.self.remains.items < count_remaining l.initial.self.remains.items;
    }
