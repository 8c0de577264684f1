-- Between other tasks the pairs of the statuses of a decision are those of the statuses that the collect has found.
use Rattle.std.proofs.Common.{◌≡◌, ◌≢◌, ℕ, true, List, Some}
use Rattle.std.specs.Prelude.{◌↔◌}
use Rattle.armus_base.specs.declared.event.Event.{Event}
use Rattle.armus_base.specs.declared.ids.TaskId.{TaskId}
use Rattle.armus_base.specs.declared.status.Status.{Status}
use Rattle.armus_base.specs.Graphs.{WaitsFor}
use Rattle.armus_base.specs.Plans.{Aim, Blocks}
use Rattle.board.specs.calls.Views.{next_action}
use Rattle.board.specs.calls.Seats.{IsSeat, Known}
use Rattle.avoider.specs.calls.OnBoard.{Judges}
use Rattle.avoider.proofs.InHand.{asked_before, listed_before, listed_too, on_other, other_on}
use Rattle.avoider.proofs.SamePairs.{IsPair, pair_from, pair_is}

module _ (list supposed : List Status) (aim : Aim) (e : Event) (before now : Known) (t : ℕ) (seat : IsSeat before) (own : before.view.own ≡ Some t)
    (locked : before.view.holds ≡ true) (next : next_action before.view ≡ Some (Blocks aim)) (j : Judges list aim e supposed before now) where
  pair_before : (a b : ℕ) → a ≢ t → b ≢ t → IsPair supposed a b → IsPair list a b
  pair_before a b na nb h =
      record {
        event = h.event;
        waits = on_other list supposed aim e before j.between now t seat own next j.own j.collected.goes_on j.collected.tells (j.collected.finds locked) j.adds a h.event na h.waits;
        phase = h.phase;
        behind =
            listed_before list supposed aim e before j.between now t seat own next j.own j.collected.goes_on j.collected.tells (j.collected.finds locked) j.adds b h.event.p.0 h.phase nb
            (asked_before list supposed aim e before j.between now t seat own next j.own j.collected.goes_on j.collected.tells (j.collected.finds locked) j.adds a h.event na h.waits)
            h.behind;
        below = h.below;
      }

  pair_too : (a b : ℕ) → a ≢ t → b ≢ t → IsPair list a b → IsPair supposed a b
  pair_too a b na nb h =
      record {
        event = h.event;
        waits = other_on list supposed aim e before j.between now t seat own next j.own j.collected.goes_on j.collected.tells (j.collected.finds locked) j.adds a h.event na h.waits;
        phase = h.phase;
        behind =
            listed_too list supposed aim e before j.between now t seat own next j.own j.collected.goes_on j.collected.tells (j.collected.finds locked) j.adds b h.event.p.0 h.phase nb
            h.behind;
        below = h.below;
      }

  pub pairs_of_others : (a b : TaskId) → a.0 ≢ t → b.0 ≢ t → WaitsFor supposed a b ↔ WaitsFor list a b
  pairs_of_others a b na nb = (
    λ h. pair_from list a b (pair_before a.0 b.0 na nb (pair_is supposed a b h)),
    λ h. pair_from supposed a b (pair_too a.0 b.0 na nb (pair_is list a b h)),
  )
