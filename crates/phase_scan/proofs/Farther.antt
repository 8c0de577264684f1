-- What is as far on as what a seat has seen after loads is as far on as what it had seen before them.
use Rattle.std.proofs.Common.{ℕ, ◌≤◌, Option, Some, None, ◌∙◌, subst, arith}
use Rattle.armus_base.specs.declared.event.Event.{Event}
use Rattle.armus_base.specs.Plans.{Plan}
use Rattle.armus_base.specs.States.{State}
use Rattle.armus_base.specs.Runs.{Place}
use Rattle.armus_base.specs.Places.{published_after, state_at}
use Rattle.armus_base.specs.calls.Boards.{IsLawful}
use Rattle.armus_base.specs.calls.Seats.{IsAsFarOn, IsScanned, SeenBy}
use Rattle.board.specs.declared.mode.Mode.{Mode}
use Rattle.board.specs.calls.Views.{avoids, seen}
use Rattle.board.specs.calls.Steps.{WasSo}
use Rattle.board.specs.calls.Seats.{IsSeat, Known}
use Rattle.phase_scan.specs.calls.Looks.{LoadsAlone}
use Rattle.phase_scan.proofs.Loads.{prefix_both}

-- what is as far on as what the seat of a task has seen is as far on as what a viewer has that has seen the same
pub far_of_viewer : (plan : Plan) (own : Option ℕ) (a : ℕ → Place) (s : SeenBy) → IsAsFarOn plan own a s → IsAsFarOn plan None a s
far_of_viewer plan own a s far = record { later = far.later; equal = far.equal; scanned = λ t is. absurd (cc) }

scanned_less : (s : State) (i j : ℕ) (o : Option Event) → i ≤ j → IsScanned s j o → IsScanned s i o
scanned_less s i j None l scanned = tt
scanned_less s i j (Some e) l scanned = λ u m small is. scanned u m (omega arith) is

pub far_before :
    (k m : Known) (a : ℕ → Place) → IsSeat k → LoadsAlone k m → IsAsFarOn m.view.plan m.view.own a (seen m.view) →
    IsAsFarOn k.view.plan k.view.own a (seen k.view)
far_before k m a seat goes far =
    let g = subst (λ (o : Option ℕ). IsAsFarOn k.view.plan o a (seen m.view)) goes.same.own
    (subst (λ (q : Plan). IsAsFarOn q m.view.own a (seen m.view)) goes.same.plan far) in
    record {
      later = λ u l. prefix_both ((seen k.view).places u) ((seen m.view).places u) (a u) (goes.seen_now.later u) (g.later u l);
      equal = λ u l is. g.equal u l (goes.seen_now.exact u ∙ is) ∙ goes.seen_now.here u is;
      scanned = λ u own.
          scanned_less (state_at k.view.plan a) (seen k.view).scanned (seen m.view).scanned (published_after k.view.plan u ((seen k.view).places u).done)
          goes.seen_now.scanned
          (subst (λ (b : Place). IsScanned (state_at k.view.plan a) (seen m.view).scanned (published_after k.view.plan u b.done))
          (goes.seen_now.here u (seat.own u own).1) (g.scanned u own));
    }

-- a lawful state as far on as what a seat has seen, in which this holds
pub record IsPossible (k : Known) (Holds : State → Type 0) : Type 0 where
  pub places : ℕ → Place
  pub lock : Option ℕ
  pub lawful : IsLawful (avoids k.view.mode) k.view.plan places lock
  pub far : IsAsFarOn k.view.plan k.view.own places (seen k.view)
  pub holds : Holds (state_at k.view.plan places)

-- what a later load found held in a state that was possible before
pub possible_before :
    (k from to : Known) (Holds : State → Type 0) → IsSeat k → LoadsAlone k from → WasSo from.view.plan from.view.mode Holds from.view to.view →
    IsPossible k Holds
possible_before k from to Holds seat goes was =
    record {
      places = was.places;
      lock = was.lock;
      lawful = subst (λ (d : Mode). IsLawful (avoids d) k.view.plan was.places was.lock) goes.same.mode
          (subst (λ (q : Plan). IsLawful (avoids from.view.mode) q was.places was.lock) goes.same.plan was.lawful);
      far = far_before k from was.places seat goes was.before_far;
      holds = subst (λ (q : Plan). Holds (state_at q was.places)) goes.same.plan was.holds;
    }
