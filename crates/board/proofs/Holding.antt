-- What a taking, a freeing, a try for the lock and a refusal make of a seat's own facts.
use Rattle.std.proofs.Common.{◌≡◌, ℕ, ◌<◌, Bool, true, false, Option, Some, None, length, sym, refl, ap, ◌∙◌, subst, length-set}
use Rattle.std.specs.Prelude.{unwrap_or}
use Rattle.std.proofs.lemmas.Bool.{false≢true}
use Rattle.atomic_table.specs.Seated.{TableId}
use Rattle.armus_base.specs.declared.event.Event.{Event}
use Rattle.armus_base.specs.Plans.{Aim, Plan, Refuses}
use Rattle.armus_base.specs.Runs.{next_place}
use Rattle.armus_base.specs.calls.Seats.{AvoidsByWhatIsSeen}
use Rattle.board.specs.declared.view.View.{View}
use Rattle.board.specs.calls.Views.{action_after, avoids, next_action, own_place, place_in, seen, task_of}
use Rattle.board.specs.calls.Steps.{after_action}
use Rattle.board.specs.calls.Seats.{Frame, IsOf, IsSeat, Known, MakesStep, event_of}
use Rattle.board.specs.inside.Sitting.{IsSitting}
use Rattle.board.specs.calls.Locking.{FindsHeld, FreesLock, MayRefuse, with_lock}
use Rattle.board.proofs.Seated.{event_here, stays_sitting, steps}

-- a seat stays one with the lock or without it
pub locked_seat :
    (table table' : TableId) (v w : View) (held : Bool) → (held ≡ true → avoids v.mode ≡ true) → IsSeat (record { table = table; view = v }) → w ≡ with_lock held v →
    IsSeat (record { table = table'; view = w })
locked_seat table table' v w held avoiding seat is =
    subst (λ (u : View). IsSeat (record { table = table'; view = u })) (sym is)
    (record { live = seat.live; checked = seat.checked; count = seat.count; few = seat.few; own = seat.own; lock = avoiding })

pub locked_sitting :
    (table table' : TableId) (v w : View) (t n : ℕ) (o : Option Event) (held : Bool) → (held ≡ true → avoids v.mode ≡ true) →
    IsSitting t n o (record { table = table; view = v }) → w ≡ with_lock held v →
    IsSitting t n o (record { table = table'; view = w })
locked_sitting table table' v w t n o held avoiding s is =
    let same : event_of (record { table = table'; view = with_lock held v }) ≡ event_of (record { table = table; view = v }) =
    event_here (record { table = table'; view = with_lock held v }) t s.task ∙ sym (event_here (record { table = table; view = v }) t s.task) in
    subst (λ (u : View). IsSitting t n o (record { table = table'; view = u })) (sym is)
    (record {
      task = s.task;
      seat = locked_seat table table' v (with_lock held v) held avoiding s.seat refl;
      scanned_is = s.scanned_is;
      event = s.event ∙ sym same;
      idle = λ e. s.idle (sym same ∙ e);
    })

pub frees_lock :
    (table table' : TableId) (v w : View) → IsSeat (record { table = table; view = v }) → w ≡ with_lock false v → table' ≡ table →
    FreesLock (record { table = table; view = v }) (record { table = table'; view = w })
frees_lock table table' v w seat is same = record { view = is; table = same; kept = locked_seat table table' v w false (λ has. absurd (false≢true has)) seat is }

-- the place after a refusal
refused_done : (k : ℕ) (o : Option ℕ) (aim : Aim) → (next_place k o (Refuses aim)).done ≡ k
refused_done k None p = refl
refused_done k (Some d) p = refl

module _ {table table' : TableId} {v w : View} (aim : Aim) (seat : IsSeat (record { table = table; view = v })) (within : task_of v < length v.sight.places)
    (is : w ≡ after_action (Refuses aim) v) where
  pub refused_seat : IsSeat (record { table = table'; view = w })
  refused_seat =
      subst (λ (u : View). IsSeat (record { table = table'; view = u })) (sym is)
      (record {
        live = seat.live;
        checked = seat.checked;
        count = length-set v.sight.places (task_of v) (next_place (own_place v).done (own_place v).dropped (Refuses aim)) ∙ seat.count;
        few = seat.few;
        own = seat.own;
        lock = seat.lock;
      })

  pub refuses_step : {now : Known} → record { table = table; view = v } ≡ now → table' ≡ table →
      MakesStep (Refuses aim) now (record { table = table'; view = w })
  refuses_step here same = steps (Refuses aim) here within is same refused_seat

  pub refuses_sitting : {t n : ℕ} {o : Option Event} → IsSitting t n o (record { table = table; view = v }) →
      IsSitting t n o (record { table = table'; view = w })
  refuses_sitting s = stays_sitting (Refuses aim) s (refused_done (own_place v).done (own_place v).dropped aim) refl is refused_seat

-- what is asked of who refuses, by the board's own plan
pub may_refuse_here :
    (k : Known) (f : Frame) (t : ℕ) (aim : Aim) → IsOf k f → k.view.own ≡ Some t → MayRefuse k aim → AvoidsByWhatIsSeen f.plan t (seen k.view) (Refuses aim)
may_refuse_here k f t aim of own may =
    subst (λ (q : Plan). AvoidsByWhatIsSeen q t (seen k.view) (Refuses aim)) of.plan
    (subst (λ u. AvoidsByWhatIsSeen k.view.plan u (seen k.view) (Refuses aim)) (ap (λ o. unwrap_or o 0) own) may)

-- what comes next stays so where the lock was found taken
pub busy_next : (k m : Known) (h t : ℕ) → k.view.own ≡ Some t → FindsHeld h k m → next_action m.view ≡ next_action k.view
busy_next k m h t own busy =
    let same = busy.meets.same in
    let task : task_of m.view ≡ task_of k.view = ap (λ o. unwrap_or o 0) same.own in
    let is_t : task_of k.view ≡ t = ap (λ o. unwrap_or o 0) own in
    let here : own_place m.view ≡ own_place k.view =
    ap (place_in m.view.sight.places) (task ∙ is_t) ∙ busy.meets.seen_now.place.others t (λ e. busy.meets.other (own ∙ ap Some e)) ∙ ap (place_in k.view.sight.places) (sym is_t) in
    λ i. action_after (same.plan i) (task i) (here i).done (here i).dropped
