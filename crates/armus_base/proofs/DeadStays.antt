-- A dead task stays dead where it stands.
use Rattle.std.proofs.Common.{◌≡◌, ℕ, ◌<◌, ◌≤◌, true, Some, None, arith, sym, ◌∙◌, ap}
use Rattle.armus_base.specs.declared.event.Event.{Event}
use Rattle.armus_base.specs.States.{State}
use Rattle.armus_base.specs.Runs.{places, state_after}
use Rattle.armus_base.specs.calls.Places.{IsConsistent}
use Rattle.armus_base.specs.Places.{done_by, kept, phases_after, phases_at, published_after, state_at}
use Rattle.armus_base.specs.Deadlocks.{IsAtPhase, IsPublishedOn}
use Rattle.armus_base.specs.calls.DeadlockLaws.{DeadStays}
use Rattle.armus_base.proofs.Fixed.{phases_forked}
use Rattle.armus_base.proofs.Stepping.{places_fix}
use Rattle.armus_base.proofs.ReachedLater.{later_done}
use Rattle.armus_base.proofs.Published.{published_after_is, published_undropped, same_place}
use Rattle.armus_base.proofs.CollectedIsDead.{stands_there, deadlocked_there}

pub dead_stays : DeadStays
dead_stays plan h g t checked run_h run_g later dead = (
  record {
    tasks = dead.tasks;
    inside = dead.inside;
    deadlocked = deadlocked_there plan checked g run_g (IsPublishedOn s) (IsAtPhase s) dead.tasks (done_by (places h)) (λ u p. done_by (places h) u)
        dead.deadlocked waiting phases reaches;
  },
  there,
)
  where
    s : State
    s = state_after h

    at_h : (s ≡ state_at plan (places h)) × IsConsistent plan (places h)
    at_h = places_fix plan checked h run_h

    waiting : (u : ℕ) (e : Event) → dead.tasks u ≡ true → s.published u ≡ Some e → published_after plan u (done_by (places h) u) ≡ Some e
    waiting u e inside w = ap (λ r. r.published u) (sym at_h.0) ∙ w

    reaches : (u : ℕ) → dead.tasks u ≡ true → done_by (places h) u ≤ done_by (places g) u
    reaches u inside = later_done (places h u).done (places g u).done (places h u).dropped (places g u).dropped (later u)

    undropped : (u : ℕ) → dead.tasks u ≡ true → (places h u).dropped ≡ None
    undropped u inside =
        let held = dead.deadlocked.each u inside in
        published_undropped plan (places h) at_h.1 u held.event (waiting u held.event inside held.waits)

    phases :
        (u p n : ℕ) → dead.tasks u ≡ true → s.phases u p ≡ Some n →
        done_by (places h) u ≤ done_by (places h) u × done_by (places h) u ≤ done_by (places g) u × phases_after plan u (done_by (places h) u) p ≡ Some n
    phases u p n inside e =
        let held = dead.deadlocked.each u inside in
        let is = published_after_is plan u (done_by (places h) u) held.event (waiting u held.event inside held.waits) in
        let begun : 0 < done_by (places h) u = (let x = is.1 in omega arith) in (
          omega arith,
          reaches u inside,
          ap (λ m. m p) (sym (phases_forked plan checked (done_by (places h)) u (at_h.1.begun u begun)))
              ∙ ap (λ o. kept o (phases_at plan (done_by (places h)) u) p) (sym (undropped u inside))
              ∙ ap (λ r. r.phases u p) (sym at_h.0)
              ∙ e,
        )

    there : places g t ≡ places h t
    there =
        let same = stands_there plan checked g run_g (IsPublishedOn s) (IsAtPhase s) dead.tasks (done_by (places h)) (λ u p. done_by (places h) u)
        dead.deadlocked waiting phases reaches t dead.inside in
        let held = dead.deadlocked.each t dead.inside in
        let undropped_g = published_undropped plan (places g) (places_fix plan checked g run_g).1 t held.event
        (ap (published_after plan t) same ∙ waiting t held.event dead.inside held.waits) in
        same_place (places g t) (places h t) same undropped_g (undropped t dead.inside)
