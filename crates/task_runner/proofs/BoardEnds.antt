-- What is known of a board that detects deadlock, once a viewer has taken the seats of its tasks in.
use Rattle.std.proofs.Common.{◌≡◌, ℕ, true, false, List, [], ◌∷◌, Option, Some, None, sym, refl, ap, ◌∙◌, subst, arith, inl, inr, ◌⊎◌}
use Rattle.std.specs.Prelude.{All, Contains, IsSome, is_some, slice_get}
use Rattle.std.proofs.lemmas.Bool.{false≢true}
use Rattle.std.proofs.lemmas.Option.{slice_get_within}
use Rattle.armus_base.specs.calls.Boards.{Does, Entry, Frees, HasNoLock, IsLawful, Takes, holder, steps_of}
use Rattle.armus_base.specs.Plans.{Plan, action_at}
use Rattle.armus_base.specs.Places.{done_by, forked_at, published_after, state_at}
use Rattle.armus_base.specs.Runs.{IsReachable, Place}
use Rattle.armus_base.proofs.BoardRuns.{lawful_is_reachable}
use Rattle.armus_base.proofs.Members.{plain_undropped}
use Rattle.pl_core.specs.declared.place.Place.{Place as KeptPlace}
use Rattle.pl_core.specs.calls.Worlds.{places_at}
use Rattle.board.specs.declared.mode.Mode.TheVariants.{Detect}
use Rattle.board.specs.calls.Closing.{AreLastOf}
use Rattle.board.specs.calls.Seats.{Frame, IsOf, Known, event_of}
use Rattle.board.specs.calls.Views.{avoids, own_place, seen}
use Rattle.board.specs.calls.Words.{IsShown}
use Rattle.board.proofs.Seated.{event_here}
use Rattle.phase_scan.specs.calls.Looks.{LoadsAlone}
use Rattle.board_runs.specs.calls.Turns.{EndsTurn, EndsTurnWithin, StandsAtAwait, Working, is_behind, is_done, is_locked_out, is_refused, standing_of}
use Rattle.board_runs.specs.calls.TaskSeats.{ArePlacesOf, AreTaskSeats, IsSeatIn, KnowsTasks, own_number}
use Rattle.task_runner.specs.calls.DetectRuns.{AreSettledPlaces}
use Rattle.task_runner.proofs.BoardPlaces.{at_places, stands, whose}
use Rattle.task_runner.proofs.EndedTurns.{HasEndedTurn}

no_holder : (entries : List Entry) → HasNoLock entries → holder entries ≡ None
no_holder [] free = refl
no_holder (Does e ∷ entries) free = no_holder entries free
no_holder (Takes t ∷ entries) free = absurd free
no_holder (Frees t ∷ entries) free = absurd free

module _ (f : Frame) (detects : f.mode ≡ Detect) (tasks : List Working) (board_tasks : AreTaskSeats f (IsSeatIn tasks))
    (places : List KeptPlace) (are : ArePlacesOf f.plan tasks places) (before now : Known) (known : KnowsTasks f tasks before) (goes : LoadsAlone before now)
    (of : IsOf now f) (words : List ℕ) (end : AreLastOf f.plan Detect (seen now.view) words) where
  abbrev a : ℕ → Place
  a = end.last.places

  undropped : (t : ℕ) → (a t).dropped ≡ None
  undropped t = ap (λ (b : Place). b.dropped) (sym (end.last.lawful.there t)) ∙ plain_undropped f.plan (steps_of end.last.lawful.entries) end.last.lawful.run.0 t

  -- each task stands where its seat stood, and is not refused
  stood : (w : Working) → Contains tasks w → a (own_number w) ≡ own_place w.seat.view
  stood = stands f Detect tasks board_tasks before now known goes of words end

  unrefused : (w : Working) → Contains tasks w → (own_place w.seat.view).dropped ≡ None
  unrefused w i = ap (λ (b : Place). b.dropped) (sym (stood w i)) ∙ undropped (own_number w)

  owner : (t : ℕ) → forked_at f.plan (done_by a) t ≡ true → (w : Working) × Contains tasks w × own_number w ≡ t
  owner = whose f Detect tasks board_tasks before now known goes of words end

  pub there : places_at f.plan places ≡ a
  there = at_places f Detect tasks board_tasks before now known goes of words end places are (λ w i some. absurd (false≢true (subst IsSome (unrefused w i) some)))

  pub lawful : IsLawful false f.plan (places_at f.plan places) None
  lawful =
      subst (λ (b : ℕ → Place). IsLawful false f.plan b None) (sym there)
      (record { entries = end.last.lawful.entries; run = end.last.lawful.run; there = end.last.lawful.there; held = no_holder end.last.lawful.entries end.last.lawful.run.1 })

  pub reachable : IsReachable f.plan (places_at f.plan places)
  reachable = lawful_is_reachable false f.plan (places_at f.plan places) None lawful

  pub plain : (t : ℕ) (place : KeptPlace) → slice_get places t ≡ Some place → place.refused ≡ false
  plain t place is =
      let within = slice_get_within places t place is in
      elim (are.each t (let c = are.one_each in omega arith)) [
        | inl r ↦
            (let e : Some place ≡ Some (standing_of r.0.seat) = sym is ∙ r.3 in
            let p : place ≡ standing_of r.0.seat = cc in
            let none : (own_place r.0.seat.view).dropped ≡ None = unrefused r.0 r.1 in
            ap (λ (q : KeptPlace). q.refused) p ∙ ap is_some none)
        | inr r ↦ (let e : Some place ≡ Some (record { events = 0; refused = false }) = sym is ∙ r.1 in
            let p : place ≡ record { events = 0; refused = false } = cc in ap (λ (q : KeptPlace). q.refused) p)
      ]

  pub shown : IsShown f.plan (state_at f.plan (places_at f.plan places)) None words
  shown =
      subst (λ (b : ℕ → Place). IsShown f.plan (state_at f.plan b) None words) (sym there)
      (subst (λ (o : Option ℕ). IsShown f.plan (state_at f.plan a) o words) (sym end.last.lawful.held ∙ no_holder end.last.lawful.entries end.last.lawful.run.1) end.last.shown)

  ended :
      (w : Working) → Contains tasks w → (since : Known) → EndsTurn since w.seat → (action_at f.plan (own_number w) (own_place w.seat.view).done ≡ None)
      ⊎ IsSome (published_after f.plan (own_number w) (own_place w.seat.view).done)
  ended w i since (is_done done) =
      let s = board_tasks.each w.seat (w, i, refl) in
      inl (ap (λ (q : Plan). action_at q (own_number w) (own_place w.seat.view).done) (sym s.of_board.plan) ∙ done.past)
  ended w i since (is_refused left) = absurd (false≢true (subst IsSome (unrefused w i) left.refused))
  ended w i since (is_locked_out u mode at other may held) =
      let s = board_tasks.each w.seat (w, i, refl) in
      absurd (false≢true (sym (ap avoids (s.of_board.mode ∙ detects)) ∙ mode))
  ended w i since (is_behind e published few behind found) =
      let s = board_tasks.each w.seat (w, i, refl) in
      let is : published_after f.plan (own_number w) (own_place w.seat.view).done ≡ Some e =
      ap (λ (q : Plan). published_after q (own_number w) (own_place w.seat.view).done) (sym s.of_board.plan) ∙ sym (event_here w.seat s.task s.own) ∙ published in
      inr (subst (λ o. IsSome o) (sym is) refl)

  at_await :
      (w : Working) → Contains tasks w → StandsAtAwait w.seat → (action_at f.plan (own_number w) (own_place w.seat.view).done ≡ None)
      ⊎ IsSome (published_after f.plan (own_number w) (own_place w.seat.view).done)
  at_await w i (inl published) =
      let s = board_tasks.each w.seat (w, i, refl) in
      let is : published_after f.plan (own_number w) (own_place w.seat.view).done ≡ event_of w.seat =
      ap (λ (q : Plan). published_after q (own_number w) (own_place w.seat.view).done) (sym s.of_board.plan) ∙ sym (event_here w.seat s.task s.own) in
      inr (subst (λ o. IsSome o) (sym is) published)
  at_await w i (inr before) =
      let s = board_tasks.each w.seat (w, i, refl) in
      absurd (false≢true (sym (ap avoids (s.of_board.mode ∙ detects)) ∙ before.0))

  ended_within :
      (w : Working) → Contains tasks w → (bound loads : ℕ) (since : Known) → EndsTurnWithin bound loads since w.seat →
      (action_at f.plan (own_number w) (own_place w.seat.view).done ≡ None) ⊎ IsSome (published_after f.plan (own_number w) (own_place w.seat.view).done)
  ended_within w i bound loads since (inl ends) = ended w i since ends
  ended_within w i bound loads since (inr cut) = at_await w i cut.1

  -- where all of them have come to the end of their turns
  pub settled : (bound loads : ℕ) → All (λ (w : Working). HasEndedTurn bound loads w.seat) tasks → AreSettledPlaces f.plan (places_at f.plan places)
  settled bound loads ends =
      subst (AreSettledPlaces f.plan) (sym there)
      (λ t forked.
      let r = owner t forked in
      let place : own_place r.0.seat.view ≡ a t = sym (stood r.0 r.1) ∙ ap a r.2 in
      let turn = all_each tasks ends r.0 r.1 in
      let e = ended_within r.0 r.1 bound loads turn.0 turn.1 in
      subst (λ u. (action_at f.plan u (a t).done ≡ None) ⊎ IsSome (published_after f.plan u (a t).done)) r.2
      (subst (λ (b : Place). (action_at f.plan (own_number r.0) b.done ≡ None) ⊎ IsSome (published_after f.plan (own_number r.0) b.done)) place e))
    where
      all_each : (ws : List Working) → All (λ (w : Working). HasEndedTurn bound loads w.seat) ws → (w : Working) → Contains ws w → HasEndedTurn bound loads w.seat
      all_each ws all w i = subst (λ (v : Working). HasEndedTurn bound loads v.seat) i.2 (all i.0 w i.1)
