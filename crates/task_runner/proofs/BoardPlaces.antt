-- Where the tasks of a board stand that has closed, once a viewer has taken their seats in.
use mathlib.Core.Path.{fun_ext}
use Rattle.std.proofs.Common.{◌≡◌, ◌≢◌, ℕ, zero, suc, ◌<◌, ◌≤◌, true, List, [], ◌∷◌, Option, Some, None, length, sym, refl, ap, ◌∙◌, subst, arith, inl, inr}
use Rattle.std.specs.Prelude.{All, Contains, IsSome, is_some, slice_get}
use Rattle.std.proofs.lemmas.Bool.{cases_lt, false≢true}
use Rattle.std.proofs.lemmas.List.{get_or_past}
use Rattle.armus_base.specs.declared.event.Event.{Event}
use Rattle.armus_base.specs.calls.Boards.{IsLawful}
use Rattle.armus_base.specs.CheckedPlans.{IsCheckedPlan}
use Rattle.armus_base.specs.Plans.{Blocks, Forks, Plan, parent_of}
use Rattle.armus_base.specs.calls.Places.{IsConsistent, phases_at_place}
use Rattle.armus_base.specs.Places.{done_by, forked_at, kept, published_after}
use Rattle.armus_base.specs.Runs.{IsReachable, Place, first_place}
use Rattle.armus_base.proofs.BoardRuns.{lawful_is_reachable}
use Rattle.armus_base.proofs.Codes.{child_within}
use Rattle.armus_base.proofs.Fixed.{forked_at_is, phases_forked}
use Rattle.armus_base.proofs.Published.{published_undropped, same_place}
use Rattle.armus_base.proofs.Reachable.{reachable_is_fixed}
use Rattle.armus_base.proofs.RefusedHasDropped.{refused_has_dropped}
use Rattle.pl_core.specs.declared.place.Place.{Place as KeptPlace}
use Rattle.pl_core.specs.calls.Worlds.{dropped_at, memberships, place_from, places_at}
use Rattle.board.specs.declared.mode.Mode.{Mode}
use Rattle.board.specs.calls.Closing.{AreLastOf}
use Rattle.board.specs.calls.Seats.{Frame, IsOf, IsSeat, Known, event_of}
use Rattle.board.specs.calls.Views.{avoids, own_place, seen}
use Rattle.board.proofs.Closing.{some_task}
use Rattle.board.proofs.Seated.{event_here, next_there}
use Rattle.board.proofs.Walking.{published_is}
use Rattle.phase_scan.specs.calls.Looks.{LoadsAlone}
use Rattle.phase_scan.proofs.Loads.{goes_itself}
use Rattle.board_runs.specs.calls.Turns.{EndsTurn, EndsTurnWithin, HasLeftAll, StandsAtAwait, Working, is_behind, is_done, is_locked_out, is_refused, standing_of}
use Rattle.board_runs.specs.calls.TaskSeats.{ArePlacesOf, IsClosed, AreTaskSeats, AreTaskSeatsOf, IsSeatIn, KnowsTasks, own_number}
use Rattle.board_runs.proofs.Closed.{all_exact}
use Rattle.task_runner.proofs.EndedTurns.{HasEndedTurn}

module _ (f : Frame) (mode : Mode) (tasks : List Working) (board_tasks : AreTaskSeats f (IsSeatIn tasks)) (before now : Known) (known : KnowsTasks f tasks before)
    (goes : LoadsAlone before now) (of : IsOf now f) (words : List ℕ) (end : AreLastOf f.plan mode (seen now.view) words) where
  checked : IsCheckedPlan f.plan
  checked = subst IsCheckedPlan of.plan goes.kept.checked

  abbrev a : ℕ → Place
  a = end.last.places

  closed : IsClosed f.plan (seen now.view)
  closed = record {
    root = goes.seen_now.exact 0 ∙ known.closed.root;
    forked = λ t j c ex l forks.
        let was : (seen before.view).exact t ≡ true = sym (goes.seen_now.exact t) ∙ ex in
        goes.seen_now.exact c ∙ known.closed.forked t j c was (subst (λ (b : Place). j < b.done) (goes.seen_now.here t was) l) forks;
  }

  past : (t : ℕ) → length f.plan.parents ≤ t → (seen now.view).places t ≡ first_place
  past t l = get_or_past now.view.sight.places t first_place (let c = goes.kept.count in
      let p : length now.view.plan.parents ≡ length f.plan.parents = ap (λ (q : Plan). length q.parents) of.plan in omega arith)

  exact_all : (t : ℕ) → t < length f.plan.parents → forked_at f.plan (done_by (seen now.view).places) t ≡ true → (seen now.view).exact t ≡ true
  exact_all = all_exact f.plan mode a end.last.lock checked end.last.lawful (seen now.view) end.far closed past

  same : a ≡ (seen now.view).places
  same = end.exact exact_all

  reach : IsReachable f.plan a
  reach = lawful_is_reachable (avoids mode) f.plan a end.last.lock end.last.lawful

  pub consistent : IsConsistent f.plan a
  consistent = (reachable_is_fixed f.plan a checked reach).1

  -- each task stands where its seat stood
  pub stands : (w : Working) → Contains tasks w → a (own_number w) ≡ own_place w.seat.view
  stands w i = let k = known.here w i in (λ j. same j (own_number w)) ∙ goes.seen_now.here (own_number w) k.0 ∙ k.1

  small : (t : ℕ) → forked_at f.plan (done_by a) t ≡ true → t < length f.plan.parents
  small t forked = elim (forked_at_is f.plan (done_by a) t forked) [
    | inl z ↦ subst (λ u. u < length f.plan.parents) (sym z) (some_task f.plan checked)
    | inr g ↦ child_within f.plan (parent_of f.plan t) t (checked.codes.well_formed (parent_of f.plan t) g.0 (Forks t) g.2).0
  ]

  pub whose : (t : ℕ) → forked_at f.plan (done_by a) t ≡ true → (w : Working) × Contains tasks w × own_number w ≡ t
  whose t forked =
      known.only t (sym (goes.seen_now.exact t) ∙ exact_all t (small t forked) (subst (λ (b : ℕ → Place). forked_at f.plan (done_by b) t ≡ true) same forked))

  -- who is none of them has made no step
  first : (t : ℕ) → ((w : Working) → Contains tasks w → own_number w ≢ t) → a t ≡ first_place
  first t none = elim (cases_lt 0 (a t).done) [
    | inl begun ↦ (let w = whose t (consistent.begun t begun) in absurd (none w.0 w.1 w.2))
    | inr still ↦ same_place (a t) first_place (let z : (a t).done ≡ 0 = omega arith in z) (undropped (a t).dropped refl) refl
  ]
    where
      undropped : (o : Option ℕ) → (a t).dropped ≡ o → (a t).dropped ≡ None
      undropped None e = e
      undropped (Some q) e = (let w = whose t (consistent.refused t q e).0 in absurd (none w.0 w.1 w.2))

  -- whose event is published is not refused
  unrefused_there : (w : Working) → Contains tasks w → (e : Event) → event_of w.seat ≡ Some e → (own_place w.seat.view).dropped ≡ None
  unrefused_there w i e published =
      let s = board_tasks.each w.seat (w, i, refl) in
      let is : published_after f.plan (own_number w) (a (own_number w)).done ≡ Some e =
      ap (λ (b : Place). published_after f.plan (own_number w) b.done) (stands w i)
      ∙ ap (λ (q : Plan). published_after q (own_number w) (own_place w.seat.view).done) (sym s.of_board.plan) ∙ sym (event_here w.seat s.task s.own) ∙ published in
      ap (λ (b : Place). b.dropped) (sym (stands w i)) ∙ published_undropped f.plan a consistent (own_number w) e is

  unrefused_at_await : (w : Working) → Contains tasks w → StandsAtAwait w.seat → (own_place w.seat.view).dropped ≡ None
  unrefused_at_await w i (inl published) = (let e = published_is (event_of w.seat) published in unrefused_there w i e.0 e.1)
  unrefused_at_await w i (inr before) = (next_there w.seat.view (Blocks before.1.0) before.1.1).0

  -- a task whose turn has ended, and that is refused, is a member of nothing
  has_left : (w : Working) → Contains tasks w → (since : Known) → EndsTurn since w.seat → IsSome (own_place w.seat.view).dropped → HasLeftAll w.seat
  has_left w i since (is_done done) some = absurd (false≢true (subst IsSome done.unrefused some))
  has_left w i since (is_refused left) some = left
  has_left w i since (is_locked_out u mode at other may held) some = absurd (false≢true (subst IsSome (next_there w.seat.view (Blocks at.0) at.1).0 some))
  has_left w i since (is_behind e published few behind found) some = absurd (false≢true (subst IsSome (unrefused_there w i e published) some))

  pub has_left_within :
      (w : Working) → Contains tasks w → (bound loads : ℕ) (since : Known) → EndsTurnWithin bound loads since w.seat → IsSome (own_place w.seat.view).dropped →
      HasLeftAll w.seat
  has_left_within w i bound loads since (inl ends) some = has_left w i since ends some
  has_left_within w i bound loads since (inr cut) some = absurd (false≢true (subst IsSome (unrefused_at_await w i cut.1) some))

  -- where refused tasks are members of nothing, the places that the seats tell are those of the board
  module _ (places : List KeptPlace) (are : ArePlacesOf f.plan tasks places)
      (left : (w : Working) → Contains tasks w → IsSome (own_place w.seat.view).dropped → HasLeftAll w.seat) where
    all_dropped :
        (w : Working) → Contains tasks w → (t : ℕ) → own_number w ≡ t → (d : ℕ) → (own_place w.seat.view).dropped ≡ Some d → a t ≡ own_place w.seat.view →
        d ≡ memberships f.plan t (a t).done
    all_dropped w i t num d is place =
        let dropped : (a t).dropped ≡ Some d = ap (λ (b : Place). b.dropped) place ∙ is in
        let forked = (consistent.refused t d dropped).0 in
        let gone = left w i (subst (λ o. IsSome o) (sym is) refl) in
        let plan : w.seat.view.plan ≡ f.plan = (board_tasks.each w.seat (w, i, refl)).of_board.plan in
        refused_has_dropped f.plan a t d checked reach dropped
        (λ p.
        ap (λ m. kept (a t).dropped m p) (phases_forked f.plan checked (done_by a) t forked)
        ∙ (λ j. phases_at_place f.plan (sym num j) (place j) p)
        ∙ ap (λ (q : Plan). phases_at_place q (own_number w) (own_place w.seat.view) p) (sym plan)
        ∙ gone.nothing p)

    standing_is : (w : Working) → Contains tasks w → (t : ℕ) → own_number w ≡ t → place_from f.plan t (Some (standing_of w.seat)) ≡ a t
    standing_is w i t num = by_dropped (own_place w.seat.view).dropped refl
      where
        place : a t ≡ own_place w.seat.view
        place = ap a (sym num) ∙ stands w i

        done : (own_place w.seat.view).done ≡ (a t).done
        done = ap (λ (b : Place). b.done) (sym place)

        by_dropped : (o : Option ℕ) → (own_place w.seat.view).dropped ≡ o → place_from f.plan t (Some (standing_of w.seat)) ≡ a t
        by_dropped None is =
            same_place (place_from f.plan t (Some (standing_of w.seat))) (a t) done
            (ap (λ (o : Option ℕ). dropped_at f.plan t (own_place w.seat.view).done (is_some o)) is) (ap (λ (b : Place). b.dropped) place ∙ is)
        by_dropped (Some d) is =
            let members = all_dropped w i t num d is place in
            let dropped : dropped_at f.plan t (own_place w.seat.view).done (is_some (own_place w.seat.view).dropped) ≡ (a t).dropped =
            ap (λ (o : Option ℕ). dropped_at f.plan t (own_place w.seat.view).done (is_some o)) is ∙ ap (λ k. Some (memberships f.plan t k)) done ∙ ap Some (sym members)
            ∙ sym is ∙ ap (λ (b : Place). b.dropped) (sym place) in
            λ j. record { done = done j; dropped = dropped j }

    at_each : (t : ℕ) → places_at f.plan places t ≡ a t
    unfolding places_at
    at_each t = elim (cases_lt t (length f.plan.parents)) [
      | inl l ↦ elim (are.each t l) [
        | inl r ↦ ap (place_from f.plan t) r.3 ∙ standing_is r.0 r.1 t r.2
        | inr r ↦ ap (place_from f.plan t) r.1 ∙ sym (first t r.0)
      ]
      | inr l ↦ ap (place_from f.plan t) (none_past places t (let c = are.one_each in omega arith)) ∙ sym ((λ j. same j t) ∙ past t l)
    ]
      where
        none_past : (xs : List KeptPlace) (k : ℕ) → length xs ≤ k → slice_get xs k ≡ None
        none_past [] k l = refl
        none_past (x ∷ xs) zero l = absurd (omega arith)
        none_past (x ∷ xs) (suc k) l = none_past xs k (omega arith)

    pub at_places : places_at f.plan places ≡ a
    at_places = fun_ext at_each

    pub lawful_there : IsLawful (avoids mode) f.plan (places_at f.plan places) end.last.lock
    lawful_there = subst (λ (b : ℕ → Place). IsLawful (avoids mode) f.plan b end.last.lock) (sym at_places) end.last.lawful

-- where all turns have ended, the places that the seats tell are lawful, and those of the board
pub lawful_end :
    (f : Frame) (mode : Mode) (tasks : List Working) → AreTaskSeatsOf f tasks → (view : Known) → IsSeat view → KnowsTasks f tasks view → IsOf view f → (words : List ℕ) →
    AreLastOf f.plan mode (seen view.view) words → (bound loads : ℕ) → All (λ (w : Working). HasEndedTurn bound loads w.seat) tasks → (places : List KeptPlace) →
    ArePlacesOf f.plan tasks places →
    (lock : Option ℕ) × IsLawful (avoids mode) f.plan (places_at f.plan places) lock
lawful_end f mode tasks whole view seat known of words end bound loads ends places are =
    let still = goes_itself view seat in (
      end.last.lock,
      lawful_there f mode tasks whole.board_tasks view view known still of words end places are
          (λ w i.
          let turn = subst (λ (v : Working). HasEndedTurn bound loads v.seat) i.2 (ends i.0 w i.1) in
          has_left_within f mode tasks whole.board_tasks view view known still of words end w i bound loads turn.0 turn.1),
    )
