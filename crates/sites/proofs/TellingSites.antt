-- What the statuses of a snap tell.
use Rattle.std.proofs.Common.{◌≡◌, ℕ, ◌<◌, Bool, true, List, Option, Some, None, length, sym, refl, ap, ◌∙◌, subst, arith, inl, inr}
use Rattle.std.specs.Prelude.{is_some}
use Rattle.std.proofs.lemmas.Bool.{cases_Bool}
use Rattle.armus_base.specs.declared.event.Event.{Event}
use Rattle.armus_base.specs.declared.status.Status.{Status}
use Rattle.armus_base.specs.Plans.{Plan}
use Rattle.armus_base.specs.Runs.{Place}
use Rattle.armus_base.specs.calls.Places.{phases_at_place}
use Rattle.armus_base.specs.Places.{published_after, state_at}
use Rattle.armus_base.specs.CheckedPlans.{IsCheckedPlan}
use Rattle.armus_base.specs.calls.Boards.{IsLawful}
use Rattle.armus_base.specs.Deadlocks.{IsListedOn}
use Rattle.armus_base.specs.calls.FinalLaws.{AreStatuses}
use Rattle.armus_base.specs.calls.Seats.{IsAsFarOn}
use Rattle.armus_base.proofs.StatusesAre.{statuses_are}
use Rattle.board.specs.calls.Views.{avoids, seen}
use Rattle.board.specs.calls.Words.{found_in}
use Rattle.board.specs.calls.Seats.{IsSeat, Known}
use Rattle.phase_scan.specs.calls.Looks.{LoadsAlone}
use Rattle.phase_scan.specs.calls.Collects.{waiting_on}
use Rattle.phase_scan.proofs.Loads.{goes_both}
use Rattle.phase_scan.proofs.Farther.{IsPossible, far_of_viewer, possible_before}
use Rattle.phase_scan.proofs.Standing.{dead_place, phases_begun_at, published_begun, word_waits}
use Rattle.phase_scan.proofs.ChosenLoads.{chosen_go, chosen_of}
use Rattle.phase_scan.proofs.FoundPlaces.{Gathers, IsLoaded, all_found, all_go, at, found, listed, listed_there, phase, possible_by}
use Rattle.sites.specs.calls.Rows.{is_of_site}
use Rattle.sites.specs.calls.Snaps.{InEachPlaces, IsBacked, IsDeadToViewer, IsListedWhole, IsListedWith, IsSnap, KnowsPlace, TellsSite}

-- a snap of a site with a task: the viewer's seat was one before
module _ (before now : Known) (sites site : ℕ) (list : List Status) (checked : IsCheckedPlan before.view.plan) (seat : IsSeat before)
    (c : IsSnap before.view.plan sites site list before now) where
  abbrev plan : Plan
  plan = before.view.plan

  abbrev tasks : ℕ
  tasks = length plan.parents

  abbrev phasers : ℕ
  phasers = length plan.makers

  abbrev all : ℕ → Bool
  all p = true

  abbrev own : ℕ → Bool
  own = is_of_site sites site

  awaits : LoadsAlone before c.between
  awaits = chosen_go plan own c.found.published tasks before c.between refl (omega arith) seat c.awaits

  -- the await words of the site's tasks, and the phase words on all phasers
  gathers : Gathers before c.between now own all c.found list
  gathers =
      record {
        checked = checked;
        seat = seat;
        awaits = awaits;
        await = λ t l is. chosen_of plan own c.found.published tasks before c.between refl (omega arith) seat c.awaits t l is;
        own = λ t e on. elim (cases_Bool (own t)) [ inl is ↦ is | inr off ↦ absurd (let none = c.others t off in cc) ];
        loads = c.rows;
        are = subst (AreStatuses plan c.found all) (sym c.statuses) (statuses_are plan c.found all checked);
      }

  pub snap_goes : LoadsAlone before now
  snap_goes = all_go gathers

  abbrev IsTaskOfSite : ℕ → Type 0
  IsTaskOfSite t = t < tasks × own t ≡ true

  -- where the site has a task, some lawful state was possible before
  pub some_possible : (t : ℕ) → IsTaskOfSite t → IsPossible before (λ s. Unit {0})
  some_possible t task = possible_by gathers t task

  backed : IsBacked plan list (seen now.view).places
  backed = record { at = at gathers; found = found gathers; there = all_found gathers }

  idle : (t : ℕ) → IsTaskOfSite t → ((e : Event) → IsListedOn list t e → ⊥) → published_after plan t ((seen now.view).places t).done ≡ None
  idle t task unlisted = by_event (published_after plan t ((seen now.view).places t).done) refl
    where
      by_event : (o : Option Event) → published_after plan t ((seen now.view).places t).done ≡ o → o ≡ None
      by_event None is = refl
      by_event (Some f) is = (let (e, on) = listed_there gathers t f task is in absurd (unlisted e on))

  -- a task that stands at a known place, published there, is listed as it is there
  module _ (t : ℕ) (place : Place) (e : Event) (task : IsTaskOfSite t) (known : KnowsPlace before t place) (on : published_after plan t place.done ≡ Some e) where
    known_listed : IsListedOn list t e
    known_listed =
        let x = gathers.await t task.0 task.1 in
        let was = possible_before before x.from x.to (λ s. found_in s t ≡ x.finds.answer) seat x.goes_from x.finds.load.load.was in
        let same : was.places t ≡ place = known was.places was.lock was.lawful (far_of_viewer plan before.view.own was.places (seen before.view) was.far) in
        let there : (state_at plan was.places).published t ≡ Some e = ap (λ (v : Place). published_after plan t v.done) same ∙ on in
        let waits : waiting_on x.finds.answer ≡ Some e =
        ap waiting_on (sym was.holds) ∙ word_waits ((state_at plan was.places).published t) ((state_at plan was.places).refused t) e there in
        (gathers.are.events t e).1 (task.0, x.finds.waits ∙ waits)

    known_phase : (p : ℕ) → p < phasers → phases_at_place plan t place p ≡ c.found.phases t p
    known_phase p phaser =
        let loaded : IsLoaded gathers t p = (task, ap is_some (listed gathers t e known_listed).1, phaser, refl) in
        let y = phase gathers t p loaded in
        let goes = goes_both before c.between y.from awaits y.goes_from in
        let was = possible_before before y.from y.to (λ s. s.phases t p ≡ c.found.phases t p) seat goes y.load.load.was in
        let same : was.places t ≡ place = known was.places was.lock was.lawful (far_of_viewer plan before.view.own was.places (seen before.view) was.far) in
        let begun : 0 < (was.places t).done = subst (λ (v : Place). 0 < v.done) (sym same) (published_begun plan checked t place.done e on) in
        ap (λ v. phases_at_place plan t v p) (sym same)
        ∙ sym (ap (λ m. m p) (phases_begun_at plan checked (avoids before.view.mode) was.places was.lock was.lawful t begun))
        ∙ was.holds

    pub known_whole : IsListedWhole plan list t place e
    known_whole =
        record {
          listed = known_listed;
          phases = λ p n phaser. (
            λ has. (gathers.are.phases t p n).1 record {
              task = task.0;
              event = e;
              published = (listed gathers t e known_listed).1;
              phaser = phaser;
              asked_for = refl;
              phase = sym (known_phase p phaser) ∙ has;
            },
            λ has. known_phase p phaser ∙ ((gathers.are.phases t p n).0 has).phase,
          );
        }

  -- a task that was known to be dead stands at a known place
  dead_there :
      (t : ℕ) → IsTaskOfSite t → IsDeadToViewer before t → (a : ℕ → Place) (lock : Option ℕ) → IsLawful (avoids before.view.mode) plan a lock →
      IsAsFarOn plan None a (seen before.view) → KnowsPlace before t (a t)
  dead_there t task known a lock lawful far b lock' lawful' far' =
      dead_place plan checked (avoids before.view.mode) t b a lock' lock lawful' lawful (known b lock' lawful' far') (known a lock lawful far)

  dead : (t : ℕ) → IsTaskOfSite t → IsDeadToViewer before t → InEachPlaces before (λ a. IsListedWith plan list (state_at plan a) t)
  dead t task known a lock lawful far =
      let is_dead = known a lock lawful far in
      let held = is_dead.deadlocked.each t is_dead.inside in
      let e = held.event in
      let whole = known_whole t (a t) e task (dead_there t task known a lock lawful far) held.waits in
      let begun : 0 < (a t).done = published_begun plan checked t (a t).done e held.waits in
      let at_place = phases_begun_at plan checked (avoids before.view.mode) a lock lawful t begun in (
        e,
        held.waits,
        whole.listed,
        λ p n phaser. (
          λ has. (whole.phases p n phaser).0 (sym (ap (λ m. m p) at_place) ∙ has),
          λ has. ap (λ m. m p) at_place ∙ (whole.phases p n phaser).1 has,
        ),
      )

  pub snap_tells : TellsSite plan sites site list before now
  snap_tells =
      record {
        backed = backed;
        idle = λ t l is unlisted. idle t (l, is) unlisted;
        waiting = λ t place e l is known on. known_whole t place e (l, is) known on;
        dead = λ t l is known. dead t (l, is) known;
      }
