-- What the statuses of a collect tell.
use Rattle.std.proofs.Common.{◌≡◌, ℕ, ◌<◌, Bool, true, List, Option, Some, length, sym, refl, ap, ◌∙◌, subst, arith, inl, inr, eq-eqb}
use Rattle.std.specs.Prelude.{is_some}
use Rattle.armus_base.specs.declared.event.Event.{Event}
use Rattle.armus_base.specs.declared.status.Status.{Status}
use Rattle.armus_base.specs.Plans.{Blocks, Plan}
use Rattle.armus_base.specs.States.{State}
use Rattle.armus_base.specs.calls.Runs.{IsPrefix}
use Rattle.armus_base.specs.Runs.{Place}
use Rattle.armus_base.specs.calls.Places.{phases_at_place}
use Rattle.armus_base.specs.Places.{published_after, state_at}
use Rattle.armus_base.specs.CheckedPlans.{IsCheckedPlan}
use Rattle.armus_base.specs.calls.Boards.{IsLawful}
use Rattle.armus_base.specs.Deadlocks.{IsListedOn}
use Rattle.armus_base.specs.calls.FinalLaws.{AreStatuses}
use Rattle.armus_base.specs.Finals.{is_awaited, is_event_of}
use Rattle.armus_base.specs.Statuses.{IsAwaited}
use Rattle.armus_base.specs.calls.Seats.{IsAsFarOn, IsLongestPrefix, IsPlaceOf}
use Rattle.armus_base.proofs.KeepsFar.{prefixes_both}
use Rattle.armus_base.proofs.Fixed.{some_before_from}
use Rattle.armus_base.proofs.FoundArePublished.{published_within}
use Rattle.armus_base.proofs.Published.{published_after_is}
use Rattle.armus_base.proofs.StatusesAre.{statuses_are}
use Rattle.armus_base.proofs.Tasks.{action_of_task}
use Rattle.board.specs.declared.mode.Mode.{Mode}
use Rattle.board.specs.calls.Views.{avoids, seen}
use Rattle.board.specs.calls.Words.{found_in}
use Rattle.board.specs.calls.Seats.{IsSeat, Known}
use Rattle.phase_scan.specs.calls.Looks.{LoadsAlone, InEachLawful}
use Rattle.phase_scan.specs.calls.Collects.{IsCollect, waiting_on}
use Rattle.phase_scan.specs.calls.Collected.{HasItsPhases, IsCollected, IsKnownDeadBy, IsListedAsIn}
use Rattle.phase_scan.proofs.Loads.{await_load, goes_both, prefix_both, published_phaser}
use Rattle.phase_scan.proofs.ChosenLoads.{AwaitLoad, chosen_go, chosen_of, chosen_seat}
use Rattle.phase_scan.proofs.Farther.{IsPossible, possible_before}
use Rattle.phase_scan.proofs.FoundPlaces.{Gathers, IsLoaded, all_found, all_go, at, at_before, await_at, begun_later, found, found_after, listed, listed_there, not_first, phase, phase_at, possible_by, published_at}
use Rattle.phase_scan.proofs.Standing.{dead_place, means_there, phases_begun_at, published_begun, same_or_not, same_phases, word_waits}

-- the phases at the place seen after a load of a phase word, where the task is published there, are what was found
pub found_there :
    (q : Plan) → IsCheckedPlan q → (b : Bool) (t p : ℕ) (answer : Option ℕ) (before now : Place) (e : Event) →
    IsLongestPrefix b q t (λ v. phases_at_place q t v p ≡ answer) before now → published_after q t now.done ≡ Some e → phases_at_place q t now p ≡ answer
found_there q checked b t p answer before now e longest published =
    elim (same_or_not (phases_at_place q t now p) answer) [
      | inl same ↦ same
      | inr other ↦ absurd (means_there q checked b t (λ v. phases_at_place q t v p ≡ answer) before now e longest published other)
    ]

module _ (before now : Known) (list : List Status) (checked : IsCheckedPlan before.view.plan) (some : 0 < length before.view.plan.parents)
    (c : IsCollect before.view.plan list before now) where
  abbrev pub plan : Plan
  plan = before.view.plan

  abbrev pub tasks : ℕ
  tasks = length plan.parents

  abbrev pub asked : ℕ → Bool
  asked = is_awaited plan c.found

  pub seat : IsSeat before
  seat = chosen_seat plan (λ t. true) c.found.published tasks before c.between refl (omega arith) c.awaits 0 some refl

  pub awaits : LoadsAlone before c.between
  awaits = chosen_go plan (λ t. true) c.found.published tasks before c.between refl (omega arith) seat c.awaits

  between_plan : c.between.view.plan ≡ plan
  between_plan = awaits.same.plan

  pub are : AreStatuses plan c.found asked list
  are = subst (AreStatuses plan c.found asked) (sym c.statuses) (statuses_are plan c.found asked checked)

  -- the load of each await word
  pub await : (t : ℕ) → t < tasks → AwaitLoad c.found.published t before c.between
  await t l = chosen_of plan (λ t. true) c.found.published tasks before c.between refl (omega arith) seat c.awaits t l refl

  -- the await words of all tasks, and the phase words on the awaited phasers
  pub gathers : Gathers before c.between now (λ t. true) asked c.found list
  gathers =
      record { checked = checked; seat = seat; awaits = awaits; await = λ t l is. await t l; own = λ t e on. refl; loads = c.rows; are = are }

  -- a collect makes loads alone
  pub collect_goes : LoadsAlone before now
  collect_goes = all_go gathers

  -- some lawful state was possible before
  pub some_possible : IsPossible before (λ s. Unit {0})
  some_possible = possible_by gathers 0 (some, refl)

  -- a phaser that is awaited in the list
  pub awaited_is : (e : Event) → IsAwaited list e → (u : ℕ) × u < tasks × c.found.published u ≡ Some e
  awaited_is e (s, inside, same) = (let l = listed gathers s.t.0 e (s, inside, refl, same) in (s.t.0, l.0.0, l.1))

  -- where a task still stands where it was found waiting, what was found of its phases is so there
  phase_exact :
      (t p : ℕ) (e : Event) → IsListedOn list t e → (is : IsLoaded gathers t p) → found gathers t p ≡ at gathers t → phases_at_place plan t (at gathers t) p ≡ c.found.phases t p
  phase_exact t p e is loaded same =
      let (y, there) = phase_at gathers t p loaded in
      let b = (seen y.to.view).places t in
      let here : b ≡ at gathers t = sym there ∙ same in
      let at_plan : y.from.view.plan ≡ plan = y.goes_from.same.plan ∙ between_plan in
      let q = y.from.view.plan in
      let from : IsPrefix (at gathers t) ((seen y.from.view).places t) =
      prefix_both (at gathers t) ((seen c.between.view).places t) ((seen y.from.view).places t) (at_before gathers t loaded.0) (y.goes_from.seen_now.later t) in
      let longest = (y.load.load.seen_now.place (not_first gathers ((seen y.from.view).places t) (begun_later gathers t e ((seen y.from.view).places t) is from))).here in
      let on : published_after q t b.done ≡ Some e =
      ap (λ (v : Place). published_after q t v.done) here
      ∙ subst (λ (r : Plan). published_after r t (at gathers t).done ≡ Some e) (sym at_plan) (published_at gathers t e is) in
      let means = found_there q (subst IsCheckedPlan (sym at_plan) checked) (avoids y.from.view.mode) t p (c.found.phases t p) ((seen y.from.view).places t) b e longest on in
      ap (λ v. phases_at_place plan t v p) (sym here)
      ∙ subst (λ (r : Plan). phases_at_place r t b p ≡ c.found.phases t p) at_plan means

  -- what the list says of phases on awaited phasers
  pub loaded_of : (t : ℕ) (e : Event) → IsListedOn list t e → (f : Event) → IsAwaited list f → IsLoaded gathers t f.p.0
  loaded_of t e is f awaited =
      let (task, waits) = listed gathers t e is in
      let (u, other, on) = awaited_is f awaited in
      let (s, inside, same) = awaited in
      let l : IsListedOn list s.t.0 f = (s, inside, refl, same) in (
        task,
        ap is_some waits,
        published_phaser plan checked s.t.0 (at gathers s.t.0).done f (published_at gathers s.t.0 f l),
        some_before_from (λ v. is_event_of f.p.0 (c.found.published v)) tasks u other (ap (is_event_of f.p.0) on ∙ eq-eqb f.p.0 f.p.0 refl),
      )

  phases_listed :
      (t : ℕ) (e : Event) → IsListedOn list t e → (s : State) → ((f : Event) → IsAwaited list f → s.phases t f.p.0 ≡ c.found.phases t f.p.0) → HasItsPhases list s t
  phases_listed t e is s same f n awaited = (
    λ has.
        let loaded = loaded_of t e is f awaited in
        (are.phases t f.p.0 n).1 record {
          task = loaded.0.0;
          event = e;
          published = (listed gathers t e is).1;
          phaser = loaded.2;
          asked_for = loaded.3;
          phase = sym (same f awaited) ∙ has;
        },
    λ has. same f awaited ∙ ((are.phases t f.p.0 n).0 has).phase,
  )

  since : (t : ℕ) (e : Event) → IsListedOn list t e → IsPlaceOf (avoids before.view.mode) plan t (at gathers t) × IsPrefix ((seen before.view).places t) (at gathers t)
  since t e is =
      let task = (listed gathers t e is).0 in
      let (x, here) = await_at gathers t task in
      let b = (seen x.to.view).places t in
      let load = await_load x.from x.to t x.finds.answer x.small x.finds.load in
      let place = x.finds.load.load.seen_now.place.here.place in
      let near : IsPrefix ((seen before.view).places t) b =
      prefix_both ((seen before.view).places t) ((seen x.from.view).places t) b (x.goes_from.seen_now.later t) (load.goes.seen_now.later t) in (
        subst (IsPlaceOf (avoids before.view.mode) plan t) (sym here)
            (subst (λ (d : Mode). IsPlaceOf (avoids d) plan t b) x.goes_from.same.mode
            (subst (λ (q : Plan). IsPlaceOf (avoids x.from.view.mode) q t b) x.goes_from.same.plan place)),
        subst (IsPrefix ((seen before.view).places t)) (sym here) near,
      )

  exact :
      (a : ℕ → Place) (lock : Option ℕ) → IsLawful (avoids before.view.mode) plan a lock → IsAsFarOn plan before.view.own a (seen now.view) →
      (t : ℕ) (e : Event) → IsListedOn list t e → a t ≡ at gathers t → HasItsPhases list (state_at plan a) t
  exact a lock lawful far t e is stands =
      phases_listed t e is (state_at plan a) (λ f awaited.
      let loaded = loaded_of t e is f awaited in
      let after = found_after gathers t f.p.0 loaded in
      let last : IsPrefix (found gathers t f.p.0) (at gathers t) =
      prefix_both (found gathers t f.p.0) ((seen now.view).places t) (at gathers t) after.1 (subst (IsPrefix ((seen now.view).places t)) stands (far.later t loaded.0.0)) in
      let same : found gathers t f.p.0 ≡ at gathers t = prefixes_both (found gathers t f.p.0) (at gathers t) last after.0 in
      let begun : 0 < (a t).done = subst (λ (v : Place). 0 < v.done) (sym stands) (published_begun plan checked t (at gathers t).done e (published_at gathers t e is)) in
      ap (λ m. m f.p.0) (phases_begun_at plan checked (avoids before.view.mode) a lock lawful t begun)
      ∙ ap (λ v. phases_at_place plan t v f.p.0) stands
      ∙ phase_exact t f.p.0 e is loaded same)

  -- a task that was known to be dead was found waiting on its event
  dead_listed :
      (t : ℕ) → IsKnownDeadBy before t → (a : ℕ → Place) (lock : Option ℕ) → IsLawful (avoids before.view.mode) plan a lock →
      IsAsFarOn plan before.view.own a (seen before.view) → (e : Event) → (state_at plan a).published t ≡ Some e → IsListedOn list t e
  dead_listed t known a lock lawful far e on =
      let task = published_within plan checked a t e on in
      let x = await t task in
      let was = possible_before before x.from x.to (λ s. found_in s t ≡ x.finds.answer) seat x.goes_from x.finds.load.load.was in
      let same = dead_place plan checked (avoids before.view.mode) t a was.places lock was.lock lawful was.lawful (known a lock lawful far)
      (known was.places was.lock was.lawful was.far) in
      let there : (state_at plan was.places).published t ≡ Some e = ap (λ (v : Place). published_after plan t v.done) (sym same) ∙ on in
      let waits : waiting_on x.finds.answer ≡ Some e =
      ap waiting_on (sym was.holds) ∙ word_waits ((state_at plan was.places).published t) ((state_at plan was.places).refused t) e there in
      (are.events t e).1 (task, x.finds.waits ∙ waits)

  dead : (t : ℕ) → IsKnownDeadBy before t → InEachLawful before (λ s. IsListedAsIn list s t)
  dead t known a lock lawful far =
      let is_dead = known a lock lawful far in
      let held = is_dead.deadlocked.each t is_dead.inside in
      let e = held.event in
      let is = dead_listed t known a lock lawful far e held.waits in (
        e,
        held.waits,
        is,
        phases_listed t e is (state_at plan a) (λ f awaited.
            let loaded = loaded_of t e is f awaited in
            let y = phase gathers t f.p.0 loaded in
            let goes = goes_both before c.between y.from awaits y.goes_from in
            let was = possible_before before y.from y.to (λ s. s.phases t f.p.0 ≡ c.found.phases t f.p.0) seat goes y.load.load.was in
            let same = dead_place plan checked (avoids before.view.mode) t a was.places lock was.lock lawful was.lawful is_dead (known was.places was.lock was.lawful was.far) in
            let begun : 0 < (a t).done = published_begun plan checked t (a t).done e held.waits in
            same_phases plan checked (avoids before.view.mode) a was.places lock was.lock lawful was.lawful t f.p.0 (c.found.phases t f.p.0) begun same was.holds),
      )

  published : (t : ℕ) (f : Event) → published_after plan t ((seen now.view).places t).done ≡ Some f → (e : Event) × IsListedOn list t e
  published t f on =
      let by = published_after_is plan t ((seen now.view).places t).done f on in
      listed_there gathers t f (action_of_task plan checked t by.0 (Blocks by.2) by.4, refl) on

  pub collected : IsCollected list before now
  collected = record { at = at gathers; found = found gathers; places = all_found gathers; since = since; exact = exact; dead = dead; published = published }
