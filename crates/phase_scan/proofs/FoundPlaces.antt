-- At which places the loads of a collect, or of a snap, found what they found.
use Rattle.std.proofs.Common.{◌≡◌, ◌≢◌, ℕ, ◌<◌, Bool, true, false, List, Option, Some, None, length, sym, refl, ap, ◌∙◌, subst, arith, inl, inr, ◌⊎◌}
use Rattle.std.specs.Prelude.{is_some}
use Rattle.std.proofs.lemmas.Bool.{cases_Bool, cases_lt}
use Rattle.armus_base.specs.declared.event.Event.{Event}
use Rattle.armus_base.specs.declared.status.Status.{Status}
use Rattle.armus_base.specs.Plans.{Plan}
use Rattle.armus_base.specs.States.{State}
use Rattle.armus_base.specs.calls.Runs.{IsPrefix}
use Rattle.armus_base.specs.Runs.{Place, first_place}
use Rattle.armus_base.specs.calls.Places.{phases_at_place}
use Rattle.armus_base.specs.Places.{published_after, refused_at}
use Rattle.armus_base.specs.CheckedPlans.{IsCheckedPlan}
use Rattle.armus_base.specs.Deadlocks.{IsListedOn}
use Rattle.armus_base.specs.calls.Decisions.{HasFound}
use Rattle.armus_base.specs.calls.FinalLaws.{AreStatuses}
use Rattle.armus_base.specs.calls.Seats.{await_word}
use Rattle.armus_base.proofs.ReachedLater.{later_done}
use Rattle.board.specs.calls.Views.{avoids, seen}
use Rattle.board.specs.calls.Words.{found_in}
use Rattle.board.specs.calls.Seats.{AnswersPhase, IsSeat, Known}
use Rattle.phase_scan.specs.calls.Looks.{LoadsAlone}
use Rattle.phase_scan.specs.calls.Collects.{LoadsRows, waiting_on}
use Rattle.phase_scan.proofs.Loads.{goes_both, phase_load, prefix_both}
use Rattle.phase_scan.proofs.ChosenLoads.{AwaitLoad}
use Rattle.phase_scan.proofs.Chains.{GoesAt, WaitsBelow, phase_of, row_of, rows_go}
use Rattle.phase_scan.proofs.Farther.{IsPossible, possible_before}
use Rattle.phase_scan.proofs.Standing.{means_there, published_begun, waits_unrefused, word_published, word_waits}

-- The loads of the await words of the chosen tasks, and then those of the phase words, on the phasers that are asked for, of each task found waiting. What
-- they found is written as this state, and the list has its statuses.
pub record Gathers (before between now : Known) (chosen asked : ℕ → Bool) (state : State) (list : List Status) : Type 0 where
  pub checked : IsCheckedPlan before.view.plan
  pub seat : IsSeat before
  pub awaits : LoadsAlone before between
  pub await : (t : ℕ) → t < length before.view.plan.parents → chosen t ≡ true → AwaitLoad state.published t before between
  pub own : (t : ℕ) (e : Event) → state.published t ≡ Some e → chosen t ≡ true
  pub loads : LoadsRows (length before.view.plan.makers) asked state (length before.view.plan.parents) between now
  pub are : AreStatuses before.view.plan state asked list

module _ {before between now : Known} {chosen asked : ℕ → Bool} {state : State} {list : List Status} (g : Gathers before between now chosen asked state list) where
  abbrev plan : Plan
  plan = before.view.plan

  abbrev tasks : ℕ
  tasks = length plan.parents

  abbrev phasers : ℕ
  phasers = length plan.makers

  between_plan : between.view.plan ≡ plan
  between_plan = g.awaits.same.plan

  rows : GoesAt (WaitsBelow plan phasers asked state tasks) between now
  rows = rows_go plan phasers asked state tasks between now between_plan (omega arith) g.awaits.kept g.loads

  -- they are loads alone
  pub all_go : LoadsAlone before now
  all_go = goes_both before between now g.awaits rows.goes

  -- a chosen task of the plan, and the load of its await word
  abbrev pub IsOwn : ℕ → Type 0
  IsOwn t = t < tasks × chosen t ≡ true

  abbrev pub Await : ℕ → Type 0
  Await t = AwaitLoad state.published t before between

  -- where there is such a task, some lawful state was possible before
  pub possible_by : (t : ℕ) → IsOwn t → IsPossible before (λ s. Unit {0})
  possible_by t (l, is) =
      let x = g.await t l is in
      let was = possible_before before x.from x.to (λ s. found_in s t ≡ x.finds.answer) g.seat x.goes_from x.finds.load.load.was in
      record { places = was.places; lock = was.lock; lawful = was.lawful; far = was.far; holds = tt }

  own_or_not : (t : ℕ) → IsOwn t ⊎ (IsOwn t → ⊥)
  own_or_not t =
      elim (cases_lt t tasks) [
        | inl task ↦ elim (cases_Bool (chosen t)) [ inl is ↦ inl (task, is) | inr off ↦ inr (λ (a, on). absurd (cc)) ]
        | inr l ↦ inr (λ (a, on). absurd (omega arith))
      ]

  at_by : (t : ℕ) → (IsOwn t ⊎ (IsOwn t → ⊥)) → Place
  at_by t (inl (l, is)) = (seen (g.await t l is).to.view).places t
  at_by t (inr none) = first_place

  -- the place seen of a task right after its await word was loaded
  pub at : ℕ → Place
  at t = at_by t (own_or_not t)

  pub await_at : (t : ℕ) → IsOwn t → (x : Await t) × at t ≡ (seen x.to.view).places t
  unfolding at at_by
  await_at t is = by_cases (own_or_not t)
    where
      by_cases : (d : IsOwn t ⊎ (IsOwn t → ⊥)) → (x : Await t) × at_by t d ≡ (seen x.to.view).places t
      by_cases (inl (l, on)) = (g.await t l on, refl)
      by_cases (inr none) = absurd (none is)

  -- the load of a phase word
  pub record Phase (t p : ℕ) : Type 0 where
    pub from : Known
    pub to : Known
    pub goes_from : LoadsAlone between from
    pub load : AnswersPhase t p (state.phases t p) from to
    pub small : t < length from.view.plan.parents
    pub goes_to : LoadsAlone to now

  abbrev pub IsLoaded : ℕ → ℕ → Type 0
  IsLoaded t p = IsOwn t × is_some (state.published t) ≡ true × p < phasers × asked p ≡ true

  pub phase : (t p : ℕ) → IsLoaded t p → Phase t p
  phase t p (task, waits, phaser, on) =
      let r = row_of plan phasers asked state tasks between now between_plan (omega arith) g.awaits.kept g.loads t task.0 waits in
      let l = phase_of plan asked t task.0 (state.phases t) phasers r.from r.to r.of r.goes_from.kept r.row p phaser on in
      record {
        from = l.from;
        to = l.to;
        goes_from = goes_both between r.from l.from r.goes_from l.goes_from;
        load = l.load;
        small = l.small;
        goes_to = goes_both l.to r.to now l.goes_to r.goes_to;
      }

  loaded_or_not : (t p : ℕ) → IsLoaded t p ⊎ (IsLoaded t p → ⊥)
  loaded_or_not t p =
      elim (own_or_not t) [
        | inl task ↦ elim (cases_Bool (is_some (state.published t))) [
          | inl waits ↦ elim (cases_lt p phasers) [
            | inl phaser ↦ elim (cases_Bool (asked p)) [
              | inl on ↦ inl (task, waits, phaser, on)
              | inr off ↦ inr (λ (a, b, d, on). absurd (cc))
            ]
            | inr l ↦ inr (λ (a, b, d, on). absurd (omega arith))
          ]
          | inr idle ↦ inr (λ (a, waits, d, on). absurd (cc))
        ]
        | inr none ↦ inr (λ (a, b, d, on). none a)
      ]

  found_by : (t p : ℕ) → (IsLoaded t p ⊎ (IsLoaded t p → ⊥)) → Place
  found_by t p (inl is) = (seen (phase t p is).to.view).places t
  found_by t p (inr none) = first_place

  -- the place seen of a task right after its phase word was loaded
  pub found : ℕ → ℕ → Place
  found t p = found_by t p (loaded_or_not t p)

  pub phase_at : (t p : ℕ) → IsLoaded t p → (y : Phase t p) × found t p ≡ (seen y.to.view).places t
  unfolding found found_by
  phase_at t p is = by_cases (loaded_or_not t p)
    where
      by_cases : (d : IsLoaded t p ⊎ (IsLoaded t p → ⊥)) → (y : Phase t p) × found_by t p d ≡ (seen y.to.view).places t
      by_cases (inl l) = (phase t p l, refl)
      by_cases (inr none) = absurd (none is)

  -- a task of the list is a chosen one that was found waiting
  pub listed : (t : ℕ) (e : Event) → IsListedOn list t e → IsOwn t × state.published t ≡ Some e
  listed t e is = (let has = (g.are.events t e).0 is in ((has.0, g.own t e has.1), has.1))

  -- where a task was found waiting it is published
  pub published_at : (t : ℕ) (e : Event) → IsListedOn list t e → published_after plan t (at t).done ≡ Some e
  published_at t e is =
      let (task, waits) = listed t e is in
      let (x, here) = await_at t task in
      let b = (seen x.to.view).places t in
      let answer : waiting_on x.finds.answer ≡ Some e = sym x.finds.waits ∙ waits in
      let word : await_word x.from.view.plan t b ≡ x.finds.answer = x.finds.load.load.there (waits_unrefused x.finds.answer e answer) in
      let on : published_after x.from.view.plan t b.done ≡ Some e =
      word_published (published_after x.from.view.plan t b.done) (refused_at x.from.view.plan t b.done b.dropped) e (ap waiting_on word ∙ answer) in
      ap (λ (v : Place). published_after plan t v.done) here
      ∙ subst (λ (q : Plan). published_after q t b.done ≡ Some e) x.goes_from.same.plan on

  pub at_before : (t : ℕ) → IsOwn t → IsPrefix (at t) ((seen between.view).places t)
  at_before t task =
      let (x, here) = await_at t task in
      subst (λ v. IsPrefix v ((seen between.view).places t)) (sym here) (x.goes_to.seen_now.later t)

  pub found_after : (t p : ℕ) (is : IsLoaded t p) → IsPrefix (at t) (found t p) × IsPrefix (found t p) ((seen now.view).places t)
  found_after t p is =
      let (y, there) = phase_at t p is in
      let load = phase_load y.from y.to t p (state.phases t p) y.small y.load in
      let first = at_before t is.0 in
      let from : IsPrefix (at t) ((seen y.from.view).places t) =
      prefix_both (at t) ((seen between.view).places t) ((seen y.from.view).places t) first (y.goes_from.seen_now.later t) in
      let here : IsPrefix (at t) ((seen y.to.view).places t) =
      prefix_both (at t) ((seen y.from.view).places t) ((seen y.to.view).places t) from (load.goes.seen_now.later t) in (
        subst (IsPrefix (at t)) (sym there) here,
        subst (λ v. IsPrefix v ((seen now.view).places t)) (sym there) (y.goes_to.seen_now.later t),
      )

  pub begun_later : (t : ℕ) (e : Event) (b : Place) → IsListedOn list t e → IsPrefix (at t) b → 0 < b.done
  begun_later t e b is later =
      let first = published_begun plan g.checked t (at t).done e (published_at t e is) in
      let more = later_done (at t).done b.done (at t).dropped b.dropped later in
      omega arith

  pub not_first : (b : Place) → 0 < b.done → b ≢ first_place
  not_first b begun same = (let none : b.done ≡ 0 = ap (λ (v : Place). v.done) same in omega arith)

  -- a phase that was found is the task's phase at the place seen right after
  phase_found :
      (t p n : ℕ) (e : Event) → IsListedOn list t e → (is : IsLoaded t p) → state.phases t p ≡ Some n → phases_at_place plan t (found t p) p ≡ Some n
  phase_found t p n e is loaded found_it =
      let (y, there) = phase_at t p loaded in
      let b = (seen y.to.view).places t in
      let later : IsPrefix (at t) b = subst (IsPrefix (at t)) there (found_after t p loaded).0 in
      let at_plan : y.from.view.plan ≡ plan = y.goes_from.same.plan ∙ between_plan in
      let means = y.load.load.there n found_it (not_first b (begun_later t e b is later)) in
      ap (λ v. phases_at_place plan t v p) there
      ∙ subst (λ (q : Plan). phases_at_place q t b p ≡ state.phases t p) at_plan means ∙ found_it

  -- each task was found waiting at a place, and its phases from there on
  pub all_found : HasFound plan (λ t. Unit {0}) list at found (seen now.view).places
  all_found =
      record {
        waiting = λ u e one is. published_at u e is;
        before = λ u e one is.
            let task = (listed u e is).0 in
            prefix_both (at u) ((seen between.view).places u) ((seen now.view).places u) (at_before u task) (rows.goes.seen_now.later u);
        phases = λ u p n one is.
            let has = (g.are.phases u p n).0 is in
            let loaded : IsLoaded u p = ((has.task, g.own u has.event has.published), ap is_some has.published, has.phaser, has.asked_for) in
            let l : IsListedOn list u has.event = (g.are.events u has.event).1 (has.task, has.published) in (
              (found_after u p loaded).0,
              phase_found u p n has.event l loaded has.phase,
            );
        phases_before = λ u p n one is.
            let has = (g.are.phases u p n).0 is in
            let loaded : IsLoaded u p = ((has.task, g.own u has.event has.published), ap is_some has.published, has.phaser, has.asked_for) in
            (found_after u p loaded).1;
      }

  -- a chosen task that is published at the place that is seen of it was found waiting
  pub listed_there : (t : ℕ) (f : Event) → IsOwn t → published_after plan t ((seen now.view).places t).done ≡ Some f → (e : Event) × IsListedOn list t e
  listed_there t f task on = by_event (state.published t) refl
    where
      by_event : (o : Option Event) → state.published t ≡ o → (e : Event) × IsListedOn list t e
      by_event (Some e) is = (e, (g.are.events t e).1 (task.0, is))
      by_event None is =
          let x = g.await t task.0 task.1 in
          let q = x.from.view.plan in
          let b = (seen x.to.view).places t in
          let same : (seen now.view).places t ≡ b = rows.others t (λ (l, waits). (let none : is_some (state.published t) ≡ false = ap is_some is in absurd (cc))) ∙ x.stays in
          let at_plan : q ≡ plan = x.goes_from.same.plan in
          let here : published_after q t b.done ≡ Some f =
          subst (λ (r : Plan). published_after r t b.done ≡ Some f) (sym at_plan) (ap (λ (v : Place). published_after plan t v.done) (sym same) ∙ on) in
          let answer : waiting_on x.finds.answer ≡ None = sym x.finds.waits ∙ is in
          absurd (means_there q (subst IsCheckedPlan (sym at_plan) g.checked) (avoids x.from.view.mode) t (λ v. await_word q t v ≡ x.finds.answer)
          ((seen x.from.view).places t) b f x.finds.load.load.seen_now.place.here here
          (λ means.
          let waits = word_waits (published_after q t b.done) (refused_at q t b.done b.dropped) f here in
          let none : waiting_on (await_word q t b) ≡ None = ap waiting_on means ∙ answer in
          absurd (cc)))
