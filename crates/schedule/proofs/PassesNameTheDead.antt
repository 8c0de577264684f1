-- A closed pass names every task that is dead at its first load, and only tasks that are dead at its last.
use Rattle.std.proofs.Common.{◌≡◌, ◌<◌, ◌≤◌, ℕ, Bool, true, List, [], ◌∷◌, ◌++◌, Option, Some, None, length, arith, sym, subst, ap, inl, inr, refl, ◌∙◌, get_or, eq-eqb}
use Rattle.std.specs.Prelude.{slice_get, Contains, is_some}
use Rattle.std.proofs.lemmas.Option.{slice_get_within, slice_get-get_or, get_or_from_slice_get}
use Rattle.std.proofs.lemmas.List.Elements.{Contains-append_cases}
use Rattle.armus_base.specs.declared.event.Event.{Event}
use Rattle.armus_base.specs.Plans.{Plan}
use Rattle.armus_base.specs.States.{Step}
use Rattle.armus_base.specs.CheckedPlans.{IsCheckedPlan}
use Rattle.armus_base.specs.Deadlocks.{IsDeadIn, IsDeadBy, IsDeadlockedSet, IsImpededWithin, IsListedOn, IsListedAt, IsPublishedOn, IsAtPhase}
use Rattle.armus_base.specs.Finals.{is_event_of}
use Rattle.armus_base.specs.Runs.{Place, IsLegalRun, places, state_after, IsOwnNextStep}
use Rattle.armus_base.specs.calls.Runs.{ArePrefixes, IsPrefix}
use Rattle.armus_base.specs.Places.{done_by, kept, published_after}
use Rattle.armus_base.specs.calls.Places.{phases_at_place}
use Rattle.armus_base.specs.calls.FinalLaws.{AreStatuses}
use Rattle.armus_base.proofs.StatusesAre.{statuses_are}
use Rattle.armus_base.proofs.Fixed.{phases_forked, some_before_from}
use Rattle.armus_base.proofs.Stepping.{places_fix}
use Rattle.armus_base.proofs.Published.{published_after_is}
use Rattle.armus_base.proofs.FoundArePublished.{published_within}
use Rattle.armus_base.proofs.Members.{published_member, member_made}
use Rattle.armus_base.proofs.ReachedLater.{later_done}
use Rattle.armus_base.proofs.DeadStays.{dead_stays}
use Rattle.armus_base.proofs.CollectedIsDead.{collected_is_dead}
use Rattle.schedule.specs.Passes.{PassLoads, event_after, phase_after, event_found, is_found_awaited, waiting_below, awaited_below, phase_load, phases_found, loads_of, state_found, statuses_found}
use Rattle.std.specs.Prelude.{◌==◌, if◌then◌else◌}
use Rattle.std.proofs.Common.{false, eqb-true}
use Rattle.armus_base.specs.Plans.{Action}
use Rattle.armus_base.specs.Runs.{IsPlainRun}
use Rattle.armus_base.proofs.Elements.{nothing_in_nil, Contains-cons_cases}
use Rattle.armus_base.proofs.LawfulPlaces.{made_within}
use Rattle.armus_base.proofs.OwnSteps.{plain_longer}
use Rattle.schedule.specs.declared.lines.Line.{Line}
use Rattle.schedule.specs.declared.lines.Line.TheVariants as line
use Rattle.schedule.specs.Replays.{Progress, at_start, Takes, LinesLead, no_line, one_more}
use Rattle.schedule.specs.Laws.{NamesTheDead}
use Rattle.schedule.specs.calls.Laws.{PassesNameTheDead}
use Rattle.schedule.proofs.Counts.{count_below_less, cell_within}
use Rattle.schedule.proofs.Moments.{AreMoments, no_moments, more_moments, moments_stay}

module _ (plan : Plan) (checked : IsCheckedPlan plan) where
  -- a published task has the phases that its code gives it at its place
  published_fixed : (h : List Step) → IsLegalRun plan h → (t : ℕ) (e : Event) → (state_after h).published t ≡ Some e → published_after plan t (places h t).done ≡ Some e
  published_fixed h run t e p = ap (λ s. s.published t) (sym (places_fix plan checked h run).0) ∙ p

  pub phases_fixed :
      (h : List Step) → IsLegalRun plan h → (t : ℕ) → 0 < done_by (places h) t → (p : ℕ) →
      (state_after h).phases t p ≡ phases_at_place plan t (places h t) p
  phases_fixed h run t begun p =
      let (same, consistent) = places_fix plan checked h run in
      ap (λ s. s.phases t p) same ∙ ap (λ m. kept (places h t).dropped m p) (phases_forked plan checked (done_by (places h)) t (consistent.begun t begun))

  -- published is begun
  pub begun : (h : List Step) → IsLegalRun plan h → (t : ℕ) (e : Event) → (state_after h).published t ≡ Some e → 0 < done_by (places h) t
  begun h run t e p = let is = (published_after_is plan t (done_by (places h) t) e (published_fixed h run t e p)).1 in omega arith

  -- a dead task stands later where it stood, on the same event and with the same phases
  module _ (h g : List Step) (run_h : IsLegalRun plan h) (run_g : IsLegalRun plan g) (later : ArePrefixes (places h) (places g)) (t : ℕ) (dead : IsDeadIn (state_after h) t) where
    same_there : places g t ≡ places h t
    same_there = (dead_stays plan h g t checked run_h run_g later dead).1

    pub event_stays : (e : Event) → (state_after h).published t ≡ Some e → (state_after g).published t ≡ Some e
    event_stays e p =
        ap (λ s. s.published t) (places_fix plan checked g run_g).0 ∙ ap (λ a. published_after plan t a.done) same_there ∙ published_fixed h run_h t e p

    pub phase_stays : (e : Event) → (state_after h).published t ≡ Some e → (p : ℕ) → (state_after g).phases t p ≡ (state_after h).phases t p
    phase_stays e on p =
        let began : 0 < done_by (places h) t = begun h run_h t e on in
        let began_g : 0 < done_by (places g) t = (let same = ap (λ a. a.done) same_there in omega arith) in
        phases_fixed g run_g t began_g p ∙ ap (λ a. phases_at_place plan t a p) same_there ∙ sym (phases_fixed h run_h t began p)

  pub published_task : (h : List Step) → IsLegalRun plan h → (t : ℕ) (e : Event) → (state_after h).published t ≡ Some e → t < length plan.parents
  published_task h run t e p =
      published_within plan checked (places h) t e (ap (λ s. s.published t) (sym (places_fix plan checked h run).0) ∙ p)

  -- the phaser of an event on which a task is published is one of the plan
  pub published_phaser : (h : List Step) → IsLegalRun plan h → (t : ℕ) (e : Event) → (state_after h).published t ≡ Some e → e.p.0 < length plan.makers
  published_phaser h run t e p =
      let (n, member) = published_member plan h run t e p in
      made_within plan checked (places h) e.p.0 (ap (λ s. s.made e.p.0) (sym (places_fix plan checked h run).0) ∙ member_made plan h run t e.p.0 n member)

  -- a pass with all its loads
  module _ (loads : PassLoads) (now : List Step) (moments : AreMoments plan loads now) (full : length loads ≡ loads_of plan loads) where
    tasks : ℕ
    tasks = length plan.parents

    phasers : ℕ
    phasers = length plan.makers

    -- the load of the await cell of a task
    await_load : (t : ℕ) → t < length plan.parents → (g : List Step) × slice_get loads t ≡ Some g
    await_load t l = (get_or loads t [], slice_get-get_or loads t [] (omega arith))

    -- what an await cell was found to hold
    found_event : (t : ℕ) (e : Event) → event_found loads t ≡ Some e → (g : List Step) × slice_get loads t ≡ Some g × (state_after g).published t ≡ Some e
    found_event t e found = go (slice_get loads t) refl found
      where
        go : (o : Option (List Step)) → slice_get loads t ≡ o → event_after t o ≡ Some e → (g : List Step) × slice_get loads t ≡ Some g × (state_after g).published t ≡ Some e
        go None is f = absurd (cc)
        go (Some g) is f = (g, is, f)

    found_phase : (t p n : ℕ) → phases_found plan loads t p ≡ Some n → (g : List Step) × slice_get loads (phase_load plan loads t p) ≡ Some g × (state_after g).phases t p ≡ Some n
    found_phase t p n found = go (slice_get loads (phase_load plan loads t p)) refl found
      where
        go : (o : Option (List Step)) → slice_get loads (phase_load plan loads t p) ≡ o → phase_after t p o ≡ Some n →
            (g : List Step) × slice_get loads (phase_load plan loads t p) ≡ Some g × (state_after g).phases t p ≡ Some n
        go None is f = absurd (cc)
        go (Some g) is f = (g, is, f)

    -- a phase cell of a task found waiting on a phaser found awaited is one of the loads
    phase_within : (t p : ℕ) (e : Event) → t < length plan.parents → p < length plan.makers → event_found loads t ≡ Some e →
        is_found_awaited plan loads p ≡ true → phase_load plan loads t p < length loads
    phase_within t p e task phaser waits awaited =
        let row = count_below_less (λ u. is_some (event_found loads u)) t (length plan.parents) task (ap is_some waits) in
        let column = count_below_less (is_found_awaited plan loads) p (length plan.makers) phaser awaited in
        let cell = cell_within (waiting_below loads t) (awaited_below plan loads p) (waiting_below loads (length plan.parents))
        (awaited_below plan loads (length plan.makers)) row column in
        omega arith

    -- the list of statuses found, read back
    are : AreStatuses plan (state_found plan loads) (is_found_awaited plan loads) (statuses_found plan loads)
    are = statuses_are plan (state_found plan loads) (is_found_awaited plan loads) checked

    -- the place at which task t stood at this load
    abbrev place_at : ℕ → ℕ → Place
    place_at i t = places (get_or loads i []) t

    load_is : (i : ℕ) (g : List Step) (t : ℕ) → slice_get loads i ≡ Some g → place_at i t ≡ places g t
    load_is i g t is = ap (λ h. places h t) (get_or_from_slice_get loads i g [] is)

    -- a task that was found waiting, and what was found of it
    found_waiting : (t : ℕ) (e : Event) → IsListedOn (statuses_found plan loads) t e →
        t < length plan.parents × (g : List Step) × slice_get loads t ≡ Some g × (state_after g).published t ≡ Some e
    found_waiting t e listed = (let (l, waits) = (are.events t e).0 listed in let (g, is, on) = found_event t e waits in (l, g, is, on))

    -- what is dead by the statuses is dead at any later moment
    found_dead : (g : List Step) → IsLegalRun plan g → ((i : ℕ) (f : List Step) → slice_get loads i ≡ Some f → ArePrefixes (places f) (places g)) → (t : ℕ) →
        IsDeadBy (statuses_found plan loads) t → IsDeadIn (state_after g) t
    found_dead g run later t dead = record { tasks = dead.tasks; inside = dead.inside; deadlocked = there.1 }
      where
        waiting : (u : ℕ) (e : Event) → dead.tasks u ≡ true → IsListedOn (statuses_found plan loads) u e → published_after plan u (place_at u u).done ≡ Some e
        waiting u e inside listed =
            let (l, f, is, on) = found_waiting u e listed in
            ap (λ a. published_after plan u a.done) (load_is u f u is) ∙ published_fixed f (moments.legal u f is) u e on

        before : (u : ℕ) (e : Event) → dead.tasks u ≡ true → IsListedOn (statuses_found plan loads) u e → IsPrefix (place_at u u) (places g u)
        before u e inside listed =
            let (l, f, is, on) = found_waiting u e listed in
            subst (λ a. IsPrefix a (places g u)) (sym (load_is u f u is)) (later u f is u)

        phases :
            (u p n : ℕ) → dead.tasks u ≡ true → IsListedAt (statuses_found plan loads) u p n →
            IsPrefix (place_at u u) (place_at (phase_load plan loads u p) u) × phases_at_place plan u (place_at (phase_load plan loads u p) u) p ≡ Some n
        phases u p n inside listed =
            let asked = (are.phases u p n).0 listed in
            let (f, is, on) = found_event u asked.event asked.published in
            let (k, is_k, at_k) = found_phase u p n asked.phase in
            let task = asked.task in
            let order : u ≤ phase_load plan loads u p = omega arith in
            let rise = moments.rising u (phase_load plan loads u p) f k order is is_k u in
            let began : 0 < done_by (places k) u = (let b = begun f (moments.legal u f is) u asked.event on in
            let d = later_done (places f u).done (places k u).done (places f u).dropped (places k u).dropped rise in omega arith) in
            let here = load_is (phase_load plan loads u p) k u is_k in (
              subst (λ a. IsPrefix (place_at u u) a) (sym here) (subst (λ a. IsPrefix a (places k u)) (sym (load_is u f u is)) rise),
              ap (λ a. phases_at_place plan u a p) here ∙ sym (phases_fixed k (moments.legal (phase_load plan loads u p) k is_k) u began p) ∙ at_k,
            )

        phases_before : (u p n : ℕ) → dead.tasks u ≡ true → IsListedAt (statuses_found plan loads) u p n → IsPrefix (place_at (phase_load plan loads u p) u) (places g u)
        phases_before u p n inside listed =
            let asked = (are.phases u p n).0 listed in
            let (k, is_k, at_k) = found_phase u p n asked.phase in
            subst (λ a. IsPrefix a (places g u)) (sym (load_is (phase_load plan loads u p) k u is_k)) (later (phase_load plan loads u p) k is_k u)

        there : ((u : ℕ) → dead.tasks u ≡ true → places g u ≡ place_at u u) × IsDeadlockedSet (IsPublishedOn (state_after g)) (IsAtPhase (state_after g)) dead.tasks
        there = collected_is_dead plan g (statuses_found plan loads) dead.tasks (λ u. place_at u u) (λ u p. place_at (phase_load plan loads u p) u) checked run dead.deadlocked
            record { waiting = waiting; before = before; phases = phases; phases_before = phases_before }

    -- what is dead at an earlier moment than all loads is dead by the statuses
    dead_found : (h : List Step) → IsLegalRun plan h → ((i : ℕ) (f : List Step) → slice_get loads i ≡ Some f → ArePrefixes (places h) (places f)) → (t : ℕ) →
        IsDeadIn (state_after h) t → IsDeadBy (statuses_found plan loads) t
    dead_found h run earlier t dead =
        record {
          tasks = dead.tasks;
          inside = dead.inside;
          deadlocked = record { some = dead.deadlocked.some; each = each };
        }
      where
        one : (u : ℕ) → dead.tasks u ≡ true → IsDeadIn (state_after h) u
        one u inside = record { tasks = dead.tasks; inside = inside; deadlocked = dead.deadlocked }

        -- a dead task of the set was found waiting on its event
        waits : (u : ℕ) (e : Event) → dead.tasks u ≡ true → (state_after h).published u ≡ Some e → event_found loads u ≡ Some e
        waits u e inside on =
            let (f, is) = await_load u (published_task h run u e on) in
            ap (event_after u) is ∙ event_stays h f run (moments.legal u f is) (earlier u f is) u (one u inside) e on

        awaited_too : (u : ℕ) (e : Event) → dead.tasks u ≡ true → (state_after h).published u ≡ Some e → is_found_awaited plan loads e.p.0 ≡ true
        awaited_too u e inside on =
            some_before_from (λ v. is_event_of e.p.0 (event_found loads v)) (length plan.parents) u (published_task h run u e on)
            (ap (is_event_of e.p.0) (waits u e inside on) ∙ eq-eqb e.p.0 e.p.0 refl)

        each : (u : ℕ) → dead.tasks u ≡ true → IsImpededWithin (IsListedOn (statuses_found plan loads)) (IsListedAt (statuses_found plan loads)) dead.tasks u
        each u inside =
            let held = dead.deadlocked.each u inside in
            let other = dead.deadlocked.each held.by held.inside in
            let e = held.event in
            let task = published_task h run u e held.waits in
            let by_task = published_task h run held.by other.event other.waits in
            let phaser = published_phaser h run u e held.waits in
            let awaited = awaited_too u e inside held.waits in
            let by_waits = waits held.by other.event held.inside other.waits in
            let within = phase_within held.by e.p.0 other.event by_task phaser by_waits awaited in
            let load = phase_load plan loads held.by e.p.0 in
            let f = get_or loads load [] in
            let is : slice_get loads load ≡ Some f = slice_get-get_or loads load [] within in
            let stays = phase_stays h f run (moments.legal load f is) (earlier load f is) held.by (one held.by held.inside) other.event other.waits e.p.0 in
            record {
              event = e;
              waits = (are.events u e).1 (task, waits u e inside held.waits);
              by = held.by;
              inside = held.inside;
              phase = held.phase;
              impedes = (are.phases held.by e.p.0 held.phase).1 record {
                task = by_task;
                event = other.event;
                published = by_waits;
                phaser = phaser;
                asked_for = awaited;
                phase = ap (phase_after held.by e.p.0) is ∙ stays ∙ held.impedes;
              };
              below = held.below;
            }

    -- both, for the first and the last load
    pub names : NamesTheDead plan loads
    names =
        record {
          first = λ h t is dead. dead_found h (moments.legal 0 h is) (λ i f at. moments.rising 0 i h f (omega arith) is at) t dead;
          last = λ h t n count is dead. found_dead h (moments.legal n h is)
              (λ i f at. moments.rising i n f h (let l = slice_get_within loads i f at in omega arith) at is) t dead;
        }

  -- what holds of each progress: its run is legal, the loads of its open pass are moments of it, and its closed passes name the dead
  record IsKept (a : Progress) : Type 0 where
    run : IsPlainRun plan a.run
    opened : (loads : PassLoads) → a.open_pass ≡ Some loads → AreMoments plan loads a.run
    closed : (loads : PassLoads) → Contains a.passes loads → NamesTheDead plan loads

  at_start_kept : IsKept at_start
  at_start_kept = record { run = (tt, tt); opened = λ loads e. absurd (cc); closed = λ loads c. absurd (nothing_in_nil loads c) }

  -- one more load
  loaded_kept : (a : Progress) → IsKept a → (loads : PassLoads) → AreMoments plan loads a.run → (b : Bool) → (length loads == loads_of plan loads) ≡ b
      → IsKept (if b then record a { open_pass = None; passes = a.passes ++ loads ∷ [] } else record a { open_pass = Some loads })
  loaded_kept a kept loads moments true full =
      record {
        run = kept.run;
        opened = λ other e. absurd (cc);
        closed = λ other c. elim (Contains-append_cases a.passes (loads ∷ []) other c) [
          | inl before ↦ kept.closed other before
          | inr here ↦ elim (Contains-cons_cases loads [] other here) [
            | inl same ↦ subst (NamesTheDead plan) same (names loads a.run moments (eqb-true (length loads) (loads_of plan loads) full))
            | inr nothing ↦ absurd (nothing_in_nil other nothing)
          ]
        ];
      }
  loaded_kept a kept loads moments false full =
      record { run = kept.run; opened = λ other e. (let same : loads ≡ other = cc in subst (λ l. AreMoments plan l a.run) same moments); closed = kept.closed }

  -- one more step
  stepped_kept : (a : Progress) → IsKept a → (t : ℕ) (x : Action) → IsOwnNextStep plan a.run t x → IsKept (record a { run = record { task = t; action = x } ∷ a.run })
  stepped_kept a kept t x next =
      record {
        run = plain_longer plan a.run t x kept.run next;
        opened = λ loads e. moments_stay plan loads a.run (record { task = t; action = x }) (kept.opened loads e);
        closed = kept.closed;
      }

  takes_kept : (a : Progress) (next : Line) (b : Progress) → IsKept a → Takes plan a next b → IsKept b
  takes_kept a (line.Step t) b kept (x, next, is) = subst IsKept (sym is) (stepped_kept a kept t x next)
  takes_kept a line.Pass b kept (none, is) =
      subst IsKept (sym is) record {
        run = kept.run;
        opened = λ loads e.
            (let same : [] ≡ loads = cc in subst (λ l. AreMoments plan l a.run) same (no_moments plan a.run));
        closed = kept.closed;
      }
  takes_kept a line.Load b kept (loads, opened, is) =
      let more = loads ++ a.run ∷ [] in
      subst IsKept (sym is) (loaded_kept a kept more (more_moments plan loads a.run (kept.opened loads opened) kept.run.0) (length more == loads_of plan more) refl)
  takes_kept a line.Unreadable b kept takes = absurd takes

  leads_kept : (lines : List Line) (a : Progress) → LinesLead plan lines a → IsKept a
  leads_kept _ _ no_line = at_start_kept
  leads_kept _ _ (one_more lines a next b leads takes) = takes_kept a next b (leads_kept lines a leads) takes

pub passes_name_the_dead : PassesNameTheDead
passes_name_the_dead plan lines a loads checked leads closed = (leads_kept plan checked lines a leads).closed loads closed
