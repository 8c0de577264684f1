-- In a state where some tasks have ended just the dead are stuck, and those who wait for one that has ended, or for one who does so.
use Rattle.std.proofs.Common.{◌≡◌, ℕ, ◌<◌, Bool, true, false, ◌&&◌, ◌||◌, not, Some, None, Option, List, refl, sym, ◌∙◌, ap, subst, ◌⊎◌, inl, inr}
use Rattle.std.specs.Prelude.{Contains, ◌==◌, bytes_eq}
use Rattle.std.specs.List.{list_any}
use Rattle.std.proofs.lemmas.Bool.{and_from, and_parts, cases_Bool, eq-eqb, eqb-true, not_from_false, or_cases, or_left, or_right}
use Rattle.std.proofs.lemmas.Slice.Eq.{bytes_eq-Decides}
use Rattle.armus_base.specs.AgreementLaws.{WaitsForTask}
use Rattle.armus_base.specs.declared.event.Event.{Event}
use Rattle.armus_base.specs.Deadlocks.{IsAtPhase, IsDeadIn, IsImpededWithin, IsPublishedOn}
use Rattle.armus_base.specs.States.{State}
use Rattle.monitor_laws.specs.Faults.{phase_on}
use Rattle.monitor_laws.specs.States.{Participant, TraceState, Waiting}
use Rattle.monitor_laws.specs.Stuck.{IsClosedSet, IsKeptIn}
use Rattle.monitor_laws.specs.Told.{IsGreatestClosedSet}
use Rattle.monitor_laws.proofs.Deadlocked.{kept_in_larger}
use Rattle.monitor_laws.proofs.Filters.{any_from, any_is}
use Rattle.monitor_laws.proofs.Known.{stuck_is_known}
use Rattle.monitor_laws.proofs.Lawful.{IsLawfulState}
use Rattle.monitor_laws.proofs.Phases.{below_from, below_is}
use Rattle.monitor_runs.specs.EndedTraces.{AreStuckOfRun, IsStuckByName, WaitsForDone, on_done, on_waiting}
use Rattle.monitor_runs.specs.RunTraces.{Naming, TellsNumber, condition_by}
use Rattle.monitor_runs.proofs.EndedStates.{IsEndedState, among, condition_with, from_among, is_among, not_among}
use Rattle.monitor_runs.proofs.WaitsForDone.{dead_or_waits}

module _ (task phaser : Naming) (tells : TellsNumber task) (g : TraceState) (s : State) (done : List ℕ) (lawful : IsLawfulState g) (all : IsEndedState task phaser g s done) (idle : (t : ℕ) → Contains done t → s.published t ≡ None)
    (n : ℕ) (published_within : (u : ℕ) (e : Event) → s.published u ≡ Some e → u < n) (member_within : (u p m : ℕ) → s.phases u p ≡ Some m → u < n) where
  -- of a closed set
  module _ (set : ℕ → Bool) (closed : IsClosedSet g set) where
    abbrev inside : ℕ → Bool
    inside k = list_any (λ v. bytes_eq (task k) v.name && set v.number) g.list

    -- and of these who have not ended
    abbrev held : ℕ → Bool
    held k = inside k && not (is_among done k)

    in_inside : (u : Participant) → Contains g.list u → (t : ℕ) → u.name ≡ task t → set u.number ≡ true → inside t ≡ true
    in_inside u within t is on =
        any_from (λ v. bytes_eq (task t) v.name && set v.number) g.list u within (and_from (bytes_eq (task t) u.name) (set u.number) ((bytes_eq-Decides (task t) u.name).1 (sym is)) on)

    done_or_held : (k : ℕ) → inside k ≡ true → Contains done k ⊎ (held k ≡ true)
    done_or_held k on = elim (cases_Bool (is_among done k)) [
      | inl ended ↦ inl (from_among done k ended)
      | inr live ↦ inr (and_from (inside k) (not (is_among done k)) on (not_from_false (is_among done k) live))
    ]

    kept_by : (t : ℕ) (o : Option Event) → s.published t ≡ o → IsKeptIn g set (condition_by phaser o) → (w : ℕ) × WaitsForTask s t w × (Contains done w ⊎ (held w ≡ true))
    kept_by t None at kept = absurd kept
    kept_by t (Some e) at (v, in_v, below, on) =
        let x = all.names v in_v in
        let b = below_is (phase_on v (phaser e.p.0)) e.n below in
        (x.0, (e, b.0, at, sym (all.phases v in_v x.0 e.p.0 x.1) ∙ b.1, b.2), done_or_held x.0 (in_inside v in_v x.0 x.1 on))

    kept : (t : ℕ) → held t ≡ true → (w : ℕ) × WaitsForTask s t w × (Contains done w ⊎ (held w ≡ true))
    kept t on =
        let both = and_parts (inside t) (not (is_among done t)) on in
        let u = any_is (λ (v : Participant). bytes_eq (task t) v.name && set v.number) g.list both.0 in
        let parts = and_parts (bytes_eq (task t) u.0.name) (set u.0.number) u.2 in
        let is : u.0.name ≡ task t = sym ((bytes_eq-Decides (task t) u.0.name).0 parts.0) in
        let live : is_among done t ≡ false = (elim (cases_Bool (is_among done t)) [ inr off ↦ off | inl ended ↦ absurd (let e = ap not ended in let f = both.1 in cc) ]) in
        let condition : u.0.condition ≡ condition_by phaser (s.published t) = all.conditions u.0 u.1 t is ∙ ap (λ b. condition_with phaser b (s.published t)) live in
        kept_by t (s.published t) refl (subst (IsKeptIn g set) condition (closed u.0 u.1 parts.1))

  is_dead_or_waits : (t : ℕ) → IsStuckByName g (task t) → IsDeadIn s t ⊎ WaitsForDone s done t
  is_dead_or_waits t (u, stuck, is) =
      elim (done_or_held stuck.set stuck.closed t (in_inside stuck.set stuck.closed u stuck.listed t is stuck.inside)) [
        | inl ended ↦ absurd (let c = all.conditions u stuck.listed t is ∙ ap (λ b. condition_with phaser b (s.published t)) (among done t ended) in let w = stuck.waits.2 in cc)
        | inr on ↦ dead_or_waits s n published_within member_within done (held stuck.set stuck.closed) (kept stuck.set stuck.closed) t on
      ]

  abbrev known : ℕ → Bool
  known = (stuck_is_known g).0

  greatest : IsGreatestClosedSet g known
  greatest = (stuck_is_known g).1

  -- whoever is kept by the greatest closed set stands in it
  into_known : (u : Participant) → Contains g.list u → IsKeptIn g known u.condition → known u.number ≡ true
  into_known u within kept = greatest.greatest larger larger_closed u within (or_right (known u.number) (u.number == u.number) (eq-eqb u.number u.number refl))
    where
      larger : ℕ → Bool
      larger k = known k || (k == u.number)

      larger_closed : IsClosedSet g larger
      larger_closed v in_v on =
          kept_in_larger g known larger (λ w in_w is. or_left (known w.number) (w.number == u.number) is) v.condition
          (elim (or_cases (known v.number) (v.number == u.number) on) [
            | inl old ↦ greatest.closed v in_v old
            | inr own ↦ subst (λ (x : Participant). IsKeptIn g known x.condition) (lawful.one_number u v within in_v (sym (eqb-true v.number u.number own))) kept
          ])

  -- who waits is not among those that are done
  waits_so : (u : Participant) → Contains g.list u → (t : ℕ) → u.name ≡ task t → (e : Event) → s.published t ≡ Some e → u.condition ≡ Waiting (phaser e.p.0) e.n
  waits_so u within t is e at =
      all.conditions u within t is
      ∙ ap (λ b. condition_with phaser b (s.published t)) (not_among done t (λ ended. let o = sym at ∙ idle t ended in cc))
      ∙ ap (condition_by phaser) at

  -- who waits for one of the greatest closed set stands in it
  kept_known : (t w : ℕ) → WaitsForTask s t w → ((v : Participant) → Contains g.list v → v.name ≡ task w → known v.number ≡ true) → (u : Participant) → Contains g.list u → u.name ≡ task t → known u.number ≡ true
  kept_known t w (e, m, at, impedes, below) by u within is =
      let v = all.member w e.p.0 m impedes in
      into_known u within (subst (IsKeptIn g known) (sym (waits_so u within t is e at))
      (v.0, v.1, below_from (phase_on v.0 (phaser e.p.0)) m e.n (all.phases v.0 v.1 w e.p.0 v.2 ∙ impedes) below, by v.0 v.1 v.2))

  waits_known : (t : ℕ) → WaitsForDone s done t → (u : Participant) → Contains g.list u → u.name ≡ task t → known u.number ≡ true
  waits_known t (on_done w waits ended) u within is =
      kept_known t w waits (λ v in_v name. into_known v in_v
      (subst (IsKeptIn g known) (sym (all.conditions v in_v w name ∙ ap (λ b. condition_with phaser b (s.published w)) (among done w ended))) tt)) u within is
  waits_known t (on_waiting w waits more) u within is = kept_known t w waits (λ v in_v name. waits_known w more v in_v name) u within is

  -- of a deadlocked set
  module _ (tasks : ℕ → Bool) (each : (t : ℕ) → tasks t ≡ true → IsImpededWithin (IsPublishedOn s) (IsAtPhase s) tasks t) where
    abbrev stuck_set : ℕ → Bool
    stuck_set k = list_any (λ v. (v.number == k) && tasks (tells.0 v.name)) g.list

    in_stuck : (u : Participant) → Contains g.list u → (t : ℕ) → u.name ≡ task t → tasks t ≡ true → stuck_set u.number ≡ true
    in_stuck u within t is on =
        any_from (λ v. (v.number == u.number) && tasks (tells.0 v.name)) g.list u within
        (and_from (u.number == u.number) (tasks (tells.0 u.name)) (eq-eqb u.number u.number refl) (ap tasks (ap tells.0 is ∙ tells.1 t) ∙ on))

    kept_so : (u : Participant) → Contains g.list u → (t : ℕ) → u.name ≡ task t → tasks t ≡ true → IsKeptIn g stuck_set u.condition
    kept_so u within t is on =
        let held = each t on in
        let v = all.member held.by held.event.p.0 held.phase held.impedes in
        subst (IsKeptIn g stuck_set) (sym (waits_so u within t is held.event held.waits))
        (v.0, v.1, below_from (phase_on v.0 (phaser held.event.p.0)) held.phase held.event.n (all.phases v.0 v.1 held.by held.event.p.0 v.2 ∙ held.impedes) held.below, in_stuck v.0 v.1 held.by v.2 held.inside)

    closed_set : IsClosedSet g stuck_set
    closed_set u within on =
        let v = any_is (λ (x : Participant). (x.number == u.number) && tasks (tells.0 x.name)) g.list on in
        let parts = and_parts (v.0.number == u.number) (tasks (tells.0 v.0.name)) v.2 in
        let is : v.0 ≡ u = lawful.one_number v.0 u v.1 within (eqb-true v.0.number u.number parts.0) in
        let t = all.names u within in
        kept_so u within t.0 t.1 (ap tasks (sym (tells.1 t.0) ∙ ap tells.0 (sym t.1) ∙ ap (λ (x : Participant). tells.0 x.name) (sym is)) ∙ parts.1)

  dead_known : (t : ℕ) → IsDeadIn s t → (u : Participant) → Contains g.list u → u.name ≡ task t → known u.number ≡ true
  dead_known t dead u within is =
      greatest.greatest (stuck_set dead.tasks dead.deadlocked.each) (closed_set dead.tasks dead.deadlocked.each) u within
      (in_stuck dead.tasks dead.deadlocked.each u within t is dead.inside)

  stuck_so : (t : ℕ) (e : Event) → s.published t ≡ Some e → ((u : Participant) → Contains g.list u → u.name ≡ task t → known u.number ≡ true) → IsStuckByName g (task t)
  stuck_so t e at by =
      let u = all.waiting t e at in (
        u.0,
        record { listed = u.1; waits = (phaser e.p.0, e.n, waits_so u.0 u.1 t u.2 e at); set = known; closed = greatest.closed; inside = by u.0 u.1 u.2 },
        u.2,
      )

  is_stuck : (t : ℕ) → IsDeadIn s t ⊎ WaitsForDone s done t → IsStuckByName g (task t)
  is_stuck t (inl dead) = let held = dead.deadlocked.each t dead.inside in stuck_so t held.event held.waits (dead_known t dead)
  is_stuck t (inr (on_done w waits ended)) = stuck_so t waits.0 waits.2 (waits_known t (on_done w waits ended))
  is_stuck t (inr (on_waiting w waits more)) = stuck_so t waits.0 waits.2 (waits_known t (on_waiting w waits more))

  pub are_stuck : AreStuckOfRun task s done g
  are_stuck t = (is_dead_or_waits t, is_stuck t)
