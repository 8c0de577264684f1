-- In a state of a trace that is that of a run, the stuck tasks are the dead.
use Rattle.std.proofs.Common.{◌≡◌, ℕ, Bool, true, ◌&&◌, ◌==◌, Option, Some, None, refl, sym, ◌∙◌, ap, subst, inl, inr}
use Rattle.std.specs.Prelude.{Contains, bytes_eq}
use Rattle.std.specs.List.{list_any}
use Rattle.std.proofs.lemmas.Bool.{and_from, and_parts, eq-eqb, eqb-true}
use Rattle.std.proofs.lemmas.Slice.Eq.{bytes_eq-Decides}
use Rattle.armus_base.specs.declared.event.Event.{Event}
use Rattle.armus_base.specs.States.{State}
use Rattle.armus_base.specs.Deadlocks.{IsAtPhase, IsDeadIn, IsImpededWithin, IsPublishedOn}
use Rattle.monitor_laws.specs.States.{Waiting, Participant, TraceState, is_there_as}
use Rattle.monitor_laws.specs.Faults.{participant_in, phase_on}
use Rattle.monitor_laws.specs.Stuck.{IsClosedSet, IsKeptIn, IsStuck}
use Rattle.monitor_laws.proofs.Filters.{any_from, any_is}
use Rattle.monitor_laws.specs.Lawful.{IsLawfulState}
use Rattle.monitor_laws.proofs.Phases.{below_from, below_is}
use Rattle.monitor_laws.proofs.Rows.{name_is}
use Rattle.monitor_runs.specs.RunTraces.{IsSameState, Naming, TellsNumber, condition_by}
use Rattle.monitor_runs.proofs.Named.{AllLive, is_participant, listed_or_new}

module _ (task phaser : Naming) (tells : TellsNumber task) (tells_phaser : TellsNumber phaser) (g : TraceState) (s : State) (lawful : IsLawfulState g) (live : AllLive g) (same : IsSameState task phaser g s) where
  -- the task of this number is that of its name
  pub its_phases : (u : Participant) → Contains g.list u → (t p : ℕ) → u.name ≡ task t → phase_on u (phaser p) ≡ s.phases t p
  its_phases u within t p is = ap (λ x. phase_on x (phaser p)) (sym (is_participant g lawful u within (live u within) (task t) is)) ∙ same.phases t p

  pub its_wait : (u : Participant) → Contains g.list u → (t : ℕ) → u.name ≡ task t → u.condition ≡ condition_by phaser (s.published t)
  its_wait u within t is = ap (λ (x : Participant). x.condition) (sym (is_participant g lawful u within (live u within) (task t) is)) ∙ same.waits t

  -- who is a member is listed
  pub member_listed : (t p m : ℕ) → s.phases t p ≡ Some m → Contains g.list (participant_in g (task t)) × ((participant_in g (task t)).name ≡ task t)
  member_listed t p m at = elim (listed_or_new g lawful (task t)) [
    | inl is ↦ (is.listed, sym (name_is (task t) (participant_in g (task t)) is.there))
    | inr new ↦ absurd (let a = same.phases t p in let b = ap (λ x. phase_on x (phaser p)) new.1 in cc)
  ]

  -- of a closed set
  module _ (set : ℕ → Bool) (closed : IsClosedSet g set) where
    abbrev dead_set : ℕ → Bool
    dead_set k = list_any (λ v. bytes_eq (task k) v.name && set v.number) g.list

    in_dead : (u : Participant) → Contains g.list u → (t : ℕ) → u.name ≡ task t → set u.number ≡ true → dead_set t ≡ true
    in_dead u within t is inside =
        any_from (λ v. bytes_eq (task t) v.name && set v.number) g.list u within (and_from (bytes_eq (task t) u.name) (set u.number) ((bytes_eq-Decides (task t) u.name).1 (sym is)) inside)

    impeded : (u : Participant) → Contains g.list u → (t : ℕ) → u.name ≡ task t → (o : Option Event) → s.published t ≡ o → IsKeptIn g set (condition_by phaser o) → IsImpededWithin (IsPublishedOn s) (IsAtPhase s) dead_set t
    impeded u within t is None waits kept = absurd kept
    impeded u within t is (Some e) waits (v, in_v, below, inside) =
        let x = same.tasks v in_v in
        let b = below_is (phase_on v (phaser e.p.0)) e.n below in
        record {
          event = e;
          waits = waits;
          by = x.0;
          inside = in_dead v in_v x.0 x.1 inside;
          phase = b.0;
          impedes = sym (its_phases v in_v x.0 e.p.0 x.1) ∙ b.1;
          below = b.2;
        }

    each_impeded : (t : ℕ) → dead_set t ≡ true → IsImpededWithin (IsPublishedOn s) (IsAtPhase s) dead_set t
    each_impeded t inside =
        let u = any_is (λ (v : Participant). bytes_eq (task t) v.name && set v.number) g.list inside in
        let parts = and_parts (bytes_eq (task t) u.0.name) (set u.0.number) u.2 in
        let is : u.0.name ≡ task t = sym ((bytes_eq-Decides (task t) u.0.name).0 parts.0) in
        impeded u.0 u.1 t is (s.published t) refl (subst (IsKeptIn g set) (its_wait u.0 u.1 t is) (closed u.0 u.1 parts.1))

    dead_by_set : (u : Participant) → Contains g.list u → (t : ℕ) → u.name ≡ task t → set u.number ≡ true → IsDeadIn s t
    dead_by_set u within t is inside =
        let here = in_dead u within t is inside in
        record { tasks = dead_set; inside = here; deadlocked = record { some = (t, here); each = each_impeded } }

  -- of a deadlocked set
  module _ (tasks : ℕ → Bool) (each : (t : ℕ) → tasks t ≡ true → IsImpededWithin (IsPublishedOn s) (IsAtPhase s) tasks t) where
    abbrev stuck_set : ℕ → Bool
    stuck_set k = list_any (λ v. (v.number == k) && tasks (tells.0 v.name)) g.list

    in_stuck : (u : Participant) → Contains g.list u → (t : ℕ) → u.name ≡ task t → tasks t ≡ true → stuck_set u.number ≡ true
    in_stuck u within t is inside =
        any_from (λ v. (v.number == u.number) && tasks (tells.0 v.name)) g.list u within
        (and_from (u.number == u.number) (tasks (tells.0 u.name)) (eq-eqb u.number u.number refl) (ap tasks (ap tells.0 is ∙ tells.1 t) ∙ inside))

    kept_by : (u : Participant) → Contains g.list u → (t : ℕ) → u.name ≡ task t → tasks t ≡ true → IsKeptIn g stuck_set u.condition
    kept_by u within t is inside =
        let held = each t inside in
        let y = member_listed held.by held.event.p.0 held.phase held.impedes in
        subst (IsKeptIn g stuck_set) (sym (its_wait u within t is ∙ ap (condition_by phaser) held.waits)) (
          participant_in g (task held.by),
          y.0,
          below_from (phase_on (participant_in g (task held.by)) (phaser held.event.p.0)) held.phase held.event.n (same.phases held.by held.event.p.0 ∙ held.impedes) held.below,
          in_stuck (participant_in g (task held.by)) y.0 held.by y.1 held.inside,
        )

    closed_set : IsClosedSet g stuck_set
    closed_set u within inside =
        let v = any_is (λ (x : Participant). (x.number == u.number) && tasks (tells.0 x.name)) g.list inside in
        let parts = and_parts (v.0.number == u.number) (tasks (tells.0 v.0.name)) v.2 in
        let is : v.0 ≡ u = lawful.one_number v.0 u v.1 within (eqb-true v.0.number u.number parts.0) in
        let t = same.tasks u within in
        kept_by u within t.0 t.1 (ap tasks (sym (tells.1 t.0) ∙ ap tells.0 (sym t.1) ∙ ap (λ (x : Participant). tells.0 x.name) (sym is)) ∙ parts.1)

  pub stuck_is_dead : (t : ℕ) → IsStuck g (participant_in g (task t)) → IsDeadIn s t
  stuck_is_dead t stuck = elim (listed_or_new g lawful (task t)) [
    | inl is ↦ dead_by_set stuck.set stuck.closed (participant_in g (task t)) stuck.listed t (named t is.there) stuck.inside
    | inr new ↦ absurd (let w = stuck.waits.2 in let e = ap (λ (x : Participant). x.condition) new.1 in cc)
  ]
    where
      named : (t : ℕ) → is_there_as (task t) (participant_in g (task t)) ≡ true → (participant_in g (task t)).name ≡ task t
      named t there = sym (name_is (task t) (participant_in g (task t)) there)

  pub dead_is_stuck : (t : ℕ) → IsDeadIn s t → IsStuck g (participant_in g (task t))
  dead_is_stuck t dead =
      let held = dead.deadlocked.each t dead.inside in
      let waits : (participant_in g (task t)).condition ≡ Waiting (phaser held.event.p.0) held.event.n = same.waits t ∙ ap (condition_by phaser) held.waits in
      elim (listed_or_new g lawful (task t)) [
        | inl is ↦ record {
          listed = is.listed;
          waits = (phaser held.event.p.0, held.event.n, waits);
          set = stuck_set dead.tasks dead.deadlocked.each;
          closed = closed_set dead.tasks dead.deadlocked.each;
          inside = in_stuck dead.tasks dead.deadlocked.each (participant_in g (task t)) is.listed t (sym (name_is (task t) (participant_in g (task t)) is.there)) dead.inside;
        }
        | inr new ↦ absurd (let e = ap (λ (x : Participant). x.condition) new.1 in cc)
      ]
