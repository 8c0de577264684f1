-- The next of a deadlocked task is the least dead task that impedes it.
use Rattle.std.proofs.Common.{◌≡◌, ℕ, ◌<◌, ◌≤◌, true, Option, Some, None, List, length, sym, ◌∙◌, ap, subst, refl, inl, inr, eq-eqb}
use Rattle.std.specs.Prelude.{AllPairs, Contains, option_map}
use Rattle.std.specs.List.{find}
use Rattle.armus_base.specs.declared.ending.TaskEnd.TheVariants.{Blocked}
use Rattle.armus_base.specs.declared.event.Event.{Event}
use Rattle.armus_base.specs.declared.ids.PhaserId.{PhaserId}
use Rattle.armus_base.specs.declared.ids.TaskId.{TaskId}
use Rattle.armus_base.specs.declared.status.Status.{Status}
use Rattle.armus_base.specs.Deadlocks.{IsDeadBy, IsDeadIn, IsListedOn}
use Rattle.armus_base.specs.calls.FinalLaws.{AreStatuses}
use Rattle.armus_base.specs.Finals.{end_of, final_of, is_awaited, is_event_of}
use Rattle.armus_base.specs.Graphs.{WaitsFor}
use Rattle.armus_base.specs.Plans.{Plan}
use Rattle.armus_base.specs.States.{State}
use Rattle.armus_base.specs.Statuses.{Impedes}
use Rattle.armus_base.proofs.DeadByStatuses.{dead_by_final}
use Rattle.armus_base.proofs.Fixed.{some_before_from}
use Rattle.armus_base.proofs.StatusesAre.{statuses_are}
use Rattle.dep_state.proofs.DeadSets.{same_task}
use Rattle.report.proofs.CycleExists.{same_phaser}
use Rattle.verdict.specs.Cycles.{IsDeadStep}
use Rattle.explain_tasks.specs.declared.impeders.Impeder.{Impeder}
use Rattle.explain_tasks.specs.declared.situation.Situation.{Situation}
use Rattle.explain_tasks.specs.Facts.{FactsValue, forking_of, is_deadlocked, situation_of}
use Rattle.explain_tasks.specs.Impeders.{impeders_by_facts}
use Rattle.explain_deadlock.specs.Laws.{IsDeadAndWaitsFor}
use Rattle.explain_tasks.specs.Nexts.{IsNext, least_that, next_by}
use Rattle.explain_deadlock.specs.RunEnds.{AreFactsAt}
use Rattle.explain_deadlock.specs.Verdicts.{HasFollower}
use Rattle.explain_deadlock.proofs.Followers.{dead_follower, dead_impeder}
use Rattle.explain_deadlock.proofs.FitsEnds.{checked_here, dead_in_state, dead_is, impeder_here, impeders_here, of_plan_here, published_is, waiting_is}
use Rattle.explain_deadlock.proofs.ImpedersAre.{found_passes, impeder, impeder_is, impeders_ascend, least_found}
use Rattle.explain_deadlock.proofs.NextInside.{find_contains}
use Rattle.explain_deadlock.proofs.Starts.{deadlocked_waits}

-- what is made of something comes from it
mapped : (o : Option Impeder) (u : TaskId) → option_map (λ (i : Impeder). i.t) o ≡ Some u → (i : Impeder) × (o ≡ Some i) × (i.t ≡ u)
mapped None u is = absurd (cc)
mapped (Some i) u is = (i, refl, let same : i.t ≡ u = cc in same)

module _ (plan : Plan) (s : State) (done : ℕ → ℕ) (f : FactsValue) (at : AreFactsAt plan s done f) where
  abbrev blocked : List Status
  blocked = (final_of plan s).blocked

  abbrev imps : ℕ → List Impeder
  imps t = impeders_by_facts f s.phases t

  statuses : AreStatuses plan s (is_awaited plan s) blocked
  statuses = statuses_are plan s (is_awaited plan s) (checked_here plan s done f at)

  -- who is deadlocked is dead
  pub deadlocked_dead : (t : ℕ) → is_deadlocked (situation_of f t) ≡ true → IsDeadBy blocked t
  deadlocked_dead t is =
      let (lt, e, ended, so) = waiting_is plan s done f at t (deadlocked_waits (situation_of f t) is) in
      elim so [ inl (dead, same) ↦ dead | inr (alive, same) ↦ absurd (let held = ap is_deadlocked same in cc) ]

  -- an impeder of a task that is blocked impedes its event
  pub impedes : (t : ℕ) (e : Event) → t < length plan.parents → end_of s t ≡ Blocked e → (i : Impeder) → Contains (imps t) i → (s.phases i.t.0 e.p.0 ≡ Some i.phase) × (i.phase < e.n)
  impedes t e lt ended i there =
      let is = impeder_is (length f.standings) s.phases e i (subst (λ xs. Contains xs i) (impeders_here plan s done f at t e lt ended) there) in (is.1, is.2)

  -- the next of a dead task is what is found
  pub next_found : (t u : TaskId) → IsDeadBy blocked t.0 → IsNext f s.phases t u →
      (i : Impeder) × (find (λ (k : Impeder). is_deadlocked (situation_of f k.t.0)) (imps t.0) ≡ Some i) × (i.t ≡ u)
  next_found t u dead step =
      let d = dead_is plan s done f at t.0 dead in
      let least : least_that is_deadlocked f (imps t.0) ≡ Some u = subst (λ (x : Situation). next_by f (imps t.0) (forking_of f t.0) x ≡ Some u) d.3 step in
      mapped (find (λ (k : Impeder). is_deadlocked (situation_of f k.t.0)) (imps t.0)) u least

  -- the next of a dead task is dead
  pub next_dead : (t u : TaskId) → IsDeadBy blocked t.0 → IsNext f s.phases t u → IsDeadBy blocked u.0
  next_dead t u dead step =
      let (i, found, same) = next_found t u dead step in
      let passes = found_passes (λ (k : Impeder). is_deadlocked (situation_of f k.t.0)) (imps t.0) i found in
      subst (λ (v : TaskId). IsDeadBy blocked v.0) same (deadlocked_dead i.t.0 passes)

  -- and impedes its event
  pub next_impedes : (t u : TaskId) → IsDeadBy blocked t.0 → IsNext f s.phases t u →
      (e : Event) × (end_of s t.0 ≡ Blocked e) × (m : ℕ) × (s.phases u.0 e.p.0 ≡ Some m) × (m < e.n)
  next_impedes t u dead step =
      let (lt, e, ended, is) = dead_is plan s done f at t.0 dead in
      let (i, found, same) = next_found t u dead step in
      let (phase, below) = impedes t.0 e lt ended i (find_contains (λ (k : Impeder). is_deadlocked (situation_of f k.t.0)) (imps t.0) i found) in
      (e, ended, i.phase, subst (λ (v : TaskId). s.phases v.0 e.p.0 ≡ Some i.phase) same phase, below)

  pub dead_waits : (t u : TaskId) → IsDeadBy blocked t.0 → IsNext f s.phases t u → IsDeadAndWaitsFor s t u
  dead_waits t u dead step =
      let (e, ended, m, phase, below) = next_impedes t u dead step in
      (dead_in_state plan s done f at t.0 dead, e, published_is plan s done f at t.0 e ended, m, phase, below)

  -- ---- by the statuses

  -- a dead task that impedes the event of a task that waits does so by the statuses
  waits_from : (t u : TaskId) (e : Event) (m : ℕ) → end_of s t.0 ≡ Blocked e → IsDeadBy blocked u.0 → s.phases u.0 e.p.0 ≡ Some m → m < e.n → WaitsFor blocked t u
  waits_from t u e m ended dead phase below =
      let published = published_is plan s done f at t.0 e ended in
      let of_plan = of_plan_here plan s done f at in
      let lt = of_plan.published t.0 e published in
      let (lt', e', ended', is') = dead_is plan s done f at u.0 dead in
      let awaited : is_awaited plan s e.p.0 ≡ true =
      some_before_from (λ v. is_event_of e.p.0 (s.published v)) (length plan.parents) t.0 lt (ap (is_event_of e.p.0) published ∙ eq-eqb e.p.0 e.p.0 refl) in
      let (x, in', is_t, is_e) = (statuses.events t.0 e).1 (lt, published) in
      let (y, inside, is_u, (k, l, is)) = (statuses.phases u.0 e.p.0 m).1
      (record { task = lt'; event = e'; published = published_is plan s done f at u.0 e' ended'; phaser = of_plan.phaser u.0 e.p.0 m phase; asked_for = awaited; phase = phase }) in
      let phaser : PhaserId = record { 0 = e.p.0 } in (
        x,
        in',
        same_task x.t t is_t,
        (y, inside, same_task y.t u is_u, subst (λ (v : Event). Impedes y v) (sym is_e) (k, record { p = phaser; n = m }, l, is, (same_phaser phaser e.p refl, below))),
      )

  -- and what does so by the statuses is an impeder
  waits_is : (t v : TaskId) (e : Event) → end_of s t.0 ≡ Blocked e → WaitsFor blocked t v → (m : ℕ) × Contains (imps t.0) (impeder e v.0 m)
  waits_is t v e ended (x, in', is_t, (y, inside, is_v, (k, member, l, is, (p, below)))) =
      let published = published_is plan s done f at t.0 e ended in
      let of_plan = of_plan_here plan s done f at in
      let lt = of_plan.published t.0 e published in
      let listed : IsListedOn blocked t.0 x.event = (x, in', ap (λ (z : TaskId). z.0) is_t, refl) in
      let also = ((statuses.events t.0 x.event).0 listed).1 in
      let event : x.event ≡ e = (let both : Some x.event ≡ Some e = sym also ∙ published in cc) in
      let phase = ((statuses.phases v.0 member.p.0 member.n).0 (y, inside, ap (λ (z : TaskId). z.0) is_v, (k, l, is))).phase in
      let on : member.p.0 ≡ e.p.0 = ap (λ (z : PhaserId). z.0) (p ∙ ap (λ (z : Event). z.p) event) in
      let less : member.n < e.n = subst (λ (z : Event). member.n < z.n) event below in
      (member.n, impeder_here plan s done f at t.0 e lt ended v.0 member.n (subst (λ q. s.phases v.0 q ≡ Some member.n) on phase) less)

  -- the next of a dead task is the one of the report's walk
  pub next_is_step : (t u : TaskId) → IsDeadBy blocked t.0 → IsNext f s.phases t u → IsDeadStep blocked t u
  next_is_step t u dead step =
      let (lt, e, ended, deadlocked) = dead_is plan s done f at t.0 dead in
      let (also, same_end, m, phase, below) = next_impedes t u dead step in
      let event : also ≡ e = (let both : Blocked also ≡ Blocked e = sym same_end ∙ ended in cc) in
      let (i, found, same) = next_found t u dead step in
      let passing = λ (k : Impeder). is_deadlocked (situation_of f k.t.0) in
      let ascend = subst (λ xs. AllPairs (λ (x y : Impeder). x.t.0 < y.t.0) xs) (sym (impeders_here plan s done f at t.0 e lt ended)) (impeders_ascend (length f.standings) s.phases e) in
      record {
        waits = waits_from t u also m same_end (next_dead t u dead step) phase below;
        dead = next_dead t u dead step;
        least = λ v waits is_dead.
            let (k, there) = waits_is t v e ended waits in
            let passes : is_deadlocked (situation_of f v.0) ≡ true = ap is_deadlocked (dead_is plan s done f at v.0 is_dead).3 in
            subst (λ (x : TaskId). x.0 ≤ v.0) same (least_found passing (imps t.0) i ascend found (impeder e v.0 k) there passes);
      }

  -- ---- all for whom a dead task waits

  dead_stands : (t : ℕ) → IsDeadBy blocked t → is_deadlocked (situation_of f t) ≡ true
  dead_stands t dead = ap is_deadlocked (dead_is plan s done f at t dead).3

  -- for whom a dead task waits is dead, and impedes its event
  pub follows_dead : (t u : TaskId) → IsDeadBy blocked t.0 → HasFollower f s.phases t u → IsDeadAndWaitsFor s t u × IsDeadBy blocked u.0
  follows_dead t u dead follows =
      let (lt, e, ended, is) = dead_is plan s done f at t.0 dead in
      let (i, there, same, passes) = dead_follower f s.phases t.0 u (dead_stands t.0 dead) follows in
      let (phase, below) = impedes t.0 e lt ended i there in (
        (
          dead_in_state plan s done f at t.0 dead,
          e,
          published_is plan s done f at t.0 e ended,
          i.phase,
          subst (λ (v : TaskId). s.phases v.0 e.p.0 ≡ Some i.phase) same phase,
          below,
        ),
        deadlocked_dead u.0 passes,
      )

  -- and a dead task that impedes its event is one for whom it waits
  pub waits_follows : (t u : TaskId) → IsDeadAndWaitsFor s t u → IsDeadIn s u.0 → HasFollower f s.phases t u
  waits_follows t u (dead, e, published, m, phase, below) also =
      let of_plan = of_plan_here plan s done f at in
      let by_t = (dead_by_final plan s t.0 of_plan).1 dead in
      let by_u = (dead_by_final plan s u.0 of_plan).1 also in
      let (lt, e', ended, is) = dead_is plan s done f at t.0 by_t in
      let event : e ≡ e' = (let both : Some e ≡ Some e' = sym published ∙ published_is plan s done f at t.0 e' ended in cc) in
      let on : s.phases u.0 e'.p.0 ≡ Some m = subst (λ (v : Event). s.phases u.0 v.p.0 ≡ Some m) event phase in
      let less : m < e'.n = subst (λ (v : Event). m < v.n) event below in
      dead_impeder f s.phases t.0 (impeder e' u.0 m) (dead_stands t.0 by_t) (impeder_here plan s done f at t.0 e' lt ended u.0 m on less) (dead_stands u.0 by_u)
