-- The tasks of a cycle of statuses are a deadlocked set.
use Rattle.std.proofs.Common.{◌≡◌, ℕ, ◌+◌, ◌-◌, true, List, [], ◌∷◌, ◌++◌, length, arith, ◌∙◌, ap, subst, refl, get_or, eq-eqb, inl, inr, length-append}
use Rattle.std.specs.Prelude.{◌==◌, Contains}
use Rattle.std.proofs.lemmas.Bool.{cases_lt, eqb-true, false≢true, or_cases, or_left, or_right}
use Rattle.std.proofs.lemmas.List.{get_or-append-add}
use Rattle.std.proofs.lemmas.List.Elements.{Contains-get_or}
use Rattle.armus_base.specs.declared.ids.TaskId.{TaskId}
use Rattle.armus_base.specs.declared.status.Status.{Status}
use Rattle.armus_base.specs.calls.AgreementLaws.{CycleIsDeadlocked, CycleIsDeadlockedIn, IsWaitCycle, WalkCycleWaits}
use Rattle.armus_base.specs.AgreementLaws.{has_task}
use Rattle.armus_base.specs.Deadlocks.{IsImpededWithin, IsListedAt, IsListedOn}
use Rattle.armus_base.specs.Finals.{final_of, is_awaited}
use Rattle.armus_base.specs.Graphs.{WaitsFor}
use Rattle.armus_base.specs.Relations.{IsWalkCycle}
use Rattle.armus_base.specs.calls.Relations.{KeepsOn}
use Rattle.armus_base.proofs.Elements.{Contains-cons_cases, Contains-head, Contains-tail, nothing_in_nil}
use Rattle.armus_base.proofs.StatusesAre.{events_are, phases_are}

has_task_is : (tasks : List TaskId) (n : ℕ) → has_task tasks n ≡ true → (t : TaskId) × Contains tasks t × t.0 ≡ n
has_task_is [] n h = absurd (false≢true h)
has_task_is (t ∷ ts) n h =
    elim (or_cases (t.0 == n) (has_task ts n) h) [
      | inl here ↦ (t, Contains-head t ts, eqb-true t.0 n here)
      | inr later ↦ (let r = has_task_is ts n later in (r.0, Contains-tail t ts r.0 r.1, r.2))
    ]

has_task_from : (tasks : List TaskId) (t : TaskId) → Contains tasks t → has_task tasks t.0 ≡ true
has_task_from [] t h = absurd (nothing_in_nil t h)
has_task_from (u ∷ ts) t h =
    elim (Contains-cons_cases u ts t h) [
      | inl here ↦ or_left (u.0 == t.0) (has_task ts t.0) (eq-eqb u.0 t.0 (ap (λ v. v.0) here))
      | inr later ↦ or_right (u.0 == t.0) (has_task ts t.0) (has_task_from ts t later)
    ]

-- each task of a cycle waits for one of it
cycle_keeps_on : (list : List Status) (tasks : List TaskId) → IsWaitCycle list tasks → KeepsOn (WaitsFor list) tasks
cycle_keeps_on list tasks cycle t inside =
    let k = inside.0 in
    let lt = inside.1 in
    elim (cases_lt (k + 1) (length tasks)) [
      | inl more ↦ (
        get_or tasks (k + 1) t,
        subst (λ u. WaitsFor list u (get_or tasks (k + 1) t)) inside.2 (cycle.steps k t more),
        Contains-get_or tasks (k + 1) t more,
      )
      | inr last ↦
          let same : length tasks - 1 ≡ k = omega arith in (
            get_or tasks 0 t,
            subst (λ u. WaitsFor list u (get_or tasks 0 t)) (ap (λ j. get_or tasks j t) same ∙ inside.2) (cycle.back t),
            Contains-get_or tasks 0 t cycle.some,
          )
    ]

-- where each task of a list waits for one of it, each is impeded within it
impeded_within :
    (list : List Status) (tasks : List TaskId) → KeepsOn (WaitsFor list) tasks → (n : ℕ) → has_task tasks n ≡ true →
    IsImpededWithin (IsListedOn list) (IsListedAt list) (has_task tasks) n
impeded_within list tasks keeps n inside =
    let (t, there, number) = has_task_is tasks n inside in
    let (u, waits, next) = keeps t there in
    let own = waits.0 in
    let other = waits.3.0 in
    let (k, m, lt, at, impedes) = waits.3.3 in
    record {
      event = own.event;
      waits = (own, waits.1, ap (λ v. v.0) waits.2 ∙ number, refl);
      by = u.0;
      inside = has_task_from tasks u next;
      phase = m.n;
      impedes = (
        other,
        waits.3.1,
        ap (λ v. v.0) waits.3.2,
        subst (λ q. Contains other.phases (record { p = q; n = m.n })) impedes.0 (k, lt, at),
      );
      below = impedes.1;
    }

pub cycle_is_deadlocked : CycleIsDeadlocked
cycle_is_deadlocked list tasks cycle =
    let first : TaskId = record { 0 = 0 } in
    let one = get_or tasks 0 first in
    record {
      some = (one.0, has_task_from tasks one (Contains-get_or tasks 0 first cycle.some));
      each = impeded_within list tasks (cycle_keeps_on list tasks cycle);
    }

pub cycle_is_deadlocked_in : CycleIsDeadlockedIn
cycle_is_deadlocked_in plan s tasks cycle =
    let deadlocked = cycle_is_deadlocked (final_of plan s).blocked tasks cycle in
    let asked = is_awaited plan s in
    record {
      some = deadlocked.some;
      each = λ t inside.
          let held = deadlocked.each t inside in
          record {
            event = held.event;
            waits = (events_are plan s asked t held.event held.waits).1;
            by = held.by;
            inside = held.inside;
            phase = held.phase;
            impedes = (phases_are plan s asked held.by held.event.p.0 held.phase held.impedes).phase;
            below = held.below;
          };
    }

-- the cycle that a walk reaches, along a relation that is part of the waits
pub walk_cycle_waits :
    (list : List Status) (R : TaskId → TaskId → Type 0) → ((t u : TaskId) → R t u → WaitsFor list t u) → (start : TaskId) (cycle : List TaskId) →
    IsWalkCycle R start cycle → IsWaitCycle list cycle
walk_cycle_waits list R waits start cycle walk =
    let long = length-append walk.before cycle in
    let some = walk.some in
    let at : (k : ℕ) (d : TaskId) → get_or (walk.before ++ cycle) (length walk.before + k) d ≡ get_or cycle k d = λ k d. get_or-append-add walk.before cycle k d in
    record {
      some = walk.some;
      steps = λ k d more.
          waits (get_or cycle k d) (get_or cycle (k + 1) d)
          (subst (λ v. R v (get_or cycle (k + 1) d)) (at k d)
          (subst (λ v. R (get_or (walk.before ++ cycle) (length walk.before + k) d) v)
          (ap (λ j. get_or (walk.before ++ cycle) j d) (let e : length walk.before + k + 1 ≡ length walk.before + (k + 1) = omega arith in e) ∙ at (k + 1) d)
          (walk.steps (length walk.before + k) d (omega arith))));
      back = λ d.
          waits (get_or cycle (length cycle - 1) d) (get_or cycle 0 d)
          (subst (λ v. R v (get_or cycle 0 d))
          (ap (λ j. get_or (walk.before ++ cycle) j d) (let e : length (walk.before ++ cycle) - 1 ≡ length walk.before + (length cycle - 1) = omega arith in e)
          ∙ at (length cycle - 1) d)
          (walk.back d));
    }

pub walk_cycle_waits_along : WalkCycleWaits
walk_cycle_waits_along list start cycle walk = walk_cycle_waits list (WaitsFor list) (λ t u waits. waits) start cycle walk
