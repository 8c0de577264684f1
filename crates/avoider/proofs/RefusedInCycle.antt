-- The refused task stands in the cycle: nobody else was dead without it.
use Rattle.std.proofs.Common.{◌≡◌, ◌≢◌, ℕ, Bool, true, Some, None, List, length, get_or, sym, ◌∙◌, ap, subst, refl, eq-eqb, inl, inr}
use Rattle.std.specs.Prelude.{Contains}
use Rattle.std.proofs.lemmas.List.{get_or_default}
use Rattle.armus_base.specs.declared.event.Event.{Event}
use Rattle.armus_base.specs.States.{if_published}
use Rattle.armus_base.specs.declared.ids.TaskId.{TaskId}
use Rattle.armus_base.specs.declared.status.Status.{Status}
use Rattle.armus_base.specs.CheckedPlans.{IsCheckedPlan}
use Rattle.armus_base.specs.Deadlocks.{NobodyDead}
use Rattle.armus_base.specs.Finals.{is_awaited, is_event_of, statuses_on}
use Rattle.armus_base.specs.Runs.{IsReachable}
use Rattle.armus_base.proofs.DeadByStatuses.{dead_on_asked}
use Rattle.armus_base.proofs.Fixed.{some_before_from}
use Rattle.armus_base.proofs.StatusesAre.{listed_from, listed_is}
use Rattle.armus_base.proofs.Steps.{updated_other}
use Rattle.dep_state.proofs.DeadSets.{dead_by_list}
use Rattle.pl_core.specs.calls.Stands.{IsAtAwaitOf}
use Rattle.pl_core.specs.calls.Worlds.{WorldValue, places_of, state_of}
use Rattle.verdict.specs.calls.Cycles.{IsCycle}
use Rattle.avoider.proofs.CycleDead.{cycle_deadlocked}
use Rattle.avoider.proofs.FoundAlive.{among_or_not}
use Rattle.avoider.proofs.Supposing.{of_plan}

none_is_some : (e : Event) → None ≡ Some e → ⊥
none_is_some e is = absurd (cc)

module _ (w : WorldValue) (checked : IsCheckedPlan w.plan) (reach : IsReachable w.plan (places_of w)) (t : ℕ) (e : Event) (before : IsAtAwaitOf w t e)
    (nobody : NobodyDead (state_of w)) (tasks : List TaskId) (events : List Event) where
  abbrev asked : ℕ → Bool
  asked = is_awaited w.plan (if_published (state_of w) t e)

  abbrev now : List Status
  now = statuses_on w.plan (state_of w) asked

  abbrev supposed : List Status
  supposed = statuses_on w.plan (if_published (state_of w) t e) asked

  -- what was awaited before is awaited then
  awaited_before : (u : ℕ) (f : Event) → (state_of w).published u ≡ Some f → asked f.p.0 ≡ true
  awaited_before u f is =
      let other : u ≢ t = λ same. none_is_some f (sym before.0.unpublished ∙ ap (state_of w).published (sym same) ∙ is) in
      let still : (if_published (state_of w) t e).published u ≡ Some f = updated_other (state_of w).published t u (Some e) other ∙ is in
      some_before_from (λ v. is_event_of f.p.0 ((if_published (state_of w) t e).published v)) (length w.plan.parents) u
      ((of_plan w checked reach).published u f is) (ap (is_event_of f.p.0) still ∙ eq-eqb f.p.0 f.p.0 refl)

  -- a status of another task is there already
  there_already : (s : Status) → Contains supposed s → s.t.0 ≢ t → Contains now s
  there_already s m other =
      let at = listed_is w.plan (if_published (state_of w) t e) asked s m in
      let own : at.0 ≢ t = λ same. other (ap (λ v. v.t.0) at.4 ∙ same) in
      let was : (state_of w).published at.0 ≡ Some at.2 = sym (updated_other (state_of w).published t at.0 (Some e) own) ∙ at.3 in
      subst (λ v. Contains now v) (sym at.4) (listed_from w.plan (state_of w) asked at.0 at.2 at.1 was)

  module _ (cycle : IsCycle supposed tasks events) (absent : Contains tasks (record { 0 = t }) → ⊥) where
    other_task : (u : TaskId) → Contains tasks u → u.0 ≢ t
    other_task u m same = absent (subst (λ v. Contains tasks v) (ap (λ k. record { 0 = k }) same) m)

    there : (s : Status) (u : TaskId) → Contains supposed s → s.t ≡ u → Contains tasks u → Contains now s
    there s u m same among = there_already s m (λ own. other_task u among (ap (λ v. v.0) (sym same) ∙ own))

    dead_already : ⊥
    dead_already =
        let first = get_or tasks 0 (record { 0 = t }) in
        let m : Contains tasks first = (0, cycle.some, get_or_default tasks 0 first (record { 0 = t }) cycle.some) in
        nobody first.0 ((dead_on_asked w.plan (state_of w) asked (of_plan w checked reach) awaited_before first.0).0
        (dead_by_list now first (tasks, m, cycle_deadlocked supposed now tasks events e cycle there)))

  pub refused_in_cycle : IsCycle supposed tasks events → Contains tasks (record { 0 = t })
  refused_in_cycle cycle =
      elim (among_or_not tasks (record { 0 = t })) [ inl m ↦ m | inr absent ↦ absurd (dead_already cycle absent) ]
