-- The statuses of a state: just the published tasks, with just their phases on the asked phasers, in order.
use Rattle.std.proofs.Common.{◌≡◌, ℕ, ◌<◌, Bool, true, false, Option, Some, None, length, get_or, arith, sym, ◌∙◌, ap, subst, refl}
use Rattle.std.specs.Prelude.{AllPairs, Contains, option_map, if◌then◌else◌, ◌^◌}
use Rattle.std.proofs.lemmas.List.{get_or_default}
use Rattle.armus_base.specs.declared.event.Event.{Event}
use Rattle.armus_base.specs.declared.status.Member.{Member}
use Rattle.armus_base.specs.declared.status.Status.{Status}
use Rattle.armus_base.specs.CheckedPlans.{IsCheckedPlan}
use Rattle.armus_base.specs.Deadlocks.{IsListedAt, IsListedOn}
use Rattle.armus_base.specs.calls.FinalLaws.{AreStatuses, HasAskedPhase, StatusesAre}
use Rattle.armus_base.specs.Finals.{given_below, listed_phase, status_of, statuses_on}
use Rattle.armus_base.specs.Plans.{Plan}
use Rattle.armus_base.specs.States.{Phases, State}
use Rattle.armus_base.specs.calls.Statuses.{IsInOrder}
use Rattle.armus_base.proofs.Below.{contains_at, given_ascends, given_few, given_from, given_is}

-- the phase n on p
abbrev pub member_at : ℕ → ℕ → Member
member_at p n = record { p = record { 0 = p }; n = n }

-- the phase that is listed for a phaser is the task's phase there
pub phase_is :
    (asked : ℕ → Bool) (m : Phases) (p : ℕ) (x : Member) → listed_phase asked m p ≡ Some x →
    (n : ℕ) × (asked p ≡ true) × (m p ≡ Some n) × (x ≡ member_at p n)
phase_is asked m p x h = go (asked p) refl (m p) refl h
  where
    go :
        (b : Bool) → asked p ≡ b → (o : Option ℕ) → m p ≡ o → (if b then option_map (member_at p) o else None) ≡ Some x →
        (n : ℕ) × (asked p ≡ true) × (m p ≡ Some n) × (x ≡ member_at p n)
    go true on None is made = absurd (cc)
    go true on (Some n) is made = (n, on, is, let same : member_at p n ≡ x = cc in sym same)
    go false off o is made = absurd (cc)

module _ (plan : Plan) (s : State) (asked : ℕ → Bool) where
  -- the status of task t on the event
  abbrev pub status_at : ℕ → Event → Status
  status_at t e = record { t = record { 0 = t }; event = e; phases = given_below (listed_phase asked (s.phases t)) (length plan.makers) }

  -- a status is one of a published task
  pub status_is :
      (t : ℕ) (x : Status) → status_of plan s asked t ≡ Some x → (e : Event) × (s.published t ≡ Some e) × (x ≡ status_at t e)
  status_is t x h = go (s.published t) refl h
    where
      go :
          (o : Option Event) → s.published t ≡ o → option_map (status_at t) o ≡ Some x →
          (e : Event) × (s.published t ≡ Some e) × (x ≡ status_at t e)
      go None is made = absurd (cc)
      go (Some e) is made = (e, is, let same : status_at t e ≡ x = cc in sym same)

  -- each item of the list is a status of a published task of the plan
  pub listed_is :
      (x : Status) → Contains (statuses_on plan s asked) x →
      (t : ℕ) × (t < length plan.parents) × (e : Event) × (s.published t ≡ Some e) × (x ≡ status_at t e)
  listed_is x m =
      let at = given_is (status_of plan s asked) (length plan.parents) x m in
      let is = status_is at.0 x at.2 in
      (at.0, at.1, is.0, is.1, is.2)

  -- and each published task of the plan has its status in it
  pub listed_from : (t : ℕ) (e : Event) → t < length plan.parents → s.published t ≡ Some e → Contains (statuses_on plan s asked) (status_at t e)
  listed_from t e l is = given_from (status_of plan s asked) (length plan.parents) t (status_at t e) l (ap (option_map (status_at t)) is)

  pub events_are :
      (t : ℕ) (e : Event) → IsListedOn (statuses_on plan s asked) t e → t < length plan.parents × s.published t ≡ Some e
  events_are t e listed =
      let at = listed_is listed.0 listed.1 in
      let same : at.0 ≡ t = sym (ap (λ x. x.t.0) at.4) ∙ listed.2 in
      let event : at.2 ≡ e = sym (ap (λ x. x.event) at.4) ∙ listed.3 in
      let is : s.published at.0 ≡ Some e = at.3 ∙ ap Some event in
      (subst (λ u. u < length plan.parents) same at.1, subst (λ u. s.published u ≡ Some e) same is)

  pub events_from :
      (t : ℕ) (e : Event) → t < length plan.parents × s.published t ≡ Some e → IsListedOn (statuses_on plan s asked) t e
  events_from t e is = (status_at t e, listed_from t e is.0 is.1, refl, refl)

  pub phases_are : (t p n : ℕ) → IsListedAt (statuses_on plan s asked) t p n → HasAskedPhase plan s asked t p n
  phases_are t p n listed =
      let at = listed_is listed.0 listed.1 in
      let same : at.0 ≡ t = sym (ap (λ x. x.t.0) at.4) ∙ listed.2 in
      let inside = subst (λ xs. Contains xs (member_at p n)) (ap (λ x. x.phases) at.4) listed.3 in
      let of = given_is (listed_phase asked (s.phases at.0)) (length plan.makers) (member_at p n) inside in
      let is = phase_is asked (s.phases at.0) of.0 (member_at p n) of.2 in
      let phaser : of.0 ≡ p = sym (ap (λ x. x.p.0) is.3) in
      let phase : is.0 ≡ n = sym (ap (λ x. x.n) is.3) in
      record {
        task = subst (λ u. u < length plan.parents) same at.1;
        event = at.2;
        published = subst (λ u. s.published u ≡ Some at.2) same at.3;
        phaser = subst (λ q. q < length plan.makers) phaser of.1;
        asked_for = subst (λ q. asked q ≡ true) phaser is.1;
        phase = subst (λ u. s.phases u p ≡ Some n) same (subst (λ q. s.phases at.0 q ≡ Some n) phaser (is.2 ∙ ap Some phase));
      }

  pub phases_from : (t p n : ℕ) → HasAskedPhase plan s asked t p n → IsListedAt (statuses_on plan s asked) t p n
  phases_from t p n has = (
    status_at t has.event,
    listed_from t has.event has.task has.published,
    refl,
    given_from (listed_phase asked (s.phases t)) (length plan.makers) p (member_at p n) has.phaser
        (ap (λ b. if b then option_map (member_at p) (s.phases t p) else None) has.asked_for ∙ ap (option_map (member_at p)) has.phase),
  )

  -- at each place of the list stands the status of some task
  at_place :
      (k : ℕ) (d : Status) → k < length (statuses_on plan s asked) →
      (t : ℕ) × (e : Event) × (get_or (statuses_on plan s asked) k d ≡ status_at t e)
  at_place k d l =
      let at = listed_is (get_or (statuses_on plan s asked) k d) (contains_at (statuses_on plan s asked) k d l) in (at.0, at.2, at.4)

  in_order : IsCheckedPlan plan → IsInOrder (statuses_on plan s asked)
  in_order checked = record {
    tasks = λ j k c d before l.
        let inside : j < length (statuses_on plan s asked) = omega arith in
        subst (λ x. x.t.0 < (get_or (statuses_on plan s asked) k d).t.0) (get_or_default (statuses_on plan s asked) j d c inside)
        (given_ascends
        (λ x. x.t.0)
        (status_of plan s asked)
        (λ t x is. ap (λ v. v.t.0) (status_is t x is).2)
        (length plan.parents)
        j
        k
        d
        before
        l);
    phasers = λ k d l.
        let at = at_place k d l in
        subst (λ x. AllPairs (λ c e. c.p.0 < e.p.0) x.phases) (sym at.2)
        (given_ascends
        (λ x. x.p.0)
        (listed_phase asked (s.phases at.0))
        (λ p x is. ap (λ v. v.p.0) (phase_is asked (s.phases at.0) p x is).3)
        (length plan.makers));
    few =
        (let l = given_few (status_of plan s asked) (length plan.parents) in let m = checked.limits.few_tasks in omega arith);
    few_phases = λ k d l.
        let at = at_place k d l in
        subst (λ x. length x.phases < 2 ^ 31) (sym at.2)
        (let l = given_few (listed_phase asked (s.phases at.0)) (length plan.makers) in let m = checked.limits.few_phasers in omega arith);
  }

  are_statuses : IsCheckedPlan plan → AreStatuses plan s asked (statuses_on plan s asked)
  are_statuses checked = record {
    events = λ t e. (events_are t e, events_from t e);
    phases = λ t p n. (phases_are t p n, phases_from t p n);
    in_order = in_order checked;
  }

-- the statuses of a state are those of its published tasks
pub statuses_are : StatusesAre
statuses_are plan s asked checked = are_statuses plan s asked checked
