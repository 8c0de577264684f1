-- The account of a text fits the end of its run.
use Rattle.std.proofs.Common.{◌≡◌, ℕ, ◌<◌, true, Option, Some, None, List, [], ◌∷◌, length, arith, sym, ◌∙◌, ap, subst, refl, inl, inr, ◌⊎◌}
use Rattle.std.specs.Prelude.{Contains, IsSome, option_map, slice_get, slice_index_or}
use Rattle.std.proofs.lemmas.Bool.{cases_lt}
use Rattle.std.proofs.lemmas.List.{get_or_past}
use Rattle.armus_base.specs.declared.ending.TaskEnd.{TaskEnd}
use Rattle.armus_base.specs.declared.ending.TaskEnd.TheVariants.{Blocked, Done as EndsDone, Refused as EndsRefused, Unforked as EndsUnforked}
use Rattle.armus_base.specs.declared.event.Event.{Event}
use Rattle.armus_base.specs.declared.ids.TaskId.{TaskId}
use Rattle.armus_base.specs.CheckedPlans.{IsCheckedPlan}
use Rattle.armus_base.specs.Deadlocks.{IsDeadBy, IsDeadIn}
use Rattle.armus_base.specs.calls.FinalLaws.{IsOfPlan}
use Rattle.armus_base.specs.Finals.{end_by, end_of, final_of, list_below}
use Rattle.armus_base.specs.Plans.{Plan}
use Rattle.armus_base.specs.States.{State}
use Rattle.armus_base.proofs.Below.{length-list_below}
use Rattle.armus_base.proofs.DeadByStatuses.{dead_by_final, run_is_of_plan}
use Rattle.armus_base.proofs.Elements.{nothing_in_nil}
use Rattle.report.specs.Standings.{Stands}
use Rattle.report.specs.declared.standing.Standing.{Standing}
use Rattle.report.specs.declared.standing.Standing.TheVariants.{Done, Unforked}
use Rattle.explain_facts.specs.Accounts.{HasWait}
use Rattle.explain_facts.specs.declared.account.Forked.{Forked}
use Rattle.explain_facts.specs.declared.account.TaskAccount.{TaskAccount}
use Rattle.explain_facts.specs.declared.account.Waiting.{Waiting}
use Rattle.explain_facts.proofs.Awaiting.{event_of_plan, published_of}
use Rattle.pl_plan.proofs.TextsAreNear.{text_is_checked}
use Rattle.explain_facts.proofs.Told.{list_at}
use Rattle.explain_tasks.specs.declared.impeders.Impeder.{Impeder}
use Rattle.explain_tasks.specs.declared.situation.Situation.{Situation}
use Rattle.explain_tasks.specs.declared.situation.Situation.TheVariants.{Deadlocked, Held}
use Rattle.explain_tasks.specs.Facts.{FactsValue, forking_of, is_deadlocked, stands_held, is_waiting, situation_by, situation_of, wait_of}
use Rattle.explain_tasks.specs.Impeders.{impeders_by, impeders_in, impeders_by_facts}
use Rattle.explain_tasks.specs.Nexts.{first_or, least_that, next_by}
use Rattle.explain_deadlock.specs.RunEnds.{AreFactsAt, IsAccountOf}
use Rattle.explain_deadlock.specs.calls.RunEnds.{WaitersStay}
use Rattle.explain_tasks.specs.calls.Fitting.{FactsFitPlan}
use Rattle.explain_deadlock.specs.inside.Fitting.{WaitForSome}
use Rattle.explain_deadlock.proofs.AccountTold.{blocked_tells, forker_before, part_of, part_there, wait_tells}
use Rattle.explain_deadlock.proofs.ImpedersAre.{impeder, impeder_there, some_found}

-- how a task stands that is deadlocked, where this says whether it is dead, or held
abbrev pub WaitsSo : Type 0 → Situation → Type 0
WaitsSo IsDead s = (IsDead × (s ≡ Deadlocked)) ⊎ ((IsDead → ⊥) × (s ≡ Held))

-- a task that is blocked stands so
pub blocked_stands : (P : Type 0) (e : Event) (s : Standing) (fork : Option Forked) → Stands P (Blocked e) s → WaitsSo P (situation_by s fork)
blocked_stands P e s fork (inl (dead, is)) = inl (dead, ap (λ x. situation_by x fork) is)
blocked_stands P e s fork (inr (alive, is)) = inr (alive, ap (λ x. situation_by x fork) is)

unforked_waits_not : (fork : Option Forked) → is_waiting (situation_by Unforked fork) ≡ true → ⊥
unforked_waits_not None e = cc
unforked_waits_not (Some x) e = cc

-- a task that waits is blocked
waiter_blocked :
    (P : Type 0) (end : TaskEnd) (s : Standing) (fork : Option Forked) → Stands P end s → is_waiting (situation_by s fork) ≡ true →
    (e : Event) × (end ≡ Blocked e)
waiter_blocked P EndsDone s fork is waits = absurd (let none = ap (λ x. is_waiting (situation_by x fork)) is in cc)
waiter_blocked P (Blocked e) s fork is waits = (e, refl)
waiter_blocked P (EndsRefused e) s fork is waits = absurd (let none = ap (λ x. is_waiting (situation_by x fork)) is in cc)
waiter_blocked P EndsUnforked s fork is waits = absurd (unforked_waits_not fork (sym (ap (λ x. is_waiting (situation_by x fork)) is) ∙ waits))

-- the second of two is something, so one is
second_some : (a b : Option TaskId) → IsSome b → IsSome (first_or a b)
second_some None b some = some
second_some (Some t) b some = refl

module _ (plan : Plan) (s : State) (done : ℕ → ℕ) (f : FactsValue) (at : AreFactsAt plan s done f) where
  abbrev has : IsAccountOf f.text plan s done f.account
  has = at.account

  abbrev n : ℕ
  n = length plan.parents

  pub checked_here : IsCheckedPlan plan
  checked_here = text_is_checked f.text has.program plan has.known.reads has.unfolds

  pub of_plan_here : IsOfPlan plan s
  of_plan_here = subst (IsOfPlan plan) at.reached.there (run_is_of_plan plan at.reached.steps checked_here at.reached.run)

  abbrev IsDeadHere : ℕ → Type 0
  IsDeadHere t = IsDeadBy (final_of plan s).blocked t

  pub all_stand : length f.standings ≡ n
  all_stand = at.stand.sized ∙ length-list_below (end_of s) n

  -- each task stands as it has ended
  pub stands_here : (t : ℕ) → t < n → Stands (IsDeadHere t) (end_of s t) (slice_index_or f.standings t Done)
  stands_here t lt =
      subst (λ (end : TaskEnd). Stands (IsDeadHere t) end (slice_index_or f.standings t Done)) (list_at (end_of s) n t (list_below (end_of s) n) EndsDone refl lt)
      (at.stand.each t EndsDone Done (omega (arith, lt, length-list_below (end_of s) n)))

  -- ---- waits

  -- what the account tells of a task that waits is so
  pub wait_is : (t : ℕ) (w : Waiting) → wait_of f t ≡ Some w → (t < n) × (end_of s t ≡ Blocked w.event)
  wait_is t w is =
      let (lt, there) = part_there (λ (x : TaskAccount). x.wait) f.account.tasks t w is in
      let within : t < n = omega (arith, lt, has.known.all_told) in
      let d : TaskAccount = record { drawn = None; fork = None; ended = None; wait = None; nexts = [] } in
      (within, wait_tells has.known.layout has.program plan s done t (end_of s t) (slice_index_or f.account.tasks t d).wait w (has.known.each t d within).wait (there d))

  -- and of a task that is blocked it tells the wait
  pub wait_told : (t : ℕ) (e : Event) → t < n → end_of s t ≡ Blocked e → (w : Waiting) × (wait_of f t ≡ Some w) × (w.event ≡ e)
  wait_told t e lt ended =
      let d : TaskAccount = record { drawn = None; fork = None; ended = None; wait = None; nexts = [] } in
      let known : HasWait has.known.layout has.program plan s done t (Blocked e) (slice_index_or f.account.tasks t d).wait =
      subst (λ (end : TaskEnd). HasWait has.known.layout has.program plan s done t end (slice_index_or f.account.tasks t d).wait) ended (has.known.each t d lt).wait in
      let (w, there, event) = blocked_tells has.known.layout has.program plan s done t e (slice_index_or f.account.tasks t d).wait known in
      (w, part_of (λ (x : TaskAccount). x.wait) f.account.tasks t d (omega (arith, lt, has.known.all_told)) ∙ there, event)

  pub published_is : (t : ℕ) (e : Event) → end_of s t ≡ Blocked e → s.published t ≡ Some e
  published_is t e ended = published_of (s.forked t) (s.published t) (s.refused t) e ended

  pub blocked_is : (t : ℕ) (e : Event) → s.published t ≡ Some e → end_of s t ≡ Blocked e
  blocked_is t e published = ap (λ o. end_by (s.forked t) o (s.refused t)) published

  -- a task that is blocked is deadlocked or held
  pub blocked_waits : (t : ℕ) (e : Event) → t < n → end_of s t ≡ Blocked e → WaitsSo (IsDeadHere t) (situation_of f t)
  blocked_waits t e lt ended =
      blocked_stands (IsDeadHere t) e (slice_index_or f.standings t Done) (forking_of f t)
      (subst (λ (end : TaskEnd). Stands (IsDeadHere t) end (slice_index_or f.standings t Done)) ended (stands_here t lt))

  -- and a task that waits is blocked
  pub waiting_is : (t : ℕ) → is_waiting (situation_of f t) ≡ true → (t < n) × (e : Event) × (end_of s t ≡ Blocked e) × WaitsSo (IsDeadHere t) (situation_of f t)
  waiting_is t waits =
      elim (cases_lt t n) [
        | inl lt ↦
            let (e, ended) = waiter_blocked (IsDeadHere t) (end_of s t) (slice_index_or f.standings t Done) (forking_of f t) (stands_here t lt) waits in
            (lt, e, ended, blocked_waits t e lt ended)
        | inr past ↦
            absurd (let none = ap (λ x. is_waiting (situation_by x (forking_of f t))) (get_or_past f.standings t Done (omega (arith, past, all_stand))) in cc)
      ]

  -- ---- the dead

  pub dead_in_state : (t : ℕ) → IsDeadHere t → IsDeadIn s t
  dead_in_state t dead = (dead_by_final plan s t of_plan_here).0 dead

  -- who is dead waits, and is deadlocked
  pub dead_is : (t : ℕ) → IsDeadHere t → (t < n) × (e : Event) × (end_of s t ≡ Blocked e) × (situation_of f t ≡ Deadlocked)
  dead_is t dead =
      let d = dead_in_state t dead in
      let within = d.deadlocked.each t d.inside in
      let lt = of_plan_here.published t within.event within.waits in
      let ended = blocked_is t within.event within.waits in
      (lt, within.event, ended, elim (blocked_waits t within.event lt ended) [ inl (also, is) ↦ is | inr (alive, is) ↦ absurd (alive dead) ])

  -- ---- nexts

  pub impeders_here : (t : ℕ) (e : Event) → t < n → end_of s t ≡ Blocked e → impeders_by_facts f s.phases t ≡ impeders_in (length f.standings) s.phases e
  impeders_here t e lt ended =
      let (w, there, event) = wait_told t e lt ended in
      ap (impeders_by (length f.standings) s.phases) there ∙ ap (impeders_in (length f.standings) s.phases) event

  -- who impedes the event of a task that is blocked is one of its impeders
  pub impeder_here : (t : ℕ) (e : Event) → t < n → end_of s t ≡ Blocked e → (u m : ℕ) → s.phases u e.p.0 ≡ Some m → m < e.n →
      Contains (impeders_by_facts f s.phases t) (impeder e u m)
  impeder_here t e lt ended u m is below =
      subst (λ xs. Contains xs (impeder e u m)) (sym (impeders_here t e lt ended))
      (impeder_there (length f.standings) s.phases e u m (let l = of_plan_here.member u e.p.0 m is in omega (arith, l, all_stand)) is below)

  -- a dead task has a deadlocked impeder
  dead_impeder : (t : ℕ) → IsDeadHere t → (i : Impeder) × Contains (impeders_by_facts f s.phases t) i × (is_deadlocked (situation_of f i.t.0) ≡ true)
  dead_impeder t dead =
      let d = dead_in_state t dead in
      let within = d.deadlocked.each t d.inside in
      let also : IsDeadIn s within.by = record { tasks = d.tasks; inside = within.inside; deadlocked = d.deadlocked } in
      let by = dead_is within.by ((dead_by_final plan s within.by of_plan_here).1 also) in
      let lt = of_plan_here.published t within.event within.waits in (
        impeder within.event within.by within.phase,
        impeder_here t within.event lt (blocked_is t within.event within.waits) within.by within.phase within.impedes within.below,
        ap is_deadlocked by.3,
      )

  pub next_of_dead : (t : ℕ) → IsDeadHere t → IsSome (least_that is_deadlocked f (impeders_by_facts f s.phases t))
  next_of_dead t dead =
      let (i, there, passes) = dead_impeder t dead in
      let (j, found) = some_found (λ (k : Impeder). is_deadlocked (situation_of f k.t.0)) (impeders_by_facts f s.phases t) i there passes in
      subst IsSome (sym (ap (option_map (λ (k : Impeder). k.t)) found)) refl

  -- a task whose event is not reached has an impeder
  first_impeder : WaitersStay s → (t : ℕ) (e : Event) → t < n → end_of s t ≡ Blocked e → (imps : List Impeder) → impeders_by_facts f s.phases t ≡ imps →
      IsSome (option_map (λ (i : Impeder). i.t) (slice_get imps 0))
  first_impeder rest t e lt ended [] none =
      absurd (rest t e (published_is t e ended)
      (λ u m is. elim (cases_lt m e.n) [
        | inl below ↦ absurd (nothing_in_nil (impeder e u m) (subst (λ xs. Contains xs (impeder e u m)) none (impeder_here t e lt ended u m is below)))
        | inr le ↦ omega arith
      ]))
  first_impeder rest t e lt ended (i ∷ imps) some = refl

  -- each task that waits has a next
  pub waits_for_some : WaitersStay s → WaitForSome f s.phases
  waits_for_some rest t waits =
      let (lt, e, ended, so) = waiting_is t waits in
      let imps = impeders_by_facts f s.phases t in
      elim so [
        | inl (dead, is) ↦ subst (λ (x : Situation). IsSome (next_by f imps (forking_of f t) x)) (sym is) (next_of_dead t dead)
        | inr (alive, is) ↦
            subst (λ (x : Situation). IsSome (next_by f imps (forking_of f t) x)) (sym is)
            (second_some (least_that stands_held f imps) (option_map (λ (i : Impeder). i.t) (slice_get imps 0)) (first_impeder rest t e lt ended imps refl))
      ]

  -- what is known fits the plan
  pub fits_plan : FactsFitPlan f plan
  fits_plan = record {
    sized = all_stand;
    waits = λ t w is. event_of_plan plan s done at.reached t w.event (wait_is t w is).1 checked_here;
    forkers = λ t x is.
        let (lt, there) = part_there (λ (y : TaskAccount). y.fork) f.account.tasks t x is in
        let within : t < n = omega (arith, lt, has.known.all_told) in
        let d : TaskAccount = record { drawn = None; fork = None; ended = None; wait = None; nexts = [] } in
        let before = forker_before has.known.layout has.program plan checked_here t x within (sym (has.known.each t d within).fork ∙ there d) in
        omega arith;
  }
