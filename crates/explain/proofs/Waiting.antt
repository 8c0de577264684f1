-- By an explanation somebody waits for ever just where a task of the final state waits.
use Rattle.std.proofs.Common.{◌≡◌, ◌∙◌, ℕ, ◌<◌, Bool, true, Option, Some, List, length, ap, inl, inr, refl, subst, sym}
use Rattle.std.specs.Prelude.{◌↔◌, Contains, slice_index_or}
use Rattle.std.proofs.lemmas.Option.{get_or_from_slice_get}
use Rattle.explain_facts.specs.declared.account.Forked.{Forked}
use Rattle.explain_facts.proofs.Awaiting.{published_of}
use Rattle.armus_base.specs.Deadlocks.{IsDeadBy}
use Rattle.armus_base.specs.declared.ending.TaskEnd.{TaskEnd}
use Rattle.armus_base.specs.declared.ending.TaskEnd.TheVariants as ends
use Rattle.armus_base.specs.declared.event.Event.{Event}
use Rattle.armus_base.specs.declared.ids.TaskId.{TaskId}
use Rattle.armus_base.specs.calls.FinalLaws.{IsOfPlan}
use Rattle.armus_base.specs.Finals.{end_by, end_of, final_of, list_below}
use Rattle.armus_base.specs.Plans.{Plan}
use Rattle.armus_base.specs.Runs.{state_after}
use Rattle.armus_base.specs.States.{Phases, State, Step}
use Rattle.armus_base.proofs.DeadByStatuses.{run_is_of_plan}
use Rattle.armus_base.proofs.EndsTell.{ends_are}
use Rattle.explain_facts.specs.RunStates.{done_after}
use Rattle.report.specs.Standings.{AreStandings, Stands}
use Rattle.report.specs.declared.standing.Standing.{Standing}
use Rattle.report.specs.declared.standing.Standing.TheVariants as way
use Rattle.explain_deadlock.specs.Explanations.{Explains}
use Rattle.explain_tasks.specs.Facts.{FactsValue, forking_of, is_waiting, situation_by, situation_of, tasks_that}
use Rattle.explain_tasks.proofs.Filters.{passed_from}
use Rattle.explain_deadlock.proofs.SomebodyWaits.{waits}
use Rattle.explain_deadlock.proofs.Starts.{that_is}
use Rattle.explain_deadlock.proofs.TasksThat.{task_below}
use Rattle.program_io.specs.Texts.{Text}
use Rattle.program_io.proofs.OnePlan.{checked_plan}
use Rattle.explain.specs.Explained.{IsEndedRunOf, IsToldAt, WaitsIn}
use Rattle.explain.specs.Requests.{Form}

-- a task that waits by its standing is blocked
waiting_end : (IsDead : Type 0) (end : TaskEnd) (standing : Standing) (fork : Option Forked) → Stands IsDead end standing
    → is_waiting (situation_by standing fork) ≡ true → (e : Event) × (end ≡ ends.Blocked e)
waiting_end IsDead (ends.Blocked e) standing fork is on = (e, refl)
waiting_end IsDead ends.Unforked standing (Some x) is on =
    absurd (let off = subst (λ y. is_waiting (situation_by y (Some x)) ≡ true) is on in cc)
waiting_end IsDead end standing fork is on =
    absurd (let off = subst (λ x. is_waiting (situation_by x fork) ≡ true) is on in cc)

-- a blocked task waits by its standing
blocked_waits : (IsDead : Type 0) (e : Event) (standing : Standing) (fork : Option Forked) → Stands IsDead (ends.Blocked e) standing
    → is_waiting (situation_by standing fork) ≡ true
blocked_waits IsDead e standing fork (inl (dead, is)) = ap (λ x. is_waiting (situation_by x fork)) is
blocked_waits IsDead e standing fork (inr (alive, is)) = ap (λ x. is_waiting (situation_by x fork)) is

module _ (plan : Plan) (state : State) (standings : List Standing)
    (stand : AreStandings (IsDeadBy (final_of plan state).blocked) (final_of plan state).ends standings) where
  pub sized : length standings ≡ length plan.parents
  sized = stand.sized ∙ (ends_are plan state).counted

  -- how task t stands, by its end
  pub stands : (t : ℕ) → t < length plan.parents → Stands (IsDeadBy (final_of plan state).blocked t) (end_of state t) (slice_index_or standings t way.Done)
  stands t below =
      let own = end_of state t in
      let all = (final_of plan state).ends in
      let within : t < length all = subst (λ n. t < n) (sym (ends_are plan state).counted) below in
      let here : slice_index_or all t own ≡ own = get_or_from_slice_get all t own own ((ends_are plan state).each t below) in
      subst (λ e. Stands (IsDeadBy (final_of plan state).blocked t) e (slice_index_or standings t way.Done)) here (stand.each t own way.Done within)

module _ (plan : Plan) (state : State) (f : FactsValue) (of_plan : IsOfPlan plan state)
    (stand : AreStandings (IsDeadBy (final_of plan state).blocked) (final_of plan state).ends f.standings) where
  waiting_task : ((t : TaskId) × Contains (tasks_that is_waiting f) t) → (t : ℕ) × WaitsIn state t
  waiting_task (t, one) =
      let (within, on) = that_is f is_waiting t one in
      let below : t.0 < length plan.parents = subst (λ n. t.0 < n) (sized plan state f.standings stand) within in
      let (e, end_is) = waiting_end (IsDeadBy (final_of plan state).blocked t.0) (end_of state t.0) (slice_index_or f.standings t.0 way.Done) (forking_of f t.0)
      (stands plan state f.standings stand t.0 below) on in
      (t.0, (e, published_of (state.forked t.0) (state.published t.0) (state.refused t.0) e end_is))

  task_waiting : ((t : ℕ) × WaitsIn state t) → (t : TaskId) × Contains (tasks_that is_waiting f) t
  task_waiting (t, (e, is)) =
      let below = of_plan.published t e is in
      let end_is : end_of state t ≡ ends.Blocked e = ap (λ p. end_by (state.forked t) p (state.refused t)) is in
      let stands_so = subst (λ x. Stands (IsDeadBy (final_of plan state).blocked t) x (slice_index_or f.standings t way.Done)) end_is (stands plan state f.standings stand t below) in
      let on : is_waiting (situation_of f t) ≡ true = blocked_waits (IsDeadBy (final_of plan state).blocked t) e (slice_index_or f.standings t way.Done) (forking_of f t) stands_so in
      let within : t < length f.standings = subst (λ n. t < n) (sym (sized plan state f.standings stand)) below in
      let task : TaskId = record { 0 = t } in
      (task, passed_from (λ (u : TaskId). is_waiting (situation_of f u.0)) (list_below (λ u. record { 0 = u }) (length f.standings)) task (task_below (length f.standings) task within) on)

  -- what the explanation tells of it
  explains_waiting : (phases : ℕ → Phases) (counts lines : List ℕ) (some : Bool) → Explains f plan phases counts lines some
      → (some ≡ true) ↔ ((t : ℕ) × WaitsIn state t)
  explains_waiting phases counts lines some is =
      let both = waits f phases is.verdict is.found in
      (λ on. waiting_task (both.0 (sym is.tells ∙ on)), λ one. is.tells ∙ both.1 (task_waiting one))

-- somebody waits by the explanation of a run just where a task of the state in which it ends waits
pub tells_waiting : (form : Form) (text : Text) (plan : Plan) (steps : List Step) (lines : List ℕ) (some : Bool) → IsEndedRunOf text plan steps
    → IsToldAt form text plan (state_after steps) (done_after steps) lines some → (some ≡ true) ↔ ((t : ℕ) × WaitsIn (state_after steps) t)
tells_waiting form text plan steps lines some ended is =
    let checked = checked_plan text plan ended.plan_is in
    explains_waiting plan (state_after steps) _ (run_is_of_plan plan steps checked ended.run.0) is.tells.explains.stand _ _ is.whole some is.tells.explains.explains
