-- The wait-for pairs of the statuses of a state rest on the phases on awaited phasers alone.
use Rattle.std.proofs.Common.{◌≡◌, ℕ, ◌<◌, true, List, Some, length, sym, refl, ap, ◌∙◌, subst, eq-eqb, arith}
use Rattle.std.specs.Prelude.{Contains}
use Rattle.armus_base.specs.declared.event.Event.{Event}
use Rattle.armus_base.specs.declared.ids.PhaserId.{PhaserId}
use Rattle.armus_base.specs.declared.ids.TaskId.{TaskId}
use Rattle.armus_base.specs.declared.status.Member.{Member}
use Rattle.armus_base.specs.declared.status.Status.{Status}
use Rattle.armus_base.specs.CheckedPlans.{IsCheckedPlan}
use Rattle.armus_base.specs.Deadlocks.{IsListedAt, IsListedOn}
use Rattle.armus_base.specs.calls.FinalLaws.{AreStatuses}
use Rattle.armus_base.specs.Finals.{is_awaited, is_event_of}
use Rattle.armus_base.specs.calls.Finals.{statuses_of}
use Rattle.armus_base.specs.Graphs.{WaitsFor}
use Rattle.armus_base.specs.Plans.{Plan}
use Rattle.armus_base.specs.States.{State}
use Rattle.armus_base.proofs.Fixed.{some_before_from}
use Rattle.armus_base.proofs.StatusesAre.{statuses_are}
use Rattle.order_graph.specs.calls.Orders.{OrderValue}
use Rattle.pl_core.specs.calls.Awaiting.{awaited_statuses}
use Rattle.avoider.specs.calls.Kept.{HoldsIfPublished, SamePairs}
use Rattle.avoider.specs.declared.decision.Decision.{Decision}
use Rattle.avoider.specs.declared.decision.Decision.TheVariants.{Published, Refused}

phase_of : PhaserId → ℕ → Member
phase_of p n = record { p = p; n = n }

-- t is listed on an event, and u on its phaser with a phase below
pub record IsPair (list : List Status) (t u : ℕ) : Type 0 where
  pub event : Event
  pub waits : IsListedOn list t event
  pub phase : ℕ
  pub behind : IsListedAt list u event.p.0 phase
  pub below : phase < event.n

pub pair_is : (list : List Status) (t u : TaskId) → WaitsFor list t u → IsPair list t.0 u.0
unfolding phase_of
pair_is list t u (s, inside, is_t, (v, there, is_u, (k, m, lt, at, (same, below)))) =
    record {
      event = s.event;
      waits = (s, inside, ap (λ (x : TaskId). x.0) is_t, refl);
      phase = m.n;
      behind = (v, there, ap (λ (x : TaskId). x.0) is_u, subst (λ (y : Member). Contains v.phases y) (ap (λ (p : PhaserId). phase_of p m.n) same) (k, lt, at));
      below = below;
    }

task_at : ℕ → TaskId
task_at n = record { 0 = n }

same_task : (t u : TaskId) → t.0 ≡ u.0 → t ≡ u
unfolding task_at
same_task t u e = ap task_at e

pub pair_from : (list : List Status) (t u : TaskId) → IsPair list t.0 u.0 → WaitsFor list t u
pair_from list t u h =
    let (s, inside, is_t, is_event) = h.waits in
    let (v, there, is_u, (k, lt, at)) = h.behind in
    let same : record { 0 = h.event.p.0 } ≡ s.event.p = ap (λ (e : Event). e.p) (sym is_event) in
    let below : h.phase < s.event.n = (let n = ap (λ (e : Event). e.n) is_event in let l = h.below in omega arith) in
    (s, inside, same_task s.t t is_t, (v, there, same_task v.t u is_u, (k, record { p = record { 0 = h.event.p.0 }; n = h.phase }, lt, at, (same, below))))

-- whoever is published on an event awaits its phaser
pub awaited_by : (plan : Plan) (s : State) (t : ℕ) (e : Event) → t < length plan.parents → s.published t ≡ Some e → is_awaited plan s e.p.0 ≡ true
awaited_by plan s t e l is =
    some_before_from (λ v. is_event_of e.p.0 (s.published v)) (length plan.parents) t l (ap (is_event_of e.p.0) is ∙ eq-eqb e.p.0 e.p.0 refl)

module _ (plan : Plan) (s : State) (checked : IsCheckedPlan plan) where
  few : AreStatuses plan s (is_awaited plan s) (awaited_statuses plan s)
  few = statuses_are plan s (is_awaited plan s) checked

  all : AreStatuses plan s (λ p. true) (statuses_of plan s)
  all = statuses_are plan s (λ p. true) checked

  to_all : (t u : ℕ) → IsPair (awaited_statuses plan s) t u → IsPair (statuses_of plan s) t u
  to_all t u h =
      let at = (few.phases u h.event.p.0 h.phase).0 h.behind in
      record {
        event = h.event;
        waits = (all.events t h.event).1 ((few.events t h.event).0 h.waits);
        phase = h.phase;
        behind = (all.phases u h.event.p.0 h.phase).1
            (record { task = at.task; event = at.event; published = at.published; phaser = at.phaser; asked_for = refl; phase = at.phase });
        below = h.below;
      }

  to_few : (t u : ℕ) → IsPair (statuses_of plan s) t u → IsPair (awaited_statuses plan s) t u
  to_few t u h =
      let on = (all.events t h.event).0 h.waits in
      let at = (all.phases u h.event.p.0 h.phase).0 h.behind in
      record {
        event = h.event;
        waits = (few.events t h.event).1 on;
        phase = h.phase;
        behind = (few.phases u h.event.p.0 h.phase).1
            (record {
              task = at.task;
              event = at.event;
              published = at.published;
              phaser = at.phaser;
              asked_for = awaited_by plan s t h.event on.0 on.1;
              phase = at.phase;
            });
        below = h.below;
      }

pub same_pairs : SamePairs
same_pairs plan s checked t u = (
  λ h. pair_from (statuses_of plan s) t u (to_all plan s checked t.0 u.0 (pair_is (awaited_statuses plan s) t u h)),
  λ h. pair_from (awaited_statuses plan s) t u (to_few plan s checked t.0 u.0 (pair_is (statuses_of plan s) t u h)),
)

-- an order that holds the ones holds the others
pub holds_all_phases : (plan : Plan) (s : State) (old new : OrderValue) (d : Decision) → IsCheckedPlan plan → HoldsIfPublished (awaited_statuses plan s) old new d →
    HoldsIfPublished (statuses_of plan s) old new d
holds_all_phases plan s old new (Published e) checked holds =
    record {
      edges = λ a b. (λ h. (same_pairs plan s checked a b).0 ((holds.edges a b).0 h), λ h. (holds.edges a b).1 ((same_pairs plan s checked a b).1 h));
      stays = λ ordered. holds.stays (λ a b h. ordered a b ((same_pairs plan s checked a b).0 h));
    }
holds_all_phases plan s old new (Refused c) checked holds = tt
