-- What an explanation of the serial avoided run tells of a refusal is so.
use Rattle.std.proofs.Common.{◌≡◌, ◌∙◌, ◌++◌, ℕ, Bool, Option, Some, None, List, ◌∷◌, arith, length, refl, subst, sym}
use Rattle.std.specs.Prelude.{Contains, IsSome, option_map}
use Rattle.std.proofs.lemmas.Bool.{false≢true}
use Rattle.std.proofs.lemmas.Option.{slice_get_within}
use Rattle.armus_base.specs.declared.ids.TaskId.{TaskId}
use Rattle.armus_base.specs.Avoidance.{IsAvoidedRun}
use Rattle.armus_base.specs.CheckedPlans.{IsCheckedPlan}
use Rattle.armus_base.specs.calls.FinalLaws.{IsOfPlan}
use Rattle.armus_base.specs.Deadlocks.{IsAtPhase, IsDeadlockedSet, IsPublishedOn}
use Rattle.armus_base.specs.AgreementLaws.{has_task}
use Rattle.armus_base.specs.Finals.{final_of}
use Rattle.armus_base.specs.Plans.{Aim, Plan, Refuses}
use Rattle.armus_base.specs.Runs.{IsMaximal, state_after}
use Rattle.armus_base.specs.States.{IsReached, Phases, State, Step, if_published}
use Rattle.armus_base.proofs.Below.{given_from, given_is}
use Rattle.armus_base.proofs.CycleIsDeadlocked.{cycle_is_deadlocked_in, walk_cycle_waits}
use Rattle.armus_base.proofs.DeadByStatuses.{run_is_of_plan}
use Rattle.armus_base.proofs.ForkedTasks.{forked_within}
use Rattle.armus_base.proofs.NobodyIsDead.{avoided_legal}
use Rattle.armus_base.proofs.SerialFinalIsAvoided.{round_ended}
use Rattle.armus_base.proofs.SerialIsAvoided.{serial_is_avoided}
use Rattle.pl_plan.proofs.TextsAreNear.{text_is_checked}
use Rattle.report.specs.Reports.{IsReportedCycle}
use Rattle.verdict.specs.Cycles.{IsDeadStep}
use Rattle.explain_avoid.specs.AvoidedExplanations.{IsAvoidedExplanation}
use Rattle.explain_avoid.specs.RefusalWords.{left_phasers}
use Rattle.explain_avoid.specs.Refusals.{IsRefusalText}
use Rattle.explain_avoid.specs.Released.{when_left}
use Rattle.program_io.specs.Texts.{Text}
use Rattle.report_laws.specs.RefusalsTold.{IsRefusalSo, RefusalsAreSo}
use Rattle.report_laws.proofs.AfterRefusal.{first_avoided, goes, leaves, own_inside}

-- ---- the phasers that are told

-- a phaser with a phase is told, and no other
phase_told : (q k : ℕ) (o : Option ℕ) → option_map (λ (m : ℕ). k) o ≡ Some q → (k ≡ q) × IsSome o
phase_told q k None is = absurd (cc)
phase_told q k (Some m) is = (let same : k ≡ q = cc in same, refl)

some_told : (k : ℕ) (o : Option ℕ) → IsSome o → option_map (λ (m : ℕ). k) o ≡ Some k
some_told k None some = absurd (false≢true some)
some_told k (Some m) some = refl

some_phase : (o : Option ℕ) → IsSome o → (m : ℕ) × (o ≡ Some m)
some_phase None some = absurd (false≢true some)
some_phase (Some m) some = (m, refl)

module _ (plan : Plan) (h : List Step) (t : ℕ) (of_plan : IsOfPlan plan (state_after h)) where
  abbrev phases : Phases
  phases = (state_after h).phases t

  told_member : (q : ℕ) → Contains (left_phasers phases (length plan.makers)) q → IsSome (phases q)
  told_member q m =
      let (k, below, is) = given_is (λ p. option_map (λ (n : ℕ). p) (phases p)) (length plan.makers) q m in
      let (same, some) = phase_told q k (phases k) is in
      subst (λ p. IsSome (phases p)) same some

  member_told : (q : ℕ) → IsSome (phases q) → Contains (left_phasers phases (length plan.makers)) q
  member_told q some =
      let (n, is) = some_phase (phases q) some in
      given_from (λ p. option_map (λ (m : ℕ). p) (phases p)) (length plan.makers) q q (of_plan.phaser t q n is) (some_told q (phases q) some)

-- the tasks of the cycle that would be reported are a deadlocked set
cycle_deadlocked : (plan : Plan) (s : State) (cycle : List TaskId) → IsReportedCycle (final_of plan s).blocked cycle
    → IsDeadlockedSet (IsPublishedOn s) (IsAtPhase s) (has_task cycle)
cycle_deadlocked plan s cycle (start, least, walk) =
    cycle_is_deadlocked_in plan s cycle
    (walk_cycle_waits (final_of plan s).blocked (IsDeadStep (final_of plan s).blocked) (λ t u (step : IsDeadStep _ t u). step.waits) start cycle walk)

module _ (file : Option Text) (text : Text) (plan : Plan) (steps : List Step) (lines : Text) (stays : Bool)
    (x : IsAvoidedExplanation file text plan steps lines stays) (later h : List Step) (t : TaskId) (aim : Aim) (own : Text)
    (is : steps ≡ later ++ record { task = t.0; action = Refuses aim } ∷ h) (r : IsRefusalText file x.are_refusals.layout x.program plan h t.0 aim own) where
  checked : IsCheckedPlan plan
  checked = text_is_checked text x.is_account.program plan x.is_account.known.reads x.is_account.unfolds

  avoided : IsAvoidedRun plan steps
  avoided = serial_is_avoided plan steps checked x.ended.0

  whole : IsMaximal plan steps
  whole u forked =
      round_ended plan (length plan.parents) steps steps x.ended.1 (omega arith) u
      (forked_within plan (slice_get_within plan.parents 0 None checked.tables.root) steps (avoided_legal plan steps avoided) u forked) forked

  abbrev all : List Step
  all = later ++ record { task = t.0; action = Refuses aim } ∷ h

  run : IsAvoidedRun plan all
  run = subst (IsAvoidedRun plan) is avoided

  maximal : IsMaximal plan all
  maximal = subst (IsMaximal plan) is whole

  of_plan : IsOfPlan plan (state_after h)
  of_plan =
      run_is_of_plan plan h checked
      (avoided_legal plan h (first_avoided plan later (record { task = t.0; action = Refuses aim } ∷ h) run).0)

  deadlocked : IsDeadlockedSet (IsPublishedOn (if_published (state_after h) t.0 r.event)) (IsAtPhase (if_published (state_after h) t.0 r.event)) (has_task r.cycle)
  deadlocked = cycle_deadlocked plan (if_published (state_after h) t.0 r.event) r.cycle r.closes

  so : IsRefusalSo plan h later t r.event r.cycle r.released
  so = record {
    deadlocked = deadlocked;
    inside = own_inside plan h t.0 aim later checked run maximal r.event r.cycle deadlocked;
    left = λ q. (
      λ m. (leaves plan h t.0 aim later checked run maximal q).0 (told_member plan h t.0 of_plan q m),
      λ drops. member_told plan h t.0 of_plan q ((leaves plan h t.0 aim later checked run maximal q).1 drops),
    );
    gone_on = λ u e m waits.
        let released = (r.go_on.exact u).0 m in
        let same : Some released.event ≡ Some e = sym released.waits ∙ waits in
        let reached : IsReached (when_left (state_after h) t.0) e =
        subst (IsReached (when_left (state_after h) t.0)) (let event : released.event ≡ e = cc in event) released.reached in
        goes plan h t.0 aim later checked run maximal u.0 e waits reached;
  }

pub refusals_are_so : RefusalsAreSo
refusals_are_so file text plan steps lines stays x later h t aim own is r = so file text plan steps lines stays x later h t aim own is r
