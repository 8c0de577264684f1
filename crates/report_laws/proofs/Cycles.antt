-- The cycle of a report is a deadlocked set, and the graph changes the last line alone.
use Rattle.std.proofs.Common.{◌≡◌, ◌∙◌, ◌++◌, ℕ, List, ap, inl, inr, sym, subst, refl, append_assoc}
use Rattle.std.specs.Prelude.{◌↔◌}
use Rattle.armus_base.specs.declared.ending.Final.{Final}
use Rattle.armus_base.specs.declared.ids.TaskId.{TaskId}
use Rattle.armus_base.specs.AgreementLaws.{has_task}
use Rattle.armus_base.specs.CheckedPlans.{IsCheckedPlan}
use Rattle.armus_base.specs.Deadlocks.{IsAtPhase, IsDeadBy, IsDeadIn, IsDeadlockedSet, IsPublishedOn}
use Rattle.armus_base.specs.calls.FinalLaws.{IsOfPlan}
use Rattle.armus_base.specs.Finals.{final_of}
use Rattle.armus_base.specs.Plans.{Plan}
use Rattle.armus_base.specs.Runs.{IsFinal}
use Rattle.armus_base.specs.Serial.{IsSerialAvoidedFinal}
use Rattle.armus_base.specs.States.{State}
use Rattle.armus_base.proofs.CycleIsDeadlocked.{cycle_is_deadlocked_in, walk_cycle_waits}
use Rattle.armus_base.proofs.DeadByStatuses.{dead_by_final, run_is_of_plan}
use Rattle.armus_base.proofs.HeldHasEnd.{held_has_end}
use Rattle.report.specs.Counts.{counts_of}
use Rattle.report.specs.Lines.{counts_line, task_lines}
use Rattle.report.specs.Reports.{IsCycleText, IsReport, IsReportedCycle}
use Rattle.report.specs.declared.standing.Standing.{Standing}
use Rattle.report.proofs.OneReport.{one_cycle_text, one_standings}
use Rattle.verdict.specs.Cycles.{IsDeadStep}
use Rattle.program_io.specs.Texts.{Text}
use Rattle.adaptive.specs.declared.analysis.Wanted.{Wanted}
use Rattle.armus_top.specs.Avoids.{TellsRefused}
use Rattle.armus_top.specs.DeadStatus.{TellsDead}
use Rattle.program_io.proofs.OnePlan.{checked_plan, one_plan}
use Rattle.armus_top.proofs.OneClockPlan.{checked_clock_plan}
use Rattle.armus_top.proofs.OneRefusal.{one_refused_status, one_status}
use Rattle.report_laws.specs.Cycles.{CycleIsProof, ShowsDeadlock, by_cycle, by_none}
use Rattle.report_laws.specs.calls.Cycles.{ClockCycleIsProof, DifferInGraph, GraphChangesLastLine, GraphChangesNoRefusal}
use Rattle.report_laws.specs.Held.{HeldTasksHaveEnd}
use Rattle.report_laws.proofs.OneRun.{one_final, one_serial_state}

-- the tasks of a reported cycle are a deadlocked set of the state
reported_is_deadlocked : (plan : Plan) (state : State) (cycle : List TaskId) → IsReportedCycle (final_of plan state).blocked cycle
    → IsDeadlockedSet (IsPublishedOn state) (IsAtPhase state) (has_task cycle)
reported_is_deadlocked plan state cycle (start, least, walk) =
    cycle_is_deadlocked_in plan state cycle
    (walk_cycle_waits (final_of plan state).blocked (IsDeadStep (final_of plan state).blocked) (λ t u (step : IsDeadStep _ t u). step.waits) start cycle walk)

module _ (plan : Plan) (state : State) (of_plan : IsOfPlan plan state) where
  same : (t : ℕ) → IsDeadBy (final_of plan state).blocked t ↔ IsDeadIn state t
  same t = dead_by_final plan state t of_plan

  shows : (text : Text) (status : ℕ) → IsCycleText (final_of plan state).blocked text → TellsDead state status → ShowsDeadlock state text status
  shows text status (inl (none, is)) (inl (one, (t, dead))) = absurd (none (t, (same t).1 dead))
  shows text status (inl (none, is)) (inr (zero, nobody)) = subst (ShowsDeadlock state text) (sym zero) (by_none is)
  shows text status (inr (cycle, reported, is)) (inl (one, some)) =
      subst (ShowsDeadlock state text) (sym one) (by_cycle cycle is (reported_is_deadlocked plan state cycle reported))
  shows text status (inr (cycle, reported, is)) (inr (zero, nobody)) =
      absurd (let least = reported.1 in nobody reported.0.0 ((same reported.0.0).0 least.dead))

final_of_plan : (plan : Plan) (state : State) → IsCheckedPlan plan → IsFinal plan state → IsOfPlan plan state
final_of_plan plan state checked final = subst (λ (x : State). IsOfPlan plan x) final.there (run_is_of_plan plan final.steps checked final.run.0)

pub cycle_is_proof : CycleIsProof
cycle_is_proof text plan g status report is run =
    shows plan run.state (final_of_plan plan run.state (checked_plan text plan is) run.final) run.report_is.cycle_text status run.report_is.cycle run.status_is

pub clock_cycle_is_proof : ClockCycleIsProof
clock_cycle_is_proof text plan g status report is run =
    shows plan run.state (final_of_plan plan run.state (checked_clock_plan text plan is) run.final) run.report_is.cycle_text status run.report_is.cycle run.status_is

-- ---- the last line

-- what stands ahead of the last line
abbrev ahead : List Standing → Text → Text
ahead standings cycle = counts_line (counts_of standings) ++ task_lines standings ++ cycle

lines_are : (a b c d : Text) → a ++ b ++ c ++ d ≡ (a ++ b ++ c) ++ d
lines_are a b c d = simp append_assoc refl

-- reports of one final state by two graphs
differ_in_graph : (end : Final) (g h : Wanted) (p q : Text) → IsReport end g p → IsReport end h q → DifferInGraph p q
differ_in_graph end g h p q x y =
    let stands : y.standings ≡ x.standings = one_standings (IsDeadBy end.blocked) end.ends y.standings x.standings y.stand x.stand in
    let cycles : y.cycle_text ≡ x.cycle_text = one_cycle_text end.blocked y.cycle_text x.cycle_text y.cycle x.cycle in
    let front = ahead x.standings x.cycle_text in
    let (used, m, used_is, count_is, last_is) = x.graph in
    let (other, n, other_is, number_is, end_is) = y.graph in (
      front,
      used,
      other,
      m,
      n,
      x.lines ∙ lines_are (counts_line (counts_of x.standings)) (task_lines x.standings) x.cycle_text x.graph_text ∙ ap (λ t. front ++ t) last_is,
      y.lines ∙ lines_are (counts_line (counts_of y.standings)) (task_lines y.standings) y.cycle_text y.graph_text
          ∙ ap (λ z. ahead z y.cycle_text ++ y.graph_text) stands ∙ ap (λ z. ahead x.standings z ++ y.graph_text) cycles ∙ ap (λ t. front ++ t) end_is,
    )

pub graph_changes_last_line : GraphChangesLastLine
graph_changes_last_line plan g h a b p q checked r s =
    let states : s.state ≡ r.state = one_final plan s.state r.state checked s.final r.final in
    let reports : IsReport (final_of plan r.state) h q = subst (λ (z : State). IsReport (final_of plan z) h q) states s.report_is in (
      one_status r.state a b r.status_is (subst (λ (z : State). TellsDead z b) states s.status_is),
      differ_in_graph (final_of plan r.state) g h p q r.report_is reports,
    )

pub graph_changes_no_refusal : GraphChangesNoRefusal
graph_changes_no_refusal input g h a b p q r s =
    let plans : s.plan ≡ r.plan = one_plan input s.plan r.plan s.plan_is r.plan_is in
    let serial : IsSerialAvoidedFinal r.plan s.state = subst (λ x. IsSerialAvoidedFinal x s.state) plans (s.serial refl) in
    let states : s.state ≡ r.state = one_serial_state r.plan s.state r.state (checked_plan input r.plan r.plan_is) serial (r.serial refl) in
    let tells : TellsRefused r.plan r.state b = subst (λ x. TellsRefused r.plan x b) states (subst (λ x. TellsRefused x s.state b) plans s.status_is) in
    let reports : IsReport (final_of r.plan r.state) h q =
    subst (λ x. IsReport (final_of r.plan x) h q) states (subst (λ x. IsReport (final_of x s.state) h q) plans s.report_is) in (
      one_refused_status r.plan r.state a b r.status_is tells,
      differ_in_graph (final_of r.plan r.state) g h p q r.report_is reports,
    )

pub held_tasks_have_end : HeldTasksHaveEnd
held_tasks_have_end text plan g status report is run t held = held_has_end plan run.state t (checked_plan text plan is) run.final held
