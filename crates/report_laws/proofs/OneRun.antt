-- A plan has one run to report, and live lines of it differ in their order alone.
use Rattle.std.proofs.Common.{◌≡◌, ◌∙◌, ◌++◌, ℕ, List, ap, sym, subst}
use Rattle.std.specs.Prelude.{Contains}
use Rattle.armus_base.specs.declared.ids.TaskId.{TaskId}
use Rattle.armus_base.specs.declared.status.Dead.{Dead}
use Rattle.armus_base.specs.declared.status.Status.{Status}
use Rattle.armus_base.specs.CheckedPlans.{IsCheckedPlan}
use Rattle.armus_base.specs.Deadlocks.{IsListedOn}
use Rattle.armus_base.specs.Finals.{final_of, is_awaited}
use Rattle.armus_base.specs.Plans.{Plan}
use Rattle.armus_base.specs.Runs.{IsFinal, state_after}
use Rattle.armus_base.specs.Serial.{IsSerialAvoidedFinal}
use Rattle.armus_base.specs.States.{State}
use Rattle.armus_base.specs.calls.Statuses.{IsInOrder}
use Rattle.armus_base.proofs.OneEnd.{one_end}
use Rattle.armus_base.proofs.OneSerialEnd.{one_serial_end}
use Rattle.armus_base.proofs.StatusesAre.{statuses_are}
use Rattle.dep_state.proofs.DeadSets.{one_status}
use Rattle.adaptive.specs.declared.analysis.Wanted.{Wanted}
use Rattle.report.specs.Live.{live_text}
use Rattle.report.specs.NamedDead.{AreTheDead}
use Rattle.report.specs.Reports.{IsReport}
use Rattle.report.proofs.OneReport.{one_report}
use Rattle.program_io.specs.Texts.{Text}
use Rattle.armus_top.specs.DeadStatus.{TellsDead}
use Rattle.armus_top.specs.Runs.{IsLiveRunOf, IsRunOf}
use Rattle.armus_top.proofs.OneRefusal as told
use Rattle.report_laws.specs.Outputs.{HaveSameLines}

-- a checked plan has one final state
pub one_final : (plan : Plan) (f s : State) → IsCheckedPlan plan → IsFinal plan f → IsFinal plan s → f ≡ s
one_final plan f s checked a b =
    let ends = one_end plan a.steps b.steps checked a.run b.run a.maximal b.maximal in sym a.there ∙ ends.1 ∙ b.there

-- the serial avoided run of a checked plan ends in one state
pub one_serial_state : (plan : Plan) (f s : State) → IsCheckedPlan plan → IsSerialAvoidedFinal plan f → IsSerialAvoidedFinal plan s → f ≡ s
one_serial_state plan f s checked a b =
    let ends = one_serial_end plan a.steps b.steps checked a.ended b.ended in sym a.there ∙ ap state_after ends ∙ b.there

pub one_run : (plan : Plan) (g : Wanted) (a b : ℕ) (p q : Text) → IsCheckedPlan plan → IsRunOf plan g a p → IsRunOf plan g b q → (a ≡ b) × (p ≡ q)
one_run plan g a b p q checked r s =
    let states : s.state ≡ r.state = one_final plan s.state r.state checked s.final r.final in (
      told.one_status r.state a b r.status_is (subst (λ (x : State). TellsDead x b) states s.status_is),
      one_report (final_of plan r.state) g p q r.report_is (subst (λ (x : State). IsReport (final_of plan x) g q) states s.report_is),
    )

-- ---- live lines

-- the statuses of a state are in order
in_order : (plan : Plan) (state : State) → IsCheckedPlan plan → IsInOrder (final_of plan state).blocked
in_order plan state checked = (statuses_are plan state (is_awaited plan state) checked).in_order

module _ (blocked : List Status) (ordered : IsInOrder blocked) where
  -- a dead task has one event
  one_named : (c d : Dead) → c.t.0 ≡ d.t.0 → IsListedOn blocked c.t.0 c.event → IsListedOn blocked d.t.0 d.event → c ≡ d
  one_named c d same (s, listed, s_is, s_event) (u, listed_too, u_is, u_event) =
      let tasks : s.t ≡ u.t = task_is s.t u.t (s_is ∙ same ∙ sym u_is) in
      let both : s ≡ u = one_status blocked ordered s u listed listed_too tasks in
      let events : c.event ≡ d.event = sym s_event ∙ ap (λ (x : Status). x.event) both ∙ u_event in
      dead_is c d same events
    where
      task_is : (x y : TaskId) → x.0 ≡ y.0 → x ≡ y
      task_is x y e = λ i. record { 0 = e i }

      dead_is : (x y : Dead) → x.t.0 ≡ y.t.0 → x.event ≡ y.event → x ≡ y
      dead_is x y e f = λ i. record { t = task_is x.t y.t e i; event = f i }

  -- whoever one list of all the dead names, with its event, so does another
  named_too : (named others : List Dead) → AreTheDead blocked named → AreTheDead blocked others → (d : Dead) → Contains named d → Contains others d
  named_too named others are too d among =
      let (dead, on) = are.some.dead d among in
      let (c, there, same) = too.all d.t.0 dead in
      let listed = (too.some.dead c there).1 in
      subst (Contains others) (one_named c d same listed on) there

pub one_live_run : (plan : Plan) (g : Wanted) (a b : ℕ) (p q : Text) → IsCheckedPlan plan → IsLiveRunOf plan g a p → IsLiveRunOf plan g b q
    → (a ≡ b) × HaveSameLines p q
one_live_run plan g a b p q checked r s =
    let both = one_run plan g a b r.report s.report checked r.run s.run in
    let states : s.run.state ≡ r.run.state = one_final plan s.run.state r.run.state checked s.run.final r.run.final in
    let blocked = (final_of plan r.run.state).blocked in
    let others : AreTheDead blocked s.named = subst (λ (x : State). AreTheDead (final_of plan x).blocked s.named) states s.named_are in
    let ordered = in_order plan r.run.state checked in (
      both.0,
      record {
        named = r.named;
        others = s.named;
        report = r.report;
        first = r.output_is;
        second = s.output_is ∙ ap (λ (x : Text). live_text s.named ++ x) (sym both.1);
        once = r.named_are.some.once;
        once_too = others.some.once;
        same = λ d. (named_too blocked ordered r.named s.named r.named_are others d, named_too blocked ordered s.named r.named others r.named_are d);
      },
    )
