-- One answer for one input.
use Rattle.std.proofs.Common.{◌≡◌, ◌∙◌, ◌++◌, ℕ, Bool, [], ◌∷◌, ap, inl, inr, sym, subst, true, false}
use Rattle.std.specs.Prelude.{Ok}
use Rattle.armus_base.specs.CheckedPlans.{IsCheckedPlan}
use Rattle.armus_base.specs.Finals.{final_of}
use Rattle.armus_base.specs.Plans.{Plan}
use Rattle.armus_base.specs.Serial.{IsSerialAvoidedFinal}
use Rattle.armus_base.proofs.Lists.{same_ends}
use Rattle.adaptive.specs.declared.analysis.Wanted.{Wanted}
use Rattle.pl_syntax.specs.Printed.{line, printed_of}
use Rattle.pl_syntax.proofs.Unique.{one_tree}
use Rattle.report.specs.Reports.{IsReport}
use Rattle.report.proofs.OneReport.{one_report}
use Rattle.command_line.specs.declared.command.Command.{Command}
use Rattle.command_line.specs.declared.command.Command.TheVariants.{Check, Run, Avoid, Record, Replay, Gen, Clock, Pool}
use Rattle.command_line.specs.declared.command.Graph.{Graph}
use Rattle.command_line.specs.declared.command.RunKind.{RunKind}
use Rattle.command_line.specs.declared.command.RunKind.TheVariants.{Plain, Live, Sites}
use Rattle.program_io.specs.Texts.{Text}
use Rattle.armus_top.specs.Avoids.{IsAvoidOf, TellsRefused}
use Rattle.armus_top.specs.Clocks.{IsClockPlanOf}
use Rattle.armus_top.specs.Commands.{IsAnswered, wanted_of}
use Rattle.armus_top.specs.Generated.{IsFirstAndLast}
use Rattle.armus_top.specs.Headline.{Answers}
use Rattle.program_io.specs.Programs.{IsPlanOf}
use Rattle.armus_top.specs.Runs.{IsRunOf, IsRunOutput, kind_of}
use Rattle.armus_top.specs.Texts.{plan_line}
use Rattle.armus_top.proofs.Inputs.{never_both}
use Rattle.armus_top.proofs.OneClockPlan.{checked_clock_plan}
use Rattle.program_io.proofs.OnePlan.{checked_plan, one_plan}
use Rattle.armus_top.proofs.OneRefusal.{one_refused_status}
use Rattle.schedule.proofs.OneSchedule.{one_cut}
use Rattle.clock_syntax.specs.Trees.{ClockTree}
use Rattle.clock_syntax.proofs.ClockUnique.{one_clock_tree}
use Rattle.clock_semantics.specs.Unfolding.{clock_plan_of}
use Rattle.report_laws.specs.OneAnswer.{FixesAnswer, OneAnswer, RunsReportAlike}
use Rattle.report_laws.specs.Outputs.{AreAlike}
use Rattle.report_laws.specs.ReportedRuns.{ReportsRun}
use Rattle.report_laws.proofs.OneRefused.{one_refused}
use Rattle.report_laws.proofs.OneReplay.{one_replay}
use Rattle.report_laws.proofs.OneRun.{one_live_run, one_run, one_serial_state}

-- the same text is alike
alike : (c : Command) (p q : Text) → p ≡ q → AreAlike c p q
alike (Run workers g Live) p q e = inl e
alike (Clock workers g true) p q e = inl e
alike c p q e = e

-- the plan of an input is one, whatever is said of it
same_plan : (input : Text) (plan other : Plan) (P : Plan → Type 0) → IsPlanOf input plan → IsPlanOf input other → P other → P plan
same_plan input plan other P is too p = subst P (one_plan input other plan too is) p

one_serial : (input : Text) (g : Wanted) (workers a b : ℕ) (p q : Text) → workers ≡ 1 → IsAvoidOf input workers g a p → IsAvoidOf input workers g b q
    → (a ≡ b) × (p ≡ q)
one_serial input g workers a b p q one r s =
    let plans : s.plan ≡ r.plan = one_plan input s.plan r.plan s.plan_is r.plan_is in
    let serial : IsSerialAvoidedFinal r.plan s.state = subst (λ x. IsSerialAvoidedFinal x s.state) plans (s.serial one) in
    let states : s.state ≡ r.state = one_serial_state r.plan s.state r.state (checked_plan input r.plan r.plan_is) serial (r.serial one) in
    let tells : TellsRefused r.plan r.state b = subst (λ x. TellsRefused r.plan x b) states (subst (λ x. TellsRefused x s.state b) plans s.status_is) in
    let reports : IsReport (final_of r.plan r.state) g q =
    subst (λ x. IsReport (final_of r.plan x) g q) states (subst (λ x. IsReport (final_of x s.state) g q) plans s.report_is) in
    (one_refused_status r.plan r.state a b r.status_is tells, one_report (final_of r.plan r.state) g p q r.report_is reports)

-- a clock text has one plan
pub one_clock_plan : (text : Text) (plan other : Plan) → IsClockPlanOf text plan → IsClockPlanOf text other → plan ≡ other
one_clock_plan text plan other (program, reads, unfolds) (second, reads_too, unfolds_too) =
    let too : clock_plan_of program ≡ Ok other =
    subst (λ (x : ClockTree). clock_plan_of x ≡ Ok other) (one_clock_tree text second program reads_too reads) unfolds_too in
    cc

-- a report has one first and one last line
one_first_and_last : (report p q : Text) → IsFirstAndLast report p → IsFirstAndLast report q → p ≡ q
one_first_and_last report p q r s =
    let cuts : r.first ∷ (r.between ++ r.last ∷ []) ≡ s.first ∷ (s.between ++ s.last ∷ []) = one_cut report _ _ r.cut s.cut in
    let firsts : r.first ≡ s.first = cc in
    let rests : r.between ++ r.last ∷ [] ≡ s.between ++ s.last ∷ [] = cc in
    let lasts = (same_ends r.between s.between r.last s.last rests).1 in
    r.text_is ∙ ap (λ x. line x ++ line r.last) firsts ∙ ap (λ x. line s.first ++ line x) lasts ∙ sym s.text_is

-- ---- outputs of a run of each kind

one_plain : (workers : ℕ) (g : Graph) (kind : RunKind) (plan : Plan) (a b : ℕ) (p q : Text) → IsCheckedPlan plan → IsRunOutput kind plan (wanted_of g) a p
    → IsRunOutput kind plan (wanted_of g) b q → (a ≡ b) × AreAlike (Run workers g kind) p q
one_plain workers g Plain plan a b p q checked r s = one_run plan (wanted_of g) a b p q checked r s
one_plain workers g (Sites sites) plan a b p q checked r s = one_run plan (wanted_of g) a b p q checked r s
one_plain workers g Live plan a b p q checked r s = let both = one_live_run plan (wanted_of g) a b p q checked r s in (both.0, inr both.1)

one_clock : (workers : ℕ) (g : Graph) (live : Bool) (plan : Plan) (a b : ℕ) (p q : Text) → IsCheckedPlan plan → IsRunOutput (kind_of live) plan (wanted_of g) a p
    → IsRunOutput (kind_of live) plan (wanted_of g) b q → (a ≡ b) × AreAlike (Clock workers g live) p q
one_clock workers g false plan a b p q checked r s = one_run plan (wanted_of g) a b p q checked r s
one_clock workers g true plan a b p q checked r s = let both = one_live_run plan (wanted_of g) a b p q checked r s in (both.0, inr both.1)

-- ---- answers

one_answered : (c : Command) (input : Text) (a b : ℕ) (p q : Text) → FixesAnswer c → IsAnswered c input a p → IsAnswered c input b q → (a ≡ b) × AreAlike c p q
one_answered (Check false) input a b p q fixes (plan, is, zero, text) (other, too, none, line) =
    (zero ∙ sym none, text ∙ ap plan_line (one_plan input plan other is too) ∙ sym line)
one_answered (Check true) input a b p q fixes (plan, program, is, zero, text) (other, second, too, none, line) =
    (zero ∙ sym none, text ∙ ap printed_of (one_tree input program second is.reads too.reads) ∙ sym line)
one_answered (Run workers g kind) input a b p q fixes (plan, is, r) (other, too, s) =
    one_plain workers g kind plan a b p q (checked_plan input plan is) r
    (same_plan input plan other (λ x. IsRunOutput kind x (wanted_of g) b q) is too s)
one_answered (Avoid workers g kept) input a b p q fixes r s = one_serial input (wanted_of g) workers a b p q fixes r s
one_answered (Record workers) input a b p q fixes r s = absurd fixes
one_answered Replay input a b p q fixes r s = one_replay input a b p q r s
one_answered (Gen count) input a b p q fixes r s =
    let both = one_run r.plan _ a b r.report s.report (checked_plan _ r.plan r.plan_is) r.run
    (same_plan _ r.plan s.plan (λ x. IsRunOf x _ b s.report) r.plan_is s.plan_is s.run) in
    (both.0, one_first_and_last r.report p q r.short (subst (λ x. IsFirstAndLast x q) (sym both.1) s.short))
one_answered (Clock workers g live) input a b p q fixes r s =
    let plans : s.plan ≡ r.plan = one_clock_plan input s.plan r.plan s.plan_is r.plan_is in
    one_clock workers g live r.plan a b p q (checked_clock_plan input r.plan r.plan_is) r.run
    (subst (λ x. IsRunOutput (kind_of live) x (wanted_of g) b q) plans s.run)
one_answered (Pool workers g) input a b p q fixes (plan, is, r) (other, too, s) =
    one_run plan (wanted_of g) a b p q (checked_plan input plan is) r (same_plan input plan other (λ x. IsRunOf x (wanted_of g) b q) is too s)

pub one_answer : OneAnswer
one_answer c input a b p q fixes (inl r) (inl s) = one_answered c input a b p q fixes r s
one_answer c input a b p q fixes (inl r) (inr (three, refused)) = absurd (never_both c input q p a refused r)
one_answer c input a b p q fixes (inr (three, refused)) (inl s) = absurd (never_both c input p q b refused s)
one_answer c input a b p q fixes (inr (three, r)) (inr (too, s)) = (three ∙ sym too, alike c p q (one_refused c input p q r s))

-- ---- commands that report the run

pub tells_run : (g : Graph) (c : Command) (input : Text) (a : ℕ) (p : Text) → ReportsRun g c → Answers c input a p → Answers (Run 1 g Plain) input a p
tells_run g (Run workers h Plain) input a p same (inl (plan, is, r)) = inl (plan, is, subst (λ x. IsRunOf plan (wanted_of x) a p) same r)
tells_run g (Run workers h Plain) input a p same (inr refused) = inr refused
tells_run g (Run workers h (Sites sites)) input a p same (inl (plan, is, r)) = inl (plan, is, subst (λ x. IsRunOf plan (wanted_of x) a p) same r)
tells_run g (Run workers h (Sites sites)) input a p same (inr refused) = inr refused
tells_run g (Pool workers h) input a p same (inl (plan, is, r)) = inl (plan, is, subst (λ x. IsRunOf plan (wanted_of x) a p) same r)
tells_run g (Pool workers h) input a p same (inr refused) = inr refused
tells_run g c input a p same answers = absurd same

pub runs_report_alike : RunsReportAlike
runs_report_alike g c d input a b p q is too r s =
    one_answer (Run 1 g Plain) input a b p q tt (tells_run g c input a p is r) (tells_run g d input b q too s)
