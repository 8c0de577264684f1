-- A run with live lines and one without have one status and one report.
use Rattle.std.proofs.Common.{◌≡◌, ◌∙◌, ◌++◌, ℕ, [], ap, arith, inl, inr, sym, subst, true, false}
use Rattle.armus_base.specs.CheckedPlans.{IsCheckedPlan}
use Rattle.armus_base.specs.Plans.{Plan}
use Rattle.adaptive.specs.declared.analysis.Wanted.{Wanted}
use Rattle.report.specs.Live.{live_text}
use Rattle.command_line.specs.declared.command.Command.TheVariants.{Run, Clock}
use Rattle.command_line.specs.declared.command.RunKind.TheVariants.{Plain, Live}
use Rattle.program_io.specs.Texts.{Text}
use Rattle.armus_top.specs.Commands.{wanted_of}
use Rattle.armus_top.specs.Runs.{IsLiveRunOf, IsRunOf}
use Rattle.armus_top.proofs.Inputs.{never_both}
use Rattle.armus_top.proofs.OneClockPlan.{checked_clock_plan}
use Rattle.program_io.proofs.OnePlan.{checked_plan, one_plan}
use Rattle.report_laws.specs.calls.LiveLines.{LiveClockTellsAsClock, LiveRunTellsAsRun, StandsBehindLines}
use Rattle.report_laws.proofs.OneAnswer.{one_clock_plan}
use Rattle.report_laws.proofs.OneRefused.{one_refused}
use Rattle.report_laws.proofs.OneRun.{one_run}

tells_too : (plan : Plan) (g : Wanted) (a b : ℕ) (p q : Text) → IsCheckedPlan plan → IsLiveRunOf plan g a p → IsRunOf plan g b q
    → (a ≡ b) × StandsBehindLines p q
tells_too plan g a b p q checked r s =
    let both = one_run plan g a b r.report q checked r.run s in
    (both.0, (r.named, r.named_are.some.once, r.output_is ∙ ap (λ (x : Text). live_text r.named ++ x) both.1))

-- an output without lines
no_lines : (p q : Text) → p ≡ q → StandsBehindLines p q
no_lines p q same = ([], λ i j d l lt. absurd (omega arith), same)

pub live_run_tells_as_run : LiveRunTellsAsRun
live_run_tells_as_run workers others g input a b p q (inl (plan, is, r)) (inl (other, too, s)) =
    tells_too plan (wanted_of g) a b p q (checked_plan input plan is) r (subst (λ (x : Plan). IsRunOf x (wanted_of g) b q) (one_plan input other plan too is) s)
live_run_tells_as_run workers others g input a b p q (inl r) (inr (three, refused)) =
    absurd (never_both (Run workers g Live) input q p a refused r)
live_run_tells_as_run workers others g input a b p q (inr (three, refused)) (inl s) =
    absurd (never_both (Run others g Plain) input p q b refused s)
live_run_tells_as_run workers others g input a b p q (inr (three, r)) (inr (too, s)) =
    (three ∙ sym too, no_lines p q (one_refused (Run workers g Live) input p q r s))

pub live_clock_tells_as_clock : LiveClockTellsAsClock
live_clock_tells_as_clock workers others g input a b p q (inl r) (inl s) =
    let plans : s.plan ≡ r.plan = one_clock_plan input s.plan r.plan s.plan_is r.plan_is in
    tells_too r.plan (wanted_of g) a b p q (checked_clock_plan input r.plan r.plan_is) r.run (subst (λ (x : Plan). IsRunOf x (wanted_of g) b q) plans s.run)
live_clock_tells_as_clock workers others g input a b p q (inl r) (inr (three, refused)) =
    absurd (never_both (Clock workers g true) input q p a refused r)
live_clock_tells_as_clock workers others g input a b p q (inr (three, refused)) (inl s) =
    absurd (never_both (Clock others g false) input p q b refused s)
live_clock_tells_as_clock workers others g input a b p q (inr (three, r)) (inr (too, s)) =
    (three ∙ sym too, no_lines p q (one_refused (Clock workers g true) input p q r s))
