-- Of each command: an input is not both refused and answered, and the status of an answer is 0 or 1.
use Rattle.std.proofs.Common.{◌≤◌, ℕ, inl, inr, arith, true, false}
use Rattle.armus_base.specs.Plans.{Plan}
use Rattle.armus_base.specs.Runs.{state_after}
use Rattle.armus_base.specs.States.{State}
use Rattle.adaptive.specs.declared.analysis.Wanted.{Wanted}
use Rattle.command_line.specs.declared.command.Command.{Command}
use Rattle.command_line.specs.declared.command.Command.TheVariants.{Check, Run, Avoid, Record, Replay, Gen, Clock, Pool}
use Rattle.command_line.specs.declared.command.RunKind.{RunKind}
use Rattle.command_line.specs.declared.command.RunKind.TheVariants.{Plain, Live, Sites}
use Rattle.program_io.specs.Texts.{Text}
use Rattle.armus_top.specs.Avoids.{TellsRefused}
use Rattle.armus_top.specs.DeadStatus.{TellsDead}
use Rattle.armus_top.specs.Commands.{IsAnswered, IsRefusedInput}
use Rattle.armus_top.specs.Runs.{IsRunOutput, kind_of}
use Rattle.program_io.proofs.OnePlan.{plan_or_fault}
use Rattle.armus_top.proofs.OneClockPlan.{clock_plan_or_refused}
use Rattle.armus_top.proofs.ReplayInputs.{refused_or_replayed}

-- an input is not both refused and answered
pub never_both : (c : Command) (input text other : Text) (status : ℕ) → IsRefusedInput c input text → IsAnswered c input status other → ⊥
never_both (Check false) input text other status (why, has, line) (plan, (program, is), is_zero, text_is) = plan_or_fault input why program plan has is
never_both (Check true) input text other status (why, has, line) (plan, program, is, is_zero, text_is) = plan_or_fault input why program plan has is
never_both (Run workers g kind) input text other status (why, has, line) (plan, (program, is), run) = plan_or_fault input why program plan has is
never_both (Avoid workers g kept) input text other status (why, has, line) r = plan_or_fault input why r.plan_is.0 r.plan has r.plan_is.1
never_both (Record workers) input text other status (why, has, line) r = plan_or_fault input why r.plan_is.0 r.plan has r.plan_is.1
never_both Replay input text other status (why, is, line) r = refused_or_replayed input why status other is r
never_both (Gen count) input text other status is answered = absurd is
never_both (Clock workers g live) input text other status is run = clock_plan_or_refused input text run.plan is run.plan_is
never_both (Pool workers g) input text other status (why, has, line) (plan, (program, is), run) = plan_or_fault input why program plan has is

dead_small : (state : State) (status : ℕ) → TellsDead state status → status ≤ 1
dead_small state status (inl (is_one, found)) = omega (arith, is_one)
dead_small state status (inr (is_zero, nobody)) = omega (arith, is_zero)

output_small : (kind : RunKind) (plan : Plan) (g : Wanted) (status : ℕ) (text : Text) → IsRunOutput kind plan g status text → status ≤ 1
output_small Plain plan g status text run = dead_small run.state status run.status_is
output_small Live plan g status text live = dead_small live.run.state status live.run.status_is
output_small (Sites sites) plan g status text run = dead_small run.state status run.status_is

refused_small : (plan : Plan) (state : State) (status : ℕ) → TellsRefused plan state status → status ≤ 1
refused_small plan state status (inl (is_one, found)) = omega (arith, is_one)
refused_small plan state status (inr (is_zero, none)) = omega (arith, is_zero)

-- the status of an answer is 0 or 1
pub answered_small : (c : Command) (input text : Text) (status : ℕ) → IsAnswered c input status text → status ≤ 1
answered_small (Check false) input text status (plan, is, is_none, text_is) = omega (arith, is_none)
answered_small (Check true) input text status (plan, program, is, is_none, text_is) = omega (arith, is_none)
answered_small (Run workers g kind) input text status (plan, is, run) = output_small kind plan _ status text run
answered_small (Avoid workers g kept) input text status r = refused_small r.plan r.state status r.status_is
answered_small (Record workers) input text status r = dead_small (state_after r.steps) status r.status_is
answered_small Replay input text status r = dead_small (state_after r.by.replayed.progress.run) status r.status_is
answered_small (Gen count) input text status g = dead_small g.run.state status g.run.status_is
answered_small (Clock workers g live) input text status run = output_small (kind_of live) run.plan _ status text run.run
answered_small (Pool workers g) input text status (plan, is, run) = dead_small run.state status run.status_is
