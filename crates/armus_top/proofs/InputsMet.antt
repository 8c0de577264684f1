-- Each input has an answer.
use Rattle.std.proofs.Common.{ℕ, Bool, inl, inr, refl, true, false}
use Rattle.armus_base.specs.Plans.{Plan}
use Rattle.command_line.specs.declared.command.Command.{Command}
use Rattle.command_line.specs.declared.command.Command.TheVariants.{Check, Run, Avoid, Record, Replay, Gen, Clock, Pool}
use Rattle.command_line.specs.declared.command.Graph.{Graph}
use Rattle.command_line.specs.declared.command.RunKind.{RunKind}
use Rattle.command_line.specs.declared.command.RunKind.TheVariants.{Plain}
use Rattle.pl_syntax.specs.Printed.{printed_of}
use Rattle.report.specs.Refusals.{refusal_text}
use Rattle.report.specs.declared.refusal.Refusal.{Refusal}
use Rattle.program_io.specs.Texts.{Text}
use Rattle.armus_top.specs.Texts.{plan_line}
use Rattle.armus_top.specs.Commands.{IsRefusedInput, limit_of, wanted_of}
use Rattle.armus_top.specs.calls.Inputs.{EachInputIsMet, FitsLimit, MayGenerate}
use Rattle.program_io.specs.Programs.{IsFaultOf, IsPlanOf}
use Rattle.armus_top.specs.Runs.{IsRunOutput, kind_of}
use Rattle.program_io.proofs.OnePlan.{checked_plan}
use Rattle.armus_top.proofs.TextEnds.{clock_run_of}
use Rattle.armus_top.proofs.OneClockPlan.{checked_clock_plan, clock_plan_or_line}
use Rattle.program_io.proofs.EachText.{plan_or_refused}
use Rattle.armus_top.proofs.WholeOutputs.{IsMet, refused}
use Rattle.armus_top.proofs.RunsMet.{avoid_met, output_met}
use Rattle.armus_top.proofs.RecordsMet.{record_met}
use Rattle.armus_top.proofs.ReplaysMet.{replay_met}
use Rattle.armus_top.proofs.GeneratedMet.{gen_met}

module _ (input : Text) where
  by_plan :
      (c : Command) → ((why : Refusal) → IsFaultOf input why → IsRefusedInput c input (refusal_text why)) →
      ((plan : Plan) → IsPlanOf input plan → IsMet c input) → IsMet c input
  by_plan c cause met =
      elim (plan_or_refused input) [
        | inl one ↦ let (plan, is) = one in met plan is
        | inr one ↦ let (why, is) = one in refused c input (refusal_text why) (cause why is)
      ]

  -- the output of a run of this kind
  run_of_kind : (kind : RunKind) (g : Graph) (plan : Plan) → IsPlanOf input plan → (status : ℕ) × (text : Text) × IsRunOutput kind plan (wanted_of g) status text
  run_of_kind kind g plan is = output_met plan (checked_plan input plan is) (wanted_of g) kind

  clock_met : (workers : ℕ) (g : Graph) (live : Bool) → IsMet (Clock workers g live) input
  clock_met workers g live =
      elim (clock_plan_or_line input) [
        | inl one ↦ let (plan, is) = one in
            let (status, text, run) = output_met plan (checked_clock_plan input plan is) (wanted_of g) (kind_of live) in
            (status, text, inl (clock_run_of input plan (kind_of live) (wanted_of g) status text is run))
        | inr one ↦ let (line, is) = one in refused (Clock workers g live) input line is
      ]

  each_met : (c : Command) → FitsLimit (limit_of c) input → MayGenerate c → IsMet c input
  each_met (Check false) fits may = by_plan (Check false) (λ why is. (why, is, refl)) (λ plan is. (0, plan_line plan, inl (plan, is, refl, refl)))
  each_met (Check true) fits may = by_plan (Check true) (λ why is. (why, is, refl)) (λ plan is. (0, printed_of is.0, inl (plan, is.0, is.1, refl, refl)))
  each_met (Run workers g kind) fits may =
      by_plan (Run workers g kind) (λ why is. (why, is, refl)) (λ plan is. let (status, text, run) = run_of_kind kind g plan is in (status, text, inl (plan, is, run)))
  each_met (Avoid workers g kept) fits may =
      by_plan (Avoid workers g kept) (λ why is. (why, is, refl))
      (λ plan is. let (status, text, run) = avoid_met input plan is workers (wanted_of g) in (status, text, inl run))
  each_met (Record workers) fits may =
      by_plan (Record workers) (λ why is. (why, is, refl)) (λ plan is. let (status, text, run) = record_met input plan is in (status, text, inl run))
  each_met Replay fits may = replay_met input
  each_met (Gen count) fits may = gen_met count input may
  each_met (Clock workers g live) fits may = clock_met workers g live
  each_met (Pool workers g) fits may =
      by_plan (Pool workers g) (λ why is. (why, is, refl)) (λ plan is. let (status, text, run) = run_of_kind Plain g plan is in (status, text, inl (plan, is, run)))

pub each_input_is_met : EachInputIsMet
each_input_is_met c input fits may = each_met input c fits may
