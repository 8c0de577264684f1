-- The printed form of a program means what its text means.
use Rattle.std.proofs.Common.{ℕ, [], sym, subst, refl, true, false}
use Rattle.armus_base.specs.Plans.{Plan}
use Rattle.pl_syntax.specs.declared.tree.Program.{Program}
use Rattle.pl_syntax.specs.Grammar.{IsText}
use Rattle.pl_syntax.specs.Printed.{printed_of}
use Rattle.pl_syntax.proofs.RoundTrip.{prints_text}
use Rattle.pl_syntax.proofs.Unique.{one_tree}
use Rattle.pl_syntax.proofs.Writable.{text_is_writable}
use Rattle.command_line.specs.declared.command.Command.{Command}
use Rattle.command_line.specs.declared.command.Command.TheVariants.{Check, Run, Avoid, Pool}
use Rattle.program_io.specs.Texts.{Text}
use Rattle.armus_top.specs.Commands.{IsAnswered}
use Rattle.program_io.specs.Programs.{IsChecked, IsPlanOf}
use Rattle.armus_top.proofs.Inputs.{never_both}
use Rattle.report_laws.specs.calls.Printed.{GoesByProgram, PrintingKeepsMeaning}
use Rattle.report_laws.proofs.OnePlan.{record_goes_by_plan, replay_goes_by_plan, texts_have_no_schedule}

-- ---- two texts of one program

module _ (program : Program) (text other : Text) (reads : IsText text program) (reads_too : IsText other program) where
  checked_too : (p : Program) (plan : Plan) → IsChecked text p plan → IsChecked other p plan
  checked_too p plan is =
      record { reads = subst (IsText other) (one_tree text program p reads is.reads) reads_too; unfolds = is.unfolds }

  plan_too : (plan : Plan) → IsPlanOf text plan → IsPlanOf other plan
  plan_too plan (p, is) = (p, checked_too p plan is)

  answered_too : (c : Command) (number : ℕ) (output : Text) → GoesByProgram c → IsAnswered c text number output → IsAnswered c other number output
  answered_too (Check false) number output goes (plan, is, zero, line) = (plan, plan_too plan is, zero, line)
  answered_too (Check true) number output goes (plan, p, is, zero, line) = (plan, p, checked_too p plan is, zero, line)
  answered_too (Run workers g kind) number output goes (plan, is, run) = (plan, plan_too plan is, run)
  answered_too (Avoid workers g kept) number output goes r =
      record {
        plan = r.plan;
        plan_is = plan_too r.plan r.plan_is;
        state = r.state;
        avoided = r.avoided;
        never = r.never;
        serial = r.serial;
        status_is = r.status_is;
        report_is = r.report_is;
      }
  answered_too (Pool workers g) number output goes (plan, is, run) = (plan, plan_too plan is, run)
  answered_too c number output goes r = absurd goes

pub printing_keeps_meaning : PrintingKeepsMeaning
printing_keeps_meaning input printed status (plan, program, is, zero, text) =
    let forms : IsText (printed_of program) program =
    prints_text program (text_is_writable input program is.reads) is.reads.shallow in
    let reads : IsText printed program = subst (λ t. IsText t program) (sym text) forms in
    let answer : IsAnswered (Check true) printed 0 printed = (plan, program, record { reads = reads; unfolds = is.unfolds }, refl, text) in
    let from_printed = plan_too program printed input reads is.reads in
    let from_input = plan_too program input printed is.reads reads in
    let one_of_printed = texts_have_no_schedule printed plan (program, record { reads = reads; unfolds = is.unfolds }) in
    let one_of_input = texts_have_no_schedule input plan (program, is) in
    record {
      plan = λ other. (from_printed other, from_input other);
      again = answer;
      answered = λ c number output goes. (
        answered_too program printed input reads is.reads c number output goes,
        answered_too program input printed is.reads reads c number output goes,
      );
      accepted = λ workers refusal refused. never_both (Check true) printed refusal printed 0 refused answer;
      recorded = λ number written r. record_goes_by_plan input printed number written r (λ other. (from_input other, from_printed other));
      replayed = λ short short_too number report.
          replay_goes_by_plan printed input printed input [] number report one_of_printed one_of_input short_too short (λ other. (from_printed other, from_input other));
    }
