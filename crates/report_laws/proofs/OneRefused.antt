-- A command refuses an input with one line.
use Rattle.std.proofs.Common.{◌≡◌, ◌∙◌, ap, inl, inr, sym, subst, refl}
use Rattle.std.specs.Prelude.{Err}
use Rattle.clock_syntax.specs.Trees.{ClockTree}
use Rattle.clock_syntax.proofs.ClockUnique.{not_both_clocks, one_clock_fault, one_clock_tree}
use Rattle.clock_semantics.specs.Unfolding.{clock_plan_of}
use Rattle.clock_pl.specs.ClockLines.{clock_fault_line}
use Rattle.pl_plan.specs.declared.fault.CheckFault.{CheckFault}
use Rattle.report.specs.Refusals.{refusal_text}
use Rattle.report.specs.declared.refusal.Refusal.{Refusal}
use Rattle.report.specs.declared.refusal.Refusal.TheVariants as refusal
use Rattle.report.specs.declared.refusal.ScheduleFault.{ScheduleFault}
use Rattle.schedule.specs.Replays.{IsFirstFault}
use Rattle.schedule.proofs.OneReplay.{one_first_fault}
use Rattle.schedule.proofs.OneSchedule.{one_reading, one_split}
use Rattle.command_line.specs.declared.command.Command.{Command}
use Rattle.command_line.specs.declared.command.Command.TheVariants.{Replay, Gen, Clock}
use Rattle.program_io.specs.Texts.{Text}
use Rattle.armus_top.specs.Clocks.{IsClockRefused}
use Rattle.armus_top.specs.Commands.{IsRefusedFor, IsRefusedInput}
use Rattle.program_io.specs.Programs.{IsFaultOf}
use Rattle.armus_top.specs.Replays.{IsReplayFault, IsReplayRefused}
use Rattle.program_io.proofs.OnePlan.{checked_plan, one_plan, plan_or_fault}
use Rattle.armus_top.proofs.OneRefusal.{one_refusal}

one_line : (why other : Refusal) (p q : Text) → why ≡ other → p ≡ refusal_text why → q ≡ refusal_text other → p ≡ q
one_line why other p q same is too = is ∙ ap refusal_text same ∙ sym too

refused_once : (input p q : Text) → IsRefusedFor (IsFaultOf input) p → IsRefusedFor (IsFaultOf input) q → p ≡ q
refused_once input p q (why, is, line) (other, too, words) = one_line why other p q (one_refusal input why other is too) line words

-- ---- replays

same_fault : (f g : ScheduleFault) → f.line ≡ g.line → f.kind ≡ g.kind → f ≡ g
same_fault f g lines kinds = λ i. record { line = lines i; kind = kinds i }

-- a fault of a text's schedule leaves no fault of the text
not_text_too : (text schedule : Text) (why : Refusal) (fault : ScheduleFault) → IsFaultOf text why → IsReplayFault text schedule (refusal.Schedule fault) → ⊥
not_text_too text schedule why fault is (plan, lines, reads, first) = plan_or_fault text why reads.plan_is.0 plan is reads.plan_is.1

one_replay_fault : (text schedule : Text) (why other : Refusal) → IsReplayFault text schedule why → IsReplayFault text schedule other → why ≡ other
one_replay_fault text schedule refusal.Length refusal.Length a b = refl
one_replay_fault text schedule refusal.Length (refusal.Syntax g) a (short, is) = absurd (a short)
one_replay_fault text schedule refusal.Length (refusal.Check g) a (short, is) = absurd (a short)
one_replay_fault text schedule refusal.Length (refusal.Schedule g) a (plan, lines, reads, first) = absurd (a reads.short)
one_replay_fault text schedule (refusal.Syntax f) refusal.Length (short, is) b = absurd (b short)
one_replay_fault text schedule (refusal.Syntax f) (refusal.Syntax g) (short, is) (brief, too) = one_refusal text (refusal.Syntax f) (refusal.Syntax g) is too
one_replay_fault text schedule (refusal.Syntax f) (refusal.Check g) (short, is) (brief, too) = one_refusal text (refusal.Syntax f) (refusal.Check g) is too
one_replay_fault text schedule (refusal.Syntax f) (refusal.Schedule g) (short, is) b = absurd (not_text_too text schedule (refusal.Syntax f) g is b)
one_replay_fault text schedule (refusal.Check f) refusal.Length (short, is) b = absurd (b short)
one_replay_fault text schedule (refusal.Check f) (refusal.Syntax g) (short, is) (brief, too) = one_refusal text (refusal.Check f) (refusal.Syntax g) is too
one_replay_fault text schedule (refusal.Check f) (refusal.Check g) (short, is) (brief, too) = one_refusal text (refusal.Check f) (refusal.Check g) is too
one_replay_fault text schedule (refusal.Check f) (refusal.Schedule g) (short, is) b = absurd (not_text_too text schedule (refusal.Check f) g is b)
one_replay_fault text schedule (refusal.Schedule f) refusal.Length (plan, lines, reads, first) b = absurd (b reads.short)
one_replay_fault text schedule (refusal.Schedule f) (refusal.Syntax g) a (brief, too) = absurd (not_text_too text schedule (refusal.Syntax g) f too a)
one_replay_fault text schedule (refusal.Schedule f) (refusal.Check g) a (brief, too) = absurd (not_text_too text schedule (refusal.Check g) f too a)
one_replay_fault text schedule (refusal.Schedule f) (refusal.Schedule g) (plan, lines, reads, first) (other, rest, reads_too, first_too) =
    let plans : other ≡ plan = one_plan text other plan reads_too.plan_is reads.plan_is in
    let all : rest ≡ lines = one_reading schedule rest lines reads_too.lines_are reads.lines_are in
    let there : IsFirstFault plan lines g.line g.kind =
    subst (λ l. IsFirstFault plan l g.line g.kind) all (subst (λ x. IsFirstFault x rest g.line g.kind) plans first_too) in
    let same = one_first_fault plan lines f.line f.kind g.line g.kind (checked_plan text plan reads.plan_is) first there in
    ap refusal.Schedule (same_fault f g same.0 same.1)

replay_refused_once : (input p q : Text) → IsRefusedFor (IsReplayRefused input) p → IsRefusedFor (IsReplayRefused input) q → p ≡ q
replay_refused_once input p q (why, (text, schedule, split, fault), line) (other, (text_too, rest, parts, fault_too), words) =
    let same = one_split input text_too rest text schedule parts split in
    let there : IsReplayFault text schedule other =
    subst (λ s. IsReplayFault text s other) same.1 (subst (λ t. IsReplayFault t rest other) same.0 fault_too) in
    one_line why other p q (one_replay_fault text schedule why other fault there) line words

-- ---- clocks

clock_refused_once : (input p q : Text) → IsClockRefused input p → IsClockRefused input q → p ≡ q
clock_refused_once input p q (inl (fault, is, line)) (inl (other, too, words)) =
    line ∙ ap (λ f. refusal_text (refusal.Syntax f)) (one_clock_fault input fault other is too) ∙ sym words
clock_refused_once input p q (inl (fault, is, line)) (inr (program, other, reads, fails, words)) = absurd (not_both_clocks input program fault reads is)
clock_refused_once input p q (inr (program, fault, reads, fails, line)) (inl (other, too, words)) = absurd (not_both_clocks input program other reads too)
clock_refused_once input p q (inr (program, fault, reads, fails, line)) (inr (second, other, reads_too, fails_too, words)) =
    let failing : clock_plan_of program ≡ Err other =
    subst (λ (x : ClockTree). clock_plan_of x ≡ Err other) (one_clock_tree input second program reads_too reads) fails_too in
    let same : fault ≡ other = cc in
    line ∙ ap (λ (f : CheckFault). clock_fault_line f.kind f.statement) same ∙ sym words

-- ---- all commands

pub one_refused : (c : Command) (input p q : Text) → IsRefusedInput c input p → IsRefusedInput c input q → p ≡ q
one_refused Replay input p q a b = replay_refused_once input p q a b
one_refused (Gen count) input p q a b = absurd a
one_refused (Clock workers g live) input p q a b = clock_refused_once input p q a b
one_refused c input p q a b = refused_once input p q a b
