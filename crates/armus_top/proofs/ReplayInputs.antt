-- No input of `replay` is both refused and replayed, and how a replay ends.
use Rattle.std.proofs.Common.{◌≡◌, ◌<◌, [], ◌∷◌, ℕ, List, length, inl, inr, refl, subst, arith, if◌then◌else◌, Bool, true, false}
use Rattle.std.specs.Prelude.{◌↔◌, IsTrue}
use Rattle.armus_base.specs.declared.ids.TaskId.{TaskId}
use Rattle.armus_base.specs.States.{State}
use Rattle.armus_base.proofs.Elements.{Contains-head, nothing_in_nil}
use Rattle.report.specs.declared.refusal.Refusal.{Refusal}
use Rattle.report.specs.declared.refusal.Refusal.TheVariants.{Length, Syntax, Check, Schedule}
use Rattle.schedule.specs.declared.verdict.Replayed.{Replayed}
use Rattle.schedule.specs.Replays.{IsFirstFault}
use Rattle.schedule.specs.Replaying.{AreDeadIn}
use Rattle.schedule.proofs.OneSchedule.{one_reading, one_split}
use Rattle.schedule.proofs.OneReplay.{never_both}
use Rattle.program_io.specs.Texts.{Text}
use Rattle.armus_top.specs.inside.Answers.{IsEnd}
use Rattle.program_io.specs.Programs.{IsFaultOf}
use Rattle.armus_top.specs.DeadStatus.{TellsDead}
use Rattle.armus_top.specs.Replays.{IsReplayedBy, IsReplayFault, IsReplayOf, IsReplayRefused, IsShort}
use Rattle.armus_top.specs.declared.output.InputEnd.{InputEnd}
use Rattle.armus_top.specs.declared.output.InputEnd.TheVariants.{Refused, NoMemory}
use Rattle.program_io.proofs.OnePlan.{checked_plan, one_plan, plan_or_fault}

-- ---- no input is both refused and replayed

fault_or_replayed : (text schedule : Text) (done : Replayed) (why : Refusal) → IsReplayFault text schedule why → IsReplayedBy text schedule done → ⊥
fault_or_replayed text schedule done Length long by = long by.reads.short
fault_or_replayed text schedule done (Syntax f) (short, has) by = plan_or_fault text (Syntax f) by.reads.plan_is.0 by.plan has by.reads.plan_is.1
fault_or_replayed text schedule done (Check f) (short, has) by = plan_or_fault text (Check f) by.reads.plan_is.0 by.plan has by.reads.plan_is.1
fault_or_replayed text schedule done (Schedule f) (plan, lines, reads, first) by =
    let plans : plan ≡ by.plan = one_plan text plan by.plan reads.plan_is by.reads.plan_is in
    let all : lines ≡ by.lines = one_reading schedule lines by.lines reads.lines_are by.reads.lines_are in
    never_both by.plan by.lines by.replayed.progress f.line f.kind (checked_plan text by.plan by.reads.plan_is) by.replayed.leads
    (subst (λ l. IsFirstFault by.plan l f.line f.kind) all (subst (λ p. IsFirstFault p lines f.line f.kind) plans first))

pub refused_or_replayed : (input : Text) (why : Refusal) (status : ℕ) (report : Text) → IsReplayRefused input why → IsReplayOf input status report → ⊥
refused_or_replayed input why status report (text, schedule, split, fault) r =
    let same = one_split input text schedule r.text r.schedule split r.split in
    fault_or_replayed r.text r.schedule r.done why (subst (λ s. IsReplayFault r.text s why) same.1 (subst (λ t. IsReplayFault t schedule why) same.0 fault)) r.by

-- ---- how a replay ends

-- the end of a short text is that of its replay
pub end_of_text : (text schedule : Text) (end : InputEnd) → IsShort text → IsEnd (IsFaultOf text) end → IsEnd (IsReplayFault text schedule) end
end_of_text text schedule (Refused (Syntax f)) short is = (short, is)
end_of_text text schedule (Refused (Check f)) short is = (short, is)
end_of_text text schedule NoMemory short is = tt
end_of_text text schedule end short is = absurd is

-- whether the list of a state's dead tasks has one tells whether a task is dead
pub list_tells : (state : State) (dead : List TaskId) (some : Bool) → AreDeadIn state dead → IsTrue some ↔ (0 < length dead) → TellsDead state (if some then 1 else 0)
list_tells state [] true are has = absurd (let l = has.0 refl in omega arith)
list_tells state (t ∷ ts) true are has = inl (refl, (t.0, (are.exact t).0 (Contains-head t ts)))
list_tells state [] false are has = inr (refl, λ t dies. nothing_in_nil (record { 0 = t }) ((are.exact (record { 0 = t })).1 dies))
list_tells state (t ∷ ts) false are has = absurd (let yes = has.1 (omega arith) in cc)
