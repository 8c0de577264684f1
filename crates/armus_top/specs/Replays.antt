-- The inputs of `replay`: why one is refused, and what one is answered.
use Rattle.std.specs.Prelude.{◌≡◌, ◌≤◌, ◌⊎◌, ℕ, List, Contains, length}
use Rattle.armus_base.specs.Plans.{Plan}
use Rattle.armus_base.specs.Runs.{state_after}
use Rattle.report.specs.declared.refusal.Refusal.{Refusal}
use Rattle.report.specs.declared.refusal.Refusal.TheVariants.{Length, Syntax, Check, Schedule}
use Rattle.schedule.specs.declared.lines.Line.{Line}
use Rattle.schedule.specs.declared.verdict.Replayed.{Replayed}
use Rattle.schedule.specs.Lines.{IsSchedule}
use Rattle.schedule.specs.Split.{IsSplit}
use Rattle.schedule.specs.Laws.{NamesTheDead}
use Rattle.schedule.specs.Passes.{PassLoads}
use Rattle.schedule.specs.Replays.{IsFirstFault}
use Rattle.schedule.specs.Replaying.{IsReplayed}
use Rattle.schedule.specs.Texts.{text_of}
use Rattle.program_io.specs.Texts.{Text}
use Rattle.pl_syntax.specs.Printed.{line}
use Rattle.program_io.specs.Programs.{IsFaultOf, IsPlanOf}
use Rattle.armus_top.specs.DeadStatus.{TellsDead}
use Rattle.program_io.specs.declared.text_limit.TheConstants.{MAX_TEXT_BYTES}

-- the text is no longer than a text may be, where one last LF is not counted
abbrev pub IsShort : Text → Type 0
IsShort text = (length text ≤ MAX_TEXT_BYTES) ⊎ ((front : Text) × (text ≡ line front) × (length front ≤ MAX_TEXT_BYTES))

-- the text is short and has this plan, and the schedule is these lines
pub record ReadsAs (text schedule : Text) (plan : Plan) (lines : List Line) : Type 0 where
  pub short : IsShort text
  pub plan_is : IsPlanOf text plan
  pub lines_are : IsSchedule schedule lines

-- why a text and a schedule are refused, each cause only where none before it holds: the text is too long; the text is refused, as it is without a schedule; a line is at
-- fault, and this is the first one
abbrev pub IsReplayFault : Text → Text → Refusal → Type 0
IsReplayFault text schedule Length = IsShort text → ⊥
IsReplayFault text schedule (Syntax fault) = IsShort text × IsFaultOf text (Syntax fault)
IsReplayFault text schedule (Check fault) = IsShort text × IsFaultOf text (Check fault)
IsReplayFault text schedule (Schedule fault) =
    (plan : Plan) × (lines : List Line) × ReadsAs text schedule plan lines × IsFirstFault plan lines fault.line fault.kind

-- the input is cut into a text and a schedule that are refused for this cause
abbrev pub IsReplayRefused : Text → Refusal → Type 0
IsReplayRefused input why = (text : Text) × (schedule : Text) × IsSplit input text schedule × IsReplayFault text schedule why

-- what the schedule leads to over the text's plan
pub record IsReplayedBy (text schedule : Text) (done : Replayed) : Type 0 where
  pub plan : Plan
  pub lines : List Line
  pub reads : ReadsAs text schedule plan lines
  pub replayed : IsReplayed plan lines done

-- the text of the replay of the input, in which each closed pass names every task that is dead at its first load and only tasks that are dead at its last, and the
-- status that tells whether a task is dead in the state at its end
pub record IsReplayOf (input : Text) (status : ℕ) (report : Text) : Type 0 where
  pub text : Text
  pub schedule : Text
  pub split : IsSplit input text schedule
  pub done : Replayed
  pub by : IsReplayedBy text schedule done
  pub names : (loads : PassLoads) → Contains by.replayed.progress.passes loads → NamesTheDead by.plan loads
  pub status_is : TellsDead (state_after by.replayed.progress.run) status
  pub report_is : report ≡ text_of done
