-- The table of commands: how long an input may be, which inputs are refused and with which line, and what is answered.
-- A command joins by a case of each definition; the headline does not change.
use Rattle.std.specs.Prelude.{◌≡◌, ℕ, Bool, true, false, Option, Some, None}
use Rattle.armus_base.specs.Plans.{Plan}
use Rattle.pl_syntax.specs.declared.tree.Program.{Program}
use Rattle.pl_syntax.specs.Printed.{printed_of}
use Rattle.adaptive.specs.declared.analysis.Wanted.{Wanted}
use Rattle.adaptive.specs.declared.analysis.Wanted.TheVariants as wanted
use Rattle.report.specs.Refusals.{refusal_text}
use Rattle.report.specs.declared.refusal.Refusal.{Refusal}
use Rattle.report.specs.declared.refusal.Refusal.TheVariants as refusal
use Rattle.command_line.specs.declared.command.Graph.{Graph}
use Rattle.command_line.specs.declared.command.Graph.TheVariants as graph
use Rattle.command_line.specs.declared.command.Command.{Command}
use Rattle.command_line.specs.declared.command.Command.TheVariants.{Check, Run, Avoid, Record, Replay, Gen, Clock, Pool}
use Rattle.command_line.specs.declared.command.RunKind.{RunKind}
use Rattle.command_line.specs.declared.command.RunKind.TheVariants.{Plain, Live, Sites}
use Rattle.program_io.specs.Texts.{Text}
use Rattle.armus_top.specs.Texts.{plan_line}
use Rattle.program_io.specs.Programs.{IsChecked, IsFaultOf, IsPlanOf}
use Rattle.armus_top.specs.Clocks.{IsClockRefused}
use Rattle.armus_top.specs.ClockRuns.{IsClockRunOf}
use Rattle.armus_top.specs.Avoids.{IsAvoidOf}
use Rattle.armus_top.specs.Generated.{IsGenOf}
use Rattle.armus_top.specs.Records.{IsRecordOf}
use Rattle.armus_top.specs.Replays.{IsReplayOf, IsReplayRefused}
use Rattle.armus_top.specs.Runs.{IsRunOf, IsRunOutput, kind_of}
use Rattle.program_io.specs.declared.text_limit.TheConstants.{MAX_TEXT_BYTES}
use Rattle.armus_top.specs.declared.replaying.TheConstants.{MAX_REPLAY_BYTES}

-- the most bytes of an input, where the command reads one
abbrev pub limit_of : Command → Option ℕ
limit_of (Check print) = Some MAX_TEXT_BYTES
limit_of (Run workers g kind) = Some MAX_TEXT_BYTES
limit_of (Avoid workers g kept) = Some MAX_TEXT_BYTES
limit_of (Record workers) = Some MAX_TEXT_BYTES
limit_of Replay = Some MAX_REPLAY_BYTES
limit_of (Gen count) = None
limit_of (Clock workers g live) = Some MAX_TEXT_BYTES
limit_of (Pool workers g) = Some MAX_TEXT_BYTES

-- the run writes live lines
abbrev pub is_live : RunKind → Bool
is_live Plain = false
is_live Live = true
is_live (Sites sites) = false

-- the command writes lines while it runs
abbrev pub writes_live : Command → Bool
writes_live (Check print) = false
writes_live (Run workers g kind) = is_live kind
writes_live (Avoid workers g kept) = false
writes_live (Record workers) = false
writes_live Replay = false
writes_live (Gen count) = false
writes_live (Clock workers g live) = live
writes_live (Pool workers g) = false

-- the line with which a longer input is refused
abbrev pub length_line : Command → Text
length_line c = refusal_text refusal.Length

-- an input is refused for one of these causes, with its line
abbrev pub IsRefusedFor : (Refusal → Type 0) → Text → Type 0
IsRefusedFor IsWhy text = (why : Refusal) × IsWhy why × (text ≡ refusal_text why)

-- the command refuses this input, with this line; one that reads nothing refuses nothing
abbrev pub IsRefusedInput : Command → Text → Text → Type 0
IsRefusedInput (Check print) input text = IsRefusedFor (IsFaultOf input) text
IsRefusedInput (Run workers g kind) input text = IsRefusedFor (IsFaultOf input) text
IsRefusedInput (Avoid workers g kept) input text = IsRefusedFor (IsFaultOf input) text
IsRefusedInput (Record workers) input text = IsRefusedFor (IsFaultOf input) text
IsRefusedInput Replay input text = IsRefusedFor (IsReplayRefused input) text
IsRefusedInput (Gen count) input text = ⊥
IsRefusedInput (Clock workers g live) input text = IsClockRefused input text
IsRefusedInput (Pool workers g) input text = IsRefusedFor (IsFaultOf input) text

-- the graph that the words want, for the report
abbrev pub wanted_of : Graph → Wanted
wanted_of graph.Auto = wanted.Auto
wanted_of graph.Wfg = wanted.Wfg
wanted_of graph.Sg = wanted.Sg
wanted_of graph.Grg = wanted.Grg

-- the command accepts this input, and may end with this status, 0 or 1, and this whole output
abbrev pub IsAnswered : Command → Text → ℕ → Text → Type 0
IsAnswered (Check false) input status text = (plan : Plan) × IsPlanOf input plan × (status ≡ 0) × (text ≡ plan_line plan)
IsAnswered (Check true) input status text = (plan : Plan) × (program : Program) × IsChecked input program plan × (status ≡ 0) × (text ≡ printed_of program)
IsAnswered (Run workers g kind) input status text = (plan : Plan) × IsPlanOf input plan × IsRunOutput kind plan (wanted_of g) status text
IsAnswered (Avoid workers g kept) input status text = IsAvoidOf input workers (wanted_of g) status text
IsAnswered (Record workers) input status text = IsRecordOf input status text
IsAnswered Replay input status text = IsReplayOf input status text
IsAnswered (Gen count) input status text = IsGenOf count status text
IsAnswered (Clock workers g live) input status text = IsClockRunOf input (kind_of live) (wanted_of g) status text
IsAnswered (Pool workers g) input status text = (plan : Plan) × IsPlanOf input plan × IsRunOf plan (wanted_of g) status text
