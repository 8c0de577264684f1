-- What `run`, `clock` and `pool` write of a plan.
use Rattle.std.specs.Prelude.{◌≡◌, ◌++◌, ℕ, Bool, true, false, List}
use Rattle.armus_base.specs.declared.status.Dead.{Dead}
use Rattle.armus_base.specs.Finals.{final_of}
use Rattle.armus_base.specs.Plans.{Plan}
use Rattle.armus_base.specs.Runs.{IsFinal, IsMaximal, IsPlainRun, state_after}
use Rattle.armus_base.specs.States.{State, Step}
use Rattle.adaptive.specs.declared.analysis.Wanted.{Wanted}
use Rattle.report.specs.Live.{live_text}
use Rattle.report.specs.NamedDead.{AreTheDead}
use Rattle.report.specs.Reports.{IsReport}
use Rattle.command_line.specs.declared.command.RunKind.{RunKind}
use Rattle.command_line.specs.declared.command.RunKind.TheVariants.{Plain, Live, Sites}
use Rattle.program_io.specs.Texts.{Text}
use Rattle.armus_top.specs.DeadStatus.{TellsDead}

-- the report of the state in which every maximal plain run of the plan ends, and there is one; and the status that tells whether a task is dead in it
pub record IsRunOf (plan : Plan) (g : Wanted) (status : ℕ) (report : Text) : Type 0 where
  pub state : State
  pub final : IsFinal plan state
  pub every : (h : List Step) → IsPlainRun plan h → IsMaximal plan h → state_after h ≡ state
  pub status_is : TellsDead state status
  pub report_is : IsReport (final_of plan state) g report

-- that report behind live lines: one for each task that is dead in the state, each once, in any order, each with its event
pub record IsLiveRunOf (plan : Plan) (g : Wanted) (status : ℕ) (output : Text) : Type 0 where
  pub report : Text
  pub run : IsRunOf plan g status report
  pub named : List Dead
  pub named_are : AreTheDead (final_of plan run.state).blocked named
  pub output_is : output ≡ live_text named ++ report

-- what is written of a run of this kind: the report, which stands behind live lines where they are asked for
abbrev pub IsRunOutput : RunKind → Plan → Wanted → ℕ → Text → Type 0
IsRunOutput Plain plan g status text = IsRunOf plan g status text
IsRunOutput Live plan g status text = IsLiveRunOf plan g status text
IsRunOutput (Sites sites) plan g status text = IsRunOf plan g status text

-- the kind of a run without sites: with live lines, or without
abbrev pub kind_of : Bool → RunKind
kind_of true = Live
kind_of false = Plain
