-- In the final state of a clock text's plan each task has ended as its activity stands at the ends of the machine on the text.
use Rattle.std.proofs.Common.{◌≡◌, ℕ, subst, sym}
use Rattle.std.specs.Prelude.{Ok}
use Rattle.armus_base.specs.Deadlocks.{IsHeld}
use Rattle.armus_base.specs.Plans.{Plan}
use Rattle.armus_base.specs.Runs.{IsFinal}
use Rattle.armus_base.specs.States.{State}
use Rattle.adaptive.specs.declared.analysis.Wanted.{Wanted}
use Rattle.pl_plan.proofs.VisitsLeave.{bind_ok, ok_is}
use Rattle.clock_syntax.specs.Trees.{ClockTree}
use Rattle.clock_semantics.specs.Unfolding.{ClockUnfolding, clock_plan_of, clock_unfolded, plan_of_moves}
use Rattle.clock_laws.proofs.ClockEnds.{no_task_is_held}
use Rattle.clock_laws.proofs.TextEndsTold.{text_ends_are_told}
use Rattle.command_line.specs.declared.command.RunKind.{RunKind}
use Rattle.program_io.specs.Texts.{Text}
use Rattle.armus_top.specs.Clocks.{IsClockPlanOf}
use Rattle.armus_top.specs.ClockRuns.{HasTextEnds, IsClockRunOf}
use Rattle.armus_top.specs.Runs.{IsRunOutput}

-- a program with a plan has an unfolding, whose plan it is
pub unfolding_of : (program : ClockTree) (plan : Plan) → clock_plan_of program ≡ Ok plan → (u : ClockUnfolding) × (clock_unfolded program ≡ Ok u) ×
    (plan_of_moves u ≡ plan)
unfolding clock_plan_of
unfolding_of program plan e =
    let parts = bind_ok (clock_unfolded program) (λ s. Ok (plan_of_moves s)) plan e in (parts.0, parts.1, ok_is _ _ parts.2)

text_ends : (text : Text) (plan : Plan) → IsClockPlanOf text plan → (state : State) → IsFinal plan state → HasTextEnds text state
text_ends text plan (program, reads, unfolds) state final =
    let (u, opens, plan_is) = unfolding_of program plan unfolds in
    record {
      program = program;
      reads = reads;
      unfolded = u;
      unfolds = opens;
      told = text_ends_are_told program u state opens (subst (λ q. IsFinal q state) (sym plan_is) final);
    }

unheld : (text : Text) (plan : Plan) → IsClockPlanOf text plan → (state : State) (t : ℕ) → IsFinal plan state → IsHeld state t → ⊥
unheld text plan (program, reads, unfolds) state t final held =
    let (u, opens, plan_is) = unfolding_of program plan unfolds in
    no_task_is_held program u state t opens (subst (λ q. IsFinal q state) (sym plan_is) final) held

-- what is written of a run of the text's plan
pub clock_run_of : (text : Text) (plan : Plan) (kind : RunKind) (g : Wanted) (status : ℕ) (output : Text) → IsClockPlanOf text plan
    → IsRunOutput kind plan g status output → IsClockRunOf text kind g status output
clock_run_of text plan kind g status output plan_is run =
    record { plan = plan; plan_is = plan_is; run = run; ends = text_ends text plan plan_is; unheld = unheld text plan plan_is }
