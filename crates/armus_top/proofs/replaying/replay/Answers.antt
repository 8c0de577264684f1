use Rattle.std.proofs.Common.{arith, subst, sym}
use Rattle.armus_base.specs.Runs.{state_after}
use Rattle.schedule.proofs.PassesNameTheDead.{passes_name_the_dead}
use Rattle.schedule.proofs.Within.{split_within}
use Rattle.armus_top.specs.DeadStatus.{TellsDead}
use Rattle.program_io.proofs.OnePlan.{checked_plan}
use Rattle.armus_top.proofs.ReplayInputs.{list_tells}
use Rattle.armus_top.proofs.replaying.replay.Goals as goal

pub replayed_in-requires : goal.replayed_in-requires
replayed_in-requires c =
    let within = split_within c.args.input.now c.split_input.result.0.now c.split_input.result.1.now c.split_input.ensures.split in
    let short = c.requires.short in
    record { short = omega arith }

pub returns-clause-answer : goal.returns-clause-answer
returns-clause-answer c =
    let by = c.in_ok-done.ensures.done in
    record {
      text = c.split_input.result.0.now;
      schedule = c.split_input.result.1.now;
      split = c.split_input.ensures.split;
      done = c.in_ok-done.done;
      by = by;
      names = λ loads closed. passes_name_the_dead by.plan by.lines by.replayed.progress loads
          (checked_plan c.split_input.result.0.now by.plan by.reads.plan_is) by.replayed.leads closed;
      status_is = subst (λ n. TellsDead (state_after by.replayed.progress.run) n) (sym c.status_of.ensures)
          (list_tells (state_after by.replayed.progress.run) c.in_ok-done.done.dead c.has_dead.result by.replayed.dead c.has_dead.ensures);
      report_is = c.in_ok-text.ensures.text;
    }
