use Rattle.std.proofs.Common.{◌≡◌, ◌++◌, subst, sym}
use Rattle.std.specs.Prelude.{OnOk}
use Rattle.pl_core.specs.calls.Worlds.{state_of}
use Rattle.explain_tasks.specs.Places.{said_of}
use Rattle.explain_steps.specs.ClockStepWords.{clock_change_words}
use Rattle.explain_steps.proofs.clock_facts.ClockOpFacts.put_change.Goals as goal

pub returns-in-Ready : goal.returns-in-Ready
returns-in-Ready c =
    subst (λ o. OnOk c.put_op.result (c.put_op.new.out.items ≡ c.args.out.now.items
    ++ said_of (clock_change_words c.args.self.now.of_text (state_of c.args.world.now) c.args.t.0 c.args.origin) o))
    (sym c.ready_op.ensures.next) c.put_op.ensures
