use Rattle.std.proofs.Common.{◌≡◌, ◌++◌, subst, sym}
use Rattle.std.specs.Prelude.{OnOk}
use Rattle.pl_core.specs.calls.Worlds.{state_of}
use Rattle.explain_tasks.specs.Places.{said_of}
use Rattle.explain_steps.specs.StepWords.{change_words}
use Rattle.explain_steps.proofs.changes.put_change.Goals as goal

pub returns-in-Ready : goal.returns-in-Ready
returns-in-Ready c =
    subst (λ o. OnOk c.put_op.result (c.put_op.new.out.items ≡ c.args.out.now.items
    ++ said_of (change_words c.args.facts.now.program.now (state_of c.args.world.now) c.args.t.0) o))
    (sym c.ready_op.ensures.next) c.put_op.ensures
