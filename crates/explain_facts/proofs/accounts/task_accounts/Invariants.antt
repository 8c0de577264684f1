use Rattle.armus_base.specs.Places.{done_by}
use Rattle.pl_core.specs.calls.Worlds.{places_of, state_of}
use Rattle.explain_facts.specs.calls.Known.{kept_layout}
use Rattle.explain_facts.specs.inside.Facts.{AreTold}
use Rattle.explain_facts.proofs.accounts.task_accounts.Given as goal

abbrev pub invariant-loop-t : goal.invariant-loop-t
invariant-loop-t l = AreTold (kept_layout l.facts) l.facts.program.now l.world.plan (state_of l.world) (done_by (places_of l.world)) l.t l.all.items
