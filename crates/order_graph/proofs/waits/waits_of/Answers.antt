use Rattle.std.proofs.Common.{subst, sym, ◌<◌}
use Rattle.std.specs.Prelude.{All}
use Rattle.armus_base.specs.declared.ids.TaskId.{TaskId}
use Rattle.order_graph.proofs.WaitSets.{waits_among, waits_pairs}
use Rattle.order_graph.proofs.waits.waits_of.Goals as goal

pub returns-clause-among : goal.returns-clause-among
returns-clause-among c =
    waits_among c.args.deps.now c.sets_of.ensures.formed (record { sets = c.in_ok-sets.sets; own = c.in_ok-own.own }) c.in_ok-sets.ensures.sets c.in_ok-own.ensures.own
    c.args.tasks c.in_ok-own.ensures.sized c.requires

pub returns-clause-pairs : goal.returns-clause-pairs
returns-clause-pairs c ss ok is =
    waits_pairs c.args.deps.now c.sets_of.ensures.formed (record { sets = c.in_ok-sets.sets; own = c.in_ok-own.own }) c.in_ok-sets.ensures.sets c.in_ok-own.ensures.own
    ss ok is (subst (λ n. All (λ (t : TaskId). t.0 < n) c.args.deps.now.tasks) (sym c.in_ok-own.ensures.sized) c.requires)
