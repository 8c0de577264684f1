use Rattle.std.proofs.Common.{arith, ap, ◌∙◌}
use Rattle.std.specs.List.{flat_map}
use Rattle.std.proofs.lemmas.List.{take_all}
use Rattle.source_map.specs.Origins.{statements_where}
use Rattle.source_map.specs.inside.Tables.{makes_it, visits_by_fork}
use Rattle.source_map.proofs.TasksVisits.{all_found}
use Rattle.source_map.proofs.lookup.made_by_all.Goals as goal

pub returns : goal.returns
returns c =
    let h = c.loop-fork-test.false in
    c.loop-fork.invariant
    ∙ ap (flat_map (λ fork. statements_where (makes_it c.args.made) (visits_by_fork c.args.program.now fork)))
    (take_all c.loop-fork.fork-index c.args.forks.now (omega (arith, h)))
    ∙ all_found c.args.program.now (makes_it c.args.made) c.args.forks.now c.requires.forks
