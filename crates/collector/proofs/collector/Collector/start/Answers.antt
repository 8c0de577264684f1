use Rattle.std.proofs.Common.{◌∙◌, List, Bool, ap}
use Rattle.collector.specs.calls.Passes.{was_named}
use Rattle.collector.proofs.Fresh.{nobody_named}
use Rattle.collector.proofs.collector.Collector.start.Goals as goal

pub returns-clause-nobody : goal.returns-clause-nobody
returns-clause-nobody c =
    λ t. ap (λ (xs : List Bool). was_named xs t) (c.in_ok-vec.ensures.items_if_clones_equal (λ y e. e)) ∙ nobody_named c.tasks-tasks.result t
