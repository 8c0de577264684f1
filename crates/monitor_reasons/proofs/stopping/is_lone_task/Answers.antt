use Rattle.std.proofs.Common.{◌==◌, ◌∙◌, ap, ℕ, List}
use Rattle.std.specs.List.{list_any}
use Rattle.monitor_reasons.proofs.stopping.is_lone_task.Goals as goal

pub returns : goal.returns
returns c = c.contains.ensures.value ∙ ap (λ (ks : List ℕ). list_any (λ k. k == c.args.number) ks) c.lone_task.ensures
