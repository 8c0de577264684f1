use Rattle.std.proofs.Common.{◌∙◌, ap, length}
use Rattle.armus_base.specs.Finals.{end_of, list_below}
use Rattle.pl_core.specs.calls.Worlds.{state_of}
use Rattle.pl_core.proofs.world.World.finish.Goals as goal

pub returns-clause-end : goal.returns-clause-end
returns-clause-end c =
    let plan = c.args.self.now.plan in
    let s = state_of c.args.self.now in
    let ends = c.from_vec.ensures.items ∙ c.in_ok-ends.ensures.ends in
    ap (λ e. record { ends = e; blocked = c.in_ok-blocked.blocked }) ends ∙
    ap (λ b. record { ends = list_below (end_of s) (length plan.parents); blocked = b }) c.in_ok-blocked.ensures
