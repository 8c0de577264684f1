use Rattle.std.proofs.Common.{subst, sym}
use Rattle.std.specs.Prelude.{Contains}
use Rattle.avoider.proofs.step.death_of.Goals as goal

pub returns : goal.returns
returns c =
    λ by.
    c.in-None.ensures (subst (λ ts. Contains ts c.args.t) (sym c.as_slice-dead.ensures.items) ((c.in_ok-dead.ensures.exact c.args.t).1 by))
