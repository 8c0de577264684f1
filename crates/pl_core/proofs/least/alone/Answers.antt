use Rattle.std.proofs.Common.{◌∙◌, subst}
use Rattle.pl_core.specs.inside.LeastPhases.{IsAtMost}
use Rattle.pl_core.proofs.LeastMembers.{alone_bound, alone_none}
use Rattle.pl_core.proofs.least.alone.Goals as goal

pub returns-in-Some : goal.returns-in-Some
returns-in-Some c = λ f k there inside others. (
  inside,
  there ∙ c.in-Some.is,
  alone_bound f k c.args.at c.in-Some.phase (there ∙ c.in-Some.is) (λ u m l n e. subst (λ o. IsAtMost o m) c.in-Some.is (others u m l n e).0),
  λ u m l n e. (others u m l n e).1,
)

pub returns-in-None : goal.returns-in-None
returns-in-None c = λ f k there inside others.
    alone_none f k c.args.at (there ∙ c.in-None.is) (λ u m l n e. subst (λ o. IsAtMost o m) c.in-None.is (others u m l n e).0)
