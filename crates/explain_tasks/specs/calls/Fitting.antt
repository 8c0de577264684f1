-- What the calls that speak of a plan ask: what is known fits it.
use Rattle.std.specs.Prelude.{◌≡◌, ℕ, ◌<◌, Some, length}
use Rattle.armus_base.specs.Plans.{Plan}
use Rattle.explain_facts.specs.declared.account.Forked.{Forked}
use Rattle.explain_facts.specs.declared.account.Waiting.{Waiting}
use Rattle.explain_tasks.specs.Facts.{FactsValue, forking_of, wait_of}

-- it tells how each task of the plan stands, tasks wait at its phasers, and its tasks fork
pub record FactsFitPlan (f : FactsValue) (plan : Plan) : Type 0 where
  pub sized : length f.standings ≡ length plan.parents
  pub waits : (t : ℕ) (w : Waiting) → wait_of f t ≡ Some w → w.event.p.0 < length plan.makers
  pub forkers : (t : ℕ) (x : Forked) → forking_of f t ≡ Some x → x.by.0 < length plan.parents
