use Rattle.std.proofs.Common.{◌≡◌, ◌∙◌, ap, subst, IfOk}
use Rattle.armus_base.specs.Finals.{is_awaited, statuses_on}
use Rattle.armus_base.specs.calls.StatusLists.{is_marked}
use Rattle.pl_core.specs.inside.Supposed.{with_also}
use Rattle.pl_core.specs.calls.Worlds.{state_of}
use Rattle.pl_core.proofs.Below.{statuses_same}
use Rattle.pl_core.proofs.world.World.awaited_statuses.Goals as goal

pub returns : goal.returns
returns c =
    let plan = c.args.self.now.plan in
    let s = with_also (state_of c.args.self.now) c.args.also in
    subst (λ xs. IfOk c.statuses_on.result (λ list. list ≡ xs))
    (ap (λ xs. statuses_on plan s (is_marked xs)) c.deref.ensures.value
    ∙ statuses_same plan s (is_marked c.in_ok-asked.asked.items) (is_awaited plan s) c.in_ok-asked.ensures.asked)
    c.statuses_on.ensures
