use Rattle.std.proofs.Common.{◌≡◌, ◌-◌, ◌<◌, ap, drop, get_or, length, subst, take, ◌∙◌, List}
use Rattle.std.specs.Prelude.{Contains}
use Rattle.armus_base.specs.declared.ids.TaskId.{TaskId}
use Rattle.verdict.specs.calls.Cycles.{HaveEvents}
use Rattle.avoider.specs.calls.Decisions.{supposed_statuses}
use Rattle.avoider.proofs.Walked.{awaits_on, in_drop, outcome, rest_of_list}
use Rattle.avoider.proofs.walking.told_by_walks.Goals as goal
use Rattle.avoider.proofs.walking.told_by_walks.Goals.{After-deref-in-Some}

module _ (c : After-deref-in-Some) where
  -- the walk stands where it has been
  there : (c.in-Some.k < length c.loop.walk.path.items) × ((d : TaskId) → get_or c.loop.walk.path.items c.in-Some.k d ≡ c.loop.walk.at)
  there =
      subst (λ (xs : List TaskId). (c.in-Some.k < length xs) × ((d : TaskId) → get_or xs c.in-Some.k d ≡ c.loop.walk.at)) c.deref.ensures.value
      (rw c.in-Some.is at c.place_in.ensures)

  -- what is handed on is its path from there
  whole : take (length c.deref-in-Some.result.now - c.in-Some.k) (drop c.in-Some.k c.deref-in-Some.result.now) ≡ drop c.in-Some.k c.loop.walk.path.items
  whole = rest_of_list c.deref-in-Some.result.now c.in-Some.k ∙ ap (λ xs. drop c.in-Some.k xs) c.deref-in-Some.ensures.value

pub cycle_of-requires-clause-awaiting : goal.cycle_of-requires-clause-awaiting
cycle_of-requires-clause-awaiting c u m =
    let at = (goal.at.cycle_of-requires-clause-awaiting c).After-deref-in-Some in
    let on = c.loop.invariant in
    let path = c.loop.walk.path.items in
    let k = c.in-Some.k in
    awaits_on (supposed_statuses c.args.world.now c.args.t.0 c.args.event) on.start path c.loop.walk.at on.walk k (there at).0 (there at).1 u
    (in_drop path k u (subst (λ (xs : List TaskId). Contains xs u) (whole at) m))

pub returns-in-Some : goal.returns-in-Some
returns-in-Some c =
    let at = (goal.at.returns-in-Some c).After-deref-in-Some in
    let w = c.args.world.now in
    let given = c.plan-plan.ensures in
    let made = c.in_ok-cycle.ensures in
    outcome w given.checked given.reachable c.args.t.0 c.requires.task c.args.event c.requires.before c.requires.nobody c.loop.walk c.loop.invariant c.in-Some.k
    (there at).0 (there at).1 c.in_ok-cycle.cycle (made.0 ∙ whole at)
    (subst (λ (xs : List TaskId). HaveEvents (supposed_statuses w c.args.t.0 c.args.event) xs c.in_ok-cycle.cycle.events) (whole at) made.1)
