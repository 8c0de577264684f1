use Rattle.std.proofs.Common.{Bool, List, refl, subst, sym}
use Rattle.armus_base.specs.declared.ids.TaskId.{TaskId}
use Rattle.armus_base.specs.DeadLists.{IsDeadList}
use Rattle.dep_state.specs.calls.Picks.{IsPick}
use Rattle.adaptive.proofs.RemainingDead.{remaining_are_dead}
use Rattle.adaptive.proofs.dead.dead_of.Goals as goal

pub returns : goal.returns
returns c =
    let ss = c.args.list.now in
    let remains = c.take_round.new.self.remains.items in
    let tasks = c.in_ok-tasks.tasks.items in
    let dead = c.in_ok-dead.dead.items in
    let picks = subst (λ (ts : List TaskId). IsPick ts remains dead) c.deref-3.ensures.value
    (subst (λ (flags : List Bool). IsPick c.deref-3.result.now flags dead) c.deref-4.ensures.value c.in_ok-dead.ensures) in
    subst (λ ts. IsDeadList ss ts) (sym c.from_vec.ensures.items)
    (remaining_are_dead ss c.requires remains c.rounds-test.ensures.kept.remaining (c.rounds-test.ensures.quiet refl) tasks dead c.in_ok-tasks.ensures picks)
