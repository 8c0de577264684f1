use Rattle.std.proofs.Common.{◌≡◌, ℕ, true, false, length, get_or}
use Rattle.std.proofs.lemmas.Result.{IfOk-weaker}
use Rattle.armus_base.specs.Relations.{IsWalkCycle}
use Rattle.digraph.specs.inside.NextTables.{AreNext}
use Rattle.digraph.proofs.NextTables.{walk_by_table}
use Rattle.verdict.specs.inside.DeadWalks.{IsNextDead, GoesToNextDead}
use Rattle.verdict.proofs.walk.walk_dead.Goals as goal

pub returns : goal.returns
returns c =
    let d = c.args.deps.now in
    let flags = c.args.flags.now in
    let n : ℕ = length d.tasks in
    let table : AreNext (GoesToNextDead d flags) n n c.in_ok-next.next.items = rw c.requires.walkable.sized at c.in_ok-next.ensures in
    IfOk-weaker c.walk_cycle.result (λ v. IsWalkCycle (λ a b. b ≡ get_or c.deref.result.now a 0) c.args.start v.items) (λ v. IsWalkCycle (IsNextDead d flags) c.args.start v.items)
    (λ v w. walk_by_table (GoesToNextDead d flags) (IsNextDead d flags) (λ a. get_or flags a false ≡ true) (λ a b dead step. (step dead, (step dead).marked)) n
    c.in_ok-next.next.items c.args.start v.items table c.requires.start c.requires.dead (rw c.deref.ensures.value at w))
    c.walk_cycle.ensures
