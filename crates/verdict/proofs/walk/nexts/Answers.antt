use Rattle.std.proofs.Common.{◌≡◌, length, arith, subst}
use Rattle.digraph.specs.inside.NextTables.{AreNext}
use Rattle.digraph.proofs.NextTables.{next_more}
use Rattle.verdict.specs.inside.DeadWalks.{GoesToNextDead}
use Rattle.verdict.proofs.walk.nexts.Goals as goal

pub loop-k-preserved : goal.loop-k-preserved
loop-k-preserved c =
    rw c.in_ok-push.ensures.items
    (next_more _ (length c.args.deps.now.tasks) c.loop-k.k c.loop-k.next.items c.next_dead.result c.loop-k.invariant c.next_dead.ensures.inside c.next_dead.ensures.step)

pub returns : goal.returns
returns c =
    let all : c.loop-k.k ≡ length c.args.flags.now = omega (arith, c.loop-k-test.false, c.loop-k.auto.k-end) in
    subst (λ n. AreNext (GoesToNextDead c.args.deps.now c.args.flags.now) (length c.args.deps.now.tasks) n c.loop-k.next.items) all c.loop-k.invariant
