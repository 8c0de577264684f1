use Rattle.std.proofs.Common.{arith, sym}
use Rattle.order_graph.specs.inside.Distances.{IsListedIn}
use Rattle.order_graph.proofs.MendedLists.{never_told}
use Rattle.order_graph.proofs.mending.look.Goals as goal

pub returns : goal.returns
returns c =
    let o = c.args.order.now in
    let stretch = c.stretch-stretch.ensures.stretch in
    let listed : IsListedIn o c.args.a c.in_ok-far.far.items c.args.b = (c.requires.to, omega (arith, stretch.sized, c.in_ok-far.ensures.sized)) in
    let off = rw c.deref.ensures.value at (sym c.if-reaches.ensures) in
    let never = never_told o c.stretch-stretch.ensures.order c.args.a c.in_ok-far.far.items c.in_ok-far.ensures.tells c.args.b listed off in
    let made = rw c.deref-2.ensures.value at c.in_ok-ts.ensures in
    (never, made c.args.b c.requires.to stretch c.in_ok-far.ensures.tells never)
