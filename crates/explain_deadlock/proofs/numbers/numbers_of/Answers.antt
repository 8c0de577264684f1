use Rattle.std.proofs.Common.{◌≡◌, arith, length, subst}
use Rattle.explain_deadlock.proofs.Numbered.{AreNumbersBelow, numbers_are, one_more}
use Rattle.explain_deadlock.proofs.numbers.numbers_of.Goals as goal

pub loop-u-preserved : goal.loop-u-preserved
loop-u-preserved c =
    rw c.in_ok-push.ensures.items
    (one_more c.args.facts.now c.loop-u.u c.in_ok-note.field-0 c.loop-u.numbers.items c.loop-u.said c.note.new.self _ c.in_ok-saying.ensures c.loop-u.invariant c.in_ok-note.ensures.noted)

pub returns : goal.returns
returns c =
    let all : c.loop-u.u ≡ length c.args.facts.now.standings = omega (arith, c.loop-u-test.false, c.loop-u.auto.u-end, c.count-u-end.ensures) in
    numbers_are c.args.facts.now c.loop-u.numbers.items c.loop-u.said (subst (λ n. AreNumbersBelow c.args.facts.now n c.loop-u.numbers.items c.loop-u.said) all c.loop-u.invariant)
