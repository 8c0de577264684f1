use Rattle.std.proofs.Common.{◌≡◌, arith, length, take}
use Rattle.std.proofs.lemmas.List.{length-take-le}
use Rattle.adaptive.proofs.Beginnings.{not_small}
use Rattle.adaptive.proofs.choice.is_left_early.Goals as goal

pub returns-then-branch : goal.returns-then-branch
returns-then-branch c told small =
    let large = c.in_ok-is_left.ensures c.if-branch.true in
    let sized : length (take c.longer.count c.args.list.now) ≡ c.longer.count = length-take-le c.longer.count c.args.list.now (let l = c.longer-test.true in omega arith) in
    not_small c.args.list.now c.longer.count large.0 large.1 large.2 (omega (arith, sized)) (let l = c.longer-test.true in omega (arith, sized)) small
