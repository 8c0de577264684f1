use Rattle.std.proofs.Common.{◌-◌, ◌*◌, ◌<◌, ◌≤◌, ◌∙◌, ap, subst, arith}
use Rattle.source_map.proofs.TurnedVisits.{in_first_turn, in_later_turn, in_no_turn}
use Rattle.source_map.proofs.turns.place_in_turns.Goals as goal

pub returns-in-Found : goal.returns-in-Found
returns-in-Found c = in_first_turn c.args.k c.args.n c.args.i c.args.body.now c.in-Found.field-0 c.if-k-eq0.false c.in-Found.ensures

pub returns-then-from : goal.returns-then-from
returns-then-from c =
    let all = ap (λ m. m * c.from-in-Left-2.result) c.from-in-Left.ensures ∙ ap (λ m. c.args.k * m) c.from-in-Left-2.ensures in
    let below = subst (λ m. m < c.args.k * (c.args.i - c.in-Left.left)) c.from.ensures (subst (λ m. c.from.result < m) all c.if-from.true) in
    in_later_turn c.args.k c.args.n c.args.i c.args.body.now c.in-Left.left c.in-Left.ensures below

pub returns-else-from : goal.returns-else-from
returns-else-from c =
    let all = ap (λ m. m * c.from-in-Left-2.result) c.from-in-Left.ensures ∙ ap (λ m. c.args.k * m) c.from-in-Left-2.ensures in
    let past = subst (λ m. m ≤ c.args.i) all (let h = c.if-from.false in omega (arith, h, c.from.ensures)) in
    in_no_turn c.args.k c.args.n c.args.i c.args.body.now c.in-Left.left c.in-Left.ensures past
