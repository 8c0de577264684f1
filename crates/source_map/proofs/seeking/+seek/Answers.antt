use Rattle.std.proofs.Common.{◌≡◌, ◌-◌, ◌*◌, ◌<◌, ◌≤◌, ◌∷◌, arith, ◌∙◌, sym, ap, subst}
use Rattle.armus_base.specs.Pieces.{times}
use Rattle.pl_syntax.specs.declared.tree.Stmt.{Stmt}
use Rattle.pl_syntax.specs.calls.Bodies.{followed_by}
use Rattle.pl_syntax.specs.Tree.{done}
use Rattle.pl_plan.specs.Unfolding.{a_turn, visit, visits_of}
use Rattle.source_map.specs.Origins.{comes_to_op, statements_where}
use Rattle.source_map.specs.inside.Seeking.{IsSought}
use Rattle.source_map.specs.declared.seeking.Sought.TheVariants.{Left}
use Rattle.source_map.proofs.Sought.{first_turn, later_turn, no_such_turn, sought_end, sought_here, sought_loop, sought_next, sought_start, sought_within}
use Rattle.source_map.proofs.Statements.{at_fewer}
use Rattle.source_map.proofs.seeking.+seek.Goals as goal

pub seek_in_body-loop-stmt-init : goal.seek_in_body-loop-stmt-init
seek_in_body-loop-stmt-init t c = sought_start _ _ _ _ c.as_slice-stmt-items.ensures

pub seek_in_body-seek_in_statement-requires : goal.seek_in_body-seek_in_statement-requires
seek_in_body-seek_in_statement-requires t c =
    let few = at_fewer _ _ _ _ _ c.stmt-item.result c.loop-stmt-test.true c.stmt-item.is c.loop-stmt.invariant.numbers in
    let within = sought_within _ _ _ _ _ _ _ c.stmt-item.result c.loop-stmt-test.true c.stmt-item.is c.loop-stmt.invariant in
    (omega (arith, few), omega (arith, within, c.requires))

pub seek_in_body-returns-in-Found : goal.seek_in_body-returns-in-Found
seek_in_body-returns-in-Found t c =
    sought_here _ _ _ _ _ _ _ c.stmt-item.result c.loop-stmt-test.true c.stmt-item.is c.loop-stmt.invariant c.in-Found.s c.in-Found.ensures

pub seek_in_body-loop-stmt-preserved : goal.seek_in_body-loop-stmt-preserved
seek_in_body-loop-stmt-preserved t c =
    sought_next _ _ _ _ _ _ _ c.stmt-item.result c.loop-stmt-test.true c.stmt-item.is c.loop-stmt.invariant c.statements_in-at.result c.in-Left.more
    c.statements_in-at.ensures c.in-Left.ensures

pub seek_in_body-returns : goal.seek_in_body-returns
seek_in_body-returns t c = sought_end _ _ _ _ _ _ _ c.loop-stmt-test.false c.loop-stmt.invariant

pub seek_in_statement-returns-in-Loop : goal.seek_in_statement-returns-in-Loop
seek_in_statement-returns-in-Loop t c =
    subst (λ (q : Stmt). IsSought (statements_where comes_to_op (visits_of c.args.n (followed_by q done))) c.args.i c.seek_in_turns.result) (sym c.in-Loop.is)
    (sought_loop c.in-Loop.k c.args.n c.args.i c.in-Loop.body c.seek_in_turns.result (c.seek_in_turns.ensures c.args.n))

pub seek_in_turns-returns-in-Found : goal.seek_in_turns-returns-in-Found
seek_in_turns-returns-in-Found t c = λ at. first_turn c.args.body.now c.args.n at c.args.k c.args.i c.in-Found.s c.if-k-eq0.false c.in-Found.ensures

pub seek_in_turns-returns-then-from-all : goal.seek_in_turns-returns-then-from-all
seek_in_turns-returns-then-from-all t c = λ at.
    let all = ap (λ m. m * c.from-in-Left.result) c.from.ensures ∙ ap (λ m. c.args.k * m) c.from-in-Left.ensures in
    let below = subst (λ m. m < c.args.k * (c.args.i - c.in-Left.left)) c.from-in-Left-2.ensures (subst (λ m. c.from-in-Left-2.result < m) all c.if-from-all.true) in
    later_turn c.args.body.now c.args.n at c.args.k c.args.i c.in-Left.left c.in-Left.ensures c.seek_in_body-then-from-all.result below
    c.seek_in_body-then-from-all.ensures

pub seek_in_turns-returns-else-from-all : goal.seek_in_turns-returns-else-from-all
seek_in_turns-returns-else-from-all t c = λ at.
    let all = ap (λ m. m * c.from-in-Left.result) c.from.ensures ∙ ap (λ m. c.args.k * m) c.from-in-Left.ensures in
    let is : c.from-else-from-all.result - c.from.result * c.from-in-Left.result ≡ c.args.i - c.args.k * (c.args.i - c.in-Left.left) =
    ap (λ m. m - c.from.result * c.from-in-Left.result) c.from-else-from-all.ensures ∙ ap (λ m. c.args.i - m) all in
    let past : c.args.k * (c.args.i - c.in-Left.left) ≤ c.args.i =
    subst (λ m. m ≤ c.args.i) all (let h = c.if-from-all.false in omega (arith, h, c.from-in-Left-2.ensures)) in
    subst (λ m. IsSought (statements_where comes_to_op (times c.args.k (visit at a_turn ∷ visits_of c.args.n c.args.body.now))) c.args.i (Left m)) (sym is)
    (no_such_turn c.args.body.now c.args.n at c.args.k c.args.i c.in-Left.left c.in-Left.ensures past)
