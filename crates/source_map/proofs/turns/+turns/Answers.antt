use Rattle.std.proofs.Common.{◌++◌, ◌∙◌, refl, sym, ap, arith, append-nil}
use Rattle.std.specs.List.{slice_get}
use Rattle.std.proofs.lemmas.Result.{on_ok_weaker}
use Rattle.pl_syntax.specs.calls.Bodies.{followed_by}
use Rattle.pl_syntax.specs.Tree.{done}
use Rattle.source_map.specs.Turns.{turns_of}
use Rattle.source_map.proofs.Statements.{at_fewer}
use Rattle.source_map.proofs.TurnedVisits.{none_put, ops, turn_put, turns_end, turns_here, turns_next, turns_start, turns_within}
use Rattle.source_map.proofs.turns.+turns.Goals as goal

pub put_turn-returns-in_default : goal.put_turn-returns-in_default
put_turn-returns-in_default t c = none_put c.args.k c.args.at c.args.i c.args.body.now c.args.out.now.items c.in_default.ensures

pub put_turn-returns : goal.put_turn-returns
put_turn-returns t c =
    on_ok_weaker c.put_turns.result
    (λ e. turn_put c.args.k c.args.at c.args.i c.args.body.now c.args.out.now.items c.in-Some.turn c.in-Some.inner c.push.new.self.items
    c.put_turns.new.out.items c.in-Some.ensures c.in_ok-push.ensures.items e) c.put_turns.ensures

pub put_turns-loop-stmt-init : goal.put_turns-loop-stmt-init
put_turns-loop-stmt-init t c = (refl, turns_start _ _ _ _ c.as_slice-stmt-items.ensures)

pub put_turns-seek_in_statement-requires : goal.put_turns-seek_in_statement-requires
put_turns-seek_in_statement-requires t c =
    let within = turns_within _ _ _ _ _ _ _ c.stmt-item.result c.loop-stmt-test.true c.stmt-item.is c.loop-stmt.invariant.1 in
    omega (arith, within, c.requires)

pub put_turns-put_turns_of_statement-requires : goal.put_turns-put_turns_of_statement-requires
put_turns-put_turns_of_statement-requires t c =
    let few = at_fewer _ _ _ _ _ c.stmt-item.result c.loop-stmt-test.true c.stmt-item.is c.loop-stmt.invariant.1.numbers in
    let within = turns_within _ _ _ _ _ _ _ c.stmt-item.result c.loop-stmt-test.true c.stmt-item.is c.loop-stmt.invariant.1 in
    (omega (arith, few), omega (arith, within, c.requires))

pub put_turns-returns-in-Found : goal.put_turns-returns-in-Found
put_turns-returns-in-Found t c =
    let here = turns_here _ _ _ _ _ _ _ c.stmt-item.result c.loop-stmt-test.true c.stmt-item.is c.loop-stmt.invariant.1 c.in-Found.field-0 c.in-Found.ensures in
    on_ok_weaker c.put_turns_of_statement.result (λ e. e ∙ (ap (λ xs. xs ++ turns_of (slice_get (ops c.loop-stmt.at (followed_by c.stmt-item.result done)) c.loop-stmt.left)) c.loop-stmt.invariant.0
    ∙ ap (λ o. c.args.out.now.items ++ turns_of o) (sym here))) c.put_turns_of_statement.ensures

pub put_turns-loop-stmt-preserved : goal.put_turns-loop-stmt-preserved
put_turns-loop-stmt-preserved t c = (
  c.loop-stmt.invariant.0,
  turns_next _ _ _ _ _ _ _ c.stmt-item.result c.loop-stmt-test.true c.stmt-item.is c.loop-stmt.invariant.1 c.statements_in-at.result c.in-Left.more
      c.statements_in-at.ensures c.in-Left.ensures,
)

pub put_turns-returns : goal.put_turns-returns
put_turns-returns t c =
    c.loop-stmt.invariant.0 ∙ sym (append-nil c.args.out.now.items)
    ∙ ap (λ xs. c.args.out.now.items ++ xs) (sym (turns_end _ _ _ _ _ _ _ c.loop-stmt-test.false c.loop-stmt.invariant.1))
