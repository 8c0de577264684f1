use Rattle.std.proofs.Common.{◌++◌, sym, ap, ◌∙◌, arith}
use Rattle.pl_syntax.specs.Tree.{done}
use Rattle.pl_syntax.specs.calls.Bodies.{followed_by}
use Rattle.pl_syntax.specs.Printed.{printed_at}
use Rattle.pl_syntax.proofs.Lines.{on_ok, fork_lines, named_line, starts, fits, goes, ends_text, ends_names}
use Rattle.pl_syntax.proofs.printer.+print.Goals as goal

pub put_statement-returns-in-NewTask-clause-text : goal.put_statement-returns-in-NewTask-clause-text
put_statement-returns-in-NewTask-clause-text t c =
    on_ok c.put_named.result c.put_named.ensures.text
    (λ e. named_line c.args.depth c.in-NewTask.x c.args.out.now.items c.put_named.new.out.items e ∙
    ap (λ q. c.args.out.now.items ++ printed_at c.args.depth (followed_by q done)) (sym c.in-NewTask.is))

pub put_statement-returns-in_ok-put_body-in-Fork-clause-text : goal.put_statement-returns-in_ok-put_body-in-Fork-clause-text
put_statement-returns-in_ok-put_body-in-Fork-clause-text t c =
    on_ok c.put_text-in-Fork.result c.put_text-in-Fork.ensures
    (λ e. fork_lines c.args.depth c.in-Fork.x _ c.args.out.now.items _ _ _ c.in_ok-put_named-in-Fork.ensures.text c.in_ok-put_body-in-Fork.ensures.text e
    ∙ ap (λ q. c.args.out.now.items ++ printed_at c.args.depth (followed_by q done)) (sym c.in-Fork.is))

pub put_body-put_statement-requires : goal.put_body-put_statement-requires
put_body-put_statement-requires t c =
    let d = fits _ _ _ _ _ _ c.loop-stmt.invariant c.stmt-item.result c.loop-stmt-test.true c.stmt-item.is in
    (omega arith, d)

pub put_body-loop-stmt-init : goal.put_body-loop-stmt-init
put_body-loop-stmt-init t c = starts _ _ _ _ c.as_slice-stmt-items.ensures c.requires

pub put_body-loop-stmt-preserved : goal.put_body-loop-stmt-preserved
put_body-loop-stmt-preserved t c =
    goes _ _ _ _ _ _ c.loop-stmt.invariant c.stmt-item.result c.loop-stmt-test.true c.stmt-item.is _ c.in_ok-put_statement.ensures.text c.in_ok-put_statement.ensures.form

pub put_body-returns-clause-text : goal.put_body-returns-clause-text
put_body-returns-clause-text t c = ends_text _ _ _ _ _ _ c.loop-stmt.invariant c.loop-stmt-test.false

pub put_body-returns-clause-form : goal.put_body-returns-clause-form
put_body-returns-clause-form t c = ends_names _ _ _ _ _ _ c.loop-stmt.invariant c.loop-stmt-test.false
