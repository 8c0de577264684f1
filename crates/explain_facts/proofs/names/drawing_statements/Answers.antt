use Rattle.std.proofs.Common.{◌≡◌, ◌∙◌, ◌+◌, ◌++◌, suc, ap, arith}
use Rattle.std.specs.Prelude.{option_to_list}
use Rattle.armus_base.specs.Finals.{given_below}
use Rattle.source_map.specs.Origins.{drawing_statement}
use Rattle.explain_facts.proofs.names.drawing_statements.Goals as goal

pub loop-t-preserved : goal.loop-t-preserved
loop-t-preserved c =
    let f = drawing_statement c.args.origins.now.tasks in
    let t = c.loop-t.t in
    c.in_ok-push_some.ensures ∙ ap (λ o. c.loop-t.statements.items ++ option_to_list o) c.task.ensures
    ∙ ap (λ xs. xs ++ option_to_list (f t)) c.loop-t.invariant
    ∙ ap (given_below f) (let e : suc t ≡ t + 1 = omega arith in e)
