use Rattle.std.proofs.Common.{◌∙◌, ◌++◌, ◌∷◌, [], ap, map, sym, take, List, ℕ}
use Rattle.std.proofs.lemmas.List.{map_more, take_all}
use Rattle.source_map.specs.Origins.{statement_in}
use Rattle.explain_facts.specs.Names.{given_name}
use Rattle.explain_facts.specs.inside.Spelled.{spellings}
use Rattle.explain_facts.proofs.NamesSeen.{spelled_push}
use Rattle.explain_facts.proofs.names.names_given.Goals as goal

pub loop-n-preserved : goal.loop-n-preserved
loop-n-preserved c =
    let f : ℕ → List ℕ = λ n. given_name (statement_in c.args.origins.now.statements n) in
    let done = map f (take c.loop-n.n-index c.args.statements.now) in
    ap spellings c.in_ok-push.ensures.items
    ∙ spelled_push c.loop-n.names.items c.given_name.result
    ∙ ap (λ xs. xs ++ c.given_name.result.now ∷ []) c.loop-n.invariant
    ∙ ap (λ x. done ++ x ∷ []) (c.given_name.ensures ∙ ap given_name c.statement.ensures)
    ∙ sym (map_more f c.args.statements.now c.loop-n.n-index 0 c.loop-n-test.true)

pub returns : goal.returns
returns c =
    let f : ℕ → List ℕ = λ n. given_name (statement_in c.args.origins.now.statements n) in
    c.loop-n.invariant ∙ ap (map f) (take_all c.loop-n.n-index c.args.statements.now c.loop-n-test.false)
