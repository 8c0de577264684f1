use Rattle.std.proofs.Common.{◌≡◌, None, Some, subst, sym}
use Rattle.std.specs.Prelude.{MatchOption}
use Rattle.source_map.specs.inside.Tables.{kept_comings, forked_body}
use Rattle.source_map.proofs.ByNumber.{body_is, found_body, no_body}
use Rattle.source_map.proofs.bodies.body_at.Goals as goal

pub returns-in_err-statement_at : goal.returns-in_err-statement_at
returns-in_err-statement_at c =
    subst (λ o. MatchOption o (forked_body c.args.program.now.body c.args.fork ≡ None) (λ b. forked_body c.args.program.now.body c.args.fork ≡ Some b.now))
    (sym c.from_residual.ensures)
    (no_body c.args.program.now.body (kept_comings c.args.statements.now) c.args.fork c.if-fork-eq0.false c.requires c.in_err-statement_at.ensures)

pub returns : goal.returns
returns c =
    found_body c.body_of.result _
    (body_is c.args.program.now.body (kept_comings c.args.statements.now) c.args.fork _ _ c.if-fork-eq0.false c.requires c.in_ok-statement_at.ensures
    c.body_of.ensures)
