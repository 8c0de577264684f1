use Rattle.std.proofs.Common.{◌≡◌, [], ◌∷◌, Ok, sym, subst, ap, ◌∙◌}
use Rattle.pl_syntax.specs.Grammar.{scan_of}
use Rattle.pl_syntax.specs.Tokens.{front, place}
use Rattle.pl_syntax.specs.inside.Seen.{token_of}
use Rattle.pl_syntax.proofs.Fronts.{further}
use Rattle.explain_syntax.specs.Stands.{first_as_name}
use Rattle.explain_syntax.specs.inside.OpenBraces.{braces_after}
use Rattle.explain_syntax.proofs.Reaching.{OnTheWay, arrives_so, next_token, not_end, on_first, on_more}
use Rattle.explain_syntax.proofs.walk.stand_behind.Goals as goal

pub loop-behind-init : goal.loop-behind-init
loop-behind-init c = on_first c.args.text.now c.args.two c.args.body.now c.args.at c.new-braces.result.items c.new-braces.ensures.items c.requires.within c.requires.header

pub place-requires-clause-within : goal.place-requires-clause-within
place-requires-clause-within c = rw c.scan_of-scan.ensures c.loop-behind.invariant.fits

pub token_at-requires-clause-within : goal.token_at-requires-clause-within
token_at-requires-clause-within c = rw c.scan_of-scan.ensures c.loop-behind.invariant.fits

pub token_at-requires-clause-some : goal.token_at-requires-clause-some
token_at-requires-clause-some c =
    let rest = c.loop-behind.rest.now in
    let next = next_token c.args.text.now c.args.two c.args.body.now c.args.at rest c.loop-behind.shapes.now c.loop-behind.braces.items c.loop-behind.behind
    c.loop-behind.invariant c.requires.comes (λ e. c.loop-behind-test.true (c.place.ensures ∙ (ap (λ s. place s rest) c.scan_of-scan.ensures ∙ e))) in
    (next.0, next.1, ap (λ s. front s rest) c.scan_of-scan.ensures ∙ next.2)

pub place-requires-in-loop-behind-clause-within : goal.place-requires-in-loop-behind-clause-within
place-requires-in-loop-behind-clause-within c = rw c.scan_of-scan.ensures c.loop-behind.invariant.fits

pub loop-behind-smaller : goal.loop-behind-smaller
loop-behind-smaller c =
    let rest = c.loop-behind.rest.now in
    let token = token_of c.token_at.result.0 in
    let here : front (scan_of c.args.two c.args.text.now) rest ≡ Ok (token, c.token_at.result.1.now) =
    ap (λ s. front s rest) (sym c.scan_of-scan.ensures) ∙ c.token_at.ensures.exact in
    further (scan_of c.args.two c.args.text.now) rest token c.token_at.result.1.now here
    (not_end c.args.text.now c.args.two c.args.body.now c.args.at rest c.loop-behind.shapes.now c.loop-behind.braces.items c.loop-behind.behind
    c.loop-behind.invariant c.requires.comes (λ e. c.loop-behind-test.true (c.place.ensures ∙ (ap (λ s. place s rest) c.scan_of-scan.ensures ∙ e))) token
    c.token_at.result.1.now here)

pub loop-behind-preserved : goal.loop-behind-preserved
loop-behind-preserved c =
    let text = c.args.text.now in
    let two = c.args.two in
    let rest = c.loop-behind.rest.now in
    let after = c.token_at.result.1.now in
    let token = token_of c.token_at.result.0 in
    let here : front (scan_of two text) rest ≡ Ok (token, after) = ap (λ s. front s rest) (sym c.scan_of-scan.ensures) ∙ c.token_at.ensures.exact in
    let on = on_more text two c.args.body.now c.args.at rest c.loop-behind.shapes.now c.loop-behind.braces.items c.loop-behind.behind
    c.loop-behind.invariant (λ e. c.loop-behind-test.true (c.place.ensures ∙ (ap (λ s. place s rest) c.scan_of-scan.ensures ∙ e))) token after here in
    let braces : c.note_brace.new.braces.items ≡ braces_after token (place (scan_of two text) rest) c.loop-behind.braces.items =
    c.in_ok-note_brace.ensures ∙ ap (λ p. braces_after token p c.loop-behind.braces.items) (c.place-in-loop-behind.ensures ∙ ap (λ s. place s rest) c.scan_of-scan.ensures) in
    subst (λ x. OnTheWay text two c.args.body.now c.args.at after c.shapes_after-shapes.result.now c.note_brace.new.braces.items x) (sym c.behind_of-behind.ensures)
    (subst (λ x. OnTheWay text two c.args.body.now c.args.at after c.shapes_after-shapes.result.now x (first_as_name (token ∷ []))) (sym braces)
    (subst (λ x. OnTheWay text two c.args.body.now c.args.at after x (braces_after token (place (scan_of two text) rest) c.loop-behind.braces.items) (first_as_name (token ∷ [])))
    (sym c.shapes_after-shapes.ensures) on))

pub returns : goal.returns
returns c =
    let rest = c.loop-behind.rest.now in
    let here : place (scan_of c.args.two c.args.text.now) rest ≡ c.args.at = sym (ap (λ s. place s rest) c.scan_of-scan.ensures) ∙ (sym c.place.ensures ∙ c.loop-behind-test.false) in
    record {
      stands = arrives_so c.args.text.now c.args.two c.args.body.now c.args.at rest c.loop-behind.shapes.now c.loop-behind.braces.items c.loop-behind.behind
          c.loop-behind.invariant here c.wanted_by.result c.innermost-brace.result _ c.innermost-brace.ensures c.is_some.ensures c.wanted_by.ensures;
    }
