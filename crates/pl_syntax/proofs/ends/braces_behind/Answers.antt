use Rattle.std.proofs.Common.{◌≡◌, refl, sym, subst, ap, ◌∙◌, arith}
use Rattle.pl_syntax.specs.Grammar.{scan_of}
use Rattle.pl_syntax.specs.Tokens.{place}
use Rattle.pl_syntax.specs.inside.Seen.{token_of}
use Rattle.pl_syntax.specs.inside.Beginnings.{with_offset}
use Rattle.pl_syntax.specs.inside.Closings.{closes}
use Rattle.pl_syntax.proofs.Closings.{Closing, closing_all, closing_first, closing_on, closing_some}
use Rattle.pl_syntax.proofs.Fronts.{further}
use Rattle.pl_syntax.proofs.ends.braces_behind.Goals as goal

pub loop-rest-init : goal.loop-rest-init
loop-rest-init c = (
  subst (λ xs. Closing c.args.text.now c.args.program.now xs c.args.body.now) (sym c.new-braces.ensures.items)
      (closing_first c.args.text.now c.args.program.now c.args.body.now c.requires.header c.requires.reads),
  c.requires.within,
)

pub token_at-requires-clause-some : goal.token_at-requires-clause-some
token_at-requires-clause-some c =
    closing_some c.args.text.now c.args.program.now c.loop-rest.rest.now c.loop-rest.braces.items c.loop-rest.invariant.0

pub returns-then-is_end : goal.returns-then-is_end
returns-then-is_end c = record {
  braces = closing_all c.args.text.now c.args.program.now c.loop-rest.rest.now c.loop-rest.braces.items (token_of c.token_at.result.0) c.token_at.result.1.now
      c.loop-rest.invariant.0 c.token_at.ensures.exact (c.if-is_end.ensures.0 refl);
}

pub loop-rest-smaller : goal.loop-rest-smaller
loop-rest-smaller c = further (scan_of c.args.program.now.two c.args.text.now) c.loop-rest.rest.now (token_of c.token_at.result.0) c.token_at.result.1.now
    c.token_at.ensures.exact (λ e. absurd (let f = c.if-is_end.ensures.1 e in cc))

pub loop-rest-preserved : goal.loop-rest-preserved
loop-rest-preserved c =
    let on = closing_on c.args.text.now c.args.program.now c.loop-rest.rest.now c.loop-rest.braces.items (token_of c.token_at.result.0) c.token_at.result.1.now
    c.loop-rest.invariant.0 c.token_at.ensures.exact (λ e. absurd (let f = c.if-is_end.ensures.1 e in cc)) in
    let was = c.loop-rest.braces.items in
    let token = token_of c.token_at.result.0 in
    let noted : c.push_if.new.offsets.items ≡ with_offset (closes token) (place (scan_of c.args.program.now.two c.args.text.now) c.loop-rest.rest.now) was =
    c.in_ok-push_if.ensures ∙ (ap (λ b. with_offset b c.place.result was) c.closes.ensures ∙ ap (λ o. with_offset (closes token) o was) c.place.ensures) in (
      subst (λ xs. Closing c.args.text.now c.args.program.now xs c.token_at.result.1.now) (sym noted) on,
      (let shorter = c.token_at.ensures.no_longer in let within = c.loop-rest.invariant.1 in omega arith),
    )
