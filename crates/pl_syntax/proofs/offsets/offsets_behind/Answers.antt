use Rattle.std.proofs.Common.{◌≡◌, true, refl, sym, subst, ap, ◌∙◌, arith}
use Rattle.pl_syntax.specs.Grammar.{scan_of}
use Rattle.pl_syntax.specs.Tokens.{place, the_end}
use Rattle.pl_syntax.specs.StatementOffsets.{AreOffsets}
use Rattle.pl_syntax.specs.inside.Seen.{token_of}
use Rattle.pl_syntax.specs.inside.Beginnings.{begins_statement, is_boundary, with_offset}
use Rattle.pl_syntax.proofs.Beginnings.{Sought, sought_all, sought_first, sought_on, sought_some}
use Rattle.pl_syntax.proofs.Fronts.{further}
use Rattle.pl_syntax.proofs.offsets.offsets_behind.Goals as goal

pub loop-offsets-init : goal.loop-offsets-init
loop-offsets-init c = (
  subst (λ xs. Sought c.args.text.now c.args.program.now xs true c.args.body.now) (sym c.new-offsets.ensures.items)
      (sought_first c.args.text.now c.args.program.now c.args.body.now c.requires.header c.requires.reads),
  c.requires.within,
)

pub token_at-requires-clause-some : goal.token_at-requires-clause-some
token_at-requires-clause-some c =
    sought_some c.args.text.now c.args.program.now c.loop-offsets.rest.now c.loop-offsets.offsets.items c.loop-offsets.may_begin c.loop-offsets.invariant.0

pub returns-then-is_end : goal.returns-then-is_end
returns-then-is_end c =
    let here = c.token_at.ensures.exact in
    let at_end : token_of c.token_at.result.0 ≡ the_end = c.if-is_end.ensures.0 refl in
    let all = sought_all c.args.text.now c.args.program.now c.loop-offsets.rest.now c.loop-offsets.offsets.items c.loop-offsets.may_begin
    (token_of c.token_at.result.0) c.token_at.result.1.now c.loop-offsets.invariant.0 here at_end in
    let was = c.loop-offsets.offsets.items in
    let token = token_of c.token_at.result.0 in
    let noted : c.push_if.new.offsets.items ≡ with_offset (begins_statement c.loop-offsets.may_begin token) (place (scan_of c.args.program.now.two c.args.text.now) c.loop-offsets.rest.now) was =
    c.in_ok-push_if.ensures ∙ (ap (λ b. with_offset b c.place.result was) c.begins_statement-begins.ensures
    ∙ ap (λ o. with_offset (begins_statement c.loop-offsets.may_begin token) o was) c.place.ensures) in
    record {
      offsets = subst (λ xs. AreOffsets c.args.text.now c.args.program.now xs) (sym (c.from_vec.ensures.items ∙ noted)) all;
    }

pub loop-offsets-smaller : goal.loop-offsets-smaller
loop-offsets-smaller c = further (scan_of c.args.program.now.two c.args.text.now) c.loop-offsets.rest.now (token_of c.token_at.result.0) c.token_at.result.1.now
    c.token_at.ensures.exact (λ e. absurd (let f = c.if-is_end.ensures.1 e in cc))

pub loop-offsets-preserved : goal.loop-offsets-preserved
loop-offsets-preserved c =
    let on = sought_on c.args.text.now c.args.program.now c.loop-offsets.rest.now c.loop-offsets.offsets.items c.loop-offsets.may_begin
    (token_of c.token_at.result.0) c.token_at.result.1.now c.loop-offsets.invariant.0 c.token_at.ensures.exact (λ e. absurd (let f = c.if-is_end.ensures.1 e in cc)) in
    let was = c.loop-offsets.offsets.items in
    let token = token_of c.token_at.result.0 in
    let noted : c.push_if.new.offsets.items ≡ with_offset (begins_statement c.loop-offsets.may_begin token) (place (scan_of c.args.program.now.two c.args.text.now) c.loop-offsets.rest.now) was =
    c.in_ok-push_if.ensures ∙ (ap (λ b. with_offset b c.place.result was) c.begins_statement-begins.ensures
    ∙ ap (λ o. with_offset (begins_statement c.loop-offsets.may_begin token) o was) c.place.ensures) in (
      subst (λ may. Sought c.args.text.now c.args.program.now c.push_if.new.offsets.items may c.token_at.result.1.now) (sym c.is_boundary-may_begin.ensures)
          (subst (λ xs. Sought c.args.text.now c.args.program.now xs (is_boundary token) c.token_at.result.1.now) (sym noted) on),
      (let shorter = c.token_at.ensures.no_longer in let within = c.loop-offsets.invariant.1 in omega arith),
    )
