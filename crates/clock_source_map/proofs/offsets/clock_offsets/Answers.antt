use Rattle.std.proofs.Common.{◌≡◌, ◌++◌, [], Ok, ap, append-nil, arith, refl, sym, subst, ◌∙◌}
use Rattle.pl_syntax.specs.Tokens.{the_end}
use Rattle.pl_syntax.specs.inside.Seen.{token_of}
use Rattle.pl_syntax.proofs.Fronts.{further}
use Rattle.clock_syntax.specs.Grammar.{clock_scan}
use Rattle.clock_source_map.specs.ClockOffsets.{with_keyword}
use Rattle.clock_source_map.proofs.Keywords.{Sought, sought_all, sought_first, sought_on, sought_some}
use Rattle.clock_source_map.proofs.offsets.clock_offsets.Goals as goal

pub loop-token-init : goal.loop-token-init
loop-token-init c = (
  subst (λ xs. Sought c.args.text.now c.args.program.now.body xs c.args.text.now) (sym c.new-offsets.ensures.items)
      (sought_first c.args.text.now c.args.program.now.body c.requires.reads),
  omega arith,
)

pub returns-in_default : goal.returns-in_default
returns-in_default c =
    let (t, after, ok) = sought_some c.args.text.now c.args.program.now.body c.loop-token.offsets.items c.loop-token.rest.now c.loop-token.invariant.0 in
    absurd (let bad = c.in_default.ensures.exact ∙ ok in cc)

pub returns-then-is_end : goal.returns-then-is_end
returns-then-is_end c =
    let at_end : token_of c.in-Ok.token ≡ the_end = c.if-is_end.ensures.0 refl in
    let here = sym c.in-Ok.ensures.exact ∙ ap (λ z. Ok (z, c.in-Ok.after.now)) at_end in
    let all = sought_all c.args.text.now c.args.program.now.body c.loop-token.offsets.items c.loop-token.rest.now c.in-Ok.after.now c.loop-token.invariant.0 here in
    record {
      offsets = c.from_vec-then-is_end.ensures.items ∙ c.in_ok-push_keyword.ensures
          ∙ ap (λ z. c.loop-token.offsets.items ++ with_keyword z c.place.result []) at_end ∙ append-nil c.loop-token.offsets.items ∙ all;
    }

pub loop-token-smaller : goal.loop-token-smaller
loop-token-smaller c = further (clock_scan c.args.text.now) c.loop-token.rest.now (token_of c.in-Ok.token) c.in-Ok.after.now
    (sym c.in-Ok.ensures.exact) (λ e. absurd (let f = c.if-is_end.ensures.1 e in cc))

pub loop-token-preserved : goal.loop-token-preserved
loop-token-preserved c =
    let on = sought_on c.args.text.now c.args.program.now.body c.loop-token.offsets.items c.loop-token.rest.now (token_of c.in-Ok.token) c.in-Ok.after.now
    c.loop-token.invariant.0 (sym c.in-Ok.ensures.exact) (λ e. absurd (let f = c.if-is_end.ensures.1 e in cc)) in
    let noted = c.in_ok-push_keyword.ensures ∙ ap (λ o. c.loop-token.offsets.items ++ with_keyword (token_of c.in-Ok.token) o []) c.place.ensures in (
      subst (λ xs. Sought c.args.text.now c.args.program.now.body xs c.in-Ok.after.now) (sym noted) on,
      (let shorter = c.in-Ok.ensures.no_longer in let within = c.loop-token.invariant.1 in omega arith),
    )
