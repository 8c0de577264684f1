use Rattle.std.proofs.Common.{sym, ◌∙◌}
use Rattle.pl_syntax.specs.inside.Seen.{token_of}
use Rattle.explain_syntax.proofs.Places.{far_from, found_back, found_so, here_at}
use Rattle.explain_syntax.proofs.Header.{first_some, inside_pl, inside_two, outside_at_first, outside_no_pl, outside_no_two, outside_past, second_some}
use Rattle.explain_syntax.proofs.walk.stand_in_header.Goals as goal

pub returns-then-place-fault-clause-outside : goal.returns-then-place-fault-clause-outside
returns-then-place-fault-clause-outside c =
    let text = c.args.text.now in
    outside_at_first text c.args.fault (here_at _ _ c.scan_of-scan.ensures text _ _ c.place.ensures c.if-place-fault.true)

pub token_at-requires-clause-some : goal.token_at-requires-clause-some
token_at-requires-clause-some c =
    let text = c.args.text.now in
    found_back _ _ c.scan_of-scan.ensures text
    (first_some text c.args.fault c.requires.fault (far_from _ _ c.scan_of-scan.ensures text _ _ c.place.ensures c.if-place-fault.false))

pub returns-then-not-is_pl-clause-outside : goal.returns-then-not-is_pl-clause-outside
returns-then-not-is_pl-clause-outside c =
    let text = c.args.text.now in
    outside_no_pl text c.args.fault (token_of c.token_at.result.0) c.token_at.result.1.now
    (found_so _ _ c.scan_of-scan.ensures text _ _ c.token_at.ensures.exact) (sym c.is_pl.ensures ∙ c.if-not-is_pl.true)

pub returns-then-place-fault-2-clause-inside : goal.returns-then-place-fault-2-clause-inside
returns-then-place-fault-2-clause-inside c =
    let text = c.args.text.now in
    let rest = c.token_at.result.1.now in
    inside_pl text c.args.fault c.requires.fault (token_of c.token_at.result.0) rest
    (found_so _ _ c.scan_of-scan.ensures text _ _ c.token_at.ensures.exact) (sym c.is_pl.ensures ∙ c.if-not-is_pl.false)
    (far_from _ _ c.scan_of-scan.ensures text _ _ c.place.ensures c.if-place-fault.false)
    (here_at _ _ c.scan_of-scan.ensures rest _ _ c.place-2.ensures c.if-place-fault-2.true)

pub token_at-requires-2-clause-some : goal.token_at-requires-2-clause-some
token_at-requires-2-clause-some c =
    let text = c.args.text.now in
    let rest = c.token_at.result.1.now in
    found_back _ _ c.scan_of-scan.ensures rest
    (second_some text c.args.fault c.requires.fault (token_of c.token_at.result.0) rest (found_so _ _ c.scan_of-scan.ensures text _ _ c.token_at.ensures.exact)
    (far_from _ _ c.scan_of-scan.ensures text _ _ c.place.ensures c.if-place-fault.false)
    (far_from _ _ c.scan_of-scan.ensures rest _ _ c.place-2.ensures c.if-place-fault-2.false))

pub returns-then-not-is_two-clause-outside : goal.returns-then-not-is_two-clause-outside
returns-then-not-is_two-clause-outside c =
    let text = c.args.text.now in
    let rest = c.token_at.result.1.now in
    outside_no_two text c.args.fault (token_of c.token_at.result.0) rest (token_of c.token_at-2.result.0) c.token_at-2.result.1.now
    (found_so _ _ c.scan_of-scan.ensures text _ _ c.token_at.ensures.exact)
    (far_from _ _ c.scan_of-scan.ensures rest _ _ c.place-2.ensures c.if-place-fault-2.false)
    (found_so _ _ c.scan_of-scan.ensures rest _ _ c.token_at-2.ensures.exact) (sym c.is_two.ensures ∙ c.if-not-is_two.true)

pub returns-then-place-fault-3-clause-inside : goal.returns-then-place-fault-3-clause-inside
returns-then-place-fault-3-clause-inside c =
    let text = c.args.text.now in
    let rest = c.token_at.result.1.now in
    let after = c.token_at-2.result.1.now in
    inside_two text c.args.fault c.requires.fault (token_of c.token_at.result.0) rest
    (found_so _ _ c.scan_of-scan.ensures text _ _ c.token_at.ensures.exact) (sym c.is_pl.ensures ∙ c.if-not-is_pl.false)
    (far_from _ _ c.scan_of-scan.ensures text _ _ c.place.ensures c.if-place-fault.false) (token_of c.token_at-2.result.0) after
    (far_from _ _ c.scan_of-scan.ensures rest _ _ c.place-2.ensures c.if-place-fault-2.false)
    (found_so _ _ c.scan_of-scan.ensures rest _ _ c.token_at-2.ensures.exact) (sym c.is_two.ensures ∙ c.if-not-is_two.false)
    (here_at _ _ c.scan_of-scan.ensures after _ _ c.place-3.ensures c.if-place-fault-3.true)

pub returns-clause-outside : goal.returns-clause-outside
returns-clause-outside c =
    let text = c.args.text.now in
    let rest = c.token_at.result.1.now in
    let after = c.token_at-2.result.1.now in
    outside_past text c.args.fault (token_of c.token_at.result.0) rest (token_of c.token_at-2.result.0) after
    (found_so _ _ c.scan_of-scan.ensures text _ _ c.token_at.ensures.exact)
    (far_from _ _ c.scan_of-scan.ensures rest _ _ c.place-2.ensures c.if-place-fault-2.false)
    (found_so _ _ c.scan_of-scan.ensures rest _ _ c.token_at-2.ensures.exact)
    (far_from _ _ c.scan_of-scan.ensures after _ _ c.place-3.ensures c.if-place-fault-3.false)
