use Rattle.std.proofs.Common.{◌≡◌, ◌∙◌, ◌<◌, if◌then◌else◌, ap, arith, sym}
use Rattle.std.proofs.lemmas.Bool.{lt-ltb}
use Rattle.std.proofs.lemmas.Bool.Decides.{nat_tests}
use Rattle.std.proofs.lemmas.Result.{IfOk-weaker}
use Rattle.explain.specs.Shortened.{line_total, shortened, shortened_long}
use Rattle.explain.proofs.shortened.shortened.Goals as goal

pub returns : goal.returns
returns c =
    let whole = c.args.whole in
    let total : c.line_total.result ≡ line_total whole = c.line_total.ensures ∙ ap line_total c.as_slice.ensures.items in
    let test = c.if-line_total-le-MOST_LINES.false in
    let many : 60 < c.line_total.result = grind (arith, nat_tests, test) in
    let more : 60 < line_total whole = omega (arith, many, total) in
    let long : shortened whole ≡ shortened_long whole = ap (λ b. if b then shortened_long whole else whole) (lt-ltb 60 (line_total whole) more) in
    IfOk-weaker c.shortened_long.result (λ lines. lines.items ≡ shortened_long c.as_slice-2.result.now) (λ lines. lines.items ≡ shortened whole)
    (λ lines is. is ∙ ap shortened_long c.as_slice-2.ensures.items ∙ sym long) c.shortened_long.ensures
