use Rattle.std.proofs.Common.{◌≡◌, ◌-◌, take, drop, ap, ◌∙◌, arith}
use Rattle.std.specs.Prelude.{reverse}
use Rattle.explain_syntax.proofs.LineParts.{front_is}
use Rattle.explain_syntax.proofs.caret.line_front.Goals as goal

pub returns : goal.returns
returns c =
    let n = c.column_of.result in
    let back : c.args.at - (c.args.at - n) ≡ n = (let w = c.column_of.ensures.within in omega arith) in
    ap (λ k. take k (drop (c.args.at - n) c.args.text.now)) back
    ∙ (front_is c.args.text.now c.args.at n c.requires c.column_of.ensures.within
    ∙ ap (λ k. reverse (take k (reverse (take c.args.at c.args.text.now)))) c.column_of.ensures.columns)
