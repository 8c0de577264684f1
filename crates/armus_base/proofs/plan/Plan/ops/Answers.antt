use Rattle.std.proofs.Common.{◌≡◌, ◌+◌, ◌<◌, ◌∙◌, length, map, sum_by, take, get_or, sym, ap, ap₂, subst}
use Rattle.std.proofs.lemmas.List.{get_or-map, length-map}
use Rattle.std.proofs.lemmas.List.Sums.{sum_by_more}
use Rattle.armus_base.specs.calls.Pieces.{unfolded}
use Rattle.armus_base.specs.Plans.{Plan}
use Rattle.armus_base.proofs.plan.Plan.ops.Goals as goal

-- the ops of one code more
pub loop-code-preserved : goal.loop-code-preserved
loop-code-preserved c =
    let i = c.loop-code.code-index in
    let code = c.code-item.result in
    let items = c.as_slice-code-items.result.now in
    let codes : map unfolded items ≡ c.args.self.now.codes = ap (map unfolded) c.as_slice-code-items.ensures.items ∙ ap (λ (p : Plan). p.codes) c.self.view_is in
    let this : c.ops-ops.result ≡ length (get_or (map unfolded items) i (unfolded code)) =
    c.ops-ops.ensures.counted ∙ ap (λ ps. length (unfolded ps)) c.code-item.is ∙ ap length (sym (get_or-map unfolded items i code (unfolded code) c.loop-code-test.true)) in
    let within : i < length (map unfolded items) = subst (λ n. i < n) (sym (length-map items unfolded)) c.loop-code-test.true in
    ap₂ (λ m n. m + n) c.loop-code.invariant this
    ∙ ap (λ cs. sum_by length (take i cs) + length (get_or (map unfolded items) i (unfolded code))) (sym codes)
    ∙ sym (sum_by_more length (map unfolded items) i (unfolded code) within)
    ∙ ap (λ cs. sum_by length (take (i + 1) cs)) codes
