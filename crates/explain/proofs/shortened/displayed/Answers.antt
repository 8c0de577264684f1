use Rattle.std.proofs.Common.{◌≡◌, ◌∙◌, ap, sym}
use Rattle.std.proofs.lemmas.Result.{IfOk-weaker}
use Rattle.explain.specs.Shortened.{displayed, narrowed_from, summary}
use Rattle.explain.proofs.shortened.displayed.Goals as goal

pub returns-in_ok-lines-in-Short : goal.returns-in_ok-lines-in-Short
returns-in_ok-lines-in-Short c =
    let heads = c.args.heads in
    let whole = c.args.whole in
    let brief = c.deref-in-Short.ensures.value ∙ c.in_ok-lines-in-Short.ensures ∙ ap (summary heads) c.as_slice.ensures.items in
    IfOk-weaker c.narrowed-in-Short.result (λ lines. lines ≡ narrowed_from 500 c.deref-in-Short.result.now) (λ lines. lines ≡ displayed heads c.args.extent whole)
    (λ lines is. is ∙ ap (narrowed_from 500) brief ∙ ap (λ extent. displayed heads extent whole) (sym c.in-Short.is)) c.narrowed-in-Short.ensures
