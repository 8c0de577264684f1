use Rattle.std.proofs.Common.{◌≡◌, ◌∙◌, ◌+◌, ◌<◌, true, false, ap, arith, length, set, sym}
use Rattle.std.proofs.lemmas.List.{get_or_default}
use Rattle.adaptive.specs.inside.Remaining.{count_remaining}
use Rattle.adaptive.specs.inside.Standings.{remains_at}
use Rattle.adaptive.proofs.TakenAway.{one_fewer}
use Rattle.adaptive.proofs.remaining.Remaining.take_unimpeded.Goals as goal

pub returns-clause-less : goal.returns-clause-less
returns-clause-less c = λ _.
    let remains = c.args.self.now.remains.items in
    let inside : c.args.k < length remains = (let sized = c.requires.kept.remaining.sized in let status = c.requires.status in omega arith) in
    let on : remains_at remains c.args.k ≡ true =
    get_or_default remains c.args.k false c.index.result.now inside ∙ sym c.index.ensures ∙ c.if-not-index.false in
    ap (λ xs. count_remaining xs + 1) (c.take_away.ensures.gone ∙ ap (λ r. set r.items c.args.k false) c.is_impeded.ensures.same) ∙ one_fewer remains c.args.k on
