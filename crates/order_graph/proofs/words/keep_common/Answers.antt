use Rattle.std.proofs.Common.{◌≡◌, ◌++◌, ◌∙◌, ◌<◌, arith, length, take, drop, min, get_or, bit_and, ap, List, ℕ}
use Rattle.std.proofs.lemmas.List.{get_or-take, length-take, with_items_is}
use Rattle.order_graph.proofs.WordBits.{common_words}
use Rattle.order_graph.proofs.words.keep_common.Goals as goal

pub returns-clause-bits : goal.returns-clause-bits
returns-clause-bits c m =
    let old = c.args.words.now.items in
    let other = c.args.other.now in
    let new = c.clear_others.new.words in
    let cut : c.deref_mut.result.now ≡ take (length other) old = c.deref_mut.ensures.value ∙ c.truncate.ensures.items in
    let kept : take c.truncate.new.self.len (new ++ drop (length new) c.truncate.new.self.items) ≡ new =
    with_items_is c.truncate.new.self new (omega (arith, c.clear_others.ensures.sized, c.deref_mut.ensures.len)) in
    let sized : length new ≡ min (length other) (length old) = c.clear_others.ensures.sized ∙ ap length cut ∙ length-take (length other) old in
    let each : (j : ℕ) → j < length new → get_or new j 0 ≡ bit_and (get_or old j 0) (get_or other j 0) =
    λ j lt. c.clear_others.ensures.words j (omega (arith, lt, c.clear_others.ensures.sized)) ∙
    ap (λ (ws : List ℕ). bit_and (get_or ws j 0) (get_or other j 0)) cut ∙ ap (λ w. bit_and w (get_or other j 0)) (get_or-take (length other) old j 0 (omega (arith, lt, sized))) in
    rw kept (common_words old new other sized each m)
