use Rattle.std.proofs.Common.{◌≡◌, ℕ, Bool, ◌∷◌, sym, ◌∙◌, ap, subst}
use Rattle.std.specs.List.Sorted.{IsStrictlySortedBy}
use Rattle.std.proofs.lemmas.Map.Keys.{sorted_tail}
use Rattle.monitor_members.proofs.PairSets.{pair_cmp}
use Rattle.monitor_search.specs.inside.Leaving.{is_unfreed, passes_below, passes_numbered}
use Rattle.monitor_search.proofs.Resting.{none_past, passed_over}
use Rattle.monitor_search.proofs.leaving.some_unfreed_at.Goals as goal

pub returns-then-n-pair : goal.returns-then-n-pair
returns-then-n-pair c =
    let test : ℕ → Bool = passes_numbered (is_unfreed c.args.state.now.list) c.args.state.now.list in
    let left : c.loop-pair.pair-iterator ≡ c.in-Some.pair.now ∷ c.next.new.self = c.in-Some.ensures.steps in
    sym (c.loop-pair.invariant.1 ∙ ap (passes_below test c.args.n) left
    ∙ none_past test c.args.n c.in-Some.pair.now c.next.new.self (subst (IsStrictlySortedBy pair_cmp) left c.loop-pair.invariant.0) c.if-n-pair.true)

pub loop-pair-preserved : goal.loop-pair-preserved
loop-pair-preserved c =
    let test : ℕ → Bool = passes_numbered (is_unfreed c.args.state.now.list) c.args.state.now.list in
    let left : c.loop-pair.pair-iterator ≡ c.in-Some.pair.now ∷ c.next.new.self = c.in-Some.ensures.steps in (
      sorted_tail pair_cmp c.in-Some.pair.now c.next.new.self (subst (IsStrictlySortedBy pair_cmp) left c.loop-pair.invariant.0),
      c.loop-pair.invariant.1 ∙ ap (passes_below test c.args.n) left ∙ passed_over test c.args.n c.in-Some.pair.now c.next.new.self (sym c.is_unfreed_number.ensures ∙ c.if-is_unfreed_number.false),
    )
