use Rattle.std.proofs.Common.{◌≡◌, ◌<◌, ℕ, false, length, List, get_or, sym, ◌∙◌, ap, rules}
use Rattle.std.specs.List.{list_any}
use Rattle.monitor_state.specs.Indexes.{waits_above}
use Rattle.monitor_search.proofs.ByIndex.{awaited_more}
use Rattle.armus_base.proofs.Elements.{nothing_in_nil}
use Rattle.monitor_search.proofs.waits.is_awaited.Goals as goal

pub loop-membership-init : goal.loop-membership-init
loop-membership-init c = λ m within. absurd (nothing_in_nil m within)

pub loop-membership-preserved : goal.loop-membership-preserved
loop-membership-preserved c =
    let list = c.args.state.now.list in
    let items = c.args.u.now.phases in
    let i = c.loop-membership.membership-index in
    let m : List ℕ × ℕ = c.membership-item.result in
    let same = c.as_slice-membership-items.ensures ∙ c.memberships.ensures in
    let is : m ≡ get_or items i m = c.membership-item.is ∙ ap (λ (l : List (List ℕ × ℕ)). get_or l i m) same in
    let inside : i < length items = search rules in
    let none : list_any (waits_above c.phaser.result.now c.phase.result) list ≡ false = sym (c.is_awaited_above.ensures list c.index-index.ensures.members) ∙ c.if-is_awaited_above.false in
    awaited_more list items i m inside is
    (ap (λ p. list_any (waits_above p m.1) list) (sym c.phaser.ensures) ∙ ap (λ n. list_any (waits_above c.phaser.result.now n) list) (sym c.phase.ensures) ∙ none) c.loop-membership.invariant
