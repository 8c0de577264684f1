use Rattle.std.proofs.Common.{◌≡◌, ◌<◌, ℕ, List, length, get_or, ◌∙◌, ap, inl, inr, rules}
use Rattle.std.specs.Prelude.{bytes_eq}
use Rattle.monitor_search.specs.inside.Cascades.{named_group}
use Rattle.monitor_search.proofs.Groups.{kept_added, now_added, some_more}
use Rattle.monitor_search.proofs.grouping.add_member.Goals as goal

pub loop-membership-preserved : goal.loop-membership-preserved
loop-membership-preserved c =
    let ms = c.args.u.now.phases in
    let i = c.loop-membership.membership-index in
    let m : List ℕ × ℕ = c.membership-item.result in
    let items = c.as_slice-membership-items.ensures ∙ c.memberships.ensures in
    let is : m ≡ get_or ms i m = c.membership-item.is ∙ ap (λ (l : List (List ℕ × ℕ)). get_or l i m) items in
    let within : i < length ms = search rules in
    let name = c.phaser.result.now in
    let before = named_group c.loop-membership.groups in
    let after = named_group c.add_to_group.new.groups in
    let now = c.in_ok-add_to_group.ensures in
    record {
      own = λ q some. elim (some_more ms i m q within is some) [
        | inl old ↦ kept_added before after name c.args.u.now now.own now.others q c.args.u.now (c.loop-membership.invariant.own q old)
        | inr new ↦ now_added before after name c.args.u.now now.own now.others q (ap (bytes_eq q) c.phaser.ensures ∙ new)
      ];
      others = λ q v within_v. kept_added before after name c.args.u.now now.own now.others q v (c.loop-membership.invariant.others q v within_v);
    }
