use Rattle.std.proofs.Common.{◌||◌, ◌∙◌, ap}
use Rattle.monitor_members.specs.Noted.{is_noted}
use Rattle.monitor_state.proofs.Noting.{none_of_first, or_off}
use Rattle.monitor_state.proofs.memberships.note_each.Goals as goal

pub returns-in_err-insert-clause-others : goal.returns-in_err-insert-clause-others
returns-in_err-insert-clause-others c =
    λ q n j none.
    c.in_err-insert.ensures.kept q n j ∙ c.loop-membership.invariant q n j
    ∙ ap (λ b. is_noted c.args.index.now q n j || b) (none_of_first c.args.items.now c.loop-membership.membership-index c.args.k q n j none) ∙ or_off (is_noted c.args.index.now q n j)
