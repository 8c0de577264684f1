use Rattle.std.proofs.Common.{◌≡◌}
use Rattle.armus_base.specs.calls.StatusLists.{is_marked, statuses_among}
use Rattle.armus_base.proofs.status_list.list_statuses.Given as goal

abbrev pub invariant-loop-number : goal.invariant-loop-number
invariant-loop-number g l = l.statuses.items ≡ statuses_among l.number (g.S.ShowsTasks.phasers l.shown) (g.S.ShowsTasks.state l.shown) (is_marked l.marks)
