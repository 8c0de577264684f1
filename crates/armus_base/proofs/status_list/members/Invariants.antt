use Rattle.std.proofs.Common.{◌≡◌, ◌<◌, ◌≤◌, ◌-◌, length, true}
use Rattle.armus_base.specs.Finals.{given_below, listed_phase}
use Rattle.armus_base.specs.calls.StatusLists.{is_marked}
use Rattle.armus_base.proofs.status_list.members.Given as goal

abbrev pub invariant-row : goal.invariant-row
invariant-row g l = record {
  within : l.number ≤ length l.marks;
  marked : l.number < length l.marks → is_marked l.marks l.number ≡ true;
  listed : l.members.items ≡ given_below (listed_phase (is_marked l.marks) ((g.S.ShowsTasks.state l.shown).phases l.t.0)) l.number;
}

abbrev pub decreases-row : goal.decreases-row
decreases-row g l = length l.marks - l.number
