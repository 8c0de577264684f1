use Rattle.std.proofs.Common.{◌≡◌, ◌≤◌, ◌+◌, ℕ, drop, length}
use Rattle.pl_core.specs.Tasks.{actions_before}
use Rattle.pl_core.specs.inside.Cursors.{op_index_of}
use Rattle.pl_core.specs.inside.Walks.{HasWalked, walking}
use Rattle.pl_core.specs.calls.Worlds.{places_at}
use Rattle.armus_base.specs.Plans.{code_of}
use Rattle.pl_core.proofs.walk.CodeWalk.make_ops.Given as goal

-- it has made the first ops, the cursor stands behind them, and so many events are left
abbrev pub invariant-loop-op : goal.invariant-loop-op
invariant-loop-op l = record {
  within : l.made ≤ length (code_of l.plan l.t.0);
  left : l.left + actions_before (code_of l.plan l.t.0) l.made ≡ (places_at l.plan l.places l.t.0).done;
  cursor : l.cursor ≡ drop l.made (code_of l.plan l.t.0);
  walking :
      HasWalked l.plan l.places (walking (places_at l.plan l.places) l.t.0 (actions_before (code_of l.plan l.t.0) l.made)) l.t.0 l.self.tasks.items l.self.phases;
  ops : (u : ℕ) → op_index_of l.self.tasks.items u ≡ op_index_of l.initial.self.tasks.items u;
}

abbrev pub decreases-loop-op : goal.decreases-loop-op
decreases-loop-op l = l.left
