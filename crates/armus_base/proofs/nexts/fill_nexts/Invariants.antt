use Rattle.std.proofs.Common.{◌≡◌, ℕ, ◌+◌, ◌≤◌, length, get_or}
use Rattle.armus_base.specs.calls.StatusLists.{IsNextMarked, is_marked}
use Rattle.armus_base.proofs.nexts.fill_nexts.Given as goal

abbrev pub invariant-loop-k : goal.invariant-loop-k
invariant-loop-k l = record {
  room : length l.nexts ≡ length l.marks + 1;
  done : (q : ℕ) → length l.marks ≤ q + l.k → q ≤ length l.marks → IsNextMarked (is_marked l.marks) (length l.marks) q (get_or l.nexts q 0);
}
