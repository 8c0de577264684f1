use Rattle.std.proofs.Common.{◌≡◌, ℕ, ◌<◌, ◌≤◌, length, get_or, bit_and}
use Rattle.std.specs.Prelude.{IsTrue}
use Rattle.order_graph.proofs.words.clear_others.Given as goal

abbrev pub invariant-loop-k : goal.invariant-loop-k
invariant-loop-k l = record {
  sized : length l.words ≡ length l.initial.words;
  done : (j : ℕ) → j < l.k → get_or l.words j 0 ≡ bit_and (get_or l.initial.words j 0) (get_or l.other j 0);
  rest : (j : ℕ) → l.k ≤ j → get_or l.words j 0 ≡ get_or l.initial.words j 0;
  whole : IsTrue l.same → length l.initial.words ≡ length l.other;
  same : IsTrue l.same → (j : ℕ) → j < l.k → get_or l.words j 0 ≡ get_or l.other j 0;
}
