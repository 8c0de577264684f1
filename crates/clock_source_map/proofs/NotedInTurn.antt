-- What is noted of comings one after the other, in turns and in bodies, whatever the notes are.
use Rattle.std.proofs.Common.{◌≡◌, ℕ, suc, ◌+◌, ◌<◌, ◌≤◌, List, [], ◌∷◌, ◌++◌, length, drop, get_or, sym, ap, ◌∙◌, arith}
use Rattle.std.proofs.lemmas.List.{drop_all}
use Rattle.armus_base.specs.Pieces.{times}
use Rattle.clock_syntax.specs.declared.tree.ClockStmt.{ClockStmt}
use Rattle.clock_syntax.specs.Trees.{ClockTree, clock_count, done}
use Rattle.clock_syntax.specs.calls.Bodies.{clock_followed_by, clock_tree_of}
use Rattle.clock_syntax.proofs.ClockParts.{clock_counts}
use Rattle.clock_semantics.specs.Unfolding.{ClockComing, a_turn, coming, comings_of}
use Rattle.clock_semantics.proofs.NextComings.{next_comings_of, times_more}

-- what comings make of notes, one list of comings after the other
pub record InTurn (V : Type 0) : Type 0 where
  pub noted : List ClockComing → V → V
  pub none : (k : V) → noted [] k ≡ k
  pub append : (ms ns : List ClockComing) (k : V) → noted (ms ++ ns) k ≡ noted ns (noted ms k)
  pub turn : (n : ℕ) (ms : List ClockComing) (k : V) → noted (coming n a_turn ∷ ms) k ≡ noted ms k

module _ {V : Type 0} (w : InTurn V) where
  -- ---- turns

  module _ (n : ℕ) (body : ClockTree) (old : V) where
    abbrev pub TurnsNoted : ℕ → V → Type 0
    TurnsNoted i out = out ≡ w.noted (times i (coming n a_turn ∷ comings_of (n + 1) body)) old

    pub no_turn : TurnsNoted 0 old
    no_turn = sym (w.none old)

    pub turn_noted : (i : ℕ) (out next : V) → TurnsNoted i out → next ≡ w.noted (comings_of (n + 1) body) out → TurnsNoted (i + 1) next
    turn_noted i out next so e =
        let turn = coming n a_turn ∷ comings_of (n + 1) body in
        e ∙ ap (w.noted (comings_of (n + 1) body)) so
        ∙ sym (w.turn n (comings_of (n + 1) body) (w.noted (times i turn) old))
        ∙ sym (w.append (times i turn) turn old)
        ∙ ap (λ ms. w.noted ms old) (times_more i turn)
        ∙ ap (λ m. w.noted (times m turn) old) (let q : suc i ≡ i + 1 = omega arith in q)

  -- ---- bodies

  -- what is noted so far, and what the statements from the j-th on do, is what the body does; and the statements left have numbers of 32 bits
  pub record NotedSoFar (items : List ClockStmt) (j : ℕ) (body : ClockTree) (n at : ℕ) (old out : V) : Type 0 where
    pub from : n ≤ at
    pub numbers : at + clock_count (clock_tree_of (drop j items)) ≡ n + clock_count body
    pub so_far : w.noted (comings_of at (clock_tree_of (drop j items))) out ≡ w.noted (comings_of n body) old

  pub noted_start : (items : List ClockStmt) (body : ClockTree) (n : ℕ) (old : V) → clock_tree_of items ≡ body → NotedSoFar items 0 body n n old old
  noted_start items body n old e = record { from = omega arith; numbers = ap (λ b. n + clock_count b) e; so_far = ap (λ b. w.noted (comings_of n b) old) e }

  module _ (items : List ClockStmt) (j : ℕ) (body : ClockTree) (n at : ℕ) (old out : V) (q : ClockStmt) (lt : j < length items) (is : q ≡ get_or items j q)
      (h : NotedSoFar items j body n at old out) where
    pub noted_within : at + clock_count (clock_followed_by q done) ≤ n + clock_count body
    noted_within = omega (arith, h.numbers, clock_counts items j q lt is)

    pub noted_fewer : clock_count (clock_followed_by q done) ≤ clock_count body
    noted_fewer = omega (arith, h.from, h.numbers, clock_counts items j q lt is)

    pub noted_next : (many : ℕ) → many ≡ clock_count (clock_followed_by q done) → (next : V) → next ≡ w.noted (comings_of at (clock_followed_by q done)) out →
        NotedSoFar items (j + 1) body n (at + many) old next
    noted_next many all next e =
        let behind = comings_of (at + clock_count (clock_followed_by q done)) (clock_tree_of (drop (j + 1) items)) in
        record {
          from = (let f = h.from in omega arith);
          numbers = omega (arith, h.numbers, clock_counts items j q lt is, all);
          so_far = ap (λ m. w.noted (comings_of (at + m) (clock_tree_of (drop (j + 1) items))) next) all
              ∙ ap (w.noted behind) e
              ∙ sym (w.append (comings_of at (clock_followed_by q done)) behind out)
              ∙ ap (λ ms. w.noted ms out) (sym (next_comings_of items j at q lt is))
              ∙ h.so_far;
        }

  pub noted_end : (items : List ClockStmt) (j : ℕ) (body : ClockTree) (n at : ℕ) (old out : V) → length items ≤ j → NotedSoFar items j body n at old out →
      out ≡ w.noted (comings_of n body) old
  noted_end items j body n at old out le h =
      sym (w.none out) ∙ ap (λ (ts : List ClockStmt). w.noted (comings_of at (clock_tree_of ts)) out) (sym (drop_all j items le)) ∙ h.so_far
