-- From the list of the dead tasks to what a report says of them.
use Rattle.std.proofs.Common.{◌≡◌, ℕ, zero, suc, ◌<◌, ◌≤◌, Bool, true, false, List, [], ◌∷◌, ◌++◌, length, refl, sym, ap, ◌∙◌, subst, inl, inr, arith, get_or, append-nil, not}
use Rattle.std.specs.Prelude.{Contains, IsTrue, ◌↔◌, ◌==◌}
use Rattle.std.proofs.lemmas.Bool.{eqb-true}
use Rattle.armus_base.specs.declared.ids.TaskId.{TaskId}
use Rattle.armus_base.specs.declared.status.Status.{Status}
use Rattle.armus_base.specs.DeadLists.{IsDeadList}
use Rattle.armus_base.specs.Deadlocks.{IsDeadBy}
use Rattle.armus_base.proofs.Elements.{nothing_in_nil, Contains-head}
use Rattle.report.specs.Lines.{cycle_line}
use Rattle.report.specs.Reports.{IsLeastDead, IsSomeDead}
use Rattle.report.specs.inside.Appending.{AppendsCycle}
use Rattle.report.specs.inside.Merging.{IsIn}
use Rattle.verdict.specs.calls.Cycles.{IsCycleOf}
use Rattle.verdict.specs.declared.found.Cycle.{Cycle}

-- the task with this number
abbrev task : ℕ → TaskId
task n = record { 0 = n }

module _ (ss : List Status) where
  -- the dead tasks stand in the list
  pub dead_in : (dead : List TaskId) → IsDeadList ss dead → (t : ℕ) → IsIn dead t ↔ IsDeadBy ss t
  dead_in dead h t = h.exact (record { 0 = t })

  -- the first of the list is the least dead task
  pub least_dead : (dead : List TaskId) (start : TaskId) → IsDeadList ss dead → ((t : TaskId) → get_or dead 0 t ≡ start) → IsLeastDead ss start
  least_dead [] start h first =
      let same : task 0 ≡ task 1 = first (task 0) ∙ sym (first (task 1)) in
      let e : 0 ≡ 1 = ap (λ z. z.0) same in
      absurd (omega (arith, e))
  least_dead (x ∷ xs) start h first =
      let e : x ≡ start = first x in
      record {
        dead = subst (λ z. IsDeadBy ss z.0) e ((h.exact x).0 (Contains-head x xs));
        least = λ u dead.
            let (k, lt, f) = (h.exact (task u)).1 dead in
            let g : (get_or (x ∷ xs) k (task u)).0 ≡ u = ap (λ z. z.0) f in
            let n : x.0 ≡ start.0 = ap (λ z. z.0) e in
            from_first x xs h (task u) k lt start.0 u n g;
      }
    where
      from_first :
          (x : TaskId) (xs : List TaskId) → IsDeadList ss (x ∷ xs) → (o : TaskId) (k : ℕ) → k < length (x ∷ xs) → (s u : ℕ) → x.0 ≡ s →
          (get_or (x ∷ xs) k o).0 ≡ u → s ≤ u
      from_first x xs h o zero lt s u n g = omega arith
      from_first x xs h o (suc k) lt s u n g = let a : x.0 < (get_or (x ∷ xs) (suc k) o).0 = h.ascends 0 (suc k) o (omega arith) lt in omega arith

  -- some task is dead where the list is not empty
  pub some_dead :
      (dead : List TaskId) (empty : Bool) → IsDeadList ss dead → empty ≡ (length dead == 0) → IsTrue (not empty) ↔ IsSomeDead ss
  some_dead [] empty h e = (λ f. let g : not empty ≡ false = ap not e in absurd cc, λ (t, d). absurd (nothing_in_nil (task t) ((h.exact (task t)).1 d)))
  some_dead (x ∷ xs) false h e = (λ _. (x.0, (h.exact x).0 (Contains-head x xs)), λ _. refl)
  some_dead (x ∷ xs) true h e = absurd (omega (arith, eqb-true (length (x ∷ xs)) 0 (sym e)))

  -- no dead task, and no line
  pub no_cycle : (dead : List TaskId) → IsDeadList ss dead → dead ≡ [] → (out : List ℕ) → AppendsCycle ss out out
  no_cycle dead h e out =
      ([], inl (λ (t, d). nothing_in_nil (task t) (subst (λ ts. Contains ts (task t)) e ((h.exact (task t)).1 d)), refl), sym (append-nil out))

  -- the line of the cycle
  pub a_cycle :
      (dead : List TaskId) → IsDeadList ss dead → (c : Cycle) → IsCycleOf ss dead c → (old now : List ℕ) → now ≡ old ++ cycle_line c.tasks →
      AppendsCycle ss old now
  a_cycle dead h c is old now e = (cycle_line c.tasks, inr (c.tasks, (is.start, least_dead dead is.start h is.first, is.walk), refl), e)

-- four pieces, one behind the other
pub four_pieces :
    (a b c d first second third fourth : List ℕ) → first ≡ [] ++ a → second ≡ first ++ b → third ≡ second ++ c → fourth ≡ third ++ d →
    fourth ≡ a ++ b ++ c ++ d
four_pieces a b c d first second third fourth e f g h = h ∙ ap (λ t. t ++ d) (g ∙ ap (λ t. t ++ c) (f ∙ ap (λ t. t ++ b) e))
