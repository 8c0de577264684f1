-- The tasks of a deadlock, put together.
use Rattle.std.proofs.Common.{◌≡◌, ℕ, ◌≤◌, ◌<◌, List, [], ◌∷◌, ◌++◌, arith, codes, flat_map, get_or, length}
use Rattle.std.specs.List.{enumerate_from}
use Rattle.armus_base.specs.declared.ids.TaskId.{TaskId}
use Rattle.pl_syntax.specs.declared.tree.Program.{Program}
use Rattle.explain_facts.specs.Accounts.{Layout}
use Rattle.explain_steps.specs.StepWords.{drawn_task_words}
use Rattle.explain_steps.proofs.Pieces.{two_pieces}
use Rattle.explain_avoid.specs.RefusalWords.{avoided_circle_words, avoided_link_words, member_words}

module _ (l : Layout) (p : Program) (ops : ℕ → ℕ) (out mid end : List ℕ) where
  -- of one task
  pub one_alone :
      (xs : List TaskId) → 1 ≤ length xs → length xs < 2 → mid ≡ out ++ member_words l p ops (get_or xs 0 (record { 0 = 0 })).0 →
      end ≡ mid ++ codes " waits for itself" → end ≡ out ++ avoided_circle_words l p ops xs
  one_alone [] some few first last = absurd (omega arith)
  one_alone (t ∷ []) some few first last = two_pieces out mid end (member_words l p ops t.0) (codes " waits for itself") first last
  one_alone (t ∷ u ∷ rest) some few first last = absurd (omega arith)

  -- and of more
  pub several :
      (xs : List TaskId) → 2 ≤ length xs → mid ≡ out ++ flat_map (λ (k, v). member_words l p ops v.0 ++ avoided_link_words k) (enumerate_from 0 xs) →
      end ≡ mid ++ drawn_task_words p (get_or xs 0 (record { 0 = 0 })).0 → end ≡ out ++ avoided_circle_words l p ops xs
  several [] some first last = absurd (omega arith)
  several (t ∷ []) some first last = absurd (omega arith)
  several (t ∷ u ∷ rest) some first last =
      two_pieces out mid end (flat_map (λ (k, v). member_words l p ops v.0 ++ avoided_link_words k) (enumerate_from 0 (t ∷ u ∷ rest))) (drawn_task_words p t.0) first last
