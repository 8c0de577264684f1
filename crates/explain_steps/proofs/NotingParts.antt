-- Noting statements one after the other, and finding them by their numbers.
use Rattle.std.proofs.Common.{◌≡◌, ℕ, zero, suc, ◌+◌, ◌-◌, ◌<◌, ◌≤◌, List, ◌++◌, Some, length, drop, get_or, sym, ap, refl, ◌∙◌, append_assoc, append-nil, arith}
use Rattle.std.specs.Prelude.{option_map}
use Rattle.std.specs.Borrow.{Bor}
use Rattle.std.specs.List.{slice_get}
use Rattle.std.proofs.lemmas.List.{drop_all, drop_more}
use Rattle.std.proofs.lemmas.Option.{slice_get-get_or, slice_get-map}
use Rattle.explain_facts.specs.Accounts.{numbered}
use Rattle.clock_syntax.specs.declared.tree.ClockStmt.{ClockStmt}
use Rattle.clock_syntax.specs.declared.tree.ClockStmt.TheVariants as s
use Rattle.clock_syntax.specs.Trees.{ClockTree, clock_count, done}
use Rattle.clock_syntax.specs.calls.Bodies.{clock_followed_by, clock_tree_of}
use Rattle.clock_syntax.proofs.ClockParts.{clock_counts}
use Rattle.clock_semantics.specs.Unfolding.{ClockPart}
use Rattle.explain_steps.specs.OpFacts.{written_parts}
use Rattle.explain_steps.specs.calls.Known.{clock_part_of, kept_parts}

-- those of a statement come before those of the statements after it
written_first : (q : ClockStmt) (p : ClockTree) → written_parts (clock_followed_by q p) ≡ written_parts (clock_followed_by q done) ++ written_parts p
written_first (s.Clock x) p = refl
written_first (s.Advance x) p = refl
written_first (s.Resume x) p = refl
written_first (s.Drop x) p = refl
written_first s.Skip p = refl
written_first (s.Async xs b) p = simp append-nil
written_first (s.Finish b) p = simp append-nil
written_first (s.Loop k b) p = simp append-nil

-- what is left to note, after i statements
pub record NotingParts (items : List ClockStmt) (i : ℕ) (body : ClockTree) (noted old : List ClockPart) : Type 0 where
  pub left : noted ++ written_parts (clock_tree_of (drop i items)) ≡ old ++ written_parts body
  pub fewer : clock_count (clock_tree_of (drop i items)) ≤ clock_count body

pub begins : (items : List ClockStmt) (body : ClockTree) (noted : List ClockPart) → clock_tree_of items ≡ body → NotingParts items 0 body noted noted
begins items body noted e = record { left = ap (λ (p : ClockTree). noted ++ written_parts p) e; fewer = let c = ap clock_count e in omega arith }

module _ (items : List ClockStmt) (i : ℕ) (body : ClockTree) (noted old : List ClockPart) (now : NotingParts items i body noted old) where
  pub all_noted : length items ≤ i → noted ≡ old ++ written_parts body
  all_noted le =
      let e : clock_tree_of (drop i items) ≡ done = ap clock_tree_of (drop_all i items le) in
      sym (append-nil noted) ∙ (sym (ap (λ (p : ClockTree). noted ++ written_parts p) e) ∙ now.left)

  module _ (q : ClockStmt) (lt : i < length items) (is : q ≡ get_or items i q) where
    pub small : clock_count (clock_followed_by q done) ≤ clock_count body
    small = let c = clock_counts items i q lt is in let f = now.fewer in omega arith

    rest_is : clock_tree_of (drop i items) ≡ clock_followed_by q (clock_tree_of (drop (i + 1) items))
    rest_is = ap clock_tree_of (drop_more items i q lt) ∙ ap (λ (x : ClockStmt). clock_followed_by x (clock_tree_of (drop (i + 1) items))) (sym is)

    pub goes : (new : List ClockPart) → new ≡ noted ++ written_parts (clock_followed_by q done) → NotingParts items (i + 1) body new old
    goes new e = record {
      left =
          let p = clock_tree_of (drop (i + 1) items) in
          ap (λ xs. xs ++ written_parts p) e ∙ (append_assoc noted (written_parts (clock_followed_by q done)) (written_parts p)
          ∙ (ap (λ xs. noted ++ xs) (sym (written_first q p)) ∙ (ap (λ (t : ClockTree). noted ++ written_parts t) (sym rest_is) ∙ now.left)));
      fewer = let c = clock_counts items i q lt is in let f = now.fewer in omega arith;
    }

-- a statement that is kept
module _ (rows : List (Bor ClockStmt)) where
  pub part_is :
      (n : ℕ) (row : Bor ClockStmt) → (n ≡ 0 → ⊥) → n ≤ length rows → row ≡ get_or rows (n - 1) row → Some (clock_part_of row.now) ≡ numbered (kept_parts rows) n
  part_is zero row some few is = absurd (some refl)
  part_is (suc i) row some few is =
      let there : slice_get rows i ≡ Some row = slice_get-get_or rows i row (omega (arith, few)) ∙ ap Some (ap (λ j. get_or rows j row) (let e : i ≡ suc i - 1 = omega arith in e) ∙ sym is) in
      sym (slice_get-map (λ (r : Bor ClockStmt). clock_part_of r.now) rows i ∙ ap (option_map (λ (r : Bor ClockStmt). clock_part_of r.now)) there)
