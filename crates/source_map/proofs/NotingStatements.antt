-- Noting statements one after the other.
use Rattle.std.proofs.Common.{◌≡◌, ℕ, ◌+◌, ◌<◌, ◌≤◌, List, ◌++◌, length, drop, get_or, sym, ap, refl, ◌∙◌, append_assoc, append-nil, arith}
use Rattle.std.proofs.lemmas.List.{drop_all}
use Rattle.pl_syntax.specs.declared.tree.Stmt.{Stmt}
use Rattle.pl_syntax.specs.declared.tree.Stmt.TheVariants as s
use Rattle.pl_syntax.specs.Tree.{Tree, count, done}
use Rattle.pl_syntax.specs.calls.Bodies.{followed_by, tree_of}
use Rattle.pl_syntax.proofs.Parts.{counts}
use Rattle.pl_plan.specs.Unfolding.{Coming}
use Rattle.source_map.specs.Origins.{written_statements}
use Rattle.source_map.proofs.Statements.{rest_is}

-- those of a statement come before those of the statements after it
written_first : (q : Stmt) (p : Tree) → written_statements (followed_by q p) ≡ written_statements (followed_by q done) ++ written_statements p
written_first (s.NewTask x) p = refl
written_first (s.NewPhaser x) p = refl
written_first (s.Reg x y) p = refl
written_first (s.Dereg x) p = refl
written_first (s.Adv x) p = refl
written_first (s.Await x off) p = refl
written_first s.Skip p = refl
written_first (s.Fork x b) p = simp (append_assoc, append-nil)
written_first (s.Loop n b) p = simp (append_assoc, append-nil)

-- what is left to note, after i statements
pub record Noting (items : List Stmt) (i : ℕ) (body : Tree) (noted old : List Coming) : Type 0 where
  pub left : noted ++ written_statements (tree_of (drop i items)) ≡ old ++ written_statements body
  pub fewer : count (tree_of (drop i items)) ≤ count body

pub begins : (items : List Stmt) (body : Tree) (noted : List Coming) → tree_of items ≡ body → Noting items 0 body noted noted
begins items body noted e = record { left = ap (λ (p : Tree). noted ++ written_statements p) e; fewer = let c = ap count e in omega arith }

module _ (items : List Stmt) (i : ℕ) (body : Tree) (noted old : List Coming) (now : Noting items i body noted old) where
  pub all_noted : length items ≤ i → noted ≡ old ++ written_statements body
  all_noted le =
      let e : tree_of (drop i items) ≡ done = ap tree_of (drop_all i items le) in
      sym (append-nil noted) ∙ (sym (ap (λ (p : Tree). noted ++ written_statements p) e) ∙ now.left)

  module _ (q : Stmt) (lt : i < length items) (is : q ≡ get_or items i q) where
    pub small : count (followed_by q done) ≤ count body
    small = let c = counts items i q lt is in let f = now.fewer in omega arith

    pub goes : (new : List Coming) → new ≡ noted ++ written_statements (followed_by q done) → Noting items (i + 1) body new old
    goes new e = record {
      left =
          let p = tree_of (drop (i + 1) items) in
          ap (λ xs. xs ++ written_statements p) e ∙ (append_assoc noted (written_statements (followed_by q done)) (written_statements p)
          ∙ (ap (λ xs. noted ++ xs) (sym (written_first q p)) ∙ (ap (λ (t : Tree). noted ++ written_statements t) (sym (rest_is items i q lt is)) ∙ now.left)));
      fewer = let c = counts items i q lt is in let f = now.fewer in omega arith;
    }
