-- A list of statements and its tree fix each other.
use Rattle.std.proofs.Common.{◌≡◌, List, [], ◌∷◌, refl, sym, ap, ◌∙◌}
use Rattle.pl_syntax.specs.declared.tree.Stmt.{Stmt}
use Rattle.pl_syntax.specs.declared.tree.Stmt.TheVariants as s
use Rattle.pl_syntax.specs.Tree.{Tree, done, plain, fork, loop, new_task, new_phaser, reg, dereg, adv, await, skip}
use Rattle.pl_syntax.specs.calls.Bodies.{followed_by, tree_of}

-- the statements of a tree
abbrev stmts_of : Tree → List Stmt
stmts_of done = []
stmts_of (plain (new_task x) rest) = s.NewTask x ∷ stmts_of rest
stmts_of (plain (new_phaser x) rest) = s.NewPhaser x ∷ stmts_of rest
stmts_of (plain (reg x y) rest) = s.Reg x y ∷ stmts_of rest
stmts_of (plain (dereg x) rest) = s.Dereg x ∷ stmts_of rest
stmts_of (plain (adv x) rest) = s.Adv x ∷ stmts_of rest
stmts_of (plain (await x off) rest) = s.Await x off ∷ stmts_of rest
stmts_of (plain skip rest) = s.Skip ∷ stmts_of rest
stmts_of (fork x body rest) = s.Fork x body ∷ stmts_of rest
stmts_of (loop k body rest) = s.Loop k body ∷ stmts_of rest

back_first : (q : Stmt) (p : Tree) → stmts_of (followed_by q p) ≡ q ∷ stmts_of p
back_first (s.NewTask x) p = refl
back_first (s.NewPhaser x) p = refl
back_first (s.Reg x y) p = refl
back_first (s.Dereg x) p = refl
back_first (s.Adv x) p = refl
back_first (s.Await x off) p = refl
back_first s.Skip p = refl
back_first (s.Fork x b) p = refl
back_first (s.Loop n b) p = refl

back : (xs : List Stmt) → stmts_of (tree_of xs) ≡ xs
back [] = refl
back (q ∷ qs) = back_first q (tree_of qs) ∙ ap (λ (t : List Stmt). q ∷ t) (back qs)

pub tree_of-injective : (xs ys : List Stmt) → tree_of xs ≡ tree_of ys → xs ≡ ys
tree_of-injective xs ys e = sym (back xs) ∙ ap stmts_of e ∙ back ys
