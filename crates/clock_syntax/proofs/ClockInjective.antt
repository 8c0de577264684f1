-- A list of statements and its tree fix each other.
use Rattle.std.proofs.Common.{◌≡◌, List, [], ◌∷◌, refl, sym, ap, ◌∙◌}
use Rattle.clock_syntax.specs.declared.tree.ClockStmt.{ClockStmt}
use Rattle.clock_syntax.specs.declared.tree.ClockStmt.TheVariants as s
use Rattle.clock_syntax.specs.Trees.{ClockTree, done, plain, async, finish, loop, clock, advance, resume, drop, skip}
use Rattle.clock_syntax.specs.calls.Bodies.{clock_followed_by, clock_tree_of}

-- the statements of a tree
abbrev stmts_of : ClockTree → List ClockStmt
stmts_of done = []
stmts_of (plain (clock x) rest) = s.Clock x ∷ stmts_of rest
stmts_of (plain (advance x) rest) = s.Advance x ∷ stmts_of rest
stmts_of (plain (resume x) rest) = s.Resume x ∷ stmts_of rest
stmts_of (plain (drop x) rest) = s.Drop x ∷ stmts_of rest
stmts_of (plain skip rest) = s.Skip ∷ stmts_of rest
stmts_of (async xs body rest) = s.Async xs body ∷ stmts_of rest
stmts_of (finish body rest) = s.Finish body ∷ stmts_of rest
stmts_of (loop k body rest) = s.Loop k body ∷ stmts_of rest

back_first : (q : ClockStmt) (p : ClockTree) → stmts_of (clock_followed_by q p) ≡ q ∷ stmts_of p
back_first (s.Clock x) p = refl
back_first (s.Advance x) p = refl
back_first (s.Resume x) p = refl
back_first (s.Drop x) p = refl
back_first s.Skip p = refl
back_first (s.Async xs b) p = refl
back_first (s.Finish b) p = refl
back_first (s.Loop n b) p = refl

back : (xs : List ClockStmt) → stmts_of (clock_tree_of xs) ≡ xs
back [] = refl
back (q ∷ qs) = back_first q (clock_tree_of qs) ∙ ap (λ (t : List ClockStmt). q ∷ t) (back qs)

pub clock_tree_of-injective : (xs ys : List ClockStmt) → clock_tree_of xs ≡ clock_tree_of ys → xs ≡ ys
clock_tree_of-injective xs ys e = sym (back xs) ∙ ap stmts_of e ∙ back ys
