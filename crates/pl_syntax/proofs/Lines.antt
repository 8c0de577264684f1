-- Printing statements one after the other.
use Rattle.std.proofs.Common.{◌≡◌, ℕ, ◌+◌, ◌*◌, ◌<◌, ◌≤◌, List, [], ◌++◌, length, drop, get_or, replicate, codes, Result, Ok, Err, OnOk, sym, ap, subst, ◌∙◌, append_assoc, arith}
use Rattle.std.proofs.lemmas.List.{append-nil, drop_more, drop_all}
use Rattle.pl_syntax.specs.declared.limits.TheConstants.{MAX_OPEN_BRACES}
use Rattle.pl_syntax.specs.declared.tree.Stmt.{Stmt}
use Rattle.pl_syntax.specs.declared.tree.Stmt.TheVariants as s
use Rattle.pl_syntax.specs.Tree.{Tree, done, height}
use Rattle.pl_syntax.specs.calls.Bodies.{followed_by, tree_of}
use Rattle.pl_syntax.specs.Printed.{indented_line, printed_at}
use Rattle.pl_syntax.specs.calls.Printed.{TreeIsWritable}

pub printed_first : (d : ℕ) (q : Stmt) (p : Tree) → printed_at d (followed_by q p) ≡ printed_at d (followed_by q done) ++ printed_at d p
printed_first d (s.NewTask x) p = simp append_assoc
printed_first d (s.NewPhaser x) p = simp append_assoc
printed_first d (s.Reg x y) p = simp append_assoc
printed_first d (s.Dereg x) p = simp append_assoc
printed_first d (s.Adv x) p = simp append_assoc
printed_first d (s.Await x off) p = simp append_assoc
printed_first d s.Skip p = simp append_assoc
printed_first d (s.Fork x b) p = simp append_assoc
printed_first d (s.Loop n b) p = simp append_assoc

pub names_first : (q : Stmt) (p : Tree) → TreeIsWritable (followed_by q done) → TreeIsWritable p → TreeIsWritable (followed_by q p)
names_first (s.NewTask x) p a b = (a.0, b)
names_first (s.NewPhaser x) p a b = (a.0, b)
names_first (s.Reg x y) p a b = (a.0, b)
names_first (s.Dereg x) p a b = (a.0, b)
names_first (s.Adv x) p a b = (a.0, b)
names_first (s.Await x off) p a b = (a.0, b)
names_first s.Skip p a b = (a.0, b)
names_first (s.Fork x i) p a b = (a.0, a.1, b)
names_first (s.Loop n i) p a b = (a.0, a.1, b)

pub height_first : (q : Stmt) (p : Tree) → (height (followed_by q done) ≤ height (followed_by q p)) × (height p ≤ height (followed_by q p))
height_first (s.NewTask x) p = (omega arith, omega arith)
height_first (s.NewPhaser x) p = (omega arith, omega arith)
height_first (s.Reg x y) p = (omega arith, omega arith)
height_first (s.Dereg x) p = (omega arith, omega arith)
height_first (s.Adv x) p = (omega arith, omega arith)
height_first (s.Await x off) p = (omega arith, omega arith)
height_first s.Skip p = (omega arith, omega arith)
height_first (s.Fork x i) p = (omega arith, omega arith)
height_first (s.Loop n i) p = (omega arith, omega arith)

-- statement i of a body, which may be that deep
pub next_fits : (depth : ℕ) (items : List Stmt) (i : ℕ) (q : Stmt) → i < length items → q ≡ get_or items i q → height (tree_of (drop i items)) + depth ≤ MAX_OPEN_BRACES
    → (height (followed_by q done) + depth ≤ MAX_OPEN_BRACES) × (height (tree_of (drop (i + 1) items)) + depth ≤ MAX_OPEN_BRACES)
next_fits depth items i q lt is deep =
    let rest = tree_of (drop (i + 1) items) in
    let e : tree_of (drop i items) ≡ followed_by q rest = ap tree_of (drop_more items i q lt) ∙ ap (λ (x : Stmt). followed_by x rest) (sym is) in
    let g = ap height e in
    let h = height_first q rest in
    (omega arith, omega arith)

-- what is left to print, after i statements
pub record Printing (depth : ℕ) (items : List Stmt) (i : ℕ) (body : Tree) (out old : List ℕ) : Type 0 where
  pub all : tree_of items ≡ body
  pub text : out ++ printed_at depth (tree_of (drop i items)) ≡ old ++ printed_at depth body
  pub names : TreeIsWritable (tree_of (drop i items)) → TreeIsWritable body
  pub deep : height (tree_of (drop i items)) + depth ≤ MAX_OPEN_BRACES

pub starts : (depth : ℕ) (items : List Stmt) (body : Tree) (out : List ℕ) → tree_of items ≡ body → height body + depth ≤ MAX_OPEN_BRACES → Printing depth items 0 body out out
starts depth items body out e h = record {
  all = e;
  text = ap (λ (p : Tree). out ++ printed_at depth p) e;
  names = λ n. subst (λ (p : Tree). TreeIsWritable p) e n;
  deep = subst (λ (p : Tree). height p + depth ≤ MAX_OPEN_BRACES) (sym e) h;
}

module _ (depth : ℕ) (items : List Stmt) (i : ℕ) (body : Tree) (out old : List ℕ) (now : Printing depth items i body out old) where
  pub ends_text : length items ≤ i → out ≡ old ++ printed_at depth body
  ends_text le =
      let e : tree_of (drop i items) ≡ done = ap tree_of (drop_all i items le) in
      let t : out ++ [] ≡ old ++ printed_at depth body = rw e at now.text in
      sym (append-nil out) ∙ t

  pub ends_names : length items ≤ i → TreeIsWritable body
  ends_names le = now.names (let e : tree_of (drop i items) ≡ done = ap tree_of (drop_all i items le) in rw e tt)

  module _ (q : Stmt) (lt : i < length items) (is : q ≡ get_or items i q) where
    next_is : tree_of (drop i items) ≡ followed_by q (tree_of (drop (i + 1) items))
    next_is = ap tree_of (drop_more items i q lt) ∙ ap (λ (x : Stmt). followed_by x (tree_of (drop (i + 1) items))) (sym is)

    pub fits : height (followed_by q done) + depth ≤ MAX_OPEN_BRACES
    fits = let h = height_first q (tree_of (drop (i + 1) items)) in let d = now.deep in let e = ap height next_is in omega arith

    pub goes : (new : List ℕ) → new ≡ out ++ printed_at depth (followed_by q done) → TreeIsWritable (followed_by q done) → Printing depth items (i + 1) body new old
    goes new e n = record {
      all = now.all;
      text =
          let rest = tree_of (drop (i + 1) items) in
          let a : new ++ printed_at depth rest ≡ out ++ printed_at depth (followed_by q rest) = rw (e, printed_first depth q rest)
          (append_assoc out (printed_at depth (followed_by q done)) (printed_at depth rest)) in
          a ∙ ap (λ (p : Tree). out ++ printed_at depth p) (sym next_is) ∙ now.text;
      names = λ m. now.names (subst (λ (p : Tree). TreeIsWritable p) (sym next_is) (names_first q (tree_of (drop (i + 1) items)) n m));
      deep = let h = height_first q (tree_of (drop (i + 1) items)) in let d = now.deep in let e = ap height next_is in omega arith;
    }

pub on_ok : {T E A B : Type 0} (r : Result T E) → OnOk r A → (A → B) → OnOk r B
on_ok (Ok x) a f = f a
on_ok (Err e) a f = tt

-- the lines of a body, and the one that closes it
pub fork_lines : (depth : ℕ) (x inner out one two three : List ℕ)
    → one ≡ out ++ replicate (2 * depth) 32 ++ codes "fork(" ++ x ++ codes ") {\n"
    → two ≡ one ++ inner
    → three ≡ two ++ replicate (2 * depth) 32 ++ codes "}\n"
    → three ≡ out ++ (indented_line depth (codes "fork(" ++ x ++ codes ") {") ++ inner ++ indented_line depth (codes "}") ++ [])
fork_lines depth x inner out one two three a b c = rw (c, b, a) (simp append_assoc)

pub named_line : (depth : ℕ) (x out new : List ℕ) → new ≡ out ++ replicate (2 * depth) 32 ++ [] ++ x ++ codes " = newTid();\n" →
    new ≡ out ++ (indented_line depth (x ++ codes " = newTid();") ++ [])
named_line depth x out new e = rw e (simp (append_assoc, append-nil))
