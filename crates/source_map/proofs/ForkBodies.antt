-- The body of a fork along the statements of a body, and where a body ends.
use Rattle.std.proofs.Common.{◌≡◌, ℕ, zero, suc, ◌+◌, ◌<◌, ◌≤◌, ◌⊎◌, Bool, true, false, Option, Some, None, List, [], ◌∷◌, ◌++◌, length, map, drop, get_or, refl, sym, ap, subst, ◌∙◌, arith, inl, inr, append-nil}
use Rattle.std.specs.Prelude.{nat_le, ◌==◌, if◌then◌else◌}
use Rattle.std.proofs.lemmas.Bool.{cases_eq, cases_lt, eq-eqb, le-leb, lt-leb, ne_eqb}
use Rattle.std.proofs.lemmas.List.{drop_all, map-append}
use Rattle.armus_base.specs.Pieces.{times}
use Rattle.pl_syntax.specs.declared.tree.Stmt.{Stmt}
use Rattle.pl_syntax.specs.Tree.{Tree, count, done, fork, loop, plain}
use Rattle.pl_syntax.specs.calls.Bodies.{followed_by, tree_of}
use Rattle.pl_plan.specs.Unfolding.{Visit, a_turn, visit, visits_of}
use Rattle.source_map.specs.Origins.{last_or}
use Rattle.source_map.specs.inside.Tables.{forked_body, fork_body}
use Rattle.source_map.proofs.Statements.{IsAt, at_next, at_start, at_within, visits_next}

-- ---- the statements of visits, and the last of them

abbrev pub numbers_of : List Visit → List ℕ
numbers_of ms = map (λ (m : Visit). m.statement) ms

pub last_append : (n : ℕ) (xs ys : List ℕ) → last_or n (xs ++ ys) ≡ last_or (last_or n xs) ys
last_append n [] ys = refl
last_append n (x ∷ xs) ys = last_append x xs ys

last_times : (k n : ℕ) (x : ℕ) (xs : List ℕ) → last_or n (times (suc k) (x ∷ xs)) ≡ last_or x xs
last_times zero n x xs = ap (last_or x) (append-nil xs)
last_times (suc k) n x xs = last_append x xs (times (suc k) (x ∷ xs)) ∙ last_times k (last_or x xs) x xs

numbers_times : (k : ℕ) (ms : List Visit) → numbers_of (times k ms) ≡ times k (numbers_of ms)
numbers_times zero ms = refl
numbers_times (suc k) ms = map-append (λ (m : Visit). m.statement) ms (times k ms) ∙ ap (λ xs. numbers_of ms ++ xs) (numbers_times k ms)

-- one with turns
pub last_turn : (k before n m : ℕ) (body : Tree) → (k ≡ 0 → ⊥) → m ≡ last_or n (numbers_of (visits_of (n + 1) body)) →
    m ≡ last_or before (numbers_of (visits_of n (loop k body done)))
last_turn zero before n m body some e = absurd (some refl)
last_turn (suc k) before n m body some e =
    let turn = visit n a_turn ∷ visits_of (n + 1) body in
    e ∙ sym (ap (λ ms. last_or n (numbers_of ms)) (append-nil (times (suc k) turn)) ∙ ap (last_or n) (numbers_times (suc k) turn)
    ∙ last_times k n n (numbers_of (visits_of (n + 1) body)))

-- behind j statements of a body the last visit was of this statement
pub record LastSoFar (items : List Stmt) (j : ℕ) (body : Tree) (n before at last : ℕ) : Type 0 where
  pub numbers : IsAt items j body n at
  pub same : last_or last (numbers_of (visits_of at (tree_of (drop j items)))) ≡ last_or before (numbers_of (visits_of n body))

pub last_start : (items : List Stmt) (body : Tree) (n before : ℕ) → tree_of items ≡ body → LastSoFar items 0 body n before n before
last_start items body n before e = record { numbers = at_start items body n e; same = ap (λ b. last_or before (numbers_of (visits_of n b))) e }

module _ (items : List Stmt) (j : ℕ) (body : Tree) (n before at last : ℕ) (q : Stmt) (lt : j < length items) (is : q ≡ get_or items j q)
    (h : LastSoFar items j body n before at last) where
  pub last_within : at + count (followed_by q done) ≤ n + count body
  last_within = at_within items j body n at q lt is h.numbers

  pub last_next : (many : ℕ) → many ≡ count (followed_by q done) → (next : ℕ) → next ≡ last_or last (numbers_of (visits_of at (followed_by q done))) →
      LastSoFar items (j + 1) body n before (at + many) next
  last_next many all next e =
      let here = visits_of at (followed_by q done) in
      let behind = visits_of (at + count (followed_by q done)) (tree_of (drop (j + 1) items)) in
      subst (λ m. LastSoFar items (j + 1) body n before (at + m) next) (sym all) (record {
        numbers = at_next items j body n at q lt is h.numbers;
        same = ap (λ m. last_or m (numbers_of behind)) e ∙ sym (last_append last (numbers_of here) (numbers_of behind))
            ∙ ap (last_or last) (sym (map-append (λ (m : Visit). m.statement) here behind))
            ∙ ap (λ ms. last_or last (numbers_of ms)) (sym (visits_next items j q lt is at)) ∙ h.same;
      })

pub last_end : (items : List Stmt) (j : ℕ) (body : Tree) (n before at last : ℕ) → length items ≤ j → LastSoFar items j body n before at last →
    last ≡ last_or before (numbers_of (visits_of n body))
last_end items j body n before at last le h = ap (λ (ts : List Stmt). last_or last (numbers_of (visits_of at (tree_of ts)))) (sym (drop_all j items le)) ∙ h.same

-- ---- the body of a fork

choose_first : (b : Bool) (x y : Option Tree) → b ≡ true → (if b then x else y) ≡ x
choose_first b x y e = ap (λ c. if c then x else y) e

choose_other : (b : Bool) (x y : Option Tree) → b ≡ false → (if b then x else y) ≡ y
choose_other b x y e = ap (λ c. if c then x else y) e

module _ (n f : ℕ) (x : List ℕ) (body rest : Tree) where
  pub fork_here : n ≡ f → fork_body n (fork x body rest) f ≡ Some body
  fork_here e = choose_first (n == f) (Some body) _ (eq-eqb n f e)

  pub fork_inside : (n ≡ f → ⊥) → f ≤ n + count body → fork_body n (fork x body rest) f ≡ fork_body (n + 1) body f
  fork_inside ne le = choose_other (n == f) (Some body) _ (ne_eqb n f ne) ∙ choose_first (nat_le f (n + count body)) (fork_body (n + 1) body f) _ (le-leb f (n + count body) le)

  pub fork_behind : n + count body < f → fork_body n (fork x body rest) f ≡ fork_body (n + 1 + count body) rest f
  fork_behind lt =
      choose_other (n == f) (Some body) _ (ne_eqb n f (λ e. omega (arith, e, lt)))
      ∙ choose_other (nat_le f (n + count body)) (fork_body (n + 1) body f) _ (lt-leb f (n + count body) lt)

module _ (n f k : ℕ) (body rest : Tree) where
  pub loop_inside : f ≤ n + count body → fork_body n (loop k body rest) f ≡ fork_body (n + 1) body f
  loop_inside le = choose_first (nat_le f (n + count body)) (fork_body (n + 1) body f) _ (le-leb f (n + count body) le)

  pub loop_behind : n + count body < f → fork_body n (loop k body rest) f ≡ fork_body (n + 1 + count body) rest f
  loop_behind lt = choose_other (nat_le f (n + count body)) (fork_body (n + 1) body f) _ (lt-leb f (n + count body) lt)

-- no fork has a number before the first statement's
pub none_before : (tree : Tree) (n f : ℕ) → f < n → fork_body n tree f ≡ None
none_before done n f lt = refl
none_before (plain p rest) n f lt = none_before rest (n + 1) f (omega (arith, lt))
none_before (fork x body rest) n f lt = fork_inside n f x body rest (λ e. omega (arith, e, lt)) (omega (arith, lt)) ∙ none_before body (n + 1) f (omega (arith, lt))
none_before (loop k body rest) n f lt = loop_inside n f k body rest (omega (arith, lt)) ∙ none_before body (n + 1) f (omega (arith, lt))

-- or behind the last one's
pub none_behind : (tree : Tree) (n f : ℕ) → n + count tree ≤ f → fork_body n tree f ≡ None
none_behind done n f le = refl
none_behind (plain p rest) n f le = none_behind rest (n + 1) f (omega (arith, le))
none_behind (fork x body rest) n f le = fork_behind n f x body rest (omega (arith, le)) ∙ none_behind rest (n + 1 + count body) f (omega (arith, le))
none_behind (loop k body rest) n f le = loop_behind n f k body rest (omega (arith, le)) ∙ none_behind rest (n + 1 + count body) f (omega (arith, le))

some_is : (a b : Tree) → Some a ≡ Some b → a ≡ b
some_is a b e = cc

-- a fork's body stands behind it
pub record IsInside (n f : ℕ) (tree b : Tree) : Type 0 where
  pub from : n ≤ f
  pub to : f + 1 + count b ≤ n + count tree

in_fork : (n f : ℕ) (x : List ℕ) (body rest b : Tree) → (fork_body (n + 1) body f ≡ Some b → IsInside (n + 1) f body b) →
    (fork_body (n + 1 + count body) rest f ≡ Some b → IsInside (n + 1 + count body) f rest b) → fork_body n (fork x body rest) f ≡ Some b →
    IsInside n f (fork x body rest) b
in_fork n f x body rest b first others e = by (cases_eq n f) (cases_lt (n + count body) f)
  where
    by : (n ≡ f) ⊎ (n ≡ f → ⊥) → (n + count body < f) ⊎ (f ≤ n + count body) → IsInside n f (fork x body rest) b
    by (inl same) l =
        let is : body ≡ b = some_is body b (sym (fork_here n f x body rest same) ∙ e) in
        record { from = omega (arith, same); to = omega (arith, same, ap count is) }
    by (inr other) (inl behind) =
        let h = others (sym (fork_behind n f x body rest behind) ∙ e) in record { from = omega (arith, h.from); to = omega (arith, h.to) }
    by (inr other) (inr inside) =
        let h = first (sym (fork_inside n f x body rest other inside) ∙ e) in record { from = omega (arith, h.from); to = omega (arith, h.to) }

in_loop : (n f k : ℕ) (body rest b : Tree) → (fork_body (n + 1) body f ≡ Some b → IsInside (n + 1) f body b) →
    (fork_body (n + 1 + count body) rest f ≡ Some b → IsInside (n + 1 + count body) f rest b) → fork_body n (loop k body rest) f ≡ Some b →
    IsInside n f (loop k body rest) b
in_loop n f k body rest b first others e = by (cases_lt (n + count body) f)
  where
    by : (n + count body < f) ⊎ (f ≤ n + count body) → IsInside n f (loop k body rest) b
    by (inl behind) =
        let h = others (sym (loop_behind n f k body rest behind) ∙ e) in record { from = omega (arith, h.from); to = omega (arith, h.to) }
    by (inr inside) =
        let h = first (sym (loop_inside n f k body rest inside) ∙ e) in record { from = omega (arith, h.from); to = omega (arith, h.to) }

pub found_inside : (tree b : Tree) (n f : ℕ) → fork_body n tree f ≡ Some b → IsInside n f tree b
found_inside done b n f e = absurd (cc)
found_inside (plain p rest) b n f e = let h = found_inside rest b (n + 1) f e in record { from = omega (arith, h.from); to = omega (arith, h.to) }
found_inside (fork x body rest) b n f e =
    in_fork n f x body rest b (λ g. found_inside body b (n + 1) f g) (λ g. found_inside rest b (n + 1 + count body) f g) e
found_inside (loop k body rest) b n f e =
    in_loop n f k body rest b (λ g. found_inside body b (n + 1) f g) (λ g. found_inside rest b (n + 1 + count body) f g) e

-- a body that is found has its numbers within those of the program
pub body_within : (whole b : Tree) (f : ℕ) → forked_body whole f ≡ Some b → f + 1 + count b ≤ 1 + count whole
body_within whole b f e = by (cases_eq f 0)
  where
    by : (f ≡ 0) ⊎ (f ≡ 0 → ⊥) → f + 1 + count b ≤ 1 + count whole
    by (inl none) =
        let is : whole ≡ b = some_is whole b (sym (choose_first (f == 0) (Some whole) (fork_body 1 whole f) (eq-eqb f 0 none)) ∙ e) in
        omega (arith, none, ap count is)
    by (inr some) = (found_inside whole b 1 f (sym (choose_other (f == 0) (Some whole) (fork_body 1 whole f) (ne_eqb f 0 some)) ∙ e)).to
