-- The search of a statement along the ops of a body.
use Rattle.std.proofs.Common.{◌≡◌, ℕ, zero, suc, ◌+◌, ◌-◌, ◌*◌, ◌/◌, ◌%◌, ◌<◌, ◌≤◌, Some, List, [], ◌∷◌, ◌++◌, length, drop, get_or, refl, sym, ap, subst, ◌∙◌, arith, length-append, inl, inr, mul-le-mul_right}
use Rattle.std.specs.List.{slice_get}
use Rattle.std.proofs.lemmas.Bool.{cases_lt}
use Rattle.std.proofs.lemmas.List.{drop_all}
use Rattle.std.proofs.lemmas.Nat.{div-add-mod', mod_below}
use Rattle.armus_base.specs.Pieces.{times}
use Rattle.pl_syntax.specs.declared.tree.Stmt.{Stmt}
use Rattle.pl_syntax.specs.Tree.{Tree, count, done, loop}
use Rattle.pl_syntax.specs.calls.Bodies.{followed_by, tree_of}
use Rattle.pl_plan.specs.Unfolding.{a_turn, visit, visits_of}
use Rattle.source_map.specs.Origins.{comes_to_op, statements_where}
use Rattle.source_map.specs.inside.Seeking.{IsSought}
use Rattle.source_map.specs.declared.seeking.Sought.{Sought}
use Rattle.source_map.specs.declared.seeking.Sought.TheVariants.{Found, Left}
use Rattle.source_map.proofs.Statements.{IsAt, at_next, at_start, at_within, visits_next, where_append, where_loop, where_turns}

-- ---- places in two lists

get_left : (xs ys : List ℕ) (i n : ℕ) → slice_get xs i ≡ Some n → slice_get (xs ++ ys) i ≡ Some n
get_left [] ys i n e = absurd (cc)
get_left (x ∷ xs) ys zero n e = e
get_left (x ∷ xs) ys (suc i) n e = get_left xs ys i n e

get_right : (xs ys : List ℕ) (i : ℕ) → slice_get (xs ++ ys) (length xs + i) ≡ slice_get ys i
get_right [] ys i = ap (slice_get ys) (let e : 0 + i ≡ i = omega arith in e)
get_right (x ∷ xs) ys i = ap (slice_get (x ∷ (xs ++ ys))) (let e : suc (length xs) + i ≡ suc (length xs + i) = omega arith in e) ∙ get_right xs ys i

pub none_past : (xs : List ℕ) (i : ℕ) → slice_get xs (length xs + i) ≡ slice_get [] i
none_past [] i = ap (slice_get []) (let e : 0 + i ≡ i = omega arith in e)
none_past (x ∷ xs) i = ap (slice_get (x ∷ xs)) (let e : suc (length xs) + i ≡ suc (length xs + i) = omega arith in e) ∙ none_past xs i

pub sought_first : (xs ys : List ℕ) (i n : ℕ) → IsSought xs i (Found n) → IsSought (xs ++ ys) i (Found n)
sought_first xs ys i n h = get_left xs ys i n h

pub sought_behind : (xs ys : List ℕ) (i left : ℕ) (r : Sought) → IsSought xs i (Left left) → IsSought ys left r → IsSought (xs ++ ys) i r
sought_behind xs ys i left (Found n) h e = ap (slice_get (xs ++ ys)) h ∙ get_right xs ys left ∙ e
sought_behind xs ys i left (Left more) h e = omega (arith, h, e, length-append xs ys)

-- ---- turns

length_times : (k : ℕ) (xs : List ℕ) → length (times k xs) ≡ k * length xs
length_times zero xs = omega arith
length_times (suc k) xs = length-append xs (times k xs) ∙ omega (arith, length_times k xs)

get_times : (a k : ℕ) (xs : List ℕ) (j n : ℕ) → a < k → slice_get xs j ≡ Some n → slice_get (times k xs) (a * length xs + j) ≡ Some n
get_times a zero xs j n lt e = absurd (omega (arith, lt))
get_times zero (suc k) xs j n lt e = ap (slice_get (xs ++ times k xs)) (let z : 0 * length xs + j ≡ j = omega arith in z) ∙ get_left xs (times k xs) j n e
get_times (suc a) (suc k) xs j n lt e =
    ap (slice_get (xs ++ times k xs)) (let z : suc a * length xs + j ≡ length xs + (a * length xs + j) = omega arith in z)
    ∙ get_right xs (times k xs) (a * length xs + j) ∙ get_times a k xs j n (omega (arith, lt)) e

pub turns_below : (a k m : ℕ) → a * m < k * m → a < k
turns_below a k m lt = elim (cases_lt a k) [ inl below ↦ below | inr above ↦ absurd (let e = mul-le-mul_right m above in omega (arith, e, lt)) ]

-- the op is among the turns, where a turn has some op and there are so many turns
in_turns : (k : ℕ) (xs : List ℕ) (i : ℕ) (r : Sought) → i < k * length xs → 0 < length xs → IsSought xs (i % length xs) r → IsSought (times k xs) i r
in_turns k xs i (Found n) below some e =
    let whole : i / length xs * length xs + i % length xs ≡ i = div-add-mod' i (length xs) in
    let fewer : i / length xs < k = turns_below (i / length xs) k (length xs) (omega (arith, whole, below)) in
    ap (slice_get (times k xs)) (sym whole) ∙ get_times (i / length xs) k xs (i % length xs) n fewer e
in_turns k xs i (Left m) below some e = absurd (omega (arith, e, mod_below i (length xs) some))

module _ (body : Tree) (n at k i : ℕ) where
  abbrev ops : List ℕ
  ops = statements_where comes_to_op (visits_of n body)

  abbrev turn_ops : List ℕ
  turn_ops = statements_where comes_to_op (times k (visit at a_turn ∷ visits_of n body))

  turns_are : turn_ops ≡ times k ops
  turns_are = where_turns comes_to_op k at (visits_of n body) refl

  pub no_turn : k ≡ 0 → IsSought turn_ops i (Left i)
  no_turn none = subst (λ xs. IsSought xs i (Left i)) (sym (turns_are ∙ ap (λ m. times m ops) none)) (let z : i ≡ 0 + i = omega arith in z)

  pub first_turn : (m : ℕ) → (k ≡ 0 → ⊥) → IsSought ops i (Found m) → IsSought turn_ops i (Found m)
  first_turn m some h =
      let is : k ≡ suc (k - 1) = omega (arith, some) in
      subst (λ xs. IsSought xs i (Found m)) (sym (turns_are ∙ ap (λ j. times j ops) is)) (sought_first ops (times (k - 1) ops) i m h)

  module _ (left : ℕ) (h : IsSought ops i (Left left)) where
    made_is : i - left ≡ length ops
    made_is = omega (arith, h)

    pub some_made : i < k * (i - left) → 0 < i - left
    some_made below = positive (i - left) below
      where
        positive : (made : ℕ) → i < k * made → 0 < made
        positive zero lt = absurd (omega (arith, lt))
        positive (suc m) lt = omega arith

    pub later_turn : (r : Sought) → i < k * (i - left) → IsSought ops (i % (i - left)) r → IsSought turn_ops i r
    later_turn r below e =
        let b : i < k * length ops = subst (λ m. i < k * m) made_is below in
        let some : 0 < length ops = subst (λ m. 0 < m) made_is (some_made below) in
        subst (λ xs. IsSought xs i r) (sym turns_are) (in_turns k ops i r b some (subst (λ m. IsSought ops (i % m) r) made_is e))

    pub no_such_turn : k * (i - left) ≤ i → IsSought turn_ops i (Left (i - k * (i - left)))
    no_such_turn past =
        subst (λ xs. IsSought xs i (Left (i - k * (i - left)))) (sym turns_are)
        (let e : length (times k ops) ≡ k * (i - left) = length_times k ops ∙ ap (λ m. k * m) (sym made_is) in
        let z : i ≡ length (times k ops) + (i - k * (i - left)) = omega (arith, e, past) in z)

-- a loop alone
pub sought_loop : (k n i : ℕ) (body : Tree) (r : Sought) → IsSought (statements_where comes_to_op (times k (visit n a_turn ∷ visits_of (n + 1) body))) i r →
    IsSought (statements_where comes_to_op (visits_of n (loop k body done))) i r
sought_loop k n i body r h = subst (λ xs. IsSought xs i r) (sym (where_loop comes_to_op k n body refl)) h

-- ---- statements one after the other

abbrev ops_from : ℕ → Tree → List ℕ
ops_from n tree = statements_where comes_to_op (visits_of n tree)

-- the search goes on from statement j of a body, which has number at, with so many ops left
pub record SoughtSoFar (items : List Stmt) (j : ℕ) (body : Tree) (n i at left : ℕ) : Type 0 where
  pub numbers : IsAt items j body n at
  pub goes : (r : Sought) → IsSought (ops_from at (tree_of (drop j items))) left r → IsSought (ops_from n body) i r

pub sought_start : (items : List Stmt) (body : Tree) (n i : ℕ) → tree_of items ≡ body → SoughtSoFar items 0 body n i n i
sought_start items body n i e = record { numbers = at_start items body n e; goes = λ r h. subst (λ b. IsSought (ops_from n b) i r) e h }

module _ (items : List Stmt) (j : ℕ) (body : Tree) (n i at left : ℕ) (q : Stmt) (lt : j < length items) (is : q ≡ get_or items j q)
    (h : SoughtSoFar items j body n i at left) where
  both : ops_from at (tree_of (drop j items)) ≡ ops_from at (followed_by q done) ++ ops_from (at + count (followed_by q done)) (tree_of (drop (j + 1) items))
  both = ap (statements_where comes_to_op) (visits_next items j q lt is at)
      ∙ where_append comes_to_op (visits_of at (followed_by q done)) (visits_of (at + count (followed_by q done)) (tree_of (drop (j + 1) items)))

  pub sought_within : at + count (followed_by q done) ≤ n + count body
  sought_within = at_within items j body n at q lt is h.numbers

  pub sought_here : (m : ℕ) → IsSought (ops_from at (followed_by q done)) left (Found m) → IsSought (ops_from n body) i (Found m)
  sought_here m e =
      h.goes (Found m) (subst (λ xs. IsSought xs left (Found m)) (sym both)
      (sought_first (ops_from at (followed_by q done)) (ops_from (at + count (followed_by q done)) (tree_of (drop (j + 1) items))) left m e))

  pub sought_next : (many more : ℕ) → many ≡ count (followed_by q done) → IsSought (ops_from at (followed_by q done)) left (Left more) →
      SoughtSoFar items (j + 1) body n i (at + many) more
  sought_next many more all e = subst (λ m. SoughtSoFar items (j + 1) body n i (at + m) more) (sym all) (record {
    numbers = at_next items j body n at q lt is h.numbers;
    goes = λ r g. h.goes r (subst (λ xs. IsSought xs left r) (sym both)
        (sought_behind (ops_from at (followed_by q done)) (ops_from (at + count (followed_by q done)) (tree_of (drop (j + 1) items))) left more r e g));
  })

pub sought_end : (items : List Stmt) (j : ℕ) (body : Tree) (n i at left : ℕ) → length items ≤ j → SoughtSoFar items j body n i at left → IsSought (ops_from n body) i (Left left)
sought_end items j body n i at left le h =
    h.goes (Left left) (subst (λ b. IsSought (ops_from at b) left (Left left)) (sym (ap tree_of (drop_all j items le))) (let z : left ≡ 0 + left = omega arith in z))
