-- The visits of statements with their turns, one after the other.
use Rattle.std.proofs.Common.{◌≡◌, ◌⊎◌, ℕ, zero, suc, ◌+◌, ◌-◌, ◌*◌, ◌/◌, ◌%◌, ◌<◌, ◌≤◌, Bool, true, false, Option, Some, None, List, [], ◌∷◌, ◌++◌, length, map, drop, get_or, refl, sym, ap, subst, ◌∙◌, arith, append-nil, append_assoc, length-append, mul-le-mul_right, inl, inr}
use Rattle.std.specs.Prelude.{cond, filter, option_map}
use Rattle.std.specs.List.{slice_get}
use Rattle.std.proofs.lemmas.Bool.{cases_lt}
use Rattle.std.proofs.lemmas.List.{drop_all, length-map, map-append}
use Rattle.std.proofs.lemmas.List.Elements.{filter-append}
use Rattle.std.proofs.lemmas.Nat.{div-add-mod', mod_below}
use Rattle.std.proofs.lemmas.Option.{slice_get-map, slice_get-get_or, slice_get_past, slice_get_within}
use Rattle.armus_base.specs.Pieces.{times}
use Rattle.armus_base.proofs.Lists.{slice_get-append, slice_get-behind}
use Rattle.pl_syntax.specs.declared.tree.Stmt.{Stmt}
use Rattle.pl_syntax.specs.declared.tree.Stmt.TheVariants as s
use Rattle.pl_syntax.specs.Tree.{Tree, count, done, fork, loop, plain}
use Rattle.pl_syntax.specs.calls.Bodies.{followed_by, tree_of}
use Rattle.pl_plan.specs.Unfolding.{Start, Visit, a_fork, a_loop, a_plain, a_turn, visit, visits_of}
use Rattle.source_map.specs.declared.turns.LoopTurn.{LoopTurn}
use Rattle.source_map.specs.declared.seeking.Sought.TheVariants.{Found, Left}
use Rattle.source_map.specs.calls.OriginLaws.{TurnsAreOfVisits}
use Rattle.source_map.specs.Origins.{comes_to_op, start_of, statements_where, visits_by}
use Rattle.source_map.specs.Turns.{TurnedVisit, alone, in_turns, making_op, turn_of, turned_by, turned_visits, turns_of, within}
use Rattle.source_map.specs.inside.Seeking.{IsInTurn, IsSought}
use Rattle.source_map.proofs.Sought.{turns_below}
use Rattle.source_map.proofs.Statements.{IsAt, at_next, at_start, at_within, rest_is}

-- ---- lists by turns

-- the same for each turn
turns_same : {A : Type 0} (f g : ℕ → List A) → ((i : ℕ) → f i ≡ g i) → (k : ℕ) → in_turns f k ≡ in_turns g k
turns_same f g same zero = refl
turns_same f g same (suc k) = ap (λ xs. xs ++ f (suc k)) (turns_same f g same k) ∙ ap (λ xs. in_turns g k ++ xs) (same (suc k))

filter_turns : {A : Type 0} (p : A → Bool) (f : ℕ → List A) (k : ℕ) → filter p (in_turns f k) ≡ in_turns (λ i. filter p (f i)) k
filter_turns p f zero = refl
filter_turns p f (suc k) = filter-append p (in_turns f k) (f (suc k)) ∙ ap (λ xs. xs ++ filter p (f (suc k))) (filter_turns p f k)

map_turns : {A B : Type 0} (v : A → B) (f : ℕ → List A) (k : ℕ) → map v (in_turns f k) ≡ in_turns (λ i. map v (f i)) k
map_turns v f zero = refl
map_turns v f (suc k) = map-append v (in_turns f k) (f (suc k)) ∙ ap (λ xs. xs ++ map v (f (suc k))) (map_turns v f k)

times_more : {A : Type 0} (k : ℕ) (xs : List A) → times k xs ++ xs ≡ times (suc k) xs
times_more zero xs = sym (append-nil xs)
times_more (suc k) xs = append_assoc xs (times k xs) xs ∙ ap (λ ys. xs ++ ys) (times_more k xs)

turns_times : {A : Type 0} (xs : List A) (k : ℕ) → in_turns (λ i. xs) k ≡ times k xs
turns_times xs zero = refl
turns_times xs (suc k) = ap (λ ys. ys ++ xs) (turns_times xs k) ∙ times_more k xs

length_turns : {A : Type 0} (f : ℕ → List A) (m : ℕ) → ((i : ℕ) → length (f i) ≡ m) → (k : ℕ) → length (in_turns f k) ≡ k * m
length_turns f m each zero = omega arith
length_turns f m each (suc k) =
    let a = length-append (in_turns f k) (f (suc k)) in let b = length_turns f m each k in let e = each (suc k) in omega arith

-- place r of turn q
get_turn :
    {A : Type 0} (f : ℕ → List A) (m : ℕ) → ((i : ℕ) → length (f i) ≡ m) → (k q r : ℕ) → q < k → r < m →
    slice_get (in_turns f k) (q * m + r) ≡ slice_get (f (suc q)) r
get_turn f m each zero q r lt in_it = absurd (omega arith)
get_turn f m each (suc k) q r lt in_it = by (get_turn f m each k q r) (cases_lt q k)
  where
    long : length (in_turns f k) ≡ k * m
    long = length_turns f m each k

    by :
        (q < k → r < m → slice_get (in_turns f k) (q * m + r) ≡ slice_get (f (suc q)) r) → (q < k) ⊎ (k ≤ q) →
        slice_get (in_turns f k ++ f (suc k)) (q * m + r) ≡ slice_get (f (suc q)) r
    by before (inl below) =
        let e = mul-le-mul_right m (let z : suc q ≤ k = omega (arith, below) in z) in
        slice_get-append (in_turns f k) (f (suc k)) (q * m + r) (omega (arith, e, long, in_it)) ∙ before below in_it
    by before (inr past) =
        let same : k ≡ q = omega (arith, past, lt) in
        ap (slice_get (in_turns f k ++ f (suc k))) (let z : q * m + r ≡ length (in_turns f k) + r = ap (λ n. n * m + r) (sym same) ∙ ap (λ n. n + r) (sym long) in z)
        ∙ (slice_get-behind (in_turns f k) (f (suc k)) r ∙ ap (λ n. slice_get (f (suc n)) r) same)

-- ---- visits

-- which op a visit makes says nothing of its turns
kept_within : (turn : LoopTurn) (vs : List TurnedVisit) → making_op (map (within turn) vs) ≡ map (within turn) (making_op vs)
kept_within turn [] = refl
kept_within turn (v ∷ vs) = by (kept_within turn vs) (comes_to_op v.visit.coming)
  where
    by :
        making_op (map (within turn) vs) ≡ map (within turn) (making_op vs) → (b : Bool) →
        cond b (within turn v ∷ making_op (map (within turn) vs)) (making_op (map (within turn) vs)) ≡ map (within turn) (cond b (v ∷ making_op vs) (making_op vs))
    by e true = ap (λ xs. within turn v ∷ xs) e
    by e false = e

-- nor do its turns say which visit it is
visits_within : (turn : LoopTurn) (vs : List TurnedVisit) → map (λ (v : TurnedVisit). v.visit) (map (within turn) vs) ≡ map (λ (v : TurnedVisit). v.visit) vs
visits_within turn [] = refl
visits_within turn (v ∷ vs) = ap (λ xs. v.visit ∷ xs) (visits_within turn vs)

-- without their turns they are the visits
pub without_turns : (n : ℕ) (tree : Tree) → map (λ (v : TurnedVisit). v.visit) (turned_visits n tree) ≡ visits_of n tree
without_turns n done = refl
without_turns n (plain s rest) = ap (λ xs. visit n (a_plain s) ∷ xs) (without_turns (n + 1) rest)
without_turns n (fork x body rest) = ap (λ xs. visit n (a_fork x body) ∷ xs) (without_turns (n + 1 + count body) rest)
without_turns n (loop k body rest) =
    let turn = alone n a_turn ∷ turned_visits (n + 1) body in
    let all = in_turns (λ i. map (within (turn_of n i)) turn) k in
    let own : map (λ (v : TurnedVisit). v.visit) all ≡ times k (visit n a_turn ∷ visits_of (n + 1) body) =
    map_turns (λ (v : TurnedVisit). v.visit) (λ i. map (within (turn_of n i)) turn) k
    ∙ (turns_same (λ i. map (λ (v : TurnedVisit). v.visit) (map (within (turn_of n i)) turn)) (λ i. visit n a_turn ∷ visits_of (n + 1) body)
    (λ i. visits_within (turn_of n i) turn ∙ ap (λ xs. visit n a_turn ∷ xs) (without_turns (n + 1) body)) k
    ∙ turns_times (visit n a_turn ∷ visits_of (n + 1) body) k) in
    ap (λ xs. visit n a_loop ∷ xs)
    (map-append (λ (v : TurnedVisit). v.visit) all (turned_visits (n + 1 + count body) rest)
    ∙ (ap (λ xs. xs ++ map (λ (v : TurnedVisit). v.visit) (turned_visits (n + 1 + count body) rest)) own
    ∙ ap (λ xs. times k (visit n a_turn ∷ visits_of (n + 1) body) ++ xs) (without_turns (n + 1 + count body) rest)))

-- there are as many ops
many_making : (vs : List TurnedVisit) → length (making_op vs) ≡ length (statements_where comes_to_op (map (λ (v : TurnedVisit). v.visit) vs))
many_making [] = refl
many_making (v ∷ vs) = by (many_making vs) (comes_to_op v.visit.coming)
  where
    ms : List Visit
    ms = filter (λ (m : Visit). comes_to_op m.coming) (map (λ (w : TurnedVisit). w.visit) vs)

    by :
        length (making_op vs) ≡ length (statements_where comes_to_op (map (λ (w : TurnedVisit). w.visit) vs)) → (b : Bool) →
        length (cond b (v ∷ making_op vs) (making_op vs)) ≡ length (map (λ (m : Visit). m.statement) (cond b (v.visit ∷ ms) ms))
    by e true = ap suc e
    by e false = e

-- the ops of statements, with their turns
abbrev pub ops : ℕ → Tree → List TurnedVisit
ops n tree = making_op (turned_visits n tree)

pub many_ops : (n : ℕ) (tree : Tree) → length (ops n tree) ≡ length (statements_where comes_to_op (visits_of n tree))
many_ops n tree = many_making (turned_visits n tree) ∙ ap (λ ms. length (statements_where comes_to_op ms)) (without_turns n tree)

-- ---- a loop

pub ops_of_loop : (k n : ℕ) (body : Tree) → ops n (loop k body done) ≡ in_turns (λ i. map (within (turn_of n i)) (ops (n + 1) body)) k
ops_of_loop k n body =
    ap making_op (append-nil (in_turns (λ i. map (within (turn_of n i)) (alone n a_turn ∷ turned_visits (n + 1) body)) k))
    ∙ (filter_turns (λ (v : TurnedVisit). comes_to_op v.visit.coming) (λ i. map (within (turn_of n i)) (alone n a_turn ∷ turned_visits (n + 1) body)) k
    ∙ turns_same (λ i. making_op (map (within (turn_of n i)) (alone n a_turn ∷ turned_visits (n + 1) body))) (λ i. map (within (turn_of n i)) (ops (n + 1) body))
    (λ i. kept_within (turn_of n i) (alone n a_turn ∷ turned_visits (n + 1) body)) k)

module _ (k n i : ℕ) (body : Tree) where
  each_long : (j : ℕ) → length (map (within (turn_of n j)) (ops (n + 1) body)) ≡ length (ops (n + 1) body)
  each_long j = length-map (ops (n + 1) body) (within (turn_of n j))

  -- no turn makes the op
  pub no_turn_makes : IsInTurn k (length (ops (n + 1) body)) i None → turns_of (slice_get (ops n (loop k body done)) i) ≡ []
  no_turn_makes past =
      let long = length_turns (λ j. map (within (turn_of n j)) (ops (n + 1) body)) (length (ops (n + 1) body)) each_long k in
      ap turns_of (ap (λ xs. slice_get xs i) (ops_of_loop k n body)
      ∙ slice_get_past (in_turns (λ j. map (within (turn_of n j)) (ops (n + 1) body)) k) i (omega (arith, long, past)))

  -- this turn makes it
  pub turn_makes :
      (turn inner : ℕ) → IsInTurn k (length (ops (n + 1) body)) i (Some (turn, inner)) →
      turns_of (slice_get (ops n (loop k body done)) i) ≡ turn_of n (turn + 1) ∷ turns_of (slice_get (ops (n + 1) body) inner)
  turn_makes turn inner (fewer, in_it, is) =
      let m = length (ops (n + 1) body) in
      let v = get_or (ops (n + 1) body) inner (alone n a_turn) in
      let there : slice_get (ops (n + 1) body) inner ≡ Some v = slice_get-get_or (ops (n + 1) body) inner (alone n a_turn) in_it in
      ap turns_of (ap (λ xs. slice_get xs i) (ops_of_loop k n body) ∙ (ap (slice_get (in_turns (λ j. map (within (turn_of n j)) (ops (n + 1) body)) k)) is
      ∙ (get_turn (λ j. map (within (turn_of n j)) (ops (n + 1) body)) m each_long k turn inner fewer in_it
      ∙ (slice_get-map (within (turn_of n (suc turn))) (ops (n + 1) body) inner ∙ ap (option_map (within (turn_of n (suc turn)))) there))))
      ∙ (ap (λ j. turn_of n j ∷ v.turns) (let e : suc turn ≡ turn + 1 = omega arith in e) ∙ sym (ap (λ o. turn_of n (turn + 1) ∷ turns_of o) there))

-- ---- statements one after the other

turned_first :
    (q : Stmt) (rest : Tree) (n : ℕ) →
    turned_visits n (followed_by q rest) ≡ turned_visits n (followed_by q done) ++ turned_visits (n + count (followed_by q done)) rest
turned_first (s.NewTask x) rest n = refl
turned_first (s.NewPhaser x) rest n = refl
turned_first (s.Reg x y) rest n = refl
turned_first (s.Dereg x) rest n = refl
turned_first (s.Adv x) rest n = refl
turned_first (s.Await x off) rest n = refl
turned_first s.Skip rest n = refl
turned_first (s.Fork x body) rest n =
    let e : n + 1 + count body ≡ n + count (followed_by (s.Fork x body) done) = omega arith in
    ap (λ m. turned_visits n (followed_by (s.Fork x body) done) ++ turned_visits m rest) e
turned_first (s.Loop k body) rest n =
    let e : n + 1 + count body ≡ n + count (followed_by (s.Loop k body) done) = omega arith in
    let turns = in_turns (λ i. map (within (turn_of n i)) (alone n a_turn ∷ turned_visits (n + 1) body)) k in
    ap (λ xs. alone n a_loop ∷ xs)
    (ap (λ m. turns ++ turned_visits m rest) e ∙ ap (λ xs. xs ++ turned_visits (n + count (followed_by (s.Loop k body) done)) rest) (sym (append-nil turns)))

ops_first : (q : Stmt) (rest : Tree) (n : ℕ) → ops n (followed_by q rest) ≡ ops n (followed_by q done) ++ ops (n + count (followed_by q done)) rest
ops_first q rest n =
    ap making_op (turned_first q rest n)
    ∙ filter-append (λ (v : TurnedVisit). comes_to_op v.visit.coming) (turned_visits n (followed_by q done)) (turned_visits (n + count (followed_by q done)) rest)

-- op i of a body is op `left` from statement j on, which has number at
pub record TurnsSoFar (items : List Stmt) (j : ℕ) (body : Tree) (n i at left : ℕ) : Type 0 where
  pub numbers : IsAt items j body n at
  pub same : slice_get (ops n body) i ≡ slice_get (ops at (tree_of (drop j items))) left

pub turns_start : (items : List Stmt) (body : Tree) (n i : ℕ) → tree_of items ≡ body → TurnsSoFar items 0 body n i n i
turns_start items body n i e = record { numbers = at_start items body n e; same = ap (λ b. slice_get (ops n b) i) (sym e) }

module _ (items : List Stmt) (j : ℕ) (body : Tree) (n i at left : ℕ) (q : Stmt) (lt : j < length items) (is : q ≡ get_or items j q)
    (h : TurnsSoFar items j body n i at left) where
  both : ops at (tree_of (drop j items)) ≡ ops at (followed_by q done) ++ ops (at + count (followed_by q done)) (tree_of (drop (j + 1) items))
  both = ap (ops at) (rest_is items j q lt is) ∙ ops_first q (tree_of (drop (j + 1) items)) at

  pub turns_within : at + count (followed_by q done) ≤ n + count body
  turns_within = at_within items j body n at q lt is h.numbers

  -- the statement makes it
  pub turns_here :
      (m : ℕ) → IsSought (statements_where comes_to_op (visits_of at (followed_by q done))) left (Found m) →
      slice_get (ops n body) i ≡ slice_get (ops at (followed_by q done)) left
  turns_here m e =
      let inside = slice_get_within (statements_where comes_to_op (visits_of at (followed_by q done))) left m e in
      let many = many_ops at (followed_by q done) in
      h.same ∙ (ap (λ xs. slice_get xs left) both
      ∙ slice_get-append (ops at (followed_by q done)) (ops (at + count (followed_by q done)) (tree_of (drop (j + 1) items))) left (omega (arith, inside, many)))

  -- one behind it does
  pub turns_next :
      (all more : ℕ) → all ≡ count (followed_by q done) → IsSought (statements_where comes_to_op (visits_of at (followed_by q done))) left (Left more) →
      TurnsSoFar items (j + 1) body n i (at + all) more
  turns_next all more all_is e = subst (λ m. TurnsSoFar items (j + 1) body n i (at + m) more) (sym all_is) (record {
    numbers = at_next items j body n at q lt is h.numbers;
    same =
        let many = many_ops at (followed_by q done) in
        h.same ∙ (ap (λ xs. slice_get xs left) both
        ∙ (ap (slice_get (ops at (followed_by q done) ++ ops (at + count (followed_by q done)) (tree_of (drop (j + 1) items))))
        (let z : left ≡ length (ops at (followed_by q done)) + more = omega (arith, e, many) in z)
        ∙ slice_get-behind (ops at (followed_by q done)) (ops (at + count (followed_by q done)) (tree_of (drop (j + 1) items))) more));
  })

pub turns_end :
    (items : List Stmt) (j : ℕ) (body : Tree) (n i at left : ℕ) → length items ≤ j → TurnsSoFar items j body n i at left →
    turns_of (slice_get (ops n body) i) ≡ []
turns_end items j body n i at left le h =
    ap turns_of (h.same ∙ (ap (λ (ts : List Stmt). slice_get (ops at (tree_of ts)) left) (drop_all j items le) ∙ slice_get_past [] left (omega arith)))

-- ---- what is put

-- op i is made in a turn of the loop, or in none
module _ (k at i : ℕ) (body : Tree) (old : List LoopTurn) where
  pub none_put : IsInTurn k (length (ops (at + 1) body)) i None → old ≡ old ++ turns_of (slice_get (ops at (loop k body done)) i)
  none_put past = sym (append-nil old) ∙ ap (λ xs. old ++ xs) (sym (no_turn_makes k at i body past))

  pub turn_put :
      (turn inner : ℕ) (pushed new : List LoopTurn) → IsInTurn k (length (ops (at + 1) body)) i (Some (turn, inner)) →
      pushed ≡ old ++ turn_of at (turn + 1) ∷ [] → new ≡ pushed ++ turns_of (slice_get (ops (at + 1) body) inner) →
      new ≡ old ++ turns_of (slice_get (ops at (loop k body done)) i)
  turn_put turn inner pushed new makes before inside =
      inside ∙ (ap (λ xs. xs ++ turns_of (slice_get (ops (at + 1) body) inner)) before
      ∙ (append_assoc old (turn_of at (turn + 1) ∷ []) (turns_of (slice_get (ops (at + 1) body) inner))
      ∙ ap (λ xs. old ++ xs) (sym (turn_makes k at i body turn inner makes))))

-- in which turn op i is
module _ (k n i : ℕ) (body : Tree) where
  pub in_first_turn :
      (m : ℕ) → (k ≡ 0 → ⊥) → IsSought (statements_where comes_to_op (visits_of n body)) i (Found m) → IsInTurn k (length (ops n body)) i (Some (0, i))
  in_first_turn m some e =
      let inside = slice_get_within (statements_where comes_to_op (visits_of n body)) i m e in
      let many = many_ops n body in
      (omega (arith, some), omega (arith, inside, many), omega arith)

  module _ (left : ℕ) (e : IsSought (statements_where comes_to_op (visits_of n body)) i (Left left)) where
    made : i - left ≡ length (ops n body)
    made = let many = many_ops n body in omega (arith, e, many)

    pub in_later_turn : i < k * (i - left) → IsInTurn k (length (ops n body)) i (Some (i / (i - left), i % (i - left)))
    in_later_turn below = by (i - left) made below
      where
        by : (m : ℕ) → m ≡ length (ops n body) → i < k * m → IsInTurn k (length (ops n body)) i (Some (i / m, i % m))
        by zero is lt = absurd (omega (arith, lt))
        by (suc m) is lt =
            let whole : i / suc m * suc m + i % suc m ≡ i = div-add-mod' i (suc m) in
            let inside : i % suc m < suc m = mod_below i (suc m) (omega arith) in
            subst (λ l. (i / suc m < k) × (i % suc m < l) × (i ≡ i / suc m * l + i % suc m)) is
            (turns_below (i / suc m) k (suc m) (omega (arith, whole, lt)), inside, sym whole)

    pub in_no_turn : k * (i - left) ≤ i → IsInTurn k (length (ops n body)) i None
    in_no_turn past = subst (λ m. k * m ≤ i) made past

-- ---- a task

by_start : (o : Option Start) → map (λ (v : TurnedVisit). v.visit) (turned_by o) ≡ visits_by o
by_start None = refl
by_start (Some start) = without_turns start.first start.body

pub turns_are_of_visits : TurnsAreOfVisits
turns_are_of_visits program t = by_start (start_of program t)
