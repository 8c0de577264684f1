-- The turns that are told of an op are those in which its task is, loop by loop.
use Rattle.std.proofs.Common.{◌≡◌, ℕ, zero, suc, ◌+◌, ◌<◌, ◌≤◌, Bool, true, false, Option, Some, None, List, [], ◌∷◌, ◌++◌, map, take, refl, sym, ap, subst, ◌∙◌, arith, append_assoc, append-nil}
use Rattle.std.specs.Prelude.{◌==◌, ◌&&◌, if◌then◌else◌, nat_le, nat_lt}
use Rattle.std.specs.List.{slice_get}
use Rattle.std.proofs.lemmas.Bool.{and_left, and_right, eq-eqb, false_from_ne_true, false≢true, leb-true, lt-ltb, le-leb, ltb-true, ne_eqb}
use Rattle.pl_syntax.specs.Tree.{Tree, count, done, fork, loop, plain}
use Rattle.pl_plan.specs.Unfolding.{Start, Visit, a_fork, a_loop, a_plain, a_turn, visit, visits_of}
use Rattle.source_map.specs.declared.turns.LoopTurn.{LoopTurn}
use Rattle.source_map.specs.Origins.{comes_to_op, start_of, visits_by}
use Rattle.source_map.specs.Turns.{TurnedVisit, alone, in_turns, turn_of, turned_by, turned_visits, within}
use Rattle.source_map.proofs.TurnedVisits.{without_turns}
use Rattle.explain_check.specs.declared.scene.LoopTurn as scene
use Rattle.explain_check.specs.Turns.{begins_turn, comes_to_loop, loops_around, loops_of, turn_in, turns_in}
use Rattle.explain_check.proofs.TurnCounts.{turn_more}
use Rattle.report_laws.specs.OpTurns.{TurnsAreCounted, as_of_fault}

-- ---- counts of turns

-- in which turn of loop n a task is behind this visit, where it was in turn c before
abbrev step : ℕ → ℕ → Visit → ℕ
step n c m = if comes_to_loop n m then 0 else (if begins_turn n m then c + 1 else c)

-- the same of each loop
abbrev stepped : (ℕ → ℕ) → Visit → ℕ → ℕ
stepped c m n = step n (c n) m

-- and behind these visits
abbrev after : (ℕ → ℕ) → List TurnedVisit → ℕ → ℕ
after c [] = c
after c (v ∷ vs) = after (stepped c v.visit) vs

same_number : (n : ℕ) → (n == n) ≡ true
same_number n = eq-eqb n n refl

step_loop : (n c : ℕ) → step n c (visit n a_loop) ≡ 0
step_loop n c = ap (λ (b : Bool). if b && true then 0 else (if b && false then c + 1 else c)) (same_number n)

step_turn : (n c : ℕ) → step n c (visit n a_turn) ≡ c + 1
step_turn n c = ap (λ (b : Bool). if b && false then 0 else (if b && true then c + 1 else c)) (same_number n)

-- a visit of another statement
step_other : (n c : ℕ) (m : Visit) → (m.statement ≡ n → ⊥) → step n c m ≡ c
step_other n c m other =
    let no : (m.statement == n) ≡ false = ne_eqb m.statement n other in
    ap (λ (b : Bool). if b then 0 else (if begins_turn n m then c + 1 else c)) (and_left (m.statement == n) _ no)
    ∙ ap (λ (b : Bool). if b then c + 1 else c) (and_left (m.statement == n) _ no)

after_append : (c : ℕ → ℕ) (xs ys : List TurnedVisit) (n : ℕ) → after c (xs ++ ys) n ≡ after (after c xs) ys n
after_append c [] ys n = refl
after_append c (x ∷ xs) ys n = after_append (stepped c x.visit) xs ys n

-- ---- where statements stand

-- the visits are of statements from lo on and below hi
abbrev AreIn : ℕ → ℕ → List TurnedVisit → Type 0
AreIn lo hi [] = Unit {0}
AreIn lo hi (v ∷ vs) = (lo ≤ v.visit.statement) × (v.visit.statement < hi) × AreIn lo hi vs

in_append : (lo hi : ℕ) (xs ys : List TurnedVisit) → AreIn lo hi xs → AreIn lo hi ys → AreIn lo hi (xs ++ ys)
in_append lo hi [] ys a b = b
in_append lo hi (x ∷ xs) ys a b = (a.0, a.1, in_append lo hi xs ys a.2 b)

in_wider : (lo hi low high : ℕ) (vs : List TurnedVisit) → low ≤ lo → hi ≤ high → AreIn lo hi vs → AreIn low high vs
in_wider lo hi low high [] a b h = tt
in_wider lo hi low high (v ∷ vs) a b h = (omega (arith, a, h.0), omega (arith, b, h.1), in_wider lo hi low high vs a b h.2)

in_within : (lo hi : ℕ) (turn : LoopTurn) (vs : List TurnedVisit) → AreIn lo hi vs → AreIn lo hi (map (within turn) vs)
in_within lo hi turn [] h = tt
in_within lo hi turn (v ∷ vs) h = (h.0, h.1, in_within lo hi turn vs h.2)

in_all_turns : (lo hi : ℕ) (f : ℕ → List TurnedVisit) → ((i : ℕ) → AreIn lo hi (f i)) → (k : ℕ) → AreIn lo hi (in_turns f k)
in_all_turns lo hi f each zero = tt
in_all_turns lo hi f each (suc k) = in_append lo hi (in_turns f k) (f (suc k)) (in_all_turns lo hi f each k) (each (suc k))

are_in : (n : ℕ) (tree : Tree) → AreIn n (n + count tree) (turned_visits n tree)
are_in n done = tt
are_in n (plain s rest) = (
  omega arith,
  omega arith,
  in_wider (n + 1) (n + 1 + count rest) n (n + count (plain s rest)) (turned_visits (n + 1) rest) (omega arith) (omega arith) (are_in (n + 1) rest),
)
are_in n (fork x body rest) = (
  omega arith,
  omega arith,
  in_wider (n + 1 + count body) (n + 1 + count body + count rest) n (n + count (fork x body rest)) (turned_visits (n + 1 + count body) rest) (omega arith) (omega arith)
      (are_in (n + 1 + count body) rest),
)
are_in n (loop k body rest) =
    let hi = n + count (loop k body rest) in
    let inner = in_wider (n + 1) (n + 1 + count body) n hi (turned_visits (n + 1) body) (omega arith) (omega arith) (are_in (n + 1) body) in
    let f = λ (i : ℕ). map (within (turn_of n i)) (alone n a_turn ∷ turned_visits (n + 1) body) in (
      omega arith,
      omega arith,
      in_append n hi (in_turns f k) (turned_visits (n + 1 + count body) rest)
          (in_all_turns n hi f (λ i. (omega arith, omega arith, in_within n hi (turn_of n i) (turned_visits (n + 1) body) inner)) k)
          (in_wider (n + 1 + count body) (n + 1 + count body + count rest) n hi (turned_visits (n + 1 + count body) rest) (omega arith) (omega arith)
          (are_in (n + 1 + count body) rest)),
    )

-- a loop that is before these visits stays in its turn
after_other : (c : ℕ → ℕ) (n lo hi : ℕ) (vs : List TurnedVisit) → n < lo → AreIn lo hi vs → after c vs n ≡ c n
after_other c n lo hi [] lt h = refl
after_other c n lo hi (v ∷ vs) lt h =
    after_other (stepped c v.visit) n lo hi vs lt h.2 ∙ step_other n (c n) v.visit (λ same. absurd (omega (arith, lt, h.0, same)))

-- ---- the loops around a statement

not_inside : (first n : ℕ) (body : Tree) → n ≤ first → (nat_lt first n && nat_le n (first + count body)) ≡ false
not_inside first n body le = and_left (nat_lt first n) _ (false_from_ne_true (nat_lt first n) (λ is. absurd (let lt = ltb-true first n is in omega (arith, lt, le))))

behind_it : (first n : ℕ) (body : Tree) → first + count body < n → (nat_lt first n && nat_le n (first + count body)) ≡ false
behind_it first n body lt =
    and_right (nat_lt first n) _ (false_from_ne_true (nat_le n (first + count body)) (λ is. absurd (let le = leb-true n (first + count body) is in omega (arith, lt, le))))

none_around : (first n : ℕ) (tree : Tree) → n < first → loops_around first tree n ≡ []
none_around first n done lt = refl
none_around first n (plain s rest) lt = none_around (first + 1) n rest (omega (arith, lt))
none_around first n (fork x body rest) lt = none_around (first + 1 + count body) n rest (omega (arith, lt))
none_around first n (loop k body rest) lt =
    ap (λ (b : Bool). if b then first ∷ loops_around (first + 1) body n else loops_around (first + 1 + count body) rest n) (not_inside first n body (omega (arith, lt)))
    ∙ none_around (first + 1 + count body) n rest (omega (arith, lt))

around_rest : (first n k : ℕ) (body rest : Tree) → first + 1 + count body ≤ n → loops_around (first + 1 + count body) rest n ≡ loops_around first (loop k body rest) n
around_rest first n k body rest le =
    sym (ap (λ (b : Bool). if b then first ∷ loops_around (first + 1) body n else loops_around (first + 1 + count body) rest n) (behind_it first n body (omega (arith, le))))

around_body : (first n k : ℕ) (body rest : Tree) → first + 1 ≤ n → n < first + 1 + count body →
    first ∷ loops_around (first + 1) body n ≡ loops_around first (loop k body rest) n
around_body first n k body rest le lt =
    let low : nat_lt first n ≡ true = lt-ltb first n (omega (arith, le)) in
    let high : nat_le n (first + count body) ≡ true = le-leb n (first + count body) (omega (arith, lt)) in
    sym (ap (λ (b : Bool). if b && nat_le n (first + count body) then first ∷ loops_around (first + 1) body n else loops_around (first + 1 + count body) rest n) low
    ∙ ap (λ (b : Bool). if b then first ∷ loops_around (first + 1) body n else loops_around (first + 1 + count body) rest n) high)

-- ---- turns that agree with the counts

-- these loops, in the turns that are counted
abbrev counted : (ℕ → ℕ) → List ℕ → List scene.LoopTurn
counted c ns = map (λ n. record { statement = n; turn = c n }) ns

-- each of these visits that makes an op has the turns that are counted up to it, of the loops around its statement
abbrev Agree : (ℕ → List ℕ) → (ℕ → ℕ) → List TurnedVisit → Type 0
Agree loops c [] = Unit {0}
Agree loops c (v ∷ vs) =
    (comes_to_op v.visit.coming ≡ true → as_of_fault v.turns ≡ counted (stepped c v.visit) (loops v.visit.statement)) × Agree loops (stepped c v.visit) vs

agree_append : (loops : ℕ → List ℕ) (c : ℕ → ℕ) (xs ys : List TurnedVisit) → Agree loops c xs → Agree loops (after c xs) ys → Agree loops c (xs ++ ys)
agree_append loops c [] ys a b = b
agree_append loops c (x ∷ xs) ys a b = (a.0, agree_append loops (stepped c x.visit) xs ys a.1 b)

agree_same : (loops others : ℕ → List ℕ) (lo hi : ℕ) → ((n : ℕ) → lo ≤ n → n < hi → loops n ≡ others n) → (c : ℕ → ℕ) (vs : List TurnedVisit) → AreIn lo hi vs →
    Agree loops c vs → Agree others c vs
agree_same loops others lo hi same c [] h a = tt
agree_same loops others lo hi same c (v ∷ vs) h a = (
  (λ is. a.0 is ∙ ap (counted (stepped c v.visit)) (same v.visit.statement h.0 h.1)),
  agree_same loops others lo hi same (stepped c v.visit) vs h.2 a.1,
)

-- in turn i of loop f, of which these are the visits of the body
agree_within : (loops others : ℕ → List ℕ) (f i lo hi : ℕ) → f < lo → ((n : ℕ) → lo ≤ n → n < hi → f ∷ loops n ≡ others n) → (c : ℕ → ℕ) → c f ≡ i →
    (vs : List TurnedVisit) → AreIn lo hi vs → Agree loops c vs → Agree others c (map (within (turn_of f i)) vs)
agree_within loops others f i lo hi low same c is [] h a = tt
agree_within loops others f i lo hi low same c is (v ∷ vs) h a =
    let stays : stepped c v.visit f ≡ i = step_other f (c f) v.visit (λ e. absurd (omega (arith, low, h.0, e))) ∙ is in (
      (λ makes.
          ap (λ rest. record { statement = f; turn = i } ∷ rest) (a.0 makes)
          ∙ ap (λ (j : ℕ). record { statement = f; turn = j } ∷ counted (stepped c v.visit) (loops v.visit.statement)) (sym stays)
          ∙ ap (counted (stepped c v.visit)) (same v.visit.statement h.0 h.1)),
      agree_within loops others f i lo hi low same (stepped c v.visit) stays vs h.2 a.1,
    )

module _ (f k : ℕ) (body rest : Tree) (own : (c : ℕ → ℕ) → Agree (loops_around (f + 1) body) c (turned_visits (f + 1) body)) where
  -- the loops around a statement of this loop, or of what stands behind it
  abbrev around : ℕ → List ℕ
  around n = loops_around f (loop k body rest) n

  -- the visits of turn i
  abbrev turn_visits : ℕ → List TurnedVisit
  turn_visits i = map (within (turn_of f i)) (alone f a_turn ∷ turned_visits (f + 1) body)

  -- behind j turns the loop is in turn j
  in_turn : (c : ℕ → ℕ) → c f ≡ 0 → (j : ℕ) → after c (in_turns turn_visits j) f ≡ j
  in_turn c is zero = is
  in_turn c is (suc j) =
      let inner = map (within (turn_of f (suc j))) (turned_visits (f + 1) body) in
      after_append c (in_turns turn_visits j) (turn_visits (suc j)) f
      ∙ after_other (stepped (after c (in_turns turn_visits j)) (visit f a_turn)) f (f + 1) (f + 1 + count body) inner (omega arith)
      (in_within (f + 1) (f + 1 + count body) (turn_of f (suc j)) (turned_visits (f + 1) body) (are_in (f + 1) body))
      ∙ step_turn f (after c (in_turns turn_visits j) f) ∙ (let e = in_turn c is j in let z : after c (in_turns turn_visits j) f + 1 ≡ suc j = omega (arith, e) in z)

  agree_turns : (c : ℕ → ℕ) → c f ≡ 0 → (j : ℕ) → Agree around c (in_turns turn_visits j)
  agree_turns c is zero = tt
  agree_turns c is (suc j) =
      let before = after c (in_turns turn_visits j) in
      let begun = stepped before (visit f a_turn) in
      let here : begun f ≡ suc j = step_turn f (before f) ∙ (let e = in_turn c is j in let z : before f + 1 ≡ suc j = omega (arith, e) in z) in
      agree_append around c (in_turns turn_visits j) (turn_visits (suc j)) (agree_turns c is j) (
        (λ none. absurd (false≢true none)),
        agree_within (loops_around (f + 1) body) around f (suc j) (f + 1) (f + 1 + count body) (omega arith) (λ n le lt. around_body f n k body rest le lt) begun here
            (turned_visits (f + 1) body) (are_in (f + 1) body) (own begun),
      )

agrees : (f : ℕ) (tree : Tree) (c : ℕ → ℕ) → Agree (loops_around f tree) c (turned_visits f tree)
agrees f done c = tt
agrees f (plain s rest) c = (
  (λ is. sym (ap (counted (stepped c (visit f (a_plain s)))) (none_around (f + 1) f rest (omega arith)))),
  agrees (f + 1) rest (stepped c (visit f (a_plain s))),
)
agrees f (fork x body rest) c = (
  (λ is. sym (ap (counted (stepped c (visit f (a_fork x body)))) (none_around (f + 1 + count body) f rest (omega arith)))),
  agrees (f + 1 + count body) rest (stepped c (visit f (a_fork x body))),
)
agrees f (loop k body rest) c =
    let begun = stepped c (visit f a_loop) in
    let turns = in_turns (turn_visits f k body rest (λ d. agrees (f + 1) body d)) k in (
      (λ none. absurd (false≢true none)),
      agree_append (loops_around f (loop k body rest)) begun turns (turned_visits (f + 1 + count body) rest)
          (agree_turns f k body rest (λ d. agrees (f + 1) body d) begun (step_loop f (c f)) k)
          (agree_same (loops_around (f + 1 + count body) rest) (loops_around f (loop k body rest)) (f + 1 + count body) (f + 1 + count body + count rest)
          (λ n le lt. around_rest f n k body rest le) (after begun turns) (turned_visits (f + 1 + count body) rest) (are_in (f + 1 + count body) rest)
          (agrees (f + 1 + count body) rest (after begun turns))),
    )

-- ---- the law

turn_behind : (n : ℕ) (before : List Visit) (c : ℕ → ℕ) (vs : List TurnedVisit) → turn_in n before ≡ c n →
    turn_in n (before ++ map (λ (v : TurnedVisit). v.visit) vs) ≡ after c vs n
turn_behind n before c [] is = ap (turn_in n) (append-nil before) ∙ is
turn_behind n before c (v ∷ vs) is =
    ap (turn_in n) (sym (append_assoc before (v.visit ∷ []) (map (λ (w : TurnedVisit). w.visit) vs)))
    ∙ turn_behind n (before ++ v.visit ∷ []) (stepped c v.visit) vs
    (turn_more n before v.visit (comes_to_loop n v.visit) (begins_turn n v.visit) refl refl
    ∙ ap (λ d. step n d v.visit) is)

agree_at : (loops : ℕ → List ℕ) (c : ℕ → ℕ) (vs : List TurnedVisit) (k : ℕ) (v : TurnedVisit) → Agree loops c vs → slice_get vs k ≡ Some v →
    comes_to_op v.visit.coming ≡ true → as_of_fault v.turns ≡ counted (after c (take (suc k) vs)) (loops v.visit.statement)
agree_at loops c [] k v a e is = absurd (cc)
agree_at loops c (w ∷ vs) zero v a e is =
    let same : w ≡ v = cc in
    subst (λ (x : TurnedVisit). as_of_fault x.turns ≡ counted (stepped c w.visit) (loops x.visit.statement)) same
    (a.0 (subst (λ (x : TurnedVisit). comes_to_op x.visit.coming ≡ true) (sym same) is))
agree_at loops c (w ∷ vs) (suc k) v a e is = agree_at loops (stepped c w.visit) vs k v a.1 e is

counted_same : (c d : ℕ → ℕ) → ((n : ℕ) → c n ≡ d n) → (ns : List ℕ) → counted c ns ≡ counted d ns
counted_same c d same [] = refl
counted_same c d same (n ∷ ns) =
    ap (λ (j : ℕ). record { statement = n; turn = j } ∷ counted c ns) (same n) ∙ ap (λ rest. record { statement = n; turn = d n } ∷ rest) (counted_same c d same ns)

take_mapped : {A B : Type 0} (g : A → B) (k : ℕ) (xs : List A) → map g (take k xs) ≡ take k (map g xs)
take_mapped g zero xs = refl
take_mapped g (suc k) [] = refl
take_mapped g (suc k) (x ∷ xs) = ap (λ ys. g x ∷ ys) (take_mapped g k xs)

by_start : (o : Option Start) (k : ℕ) (v : TurnedVisit) → slice_get (turned_by o) k ≡ Some v → comes_to_op v.visit.coming ≡ true →
    as_of_fault v.turns ≡ turns_in (loops_of o v.visit.statement) (take (suc k) (visits_by o))
by_start None k v e is = absurd (cc)
by_start (Some start) k v e is =
    let all = turned_visits start.first start.body in
    let visits : map (λ (w : TurnedVisit). w.visit) (take (suc k) all) ≡ take (suc k) (visits_of start.first start.body) =
    take_mapped (λ (w : TurnedVisit). w.visit) (suc k) all ∙ ap (take (suc k)) (without_turns start.first start.body) in
    agree_at (loops_around start.first start.body) (λ _. 0) all k v (agrees start.first start.body (λ _. 0)) e is
    ∙ counted_same (after (λ _. 0) (take (suc k) all)) (λ n. turn_in n (take (suc k) (visits_of start.first start.body)))
    (λ n. sym (turn_behind n [] (λ _. 0) (take (suc k) all) refl) ∙ ap (turn_in n) visits) (loops_around start.first start.body v.visit.statement)

pub turns_are_counted : TurnsAreCounted
turns_are_counted program t k v e is = by_start (start_of program t) k v e is
