-- The clocks and finishes that an activity makes have the next numbers, and stand in this order in what is told of them.
use Rattle.std.proofs.Common.{◌≡◌, ◌⊎◌, ℕ, zero, suc, ◌+◌, ◌≤◌, Bool, true, false, Option, Some, None, Ok, List, [], ◌∷◌, ◌++◌, length, map, if◌then◌else◌, append_assoc, append-nil, arith, refl, sym, ap, subst, ◌∙◌, inl, inr}
use Rattle.std.specs.List.{flat_map, slice_get}
use Rattle.std.proofs.lemmas.List.{length-append}
use Rattle.std.proofs.lemmas.Grind.{flat_map-append}
use Rattle.std.proofs.lemmas.Option.{get_or_from_slice_get, slice_get_within}
use Rattle.armus_base.proofs.Lists.{slice_get-behind, some_at}
use Rattle.clock_syntax.specs.Trees.{ClockTree, advance, clock, drop, resume, skip}
use Rattle.clock_semantics.specs.Moves.{Move, advances, begins, drops, ends, made_by, made_of, opens, resumes, starts, stops}
use Rattle.clock_semantics.specs.Unfolding.{ClockComing, ClockPart, ClockStart, ClockUnfolding, a_close, a_finish, a_loop, a_plain, a_turn, an_async, clock_unfolded, coming}
use Rattle.clock_semantics.proofs.MoveCodes.{moves_at}
use Rattle.clock_semantics.proofs.MoveRows.{first_made}
use Rattle.clock_semantics.proofs.Rows.{row}
use Rattle.clock_laws.proofs.Numbers.{unfolded_rows}
use Rattle.clock_source_map.specs.ClockOps.{makes_move, moving_comings}
use Rattle.clock_source_map.specs.ClockOrigins.{MadeThing, StartedActivity, all_begun, all_things, begun_by, comings_by, made_thing_at, things_in}
use Rattle.clock_source_map.specs.calls.Laws.{AreMovesAt, IsMoveAt}
use Rattle.clock_source_map.proofs.AllOrigins.{begun_many}
use Rattle.clock_source_map.proofs.MovesOf.{moves_come, moves_many}
use Rattle.clock_source_map.proofs.NotedMoves.{moving_more}
use Rattle.report_laws.specs.ClocksTold.{AreToldOfMove, ClocksAreToldByTheirMoves}

-- ---- one move

-- a move at this coming makes nothing
abbrev MakesNothing : ClockComing → Move → Type 0
MakesNothing m move = (made_of move ≡ []) × (made_thing_at m.statement m.part ≡ []) × ((things : List MadeThing) → AreToldOfMove things m move)

-- or one thing, with this number
abbrev MakesOne : ClockComing → Move → Type 0
MakesOne m move =
    (p : ℕ) × (thing : MadeThing) × (made_of move ≡ p ∷ []) × (made_thing_at m.statement m.part ≡ thing ∷ [])
    × ((things : List MadeThing) → slice_get things p ≡ Some thing → AreToldOfMove things m move)

makes_one : (n : ℕ) (part : ClockPart) (move : Move) → IsMoveAt part move → MakesNothing (coming n part) move ⊎ MakesOne (coming n part) move
makes_one n (a_plain (clock x)) (opens p) is = inr (p, record { statement = n; name = Some x }, refl, refl, λ things h. (x, refl, h))
makes_one n (a_plain (advance x)) (advances p) is = inl (refl, refl, λ things. tt)
makes_one n (a_plain (resume x)) (resumes p) is = inl (refl, refl, λ things. tt)
makes_one n (a_plain (drop x)) (drops p) is = inl (refl, refl, λ things. tt)
makes_one n (an_async xs body) (starts c ps f) is = inl (refl, refl, λ things. tt)
makes_one n a_finish (begins f) is = inr (f, record { statement = n; name = None }, refl, refl, λ things h. (refl, h))
makes_one n a_close (ends f) is = inl (refl, refl, λ things. tt)
makes_one n part move is = absurd is

-- ---- the moves of an activity

-- behind these things the activity makes its own, with the numbers from n on
abbrev ToldEach : ℕ → List ClockComing → List Move → Type 0
ToldEach n ms moves =
    (xs ys : List MadeThing) (j k : ℕ) (m : ClockComing) (move : Move) → length xs ≡ n → made_by moves ≡ row n j → slice_get ms k ≡ Some m → slice_get moves k ≡ Some move →
    AreToldOfMove (xs ++ (things_in ms ++ ys)) m move

first_of : (n j p : ℕ) (rest : List ℕ) → p ∷ rest ≡ row n j → (p ≡ n) × (i : ℕ) × (rest ≡ row (suc n) i)
first_of n zero p rest is = absurd (cc)
first_of n (suc j) p rest is =
    let list : p ∷ rest ≡ n ∷ row (suc n) j = is in
    let same : p ≡ n = cc in
    let others : rest ≡ row (suc n) j = cc in
    (same, j, others)

same_things : (m : ClockComing) (move : Move) (things others : List MadeThing) → things ≡ others → AreToldOfMove things m move → AreToldOfMove others m move
same_things m move things others is = subst (λ z. AreToldOfMove z m move) is

told_next : (n : ℕ) (m : ClockComing) (ms : List ClockComing) (move : Move) (moves : List Move) → MakesNothing m move ⊎ MakesOne m move →
    ((i : ℕ) → ToldEach i ms moves) → ToldEach n (m ∷ ms) (move ∷ moves)
told_next n m ms move moves (inl none) rest xs ys j zero other act many made is are =
    let same : m ≡ other = cc in
    let alike : move ≡ act = cc in
    subst (λ z. AreToldOfMove (xs ++ (things_in (m ∷ ms) ++ ys)) z act) same (subst (λ z. AreToldOfMove (xs ++ (things_in (m ∷ ms) ++ ys)) m z) alike (none.2 (xs ++ (things_in (m ∷ ms) ++ ys))))
told_next n m ms move moves (inl none) rest xs ys j (suc k) other act many made is are =
    let fewer : made_by moves ≡ row n j = ap (λ z. z ++ made_by moves) (sym none.0) ∙ made in
    same_things other act (xs ++ (things_in ms ++ ys)) (xs ++ (things_in (m ∷ ms) ++ ys))
    (ap (λ z. xs ++ ((z ++ things_in ms) ++ ys)) (sym none.1))
    (rest n xs ys j k other act many fewer is are)
told_next n m ms move moves (inr one) rest xs ys j zero other act many made is are =
    let (p, thing, number, told, so) = one in
    let first = first_of n j p (made_by moves) (ap (λ z. z ++ made_by moves) (sym number) ∙ made) in
    let same : m ≡ other = cc in
    let alike : move ≡ act = cc in
    let here : slice_get (xs ++ (thing ∷ (things_in ms ++ ys))) p ≡ Some thing =
    ap (slice_get (xs ++ (thing ∷ (things_in ms ++ ys)))) (let z : p ≡ length xs + 0 = omega (arith, first.0, many) in z) ∙ slice_get-behind xs (thing ∷ (things_in ms ++ ys)) 0 in
    subst (λ z. AreToldOfMove (xs ++ (things_in (m ∷ ms) ++ ys)) z act) same (subst (λ z. AreToldOfMove (xs ++ (things_in (m ∷ ms) ++ ys)) m z) alike
    (so (xs ++ (things_in (m ∷ ms) ++ ys)) (ap (λ z. slice_get (xs ++ ((z ++ things_in ms) ++ ys)) p) told ∙ here)))
told_next n m ms move moves (inr one) rest xs ys j (suc k) other act many made is are =
    let (p, thing, number, told, so) = one in
    let (at, i, more) = first_of n j p (made_by moves) (ap (λ z. z ++ made_by moves) (sym number) ∙ made) in
    same_things other act ((xs ++ thing ∷ []) ++ (things_in ms ++ ys)) (xs ++ (things_in (m ∷ ms) ++ ys))
    (append_assoc xs (thing ∷ []) (things_in ms ++ ys) ∙ ap (λ z. xs ++ ((z ++ things_in ms) ++ ys)) (sym told))
    (rest (suc n) (xs ++ thing ∷ []) ys i k other act (omega (arith, many, length-append xs (thing ∷ []))) more is are)

told_each : (ms : List ClockComing) (moves : List Move) → AreMovesAt ms moves → (n : ℕ) → ToldEach n ms moves
told_each [] moves are n = λ xs ys j k m move many made is made_is. absurd (cc)
told_each (m ∷ ms) [] are n = absurd are
told_each (m ∷ ms) (move ∷ moves) are n =
    told_next n m ms move moves (makes_one m.statement m.part move are.0) (λ i. told_each ms moves are.1 i)

-- ---- comings at which no move is made

no_thing : (n : ℕ) (part : ClockPart) → makes_move part ≡ false → made_thing_at n part ≡ []
no_thing n (a_plain (clock x)) none = absurd cc
no_thing n (a_plain (advance x)) none = refl
no_thing n (a_plain (resume x)) none = refl
no_thing n (a_plain (drop x)) none = refl
no_thing n (a_plain skip) none = refl
no_thing n (an_async xs body) none = refl
no_thing n a_finish none = absurd cc
no_thing n a_close none = refl
no_thing n a_loop none = refl
no_thing n a_turn none = refl

moving_things : (ms : List ClockComing) → things_in (moving_comings ms) ≡ things_in ms
moving_things [] = refl
moving_things (m ∷ ms) = ap things_in (moving_more m ms (makes_move m.part) refl) ∙ by (makes_move m.part) refl (moving_things ms)
  where
    by : (b : Bool) → makes_move m.part ≡ b → things_in (moving_comings ms) ≡ things_in ms →
        things_in (if b then m ∷ moving_comings ms else moving_comings ms) ≡ things_in (m ∷ ms)
    by true is rest = ap (λ ws. made_thing_at m.statement m.part ++ ws) rest
    by false is rest = rest ∙ ap (λ w. w ++ things_in ms) (sym (no_thing m.statement m.part is))

-- ---- all activities

-- the things of these activities
abbrev things_of : List StartedActivity → List MadeThing
things_of bs = flat_map (λ b. things_in (comings_by b)) bs

-- as many things as these moves make
many_made : (ms : List ClockComing) (moves : List Move) → AreMovesAt ms moves → length (things_in ms) ≡ length (made_by moves)
many_made [] (stops ps ∷ []) are = refl
many_made [] moves are = absurd are
many_made (m ∷ ms) [] are = absurd are
many_made (m ∷ ms) (move ∷ moves) are = by (makes_one m.statement m.part move are.0) (many_made ms moves are.1)
  where
    by : MakesNothing m move ⊎ MakesOne m move → length (things_in ms) ≡ length (made_by moves) → length (things_in (m ∷ ms)) ≡ length (made_by (move ∷ moves))
    by (inl none) rest = ap (λ z. length (z ++ things_in ms)) none.1 ∙ rest ∙ ap (λ z. length (z ++ made_by moves)) (sym none.0)
    by (inr one) rest = ap (λ z. length (z ++ things_in ms)) one.3 ∙ ap suc rest ∙ ap (λ z. length (z ++ made_by moves)) (sym one.2)

-- behind the things of the activities below t come those from the first number of activity t on
record ThingsBelow (u : ClockUnfolding) (t : ℕ) : Type 0 where
  before : List StartedActivity
  after : List StartedActivity
  all : all_begun u ≡ before ++ after
  below : length before ≡ t
  many : length (things_of before) ≡ first_made u t

module _ (p : ClockTree) (u : ClockUnfolding) (e : clock_unfolded p ≡ Ok u) where
  -- the moves of an activity are made at its comings
  at_comings : (t : ℕ) (b : StartedActivity) → slice_get (all_begun u) t ≡ Some b → AreMovesAt (moving_comings (comings_by b)) (moves_at u t)
  at_comings t b is =
      let within = slice_get_within (all_begun u) t b is in
      let (moves, found) = some_at u.moves t (omega (arith, within, begun_many p u e, moves_many p u e)) in
      subst (AreMovesAt (moving_comings (comings_by b))) (sym (get_or_from_slice_get u.moves t moves [] found)) (moves_come p u e t b moves is found)

  below_next : (t : ℕ) → ThingsBelow u t → suc t ≤ length (all_begun u) → ThingsBelow u (suc t)
  below_next t h le = by h.after refl
    where
      by : (after : List StartedActivity) → h.after ≡ after → ThingsBelow u (suc t)
      by [] none = absurd (let many = ap length (h.all ∙ ap (λ z. h.before ++ z) none ∙ append-nil h.before) in omega (arith, le, many, h.below))
      by (b ∷ after) some =
          let all : all_begun u ≡ h.before ++ (b ∷ after) = h.all ∙ ap (λ z. h.before ++ z) some in
          let here : slice_get (all_begun u) t ≡ Some b =
          ap (λ z. slice_get z t) all ∙ ap (slice_get (h.before ++ (b ∷ after))) (let z : t ≡ length h.before + 0 = omega (arith, h.below) in z)
          ∙ slice_get-behind h.before (b ∷ after) 0 in
          let own : length (things_in (comings_by b)) ≡ length (made_by (moves_at u t)) =
          ap length (sym (moving_things (comings_by b))) ∙ many_made (moving_comings (comings_by b)) (moves_at u t) (at_comings t b here) in
          let more : things_of (h.before ++ b ∷ []) ≡ things_of h.before ++ things_in (comings_by b) =
          flat_map-append (λ b. things_in (comings_by b)) h.before (b ∷ []) ∙ ap (λ z. things_of h.before ++ z) (append-nil (things_in (comings_by b))) in
          record {
            before = h.before ++ b ∷ [];
            after = after;
            all = all ∙ sym (append_assoc h.before (b ∷ []) after);
            below = omega (arith, length-append h.before (b ∷ []), h.below);
            many = ap length more ∙ length-append (things_of h.before) (things_in (comings_by b)) ∙ ap (λ n. n + length (things_in (comings_by b))) h.many
                ∙ ap (λ n. first_made u t + n) own;
          }

  below_all : (t : ℕ) → t ≤ length (all_begun u) → ThingsBelow u t
  below_all zero le = record { before = []; after = all_begun u; all = refl; below = refl; many = refl }
  below_all (suc t) le = below_next t (below_all t (omega (arith, le))) le

pub begun_at : (xs : List ClockStart) (t : ℕ) (start : ClockStart) → slice_get xs t ≡ Some start → slice_get (map begun_by xs) t ≡ Some (begun_by start)
begun_at [] t start is = absurd (cc)
begun_at (x ∷ xs) zero start is = let same : x ≡ start = cc in ap (λ z. Some (begun_by z)) same
begun_at (x ∷ xs) (suc t) start is = begun_at xs t start is

told_behind : (p : ClockTree) (u : ClockUnfolding) (t k : ℕ) (b : StartedActivity) (m : ClockComing) (move : Move) → clock_unfolded p ≡ Ok u →
    slice_get (all_begun u) t ≡ Some b → slice_get (moving_comings (comings_by b)) k ≡ Some m → slice_get (moves_at u t) k ≡ Some move → (below : ThingsBelow u t) →
    (after : List StartedActivity) → below.after ≡ after → AreToldOfMove (all_things u) m move
told_behind p u t k b m move e begun comes makes below [] none = absurd (
    let many = ap length (below.all ∙ ap (λ z. below.before ++ z) none ∙ append-nil below.before) in
    let within = slice_get_within (all_begun u) t b begun in omega (arith, within, many, below.below))
told_behind p u t k b m move e begun comes makes below (c ∷ after) some =
    let all : all_begun u ≡ below.before ++ (c ∷ after) = below.all ∙ ap (λ z. below.before ++ z) some in
    let here : slice_get (all_begun u) t ≡ Some c =
    ap (λ z. slice_get z t) all ∙ ap (slice_get (below.before ++ (c ∷ after))) (let z : t ≡ length below.before + 0 = omega (arith, below.below) in z)
    ∙ slice_get-behind below.before (c ∷ after) 0 in
    let one : ◌≡◌ {A = Option StartedActivity} (Some c) (Some b) = sym here ∙ begun in
    let same : c ≡ b = cc in
    let things : things_of below.before ++ (things_in (moving_comings (comings_by b)) ++ things_of after) ≡ all_things u =
    ap (λ z. things_of below.before ++ (z ++ things_of after)) (moving_things (comings_by b) ∙ ap (λ z. things_in (comings_by z)) (sym same))
    ∙ sym (flat_map-append (λ b. things_in (comings_by b)) below.before (c ∷ after)) ∙ ap things_of (sym all) in
    let within = slice_get_within (all_begun u) t b begun in
    let rows = (unfolded_rows p u e).rows t (omega (arith, within, begun_many p u e)) in
    same_things m move (things_of below.before ++ (things_in (moving_comings (comings_by b)) ++ things_of after)) (all_things u) things
    (told_each (moving_comings (comings_by b)) (moves_at u t) (at_comings p u e t b begun) (first_made u t) (things_of below.before) (things_of after)
    (length (made_by (moves_at u t))) k m move below.many rows.made comes makes)

pub clocks_are_told_by_their_moves : ClocksAreToldByTheirMoves
clocks_are_told_by_their_moves p u t k m move e h =
    let begun = begun_at u.starts t h.start h.started in
    let within = slice_get_within (all_begun u) t (begun_by h.start) begun in
    let below = below_all p u e t (omega (arith, within)) in
    told_behind p u t k (begun_by h.start) m move e begun h.comes h.makes below below.after refl
