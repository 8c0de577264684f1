-- The moves of each activity are those of the comings at which it makes one, and its stop.
use Rattle.std.proofs.Common.{◌≡◌, ℕ, zero, suc, ◌+◌, ◌<◌, ◌≤◌, Option, Some, Ok, List, [], ◌∷◌, ◌++◌, length, arith, refl, sym, ap, subst, ◌∙◌, inl, inr}
use Rattle.std.specs.Prelude.{map, slice_get}
use Rattle.std.proofs.lemmas.Bool.{cases_eq}
use Rattle.std.proofs.lemmas.Option.{get_or_from_slice_get, slice_get_within}
use Rattle.armus_base.proofs.Lists.{slice_get-append, past_end}
use Rattle.clock_syntax.specs.Trees.{ClockPlain, ClockTree, advance, async, clock, done, drop, finish, loop, plain, resume, skip}
use Rattle.clock_semantics.specs.calls.ClockTests.{left_at_end}
use Rattle.clock_semantics.specs.Moves.{Move, stops}
use Rattle.clock_semantics.specs.Unfolding.{ClockComing, ClockPart, ClockStart, ClockUnfolding, a_close, a_finish, a_loop, a_plain, a_turn, an_async, clock_opening, clock_unfolded, coming, comings_of, with_known}
use Rattle.clock_semantics.proofs.MoveCodes.{moves_at}
use Rattle.clock_semantics.specs.calls.ClockUnfolds.{GoesToEnd, UnfoldsFrom, after_part, comes, no_more, one_more, stops_there}
use Rattle.clock_semantics.specs.calls.ProgramPoints.{ProgramPoint, before, behind, closing, finishes_around, first_point, last, part_at, turning}
use Rattle.clock_semantics.proofs.AddsMoves.{Adds, adds_both, adds_move, move_of_end, moves_of_part, part_adds}
use Rattle.clock_semantics.proofs.MoveRows.{AreRows, known_rows, next_rows, opening_rows}
use Rattle.clock_semantics.proofs.PointComings.{comings_at, first_left, none_left, whole_body}
use Rattle.clock_semantics.proofs.UnfoldsByPoints.{unfolding_is_unfolded}
use Rattle.clock_source_map.specs.ClockOps.{moving_comings}
use Rattle.clock_source_map.specs.ClockOrigins.{StartedActivity, all_begun, begun_by, comings_by}
use Rattle.clock_source_map.specs.calls.Laws.{AreMovesAt}

-- ---- one part

same_part : (x y : ClockComing) → ◌≡◌ {A = Option ClockComing} (Some x) (Some y) → x.part ≡ y.part
same_part x y e = (let same : x ≡ y = cc in ap (λ (m : ClockComing). m.part) same)

-- where one comes to the end of a finish, there is one whose end is still to come
some_finish : (point : ProgramPoint) (n : ℕ) → part_at point ≡ Some (coming n a_close) → (f : ℕ) × (fs : List ℕ) × (finishes_around point ≡ f ∷ fs)
some_finish (before k done rest) n is = some_finish rest n is
some_finish (before k (plain s more) rest) n is = absurd (let e : a_plain s ≡ a_close = same_part (coming k (a_plain s)) (coming n a_close) is in cc)
some_finish (before k (async xs body more) rest) n is =
    absurd (let e : an_async xs body ≡ a_close = same_part (coming k (an_async xs body)) (coming n a_close) is in cc)
some_finish (before k (finish body more) rest) n is = absurd (let e : a_finish ≡ a_close = same_part (coming k a_finish) (coming n a_close) is in cc)
some_finish (before k (loop j body more) rest) n is = absurd (let e : a_loop ≡ a_close = same_part (coming k a_loop) (coming n a_close) is in cc)
some_finish (turning k zero body rest) n is = some_finish rest n is
some_finish (turning k (suc j) body rest) n is = absurd (let e : a_turn ≡ a_close = same_part (coming k a_turn) (coming n a_close) is in cc)
some_finish (closing k f rest) n is = (f, finishes_around rest, refl)
some_finish (last k f) n is = absurd cc

-- at a part one makes a move of its kind, or none; before those of the comings behind it
module _ (n : ℕ) (ms : List ClockComing) (moves : List Move) (are : AreMovesAt (moving_comings ms) moves) (u : ClockUnfolding) where
  plain_moves : (s : ClockPlain) → AreMovesAt (moving_comings (coming n (a_plain s) ∷ ms)) (moves_of_part (a_plain s) u ++ moves)
  plain_moves (clock x) = (tt, are)
  plain_moves (advance x) = (tt, are)
  plain_moves (resume x) = (tt, are)
  plain_moves (drop x) = (tt, are)
  plain_moves skip = are

  close_moves : (fs : List ℕ) (f : ℕ) (gs : List ℕ) → fs ≡ f ∷ gs → AreMovesAt (moving_comings (coming n a_close ∷ ms)) (move_of_end fs ++ moves)
  close_moves fs f gs is = subst (λ z. AreMovesAt (moving_comings (coming n a_close ∷ ms)) (move_of_end z ++ moves)) (sym is) (tt, are)

  part_moves : (point : ProgramPoint) (part : ClockPart) → part_at point ≡ Some (coming n part) → u.now.governing ≡ finishes_around point →
      AreMovesAt (moving_comings (coming n part ∷ ms)) (moves_of_part part u ++ moves)
  part_moves point (a_plain s) is governs = plain_moves s
  part_moves point (an_async xs body) is governs = (tt, are)
  part_moves point a_finish is governs = (tt, are)
  part_moves point a_close is governs = let (f, gs, some) = some_finish point n is in close_moves u.now.governing f gs (governs ∙ some)
  part_moves point a_loop is governs = are
  part_moves point a_turn is governs = are

-- ---- one activity

-- from a point to the end
goes_moves :
    (t : ℕ) (point : ProgramPoint) (u w : ClockUnfolding) → t < length u.moves → GoesToEnd t point u w →
    (moves : List Move) × Adds t u w moves × AreMovesAt (moving_comings (comings_at point)) moves
goes_moves t point u w here (comes m is passes rest) =
    let first = part_adds t m.statement u here m.part in
    let (moves, adds, are) = goes_moves t (behind (length u.makers) point) (after_part t m u) w (omega (arith, here, first.moves_many)) rest in (
      moves_of_part m.part u ++ moves,
      adds_both t u (after_part t m u) w (moves_of_part m.part u) moves first adds,
      subst (λ z. AreMovesAt (moving_comings z) (moves_of_part m.part u ++ moves)) (sym (first_left (length u.makers) point m is.part))
          (part_moves m.statement (comings_at (behind (length u.makers) point)) moves are u point m.part is.part is.governs),
    )
goes_moves t point u w here (stops_there none room) = (
  stops (left_at_end u) ∷ [],
  adds_move t u u (stops (left_at_end u)) here (λ a. refl) refl refl refl refl refl refl,
  subst (λ z. AreMovesAt (moving_comings z) (stops (left_at_end u) ∷ [])) (sym (none_left point none)) tt,
)

-- ---- all activities

-- the moves of an activity that is started so are these
abbrev AreMovesOfStart : ClockStart → List Move → Type 0
AreMovesOfStart start moves = AreMovesAt (moving_comings (comings_of start.first start.body)) moves

-- the activities below t have ended
record HaveMoved (t : ℕ) (u : ClockUnfolding) : Type 0 where
  rows : AreRows t u
  each : (a : ℕ) (start : ClockStart) → a < t → slice_get u.starts a ≡ Some start → AreMovesOfStart start (moves_at u a)

same_start : (x y : ClockStart) → ◌≡◌ {A = Option ClockStart} (Some x) (Some y) → x ≡ y
same_start x y e = cc

have_moved :
    (t : ℕ) (u v : ClockUnfolding) (start : ClockStart) → HaveMoved t u → slice_get u.starts t ≡ Some start → GoesToEnd t (first_point start) (with_known start.known u) v →
    HaveMoved (t + 1) v
have_moved t u v start h is goes = record { rows = subst (λ n. AreRows n v) (omega arith) (next_rows t (with_known start.known u) v began here moves adds); each = each }
  where
    began : AreRows t (with_known start.known u)
    began = known_rows t u start h.rows

    within : t < length u.starts
    within = slice_get_within u.starts t start is

    here : t < length u.parents
    here = omega (arith, within, h.rows.starts_many)

    all : (moves : List Move) × Adds t (with_known start.known u) v moves × AreMovesAt (moving_comings (comings_at (first_point start))) moves
    all = goes_moves t (first_point start) (with_known start.known u) v (omega (arith, here, h.rows.moves_many)) goes

    moves : List Move
    moves = all.0

    adds : Adds t (with_known start.known u) v moves
    adds = all.1

    own : moves_at v t ≡ moves
    own = adds.own ∙ ap (λ xs. xs ++ moves) (h.rows.idle t (omega arith))

    stays : (a : ℕ) → a < length u.starts → slice_get v.starts a ≡ slice_get u.starts a
    stays a l = ap (λ zs. slice_get zs a) adds.starts_are ∙ slice_get-append u.starts adds.later a l

    each : (a : ℕ) (other : ClockStart) → a < t + 1 → slice_get v.starts a ≡ Some other → AreMovesOfStart other (moves_at v a)
    each a other l found = elim (cases_eq a t) [
      | inl same ↦
          let it : start ≡ other = same_start start other (sym is ∙ sym (stays t within) ∙ ap (slice_get v.starts) (sym same) ∙ found) in
          subst (λ z. AreMovesOfStart other (moves_at v z)) (sym same)
          (subst (λ z. AreMovesOfStart z (moves_at v t)) it
          (subst (AreMovesOfStart start) (sym own) (subst (λ z. AreMovesAt (moving_comings z) moves) (whole_body start) all.2)))
      | inr other_one ↦
          subst (AreMovesOfStart other) (sym (adds.others a other_one)) (h.each a other (omega arith) (sym (stays a (omega (arith, within))) ∙ found))
    ]

all_moved : (t : ℕ) (u w : ClockUnfolding) → HaveMoved t u → UnfoldsFrom t u w → (n : ℕ) × HaveMoved n w × (length w.starts ≤ n)
all_moved t u w h (no_more none) = (t, h, past_end u.starts t none)
all_moved t u w h (one_more {v = v} start is goes rest) = all_moved (t + 1) v w (have_moved t u v start h is goes) rest

module _ (p : ClockTree) (u : ClockUnfolding) (e : clock_unfolded p ≡ Ok u) where
  opening_moved : HaveMoved 0 (clock_opening p)
  opening_moved = record { rows = opening_rows p; each = λ a start l is. absurd (omega arith) }

  moved : (n : ℕ) × HaveMoved n u × (length u.starts ≤ n)
  moved = all_moved 0 (clock_opening p) u opening_moved ((unfolding_is_unfolded p u).0 e)

  -- there are as many activities as parents, and as many lists of moves
  pub starts_many : length u.starts ≡ length u.parents
  starts_many = moved.1.rows.starts_many

  pub moves_many : length u.moves ≡ length u.parents
  moves_many = moved.1.rows.moves_many

  -- the moves of each activity
  pub moves_come : (t : ℕ) (b : StartedActivity) (moves : List Move) → slice_get (all_begun u) t ≡ Some b → slice_get u.moves t ≡ Some moves →
      AreMovesAt (moving_comings (comings_by b)) moves
  moves_come t b moves is are =
      let (start, found, same) = start_found u.starts t b is in
      let within = slice_get_within u.starts t start found in
      subst (λ z. AreMovesAt (moving_comings (comings_by z)) moves) same
      (subst (AreMovesOfStart start) (get_or_from_slice_get u.moves t moves [] are) (moved.1.each t start (omega (arith, within, moved.2)) found))
    where
      start_found : (xs : List ClockStart) (t : ℕ) (b : StartedActivity) → slice_get (map begun_by xs) t ≡ Some b → (start : ClockStart) × (slice_get xs t ≡ Some start) × (begun_by start ≡ b)
      start_found [] t b is = absurd cc
      start_found (x ∷ xs) zero b is = (x, refl, (let one : ◌≡◌ {A = Option StartedActivity} (Some (begun_by x)) (Some b) = is in cc))
      start_found (x ∷ xs) (suc t) b is = start_found xs t b is
