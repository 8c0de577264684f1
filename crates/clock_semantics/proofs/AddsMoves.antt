-- What an activity adds to the unfolding as it goes: its moves, which start activities and make clocks and finishes with the next numbers.
use Rattle.std.proofs.Common.{◌≡◌, ◌≢◌, ℕ, ◌+◌, ◌<◌, List, [], ◌∷◌, ◌++◌, length, append_assoc, append-nil, arith, sym, ◌∙◌, ap, subst, refl}
use Rattle.std.specs.Prelude.{map}
use Rattle.std.proofs.lemmas.List.{get_or-set_other, get_or-set_same, length-append, length-set}
use Rattle.clock_syntax.specs.Trees.{ClockPlain, advance, clock, drop, resume, skip}
use Rattle.pl_plan.proofs.Places.{at_more}
use Rattle.clock_semantics.specs.calls.ClockTests.{after_end, clock_named, left_at_end, visited}
use Rattle.clock_semantics.specs.Moves.{Move, advances, begins, child_of, drops, ends, made_by, made_of, opens, resumes, started_by, starts, stops}
use Rattle.clock_semantics.specs.Unfolding.{ClockPart, ClockStart, ClockUnfolding, a_close, a_finish, a_loop, a_plain, a_turn, an_async, coming, governed_by, innermost, naming, start_at, with_activity, with_clock_made, with_move}
use Rattle.clock_semantics.proofs.MoveCodes.{moves_at}
use Rattle.clock_semantics.specs.calls.ClockUnfolds.{GoesToEnd, after_part, comes, stops_there}
use Rattle.clock_semantics.specs.calls.ProgramPoints.{ProgramPoint, behind}
use Rattle.clock_semantics.proofs.Rows.{row, row_more}

-- ---- lists of moves

pub started-append : (xs ys : List Move) → started_by (xs ++ ys) ≡ started_by xs ++ started_by ys
started-append [] ys = refl
started-append (m ∷ xs) ys =
    ap (λ zs. child_of m ++ zs) (started-append xs ys) ∙ sym (append_assoc (child_of m) (started_by xs) (started_by ys))

pub made-append : (xs ys : List Move) → made_by (xs ++ ys) ≡ made_by xs ++ made_by ys
made-append [] ys = refl
made-append (m ∷ xs) ys = ap (λ zs. made_of m ++ zs) (made-append xs ys) ∙ sym (append_assoc (made_of m) (made_by xs) (made_by ys))

-- ---- what is added

-- activity t makes these moves from u to w, with the next numbers for whom they start and what they make
pub record Adds (t : ℕ) (u w : ClockUnfolding) (ms : List Move) : Type 0 where
  pub own : moves_at w t ≡ moves_at u t ++ ms
  pub others : (a : ℕ) → a ≢ t → moves_at w a ≡ moves_at u a
  pub children : ℕ
  pub moves_many : length w.moves ≡ length u.moves + children
  pub starts_many : length w.starts ≡ length u.starts + children
  pub started : started_by ms ≡ row (length u.parents) children
  pub parents : length w.parents ≡ length u.parents + children
  pub things : ℕ
  pub made : made_by ms ≡ row (length u.makers) things
  pub makers : length w.makers ≡ length u.makers + things
  pub later : List ClockStart
  pub starts_are : w.starts ≡ u.starts ++ later

pub adds_both : (t : ℕ) (u v w : ClockUnfolding) (xs ys : List Move) → Adds t u v xs → Adds t v w ys → Adds t u w (xs ++ ys)
adds_both t u v w xs ys a b =
    record {
      own = b.own ∙ ap (λ zs. zs ++ ys) a.own ∙ append_assoc (moves_at u t) xs ys;
      others = λ k n. b.others k n ∙ a.others k n;
      children = a.children + b.children;
      moves_many = omega (arith, a.moves_many, b.moves_many);
      starts_many = omega (arith, a.starts_many, b.starts_many);
      started =
          started-append xs ys ∙ ap (λ zs. zs ++ started_by ys) a.started
          ∙ ap (λ zs. row (length u.parents) a.children ++ zs) (b.started ∙ ap (λ n. row n b.children) a.parents)
          ∙ row_more a.children (length u.parents) b.children;
      parents = omega (arith, a.parents, b.parents);
      things = a.things + b.things;
      made =
          made-append xs ys ∙ ap (λ zs. zs ++ made_by ys) a.made
          ∙ ap (λ zs. row (length u.makers) a.things ++ zs) (b.made ∙ ap (λ n. row n b.things) a.makers)
          ∙ row_more a.things (length u.makers) b.things;
      makers = omega (arith, a.makers, b.makers);
      later = a.later ++ b.later;
      starts_are = b.starts_are ∙ ap (λ zs. zs ++ b.later) a.starts_are ∙ append_assoc u.starts a.later b.later;
    }

-- nothing is added where only the visit is counted
pub adds_nothing : (t : ℕ) (u : ClockUnfolding) (part : ClockPart) → Adds t u (visited part u) []
adds_nothing t u part =
    record {
      own = sym (append-nil (moves_at u t));
      others = λ a n. refl;
      children = 0;
      moves_many = omega arith;
      starts_many = omega arith;
      started = refl;
      parents = omega arith;
      things = 0;
      made = refl;
      makers = omega arith;
      later = [];
      starts_are = sym (append-nil u.starts);
    }

-- a move, where v is u with what the move starts or makes
module _ (t : ℕ) (u v : ClockUnfolding) (m : Move) (here : t < length v.moves) (same : (a : ℕ) → moves_at v a ≡ moves_at u a) where
  own_move : moves_at (with_move t m v) t ≡ moves_at u t ++ m ∷ []
  own_move = get_or-set_same v.moves t (moves_at v t ++ m ∷ []) [] here ∙ ap (λ ms. ms ++ m ∷ []) (same t)

  other_moves : (a : ℕ) → a ≢ t → moves_at (with_move t m v) a ≡ moves_at u a
  other_moves a n = get_or-set_other v.moves t a (moves_at v t ++ m ∷ []) [] n ∙ same a

  as_many : length (with_move t m v).moves ≡ length v.moves
  as_many = length-set v.moves t (moves_at v t ++ m ∷ [])

  -- one that starts nobody and makes nothing
  pub adds_move : length v.moves ≡ length u.moves → child_of m ≡ [] → made_of m ≡ [] → v.parents ≡ u.parents → v.makers ≡ u.makers → v.starts ≡ u.starts → Adds t u (with_move t m v) (m ∷ [])
  adds_move moves none nothing parents makers beginnings =
      record {
        own = own_move;
        others = other_moves;
        children = 0;
        moves_many = omega (arith, as_many, moves);
        starts_many = omega (arith, ap length beginnings);
        started = append-nil (child_of m) ∙ none;
        parents = omega (arith, ap length parents);
        things = 0;
        made = append-nil (made_of m) ∙ nothing;
        makers = omega (arith, ap length makers);
        later = [];
        starts_are = beginnings ∙ sym (append-nil u.starts);
      }

  -- one that makes a clock or a finish
  adds_made :
      length v.moves ≡ length u.moves → child_of m ≡ [] → made_of m ≡ length u.makers ∷ [] → v.parents ≡ u.parents → length v.makers ≡ length u.makers + 1 → v.starts ≡ u.starts →
      Adds t u (with_move t m v) (m ∷ [])
  adds_made moves none it parents makers beginnings =
      record {
        own = own_move;
        others = other_moves;
        children = 0;
        moves_many = omega (arith, as_many, moves);
        starts_many = omega (arith, ap length beginnings);
        started = append-nil (child_of m) ∙ none;
        parents = omega (arith, ap length parents);
        things = 1;
        made = append-nil (made_of m) ∙ it;
        makers = makers;
        later = [];
        starts_are = beginnings ∙ sym (append-nil u.starts);
      }

  -- one that starts an activity
  adds_started :
      (start : ClockStart) → length v.moves ≡ length u.moves + 1 → child_of m ≡ length u.parents ∷ [] → made_of m ≡ [] → length v.parents ≡ length u.parents + 1 → v.makers ≡ u.makers →
      v.starts ≡ u.starts ++ start ∷ [] → Adds t u (with_move t m v) (m ∷ [])
  adds_started start moves it nothing parents makers beginnings =
      record {
        own = own_move;
        others = other_moves;
        children = 1;
        moves_many = omega (arith, as_many, moves);
        starts_many = omega (arith, ap length beginnings, length-append u.starts (start ∷ []));
        started = append-nil (child_of m) ∙ it;
        parents = parents;
        things = 0;
        made = append-nil (made_of m) ∙ nothing;
        makers = omega (arith, ap length makers);
        later = start ∷ [];
        starts_are = beginnings;
      }

-- ---- a part

-- the moves that a part makes in this unfolding
abbrev pub move_at_plain : ClockPlain → ClockUnfolding → List Move
move_at_plain (clock x) u = opens (length u.makers) ∷ []
move_at_plain (advance x) u = advances (clock_named u x) ∷ []
move_at_plain (resume x) u = resumes (clock_named u x) ∷ []
move_at_plain (drop x) u = drops (clock_named u x) ∷ []
move_at_plain skip u = []

abbrev pub move_of_end : List ℕ → List Move
move_of_end [] = []
move_of_end (f ∷ fs) = ends f ∷ []

abbrev pub moves_of_part : ClockPart → ClockUnfolding → List Move
moves_of_part (a_plain s) u = move_at_plain s u
moves_of_part (an_async xs body) u = starts (length u.parents) (map (clock_named u) xs) (innermost u.now.governing) ∷ []
moves_of_part a_finish u = begins (length u.makers) ∷ []
moves_of_part a_close u = move_of_end u.now.governing
moves_of_part a_loop u = []
moves_of_part a_turn u = []

module _ (t n : ℕ) (u : ClockUnfolding) (here : t < length u.moves) where
  same_named : (part : ClockPart) (xs : List (List ℕ)) → map (clock_named (visited part u)) xs ≡ map (clock_named u) xs
  same_named part [] = refl
  same_named part (x ∷ xs) = ap (λ ps. clock_named u x ∷ ps) (same_named part xs)

  plain_adds : (s : ClockPlain) → Adds t u (after_part t (coming n (a_plain s)) u) (move_at_plain s u)
  plain_adds (clock x) =
      adds_made t u (naming x (length u.makers) (with_clock_made t (visited (a_plain (clock x)) u))) (opens (length u.makers)) here (λ a. refl)
      refl refl refl refl (length-append u.makers _) refl
  plain_adds (advance x) =
      adds_move t u (visited (a_plain (advance x)) u) (advances (clock_named u x)) here (λ a. refl) refl refl refl refl refl refl
  plain_adds (resume x) =
      adds_move t u (visited (a_plain (resume x)) u) (resumes (clock_named u x)) here (λ a. refl) refl refl refl refl refl refl
  plain_adds (drop x) = adds_move t u (visited (a_plain (drop x)) u) (drops (clock_named u x)) here (λ a. refl) refl refl refl refl refl refl
  plain_adds skip = adds_nothing t u (a_plain skip)

  close_adds : (fs : List ℕ) → Adds t u (after_end t fs (visited a_close u)) (move_of_end fs)
  close_adds [] = adds_nothing t u a_close
  close_adds (f ∷ fs) = adds_move t u (governed_by fs (visited a_close u)) (ends f) here (λ a. refl) refl refl refl refl refl refl

  pub part_adds : (part : ClockPart) → Adds t u (after_part t (coming n part) u) (moves_of_part part u)
  part_adds (a_plain s) = plain_adds s
  part_adds (an_async xs body) =
      let v = visited (an_async xs body) u in
      let ps = map (clock_named v) xs in
      let start = start_at n body ps v.now in
      subst (λ qs. Adds t u (after_part t (coming n (an_async xs body)) u) (starts (length u.parents) qs (innermost u.now.governing) ∷ [])) (same_named (an_async xs body) xs)
      (adds_started t u (with_activity t start v) (starts (length u.parents) ps (innermost u.now.governing)) (omega (arith, here, length-append u.moves ([] ∷ [])))
      (λ a. at_more u.moves [] a) start (length-append u.moves ([] ∷ [])) refl refl (length-append u.parents _) refl refl)
  part_adds a_finish =
      adds_made t u (governed_by (length u.makers ∷ u.now.governing) (with_clock_made t (visited a_finish u))) (begins (length u.makers)) here (λ a. refl)
      refl refl refl refl (length-append u.makers _) refl
  part_adds a_close = close_adds u.now.governing
  part_adds a_loop = adds_nothing t u a_loop
  part_adds a_turn = adds_nothing t u a_turn

-- ---- to the end

pub goes_adds : (t : ℕ) (point : ProgramPoint) (u w : ClockUnfolding) → t < length u.moves → GoesToEnd t point u w → (ms : List Move) × Adds t u w ms
goes_adds t point u w here (comes m is passes rest) =
    let first = part_adds t m.statement u here m.part in
    let r = goes_adds t (behind (length u.makers) point) (after_part t m u) w (omega (arith, here, first.moves_many)) rest in
    (moves_of_part m.part u ++ r.0, adds_both t u (after_part t m u) w (moves_of_part m.part u) r.0 first r.1)
goes_adds t point u w here (stops_there none room) =
    (stops (left_at_end u) ∷ [], adds_move t u u (stops (left_at_end u)) here (λ a. refl) refl refl refl refl refl refl)
