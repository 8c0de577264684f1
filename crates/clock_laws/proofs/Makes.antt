-- Which moves an activity makes from a point of its text on, by its names and by how it stands alone; and that those of an unfolding are such.
use Rattle.std.proofs.Common.{◌≡◌, ℕ, zero, suc, ◌+◌, ◌<◌, true, false, not, Option, Some, None, List, [], ◌∷◌, ◌++◌, length, arith, sym, ◌∙◌, ap, subst, refl}
use Rattle.std.specs.List.{list_any}
use Rattle.std.specs.Str.{bytes_eq}
use Rattle.std.specs.Prelude.{◌&&◌, ◌==◌, if◌then◌else◌, is_none, map, option_to_list, slice_get, unwrap_or}
use Rattle.std.proofs.lemmas.Bool.{false≢true, not-false}
use Rattle.std.proofs.lemmas.Option.{slice_get_within}
use Rattle.armus_base.proofs.Lists.{slice_get-append}
use Rattle.clock_syntax.specs.Trees.{ClockPlain, ClockTree, advance, async, clock, clock_count, done, drop, finish, loop, plain, resume, skip}
use Rattle.pl_plan.proofs.Tables.{slice_get-last}
use Rattle.clock_semantics.specs.calls.ClockTests.{ClockRow, PassesClockTable, after_end, clock_named, clock_table, left_at_end, names_rows, no_activity_left, no_clock_cell_left, no_clock_left, no_clock_op_left, visited}
use Rattle.clock_semantics.specs.Moves.{Move, ActivityStanding, advances, begins, drops, ends, opens, registered_on, resumes, starts, stops, unregistered_from, with_pending}
use Rattle.clock_semantics.specs.Unfolding.{ClockComing, ClockNames, ClockPart, ClockStart, ClockUnfolding, a_close, a_finish, a_loop, a_plain, a_turn, an_async, coming, innermost, start_at}
use Rattle.clock_semantics.specs.calls.ClockUnfolds.{GoesToEnd, after_part, comes, stops_there}
use Rattle.clock_semantics.specs.calls.ProgramPoints.{ProgramPoint, before, behind, closing, finishes_around, last, part_at, turning}
use Rattle.clock_semantics.proofs.AddsMoves.{Adds, adds_both, adds_move, move_of_end, moves_of_part, part_adds}

-- ---- names

-- the names of an async behind these earlier ones stand for these clocks: registered, named once, and not pending
abbrev pub AreNamed : ClockNames → ActivityStanding → List (List ℕ) → List (List ℕ) → List ℕ → Type 0
AreNamed names standing earlier [] [] = Unit {0}
AreNamed names standing earlier (x ∷ xs) (p ∷ ps) =
    (names x ≡ Some p) × (standing.members p ≡ true) × (list_any (bytes_eq x) earlier ≡ false) × (standing.pending p ≡ false)
    × AreNamed names standing (x ∷ earlier) xs ps
AreNamed names standing earlier xs ps = ⊥

-- an activity is started with this body, these names and these clocks, under this finish if any
pub record IsStart (start : ClockStart) (body : ClockTree) (names : ClockNames) (ps : List ℕ) (f : Option ℕ) : Type 0 where
  pub body_is : start.body ≡ body
  pub names_are : start.known.names ≡ names
  pub members : (q : ℕ) → start.known.standing.members q ≡ list_any (λ p. p == q) (ps ++ option_to_list f)
  pub pending : (q : ℕ) → start.known.standing.pending q ≡ false
  pub governs : innermost start.known.governing ≡ f

-- ---- from a point to the end

-- an activity of an unfolding u that stands at this point, with these names, and so on clocks and finishes, makes just these moves up to its end
pub data Makes (u : ClockUnfolding) : ProgramPoint → ClockNames → ActivityStanding → List Move → Type 0 where
  has_read :
      {n : ℕ} {rest : ProgramPoint} {names : ClockNames} {s : ActivityStanding} {ms : List Move} → Makes u rest names s ms → Makes u (before n done rest) names s ms
  has_turned :
      {n : ℕ} {body : ClockTree} {rest : ProgramPoint} {names : ClockNames} {s : ActivityStanding} {ms : List Move} → Makes u rest names s ms →
      Makes u (turning n zero body rest) names s ms
  skips :
      {n : ℕ} {more : ClockTree} {rest : ProgramPoint} {names : ClockNames} {s : ActivityStanding} {ms : List Move} → Makes u (before (n + 1) more rest) names s ms →
      Makes u (before n (plain skip more) rest) names s ms
  loops :
      {n k : ℕ} {body more : ClockTree} {rest : ProgramPoint} {names : ClockNames} {s : ActivityStanding} {ms : List Move} →
      Makes u (turning n k body (before (n + 1 + clock_count body) more rest)) names s ms → Makes u (before n (loop k body more) rest) names s ms
  turns_on :
      {n k : ℕ} {body : ClockTree} {rest : ProgramPoint} {names : ClockNames} {s : ActivityStanding} {ms : List Move} →
      Makes u (before (n + 1) body (turning n k body rest)) names s ms → Makes u (turning n (suc k) body rest) names s ms
  opens_one :
      {n : ℕ} {x : List ℕ} {more : ClockTree} {rest : ProgramPoint} {names : ClockNames} {s : ActivityStanding} {ms : List Move} (p : ℕ) →
      Makes u (before (n + 1) more rest) (λ y. if bytes_eq x y then Some p else names y) (registered_on p s) ms →
      Makes u (before n (plain (clock x) more) rest) names s (opens p ∷ ms)
  advances_on :
      {n : ℕ} {x : List ℕ} {more : ClockTree} {rest : ProgramPoint} {names : ClockNames} {s : ActivityStanding} {ms : List Move} (p : ℕ) → names x ≡ Some p →
      s.members p ≡ true → Makes u (before (n + 1) more rest) names (with_pending p false s) ms →
      Makes u (before n (plain (advance x) more) rest) names s (advances p ∷ ms)
  resumes_on :
      {n : ℕ} {x : List ℕ} {more : ClockTree} {rest : ProgramPoint} {names : ClockNames} {s : ActivityStanding} {ms : List Move} (p : ℕ) → names x ≡ Some p →
      s.members p ≡ true → s.pending p ≡ false → Makes u (before (n + 1) more rest) names (with_pending p true s) ms →
      Makes u (before n (plain (resume x) more) rest) names s (resumes p ∷ ms)
  drops_from :
      {n : ℕ} {x : List ℕ} {more : ClockTree} {rest : ProgramPoint} {names : ClockNames} {s : ActivityStanding} {ms : List Move} (p : ℕ) → names x ≡ Some p →
      s.members p ≡ true → Makes u (before (n + 1) more rest) names (unregistered_from p s) ms →
      Makes u (before n (plain (drop x) more) rest) names s (drops p ∷ ms)
  starts_one :
      {n : ℕ} {xs : List (List ℕ)} {body more : ClockTree} {rest : ProgramPoint} {names : ClockNames} {s : ActivityStanding} {ms : List Move} (c : ℕ) (ps : List ℕ)
      (start : ClockStart) → AreNamed names s [] xs ps → slice_get u.starts c ≡ Some start → IsStart start body names ps (innermost (finishes_around rest)) →
      Makes u (before (n + 1 + clock_count body) more rest) names s ms →
      Makes u (before n (async xs body more) rest) names s (starts c ps (innermost (finishes_around rest)) ∷ ms)
  begins_one :
      {n : ℕ} {body more : ClockTree} {rest : ProgramPoint} {names : ClockNames} {s : ActivityStanding} {ms : List Move} (f : ℕ) →
      Makes u (before (n + 1) body (closing n f (before (n + 1 + clock_count body) more rest))) names (registered_on f s) ms →
      Makes u (before n (finish body more) rest) names s (begins f ∷ ms)
  ends_one :
      {n f : ℕ} {rest : ProgramPoint} {names : ClockNames} {s : ActivityStanding} {ms : List Move} → Makes u rest names (unregistered_from f s) ms →
      Makes u (closing n f rest) names s (ends f ∷ ms)
  stops_here : {n : ℕ} {f : Option ℕ} {names : ClockNames} {s : ActivityStanding} (ps : List ℕ) → Makes u (last n f) names s (stops ps ∷ [])

-- ---- what the table gives

known_name : (o : Option ℕ) → is_none o ≡ false → o ≡ Some (unwrap_or o 0)
known_name None e = absurd (false≢true (sym e))
known_name (Some p) e = refl

module _ (v : ClockUnfolding) where
  names_pass :
      (earlier xs : List (List ℕ)) (more : List ClockRow) → PassesClockTable (names_rows true earlier xs ++ more) v →
      AreNamed v.now.names v.now.standing earlier xs (map (clock_named v) xs)
  names_pass earlier [] more passes = tt
  names_pass earlier (x ∷ xs) more passes =
      let unknown : is_none (v.now.names x) ≡ false = passes _ (0, omega arith, refl) in
      let outside : not (v.now.standing.members (clock_named v x)) ≡ false = passes _ (1, omega arith, refl) in
      let twice : list_any (bytes_eq x) earlier ≡ false = passes _ (2, omega arith, refl) in
      let rested : (true && v.now.standing.pending (clock_named v x)) ≡ false = passes _ (3, omega arith, refl) in (
        known_name (v.now.names x) unknown,
        not-false (v.now.standing.members (clock_named v x)) outside,
        twice,
        rested,
        names_pass (x ∷ earlier) xs more
            (λ r c. passes r (suc (suc (suc (suc c.0))), omega (arith, c.1), c.2)),
      )

-- the rows behind those of the names
abbrev tail_of_table : ClockPart → List ClockRow
tail_of_table part = no_activity_left part ∷ no_clock_left part ∷ no_clock_cell_left part ∷ no_clock_op_left part ∷ []

-- ---- one part

some_is : (x y : ClockComing) → ◌≡◌ {A = Option ClockComing} (Some x) (Some y) → x ≡ y
some_is x y e = cc

module _ (u : ClockUnfolding) (t : ℕ) (v : ClockUnfolding) (here : t < length v.moves) (many : length v.starts ≡ length v.parents) where
  -- behind a part of statement n the activity makes these moves
  abbrev MakesBehind : ClockPart → ℕ → ProgramPoint → List Move → Type 0
  MakesBehind part n point ms =
      let w = after_part t (coming n part) v in Makes u point w.now.names w.now.standing ms

  -- the starts of the unfolding behind the part stay
  abbrev StaysBehind : ClockPart → ℕ → Type 0
  StaysBehind part n = (k : ℕ) (start : ClockStart) → slice_get (after_part t (coming n part) v).starts k ≡ Some start → slice_get u.starts k ≡ Some start

  plain_makes :
      (n : ℕ) (s : ClockPlain) (more : ClockTree) (rest : ProgramPoint) (ms : List Move) → PassesClockTable (clock_table (a_plain s)) v →
      MakesBehind (a_plain s) n (before (n + 1) more rest) ms → Makes u (before n (plain s more) rest) v.now.names v.now.standing (moves_of_part (a_plain s) v ++ ms)
  plain_makes n (clock x) more rest ms passes makes = opens_one (length v.makers) makes
  plain_makes n (advance x) more rest ms passes makes =
      let unknown : is_none (v.now.names x) ≡ false = passes _ (1, omega arith, refl) in
      let outside : not (v.now.standing.members (clock_named v x)) ≡ false = passes _ (2, omega arith, refl) in
      advances_on (clock_named v x) (known_name (v.now.names x) unknown) (not-false (v.now.standing.members (clock_named v x)) outside) makes
  plain_makes n (resume x) more rest ms passes makes =
      let unknown : is_none (v.now.names x) ≡ false = passes _ (1, omega arith, refl) in
      let outside : not (v.now.standing.members (clock_named v x)) ≡ false = passes _ (2, omega arith, refl) in
      let rested : (true && v.now.standing.pending (clock_named v x)) ≡ false = passes _ (4, omega arith, refl) in
      resumes_on (clock_named v x) (known_name (v.now.names x) unknown) (not-false (v.now.standing.members (clock_named v x)) outside) rested makes
  plain_makes n (drop x) more rest ms passes makes =
      let unknown : is_none (v.now.names x) ≡ false = passes _ (1, omega arith, refl) in
      let outside : not (v.now.standing.members (clock_named v x)) ≡ false = passes _ (2, omega arith, refl) in
      drops_from (clock_named v x) (known_name (v.now.names x) unknown) (not-false (v.now.standing.members (clock_named v x)) outside) makes
  plain_makes n skip more rest ms passes makes = skips makes

  once_inner : (fs : List ℕ) → innermost (option_to_list (innermost fs)) ≡ innermost fs
  once_inner [] = refl
  once_inner (f ∷ fs) = refl

  async_makes :
      (n : ℕ) (xs : List (List ℕ)) (body more : ClockTree) (rest : ProgramPoint) (ms : List Move) → PassesClockTable (clock_table (an_async xs body)) v →
      v.now.governing ≡ finishes_around rest → StaysBehind (an_async xs body) n → MakesBehind (an_async xs body) n (before (n + 1 + clock_count body) more rest) ms →
      Makes u (before n (async xs body more) rest) v.now.names v.now.standing (moves_of_part (an_async xs body) v ++ ms)
  async_makes n xs body more rest ms passes governs stays makes =
      let ps = map (clock_named v) xs in
      let f = innermost v.now.governing in
      let start = start_at n body (map (clock_named (visited (an_async xs body) v)) xs) v.now in
      let same : map (clock_named (visited (an_async xs body) v)) xs ≡ ps = same_named xs in
      let there : slice_get u.starts (length v.parents) ≡ Some start =
      stays (length v.parents) start (ap (slice_get (v.starts ++ start ∷ [])) (sym many) ∙ slice_get-last v.starts start) in
      subst (λ g. Makes u (before n (async xs body more) rest) v.now.names v.now.standing (starts (length v.parents) ps g ∷ ms)) (ap innermost (sym governs))
      (starts_one (length v.parents) ps start (names_pass v [] xs (tail_of_table (an_async xs body)) (λ r c. passes r (suc c.0, omega (arith, c.1), c.2))) there
      (record {
        body_is = refl;
        names_are = refl;
        members = λ q. ap (λ qs. list_any (λ p. p == q) (qs ++ option_to_list f)) same
            ∙ ap (λ fs. list_any (λ p. p == q) (ps ++ option_to_list (innermost fs))) governs;
        pending = λ q. refl;
        governs = once_inner v.now.governing ∙ ap innermost governs;
      })
      makes)
    where
      same_named : (xs : List (List ℕ)) → map (clock_named (visited (an_async xs body) v)) xs ≡ map (clock_named v) xs
      same_named xs = refl

  -- the end of a finish, which is the first of those that govern
  close_makes :
      (n f : ℕ) (rest : ProgramPoint) (ms : List Move) → v.now.governing ≡ f ∷ finishes_around rest →
      Makes u rest (after_end t (f ∷ finishes_around rest) (visited a_close v)).now.names (after_end t (f ∷ finishes_around rest) (visited a_close v)).now.standing ms →
      Makes u (closing n f rest) v.now.names v.now.standing (ends f ∷ ms)
  close_makes n f rest ms governs makes = ends_one makes

  part_makes :
      (point : ProgramPoint) (n : ℕ) (part : ClockPart) (ms : List Move) → part_at point ≡ Some (coming n part) → v.now.governing ≡ finishes_around point →
      PassesClockTable (clock_table part) v → StaysBehind part n → MakesBehind part n (behind (length v.makers) point) ms →
      Makes u point v.now.names v.now.standing (moves_of_part part v ++ ms)
  part_makes (before i done rest) n part ms is governs passes stays makes = has_read (part_makes rest n part ms is governs passes stays makes)
  part_makes (before i (plain s more) rest) n part ms is governs passes stays makes =
      let same = some_is (coming i (a_plain s)) (coming n part) is in
      by_part (a_plain s) i same
      (λ passes makes. plain_makes i s more rest ms passes makes) passes makes
    where
      by_part :
          (own : ClockPart) (j : ℕ) → coming j own ≡ coming n part →
          (PassesClockTable (clock_table own) v → MakesBehind own j (before (i + 1) more rest) ms →
          Makes u (before i (plain s more) rest) v.now.names v.now.standing (moves_of_part own v ++ ms)) →
          PassesClockTable (clock_table part) v → MakesBehind part n (before (i + 1) more rest) ms →
          Makes u (before i (plain s more) rest) v.now.names v.now.standing (moves_of_part part v ++ ms)
      by_part own j same f =
          subst
          (λ (m : ClockComing).
          PassesClockTable (clock_table m.part) v → MakesBehind m.part m.statement (before (i + 1) more rest) ms →
          Makes u (before i (plain s more) rest) v.now.names v.now.standing (moves_of_part m.part v ++ ms)) same f
  part_makes (before i (async xs body more) rest) n part ms is governs passes stays makes =
      subst
      (λ (m : ClockComing).
      PassesClockTable (clock_table m.part) v → StaysBehind m.part m.statement →
      MakesBehind m.part m.statement (before (i + 1 + clock_count body) more rest) ms →
      Makes u (before i (async xs body more) rest) v.now.names v.now.standing (moves_of_part m.part v ++ ms))
      (some_is (coming i (an_async xs body)) (coming n part) is)
      (λ p s m. async_makes i xs body more rest ms p governs s m) passes stays makes
  part_makes (before i (finish body more) rest) n part ms is governs passes stays makes =
      subst
      (λ (m : ClockComing).
      MakesBehind m.part m.statement (before (i + 1) body (closing i (length v.makers) (before (i + 1 + clock_count body) more rest))) ms →
      Makes u (before i (finish body more) rest) v.now.names v.now.standing (moves_of_part m.part v ++ ms))
      (some_is (coming i a_finish) (coming n part) is) (λ m. begins_one (length v.makers) m) makes
  part_makes (before i (loop k body more) rest) n part ms is governs passes stays makes =
      subst
      (λ (m : ClockComing).
      MakesBehind m.part m.statement (turning i k body (before (i + 1 + clock_count body) more rest)) ms →
      Makes u (before i (loop k body more) rest) v.now.names v.now.standing (moves_of_part m.part v ++ ms))
      (some_is (coming i a_loop) (coming n part) is) (λ m. loops m) makes
  part_makes (turning i zero body rest) n part ms is governs passes stays makes = has_turned (part_makes rest n part ms is governs passes stays makes)
  part_makes (turning i (suc k) body rest) n part ms is governs passes stays makes =
      subst
      (λ (m : ClockComing).
      MakesBehind m.part m.statement (before (i + 1) body (turning i k body rest)) ms →
      Makes u (turning i (suc k) body rest) v.now.names v.now.standing (moves_of_part m.part v ++ ms))
      (some_is (coming i a_turn) (coming n part) is) (λ m. turns_on m) makes
  part_makes (closing i f rest) n part ms is governs passes stays makes =
      subst
      (λ (m : ClockComing). MakesBehind m.part m.statement rest ms → Makes u (closing i f rest) v.now.names v.now.standing (moves_of_part m.part v ++ ms))
      (some_is (coming i a_close) (coming n part) is)
      (by_governing v.now.governing governs) makes
    where
      by_governing :
          (fs : List ℕ) → fs ≡ f ∷ finishes_around rest →
          Makes u rest (after_end t fs (visited a_close v)).now.names (after_end t fs (visited a_close v)).now.standing ms →
          Makes u (closing i f rest) v.now.names v.now.standing (move_of_end fs ++ ms)
      by_governing fs same =
          subst
          (λ gs.
          Makes u rest (after_end t gs (visited a_close v)).now.names (after_end t gs (visited a_close v)).now.standing ms →
          Makes u (closing i f rest) v.now.names v.now.standing (move_of_end gs ++ ms)) (sym same)
          (λ m. close_makes i f rest ms governs m)
  part_makes (last i f) n part ms is governs passes stays makes = absurd cc

-- ---- to the end

-- where an activity comes to nothing, it stops
nothing_makes :
    (u : ClockUnfolding) (point : ProgramPoint) (names : ClockNames) (s : ActivityStanding) (ps : List ℕ) → part_at point ≡ None → Makes u point names s (stops ps ∷ [])
nothing_makes u (before n done rest) names s ps none = has_read (nothing_makes u rest names s ps none)
nothing_makes u (before n (plain x more) rest) names s ps none = absurd cc
nothing_makes u (before n (async xs body more) rest) names s ps none = absurd cc
nothing_makes u (before n (finish body more) rest) names s ps none = absurd cc
nothing_makes u (before n (loop k body more) rest) names s ps none = absurd cc
nothing_makes u (turning n zero body rest) names s ps none = has_turned (nothing_makes u rest names s ps none)
nothing_makes u (turning n (suc k) body rest) names s ps none = absurd cc
nothing_makes u (closing n f rest) names s ps none = absurd cc
nothing_makes u (last n f) names s ps none = stops_here ps

-- what an activity adds from a point on, and that it makes this
pub record MakesAll (u : ClockUnfolding) (t : ℕ) (point : ProgramPoint) (v w : ClockUnfolding) : Type 0 where
  pub moves : List Move
  pub adds : Adds t v w moves
  pub makes : Makes u point v.now.names v.now.standing moves

pub goes_makes :
    (u : ClockUnfolding) (t : ℕ) (point : ProgramPoint) (v w : ClockUnfolding) → t < length v.moves → length v.starts ≡ length v.parents →
    ((k : ℕ) (start : ClockStart) → slice_get w.starts k ≡ Some start → slice_get u.starts k ≡ Some start) → GoesToEnd t point v w → MakesAll u t point v w
goes_makes u t point v w here many stays (comes m is passes rest) =
    let first = part_adds t m.statement v here m.part in
    let x = after_part t m v in
    let r = goes_makes u t (behind (length v.makers) point) x w (omega (arith, here, first.moves_many)) (omega (arith, many, first.starts_many, first.parents)) stays rest in
    let kept : (k : ℕ) (start : ClockStart) → slice_get x.starts k ≡ Some start → slice_get u.starts k ≡ Some start =
    λ k start e. stays k start
    (ap (λ zs. slice_get zs k) r.adds.starts_are ∙ slice_get-append x.starts r.adds.later k (slice_get_within x.starts k start e) ∙ e) in
    record {
      moves = moves_of_part m.part v ++ r.moves;
      adds = adds_both t v x w (moves_of_part m.part v) r.moves first r.adds;
      makes = part_makes u t v here many point m.statement m.part r.moves is.part is.governs passes kept r.makes;
    }
goes_makes u t point v w here many stays (stops_there none room) =
    record {
      moves = stops (left_at_end v) ∷ [];
      adds = adds_move t v v (stops (left_at_end v)) here (λ a. refl) refl refl refl refl refl refl;
      makes = nothing_makes u point v.now.names v.now.standing (left_at_end v) none;
    }
