-- Each op that waits comes from the statement of a wait of its activity.
use Rattle.std.proofs.Common.{◌≡◌, ℕ, zero, suc, ◌+◌, ◌<◌, Bool, true, false, cond, if◌then◌else◌, List, [], ◌∷◌, ◌++◌, Option, Some, None, length, map, take, arith, refl, sym, ap, subst, ◌∙◌}
use Rattle.std.specs.Prelude.{count_by, option_to_list, replicate, slice_get, unwrap_or}
use Rattle.std.specs.List.{zip}
use Rattle.std.proofs.lemmas.Bool.{false≢true}
use Rattle.std.proofs.lemmas.List.{length-map}
use Rattle.std.proofs.lemmas.List.Sums.{sum_by-cons}
use Rattle.std.proofs.lemmas.Option.{slice_get_within}
use Rattle.armus_base.specs.declared.ids.PhaserId.{PhaserId}
use Rattle.armus_base.specs.declared.offset.Offset.{Offset}
use Rattle.armus_base.specs.declared.offset.Offset.TheVariants.{Here}
use Rattle.armus_base.specs.declared.op.Op.{Op}
use Rattle.armus_base.specs.declared.op.Op.TheVariants as op
use Rattle.armus_base.specs.Numbers.{phaser, task}
use Rattle.armus_base.specs.Plans.{code_of}
use Rattle.armus_base.proofs.Lists.{some_at}
use Rattle.clock_syntax.specs.Trees.{advance, clock, drop, resume, skip}
use Rattle.clock_semantics.specs.Moves.{Move, ActivityStanding, advances, after_move, begins, code_from, code_of_moves, drops, ends, no_standing, opens, ops_of, resumes, starts, stops}
use Rattle.clock_semantics.specs.Unfolding.{ClockComing, ClockPart, a_close, a_finish, a_loop, a_plain, a_turn, an_async, plan_of_moves}
use Rattle.clock_source_map.specs.ClockOps.{is_await, makes_move, moving_comings, op_origins_from, op_origins_of}
use Rattle.clock_source_map.specs.ClockOrigins.{StartedActivity, all_begun, all_waits, comings_by, wait_at, waits_in}
use Rattle.clock_source_map.specs.calls.Laws.{AreMovesAt, AwaitsComeFromWaits, ComeFromWaits, IsMoveAt}
use Rattle.clock_source_map.proofs.AllOrigins.{begun_many, code_at, pair_at}
use Rattle.clock_source_map.proofs.MovesOf.{moves_come, moves_many}
use Rattle.clock_source_map.proofs.NotedMoves.{moving_more}

-- ---- one op

nothing : (origins : List (Option ℕ)) (waits : List ℕ) → ComeFromWaits [] origins waits
nothing origins waits k o is awaits = absurd cc

module _ (ops : List Op) (origins : List (Option ℕ)) (waits : List ℕ) (rest : ComeFromWaits ops origins waits) where
  -- an op that does not wait stands before these
  other_first : (o : Op) (from : Option ℕ) → is_await o ≡ false → ComeFromWaits (o ∷ ops) (from ∷ origins) waits
  other_first o from runs zero other is awaits =
      let one : ◌≡◌ {A = Option Op} (Some o) (Some other) = is in
      let same : o ≡ other = cc in
      absurd (false≢true (sym runs ∙ ap is_await same ∙ awaits))
  other_first o from runs (suc k) other is awaits =
      let (n, wait, origin) = rest k other is awaits in
      let count : count_by is_await (o ∷ take k ops) ≡ count_by is_await (take k ops) =
      sum_by-cons (λ x. cond (is_await x) 1 0) o (take k ops)
      ∙ ap (λ b. cond b 1 0 + count_by is_await (take k ops)) runs ∙ (let z : 0 + count_by is_await (take k ops) ≡ count_by is_await (take k ops) = omega arith in z) in
      (n, ap (slice_get waits) count ∙ wait, origin)

  -- an op that waits, with its wait
  await_first : (p : PhaserId) (off : Offset) (n : ℕ) → ComeFromWaits (op.Await p off ∷ ops) (Some n ∷ origins) (n ∷ waits)
  await_first p off n zero other is awaits = (n, refl, refl)
  await_first p off n (suc k) other is awaits =
      let (m, wait, origin) = rest k other is awaits in
      let count : count_by is_await (op.Await p off ∷ take k ops) ≡ suc (count_by is_await (take k ops)) =
      sum_by-cons (λ x. cond (is_await x) 1 0) (op.Await p off) (take k ops)
      ∙ (let z : 1 + count_by is_await (take k ops) ≡ suc (count_by is_await (take k ops)) = omega arith in z) in
      (m, ap (slice_get (n ∷ waits)) count ∙ wait, origin)

-- ---- one move

-- none of these ops waits
abbrev NoneWaits : List Op → Type 0
NoneWaits [] = Unit {0}
NoneWaits (o ∷ ops) = (is_await o ≡ false) × NoneWaits ops

others_first : (os ops : List Op) (from : Option ℕ) (origins : List (Option ℕ)) (waits : List ℕ) → NoneWaits os → ComeFromWaits ops origins waits →
    ComeFromWaits (os ++ ops) (replicate (length os) from ++ origins) waits
others_first [] ops from origins waits none rest = rest
others_first (o ∷ os) ops from origins waits none rest =
    other_first (os ++ ops) (replicate (length os) from ++ origins) waits (others_first os ops from origins waits none.1 rest) o from none.0

no_registration : (c : ℕ) (ps : List ℕ) (more : List Op) → NoneWaits more → NoneWaits (map (λ p. op.Reg (task c) (phaser p)) ps ++ more)
no_registration c [] more none = none
no_registration c (p ∷ ps) more none = (refl, no_registration c ps more none)

no_drop : (ps : List ℕ) → NoneWaits (map (λ p. op.Drop (phaser p)) ps)
no_drop [] = tt
no_drop (p ∷ ps) = (refl, no_drop ps)

-- the ops of an advance of a clock that is pending or not
abbrev advance_ops : Bool → ℕ → List Op
advance_ops b p = (if b then [] else op.Adv (phaser p) ∷ []) ++ op.Await (phaser p) Here ∷ []

advance_first : (b : Bool) (n p : ℕ) (ops : List Op) (origins : List (Option ℕ)) (waits : List ℕ) → ComeFromWaits ops origins waits →
    ComeFromWaits (advance_ops b p ++ ops) (replicate (length (advance_ops b p)) (Some n) ++ origins) (n ∷ waits)
advance_first true n p ops origins waits rest = await_first ops origins waits rest (phaser p) Here n
advance_first false n p ops origins waits rest =
    other_first (op.Await (phaser p) Here ∷ ops) (Some n ∷ origins) (n ∷ waits) (await_first ops origins waits rest (phaser p) Here n) (op.Adv (phaser p)) (Some n) refl

move_first :
    (n : ℕ) (part : ClockPart) (move : Move) (s : ActivityStanding) (ops : List Op) (origins : List (Option ℕ)) (waits : List ℕ) → IsMoveAt part move →
    ComeFromWaits ops origins waits →
    ComeFromWaits (ops_of s move ++ ops) (replicate (length (ops_of s move)) (Some n) ++ origins) (wait_at n part ++ waits)
move_first n (a_plain (clock x)) (opens p) s ops origins waits is rest = other_first ops origins waits rest (op.Make (phaser p)) (Some n) refl
move_first n (a_plain (advance x)) (advances p) s ops origins waits is rest = advance_first (s.pending p) n p ops origins waits rest
move_first n (a_plain (resume x)) (resumes p) s ops origins waits is rest = other_first ops origins waits rest (op.Adv (phaser p)) (Some n) refl
move_first n (a_plain (drop x)) (drops p) s ops origins waits is rest = other_first ops origins waits rest (op.Drop (phaser p)) (Some n) refl
move_first n (an_async xs body) (starts c ps f) s ops origins waits is rest =
    others_first (ops_of s (starts c ps f)) ops (Some n) origins waits
    (no_registration c ps _ (no_registration c (option_to_list f) (op.Fork (task c) ∷ []) (refl, tt))) rest
move_first n a_finish (begins f) s ops origins waits is rest = other_first ops origins waits rest (op.Make (phaser f)) (Some n) refl
move_first n a_close (ends f) s ops origins waits is rest =
    let drop : ComeFromWaits (op.Drop (phaser f) ∷ ops) (Some n ∷ origins) waits = other_first ops origins waits rest (op.Drop (phaser f)) (Some n) refl in
    let await = await_first (op.Drop (phaser f) ∷ ops) (Some n ∷ origins) waits drop (phaser f) Here n in
    other_first (op.Await (phaser f) Here ∷ op.Drop (phaser f) ∷ ops) (Some n ∷ Some n ∷ origins) (n ∷ waits) await (op.Adv (phaser f)) (Some n) refl
move_first n part move s ops origins waits is rest = absurd is

-- ---- all moves

-- the statements of these comings, and none for the stop
abbrev statements : List ClockComing → List (Option ℕ)
statements ms = map (λ (m : ClockComing). Some m.statement) ms ++ None ∷ []

moves_wait : (ms : List ClockComing) (s : ActivityStanding) (moves : List Move) → AreMovesAt ms moves →
    ComeFromWaits (code_from s moves) (op_origins_from s (zip (statements ms) moves)) (waits_in ms)
moves_wait [] s (stops ps ∷ []) are = others_first (map (λ p. op.Drop (phaser p)) ps) [] None [] [] (no_drop ps) (nothing [] [])
moves_wait [] s moves are = absurd are
moves_wait (m ∷ ms) s [] are = absurd are
moves_wait (m ∷ ms) s (move ∷ moves) are = move_first m.statement m.part move s _ _ (waits_in ms) are.0 (moves_wait ms (after_move move s) moves are.1)

-- where no move is made, nobody waits
no_wait : (n : ℕ) (part : ClockPart) → makes_move part ≡ false → wait_at n part ≡ []
no_wait n (a_plain (clock x)) none = refl
no_wait n (a_plain (advance x)) none = absurd cc
no_wait n (a_plain (resume x)) none = refl
no_wait n (a_plain (drop x)) none = refl
no_wait n (a_plain skip) none = refl
no_wait n (an_async xs body) none = refl
no_wait n a_finish none = refl
no_wait n a_close none = absurd cc
no_wait n a_loop none = refl
no_wait n a_turn none = refl

moving_waits : (ms : List ClockComing) → waits_in (moving_comings ms) ≡ waits_in ms
moving_waits [] = refl
moving_waits (m ∷ ms) = ap waits_in (moving_more m ms (makes_move m.part) refl) ∙ by (makes_move m.part) refl (moving_waits ms)
  where
    by : (b : Bool) → makes_move m.part ≡ b → waits_in (moving_comings ms) ≡ waits_in ms →
        waits_in (if b then m ∷ moving_comings ms else moving_comings ms) ≡ waits_in (m ∷ ms)
    by true is rest = ap (λ ws. wait_at m.statement m.part ++ ws) rest
    by false is rest = rest ∙ ap (λ w. w ++ waits_in ms) (sym (no_wait m.statement m.part is))

-- ---- all activities

pub awaits_come_from_waits : AwaitsComeFromWaits
awaits_come_from_waits p u t origins waits is origins_are waits_are =
    let inside : t < length (all_begun u) =
    omega (arith, length-map (all_begun u) (λ b. waits_in (comings_by b)), slice_get_within (all_waits u) t waits waits_are) in
    let (b, begun) = some_at (all_begun u) t inside in
    let (moves, moves_are) = some_at u.moves t (omega (arith, inside, begun_many p u is, moves_many p u is)) in
    let own : ComeFromWaits (code_of_moves moves) (op_origins_of b moves) (waits_in (moving_comings (comings_by b))) =
    moves_wait (moving_comings (comings_by b)) no_standing moves (moves_come p u is t b moves begun moves_are) in
    let code : code_of (plan_of_moves u) t ≡ code_of_moves moves = ap (λ o. unwrap_or o []) (code_at u.moves t moves moves_are) in
    let of_ops : ◌≡◌ {A = Option (List (Option ℕ))} (Some (op_origins_of b moves)) (Some origins) =
    sym (pair_at (all_begun u) u.moves t b moves begun moves_are) ∙ origins_are in
    let of_waits : ◌≡◌ {A = Option (List ℕ)} (Some (waits_in (comings_by b))) (Some waits) =
    sym (waits_at (all_begun u) t b begun) ∙ waits_are in
    let same_origins : op_origins_of b moves ≡ origins = cc in
    let same_waits : waits_in (comings_by b) ≡ waits = cc in
    subst (λ ws. ComeFromWaits (code_of (plan_of_moves u) t) origins ws) (moving_waits (comings_by b) ∙ same_waits)
    (subst (λ os. ComeFromWaits (code_of (plan_of_moves u) t) os (waits_in (moving_comings (comings_by b)))) same_origins
    (subst (λ ops. ComeFromWaits ops (op_origins_of b moves) (waits_in (moving_comings (comings_by b)))) (sym code) own))
  where
    waits_at : (bs : List StartedActivity) (k : ℕ) (b : StartedActivity) → slice_get bs k ≡ Some b → slice_get (map (λ c. waits_in (comings_by c)) bs) k ≡ Some (waits_in (comings_by b))
    waits_at [] k b begun = absurd cc
    waits_at (c ∷ bs) zero b begun =
        let one : ◌≡◌ {A = Option StartedActivity} (Some c) (Some b) = begun in let same : c ≡ b = cc in ap (λ z. Some (waits_in (comings_by z))) same
    waits_at (c ∷ bs) (suc k) b begun = waits_at bs k b begun
