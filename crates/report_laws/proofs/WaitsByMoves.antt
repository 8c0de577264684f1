-- The ops of each move of an activity come from the statement at which the move is made.
use Rattle.std.proofs.Common.{◌≡◌, ℕ, zero, suc, ◌+◌, ◌-◌, ◌<◌, ◌≤◌, Option, Some, None, Ok, List, [], ◌∷◌, ◌++◌, length, map, take, arith, refl, sym, ap, ◌∙◌}
use Rattle.std.specs.Prelude.{count_by, replicate, slice_index_or}
use Rattle.std.specs.List.{slice_get, zip}
use Rattle.std.proofs.lemmas.List.{length-append, length-map}
use Rattle.std.proofs.lemmas.Option.{get_or_from_slice_get, slice_get_within}
use Rattle.armus_base.specs.Plans.{code_of}
use Rattle.armus_base.proofs.Lists.{slice_get-append, slice_get-behind, some_at}
use Rattle.clock_syntax.specs.Trees.{ClockTree}
use Rattle.clock_semantics.specs.Moves.{ActivityStanding, Move, after_move, code_from, no_standing, ops_of}
use Rattle.clock_semantics.specs.Unfolding.{ClockComing, ClockUnfolding, clock_unfolded, plan_of_moves}
use Rattle.clock_source_map.specs.ClockOps.{all_op_origins, is_await, move_origins, moving_comings, op_origins_from, op_origins_of}
use Rattle.clock_source_map.specs.ClockOrigins.{StartedActivity, all_begun, all_waits, begun_by, comings_by, waits_in}
use Rattle.clock_source_map.proofs.AllOrigins.{begun_many, pair_at}
use Rattle.clock_source_map.proofs.AwaitOrigins.{awaits_come_from_waits}
use Rattle.clock_source_map.proofs.MovesOf.{moves_many}
use Rattle.report_laws.proofs.ClocksByMoves.{begun_at}
use Rattle.report_laws.specs.WaitsTold.{OpsAreToldByTheirMoves, WaitsAreToldByTheirMoves}

-- ---- the ops of one activity

replicate_many : (n : ℕ) (o : Option ℕ) → length (replicate n o) ≡ n
replicate_many zero o = refl
replicate_many (suc n) o = omega (arith, replicate_many n o)

replicate_at : (n i : ℕ) (o : Option ℕ) → i < n → slice_get (replicate n o) i ≡ Some o
replicate_at zero i o l = absurd (omega (arith, l))
replicate_at (suc n) zero o l = refl
replicate_at (suc n) (suc i) o l = replicate_at n i o (omega (arith, l))

op_origin_at : (s : ActivityStanding) (os : List (Option ℕ)) (moves : List Move) (k i : ℕ) (o : Option ℕ) (move : Move) → slice_get os k ≡ Some o → slice_get moves k ≡ Some move →
    length (code_from s (take k moves)) ≤ i → i < length (code_from s (take (suc k) moves)) → slice_get (op_origins_from s (zip os moves)) i ≡ Some o
op_origin_at s [] moves k i o move is made low high = absurd (cc)
op_origin_at s (x ∷ os) [] k i o move is made low high = absurd (cc)
op_origin_at s (x ∷ os) (m ∷ moves) zero i o move is made low high =
    let same : x ≡ o = cc in
    let within : i < length (ops_of s m) = omega (arith, high, length-append (ops_of s m) []) in
    slice_get-append (replicate (length (ops_of s m)) x) (op_origins_from (after_move m s) (zip os moves)) i (omega (arith, within, replicate_many (length (ops_of s m)) x))
    ∙ replicate_at (length (ops_of s m)) i x within ∙ ap (λ z. Some z) same
op_origin_at s (x ∷ os) (m ∷ moves) (suc k) i o move is made low high =
    let from : length (ops_of s m ++ code_from (after_move m s) (take k moves)) ≤ i = low in
    let to : i < length (ops_of s m ++ code_from (after_move m s) (take (suc k) moves)) = high in
    let below = length-append (ops_of s m) (code_from (after_move m s) (take k moves)) in
    let above = length-append (ops_of s m) (code_from (after_move m s) (take (suc k) moves)) in
    let first = replicate (length (ops_of s m)) x in
    let place : i ≡ length first + (i - length (ops_of s m)) = omega (arith, from, below, replicate_many (length (ops_of s m)) x) in
    ap (slice_get (first ++ op_origins_from (after_move m s) (zip os moves))) place
    ∙ slice_get-behind first (op_origins_from (after_move m s) (zip os moves)) (i - length (ops_of s m))
    ∙ op_origin_at (after_move m s) os moves k (i - length (ops_of s m)) o move is made (omega (arith, from, below)) (omega (arith, to, above, from, below))

statement_at : (ms : List ClockComing) (k : ℕ) (m : ClockComing) → slice_get ms k ≡ Some m →
    slice_get (map (λ (n : ClockComing). Some n.statement) ms ++ None ∷ []) k ≡ Some (Some m.statement)
statement_at [] k m is = absurd (cc)
statement_at (n ∷ ms) zero m is = let same : n ≡ m = cc in ap (λ (z : ClockComing). Some (Some z.statement)) same
statement_at (n ∷ ms) (suc k) m is = statement_at ms k m is

-- ---- the laws

-- the origins of the ops of an activity that is started so
origins_found : (p : ClockTree) (u : ClockUnfolding) (t : ℕ) (b : StartedActivity) → clock_unfolded p ≡ Ok u → slice_get (all_begun u) t ≡ Some b →
    slice_get (all_op_origins u) t ≡ Some (op_origins_of b (slice_index_or u.moves t []))
origins_found p u t b e begun =
    let within = slice_get_within (all_begun u) t b begun in
    let (moves, found) = some_at u.moves t (omega (arith, within, begun_many p u e, moves_many p u e)) in
    pair_at (all_begun u) u.moves t b moves begun found
    ∙ ap (λ ms. Some (op_origins_of b ms)) (sym (get_or_from_slice_get u.moves t moves [] found))

pub ops_are_told_by_their_moves : OpsAreToldByTheirMoves
ops_are_told_by_their_moves p u t k i m move e h of_move =
    let b = begun_by h.start in
    let moves = slice_index_or u.moves t [] in
    let begun = begun_at u.starts t h.start h.started in
    let found = origins_found p u t b e begun in
    ap (λ os. slice_get os i) (get_or_from_slice_get (all_op_origins u) t (op_origins_of b moves) [] found)
    ∙ op_origin_at no_standing (move_origins b) moves k i (Some m.statement) move (statement_at (moving_comings (comings_by b)) k m h.comes) h.makes of_move.0 of_move.1

pub waits_are_told_by_their_moves : WaitsAreToldByTheirMoves
waits_are_told_by_their_moves p u t k clocks done m move w op e h wait op_is awaits of_move =
    let b = begun_by h.start in
    let begun = begun_at u.starts t h.start h.started in
    let within = slice_get_within (all_begun u) t b begun in
    let found = origins_found p u t b e begun in
    let (waits, waits_are) = some_at (all_waits u) t (omega (arith, within, length-map (all_begun u) (λ b. waits_in (comings_by b)))) in
    let (n, here, origin) = awaits_come_from_waits p u t (op_origins_of b (slice_index_or u.moves t [])) waits e found waits_are wait.op op op_is awaits in
    let told = ops_are_told_by_their_moves p u t k wait.op m move e h of_move in
    let own : slice_get (op_origins_of b (slice_index_or u.moves t [])) wait.op ≡ Some (Some m.statement) =
    ap (λ os. slice_get os wait.op) (sym (get_or_from_slice_get (all_op_origins u) t (op_origins_of b (slice_index_or u.moves t [])) [] found)) ∙ told in
    let both : ◌≡◌ {A = Option (Option ℕ)} (Some (Some n)) (Some (Some m.statement)) = sym origin ∙ own in
    let inner : ◌≡◌ {A = Option ℕ} (Some n) (Some m.statement) = cc in
    wait.statement_is
    ∙ ap (λ ws. slice_get ws (count_by is_await (take wait.op (code_of (plan_of_moves u) t)))) (get_or_from_slice_get (all_waits u) t waits [] waits_are)
    ∙ here ∙ inner
