-- The origins of an unfolding are as many as the tasks, the phasers and the ops of its plan.
use Rattle.std.proofs.Common.{◌≡◌, ℕ, zero, suc, ◌+◌, ◌<◌, ◌≤◌, Option, Some, None, Ok, List, [], ◌∷◌, ◌++◌, length, take, arith, refl, sym, ap, subst, ◌∙◌}
use Rattle.std.specs.Prelude.{IfSome, map, slice_get, unwrap_or}
use Rattle.std.specs.List.{zip}
use Rattle.std.proofs.lemmas.List.{length-map, take_all}
use Rattle.armus_base.specs.Limits.{max_tasks}
use Rattle.armus_base.specs.Plans.{Plan, code_of}
use Rattle.armus_base.proofs.Lists.{some_at, past_end}
use Rattle.clock_syntax.specs.Trees.{ClockTree}
use Rattle.clock_semantics.specs.Moves.{Move, code_of_moves}
use Rattle.clock_semantics.specs.Unfolding.{ClockUnfolding, clock_plan_of, clock_unfolded, plan_of_moves}
use Rattle.pl_plan.proofs.VisitsLeave.{bind_ok, ok_is}
use Rattle.clock_source_map.specs.ClockOps.{all_op_origins, moving_comings, op_origins_of}
use Rattle.clock_source_map.specs.ClockOrigins.{StartedActivity, MadeThing, all_begun, all_things, begun_by, comings_by, things_in, waits_in}
use Rattle.clock_source_map.specs.calls.Begun.{activities_started_in}
use Rattle.clock_source_map.specs.calls.Laws.{AreMovesAt, MovesComeFromStatements, OpsHaveStatements, TasksAndPhasersHaveStatements}
use Rattle.clock_source_map.specs.inside.OpNotes.{code_noted}
use Rattle.clock_source_map.proofs.MovesOf.{moves_come, moves_many, starts_many}
use Rattle.clock_source_map.proofs.NotedMoves.{as_many_as_ops, code_is_noted}
use Rattle.clock_source_map.proofs.Walked.{Walked, same_unfolding, walked_few, walked_first, walked_made, walked_next}

-- ---- moves and ops

pub moves_come_from_statements : MovesComeFromStatements
moves_come_from_statements p u t b moves is begun made = moves_come p u is t b moves begun made

pairs_many :
    (bs : List StartedActivity) (mss : List (List Move)) → length bs ≡ length mss →
    ((t : ℕ) (b : StartedActivity) (moves : List Move) → slice_get bs t ≡ Some b → slice_get mss t ≡ Some moves → AreMovesAt (moving_comings (comings_by b)) moves) →
    map length (map (λ (a : StartedActivity × List Move). op_origins_of a.0 a.1) (zip bs mss)) ≡ map length (map code_of_moves mss)
pairs_many [] [] same come = refl
pairs_many [] (ms ∷ mss) same come = absurd (omega (arith, same))
pairs_many (b ∷ bs) [] same come = absurd (omega (arith, same))
pairs_many (b ∷ bs) (ms ∷ mss) same come =
    let first : length (op_origins_of b ms) ≡ length (code_of_moves ms) = as_many_as_ops b ms (come 0 b ms refl refl) in
    let rest = pairs_many bs mss (omega (arith, same)) (λ t c moves is are. come (suc t) c moves is are) in
    ap (λ n. n ∷ map length (map (λ (a : StartedActivity × List Move). op_origins_of a.0 a.1) (zip bs mss))) first
    ∙ ap (λ ns. length (code_of_moves ms) ∷ ns) rest

pub begun_many : (p : ClockTree) (u : ClockUnfolding) → clock_unfolded p ≡ Ok u → length (all_begun u) ≡ length u.parents
begun_many p u is = length-map u.starts begun_by ∙ starts_many p u is

pub ops_have_statements : OpsHaveStatements
ops_have_statements p u is = pairs_many (all_begun u) u.moves (begun_many p u is ∙ sym (moves_many p u is)) (moves_come p u is)

-- ---- tasks and phasers

-- the activities that are walked are all, or one more may be walked
module _ (p : ClockTree) (u : ClockUnfolding) (is : clock_unfolded p ≡ Ok u) where
  things_many :
      (n t : ℕ) (begun : List StartedActivity) (things : List MadeThing) (waits : List (List ℕ)) → Walked u t begun things waits → max_tasks ≤ t + n →
      length (all_things u) ≡ length u.makers
  things_many zero t begun things waits walked enough =
      let few = walked_few p u t begun things waits is walked in
      walked_made u t begun things waits walked (let l = few.0 in omega arith)
  things_many (suc n) t begun things waits walked enough =
      by (slice_get begun t) refl (λ b. things_many n (t + 1) (begun ++ activities_started_in (comings_by b)) (things ++ things_in (comings_by b)) (waits ++ waits_in (comings_by b) ∷ []))
    where
      by : (o : Option StartedActivity) → slice_get begun t ≡ o →
          ((b : StartedActivity) → Walked u (t + 1) (begun ++ activities_started_in (comings_by b)) (things ++ things_in (comings_by b)) (waits ++ waits_in (comings_by b) ∷ []) →
          max_tasks ≤ t + 1 + n → length (all_things u) ≡ length u.makers) → length (all_things u) ≡ length u.makers
      by None none rest = walked_made u t begun things waits walked (past_end begun t none)
      by (Some b) some rest = rest b (walked_next u t begun _ things _ waits _ b walked some refl refl refl) (omega (arith, enough))

pub tasks_and_phasers_have_statements : TasksAndPhasersHaveStatements
tasks_and_phasers_have_statements p u is =
    record {
      begun = begun_many p u is;
      things = things_many p u is max_tasks 0 _ _ _ (walked_first p u is) (omega arith);
      waits = length-map (all_begun u) (λ b. waits_in (comings_by b)) ∙ begun_many p u is;
    }

-- ---- the program

pub pair_at :
    (bs : List StartedActivity) (mss : List (List Move)) (t : ℕ) (b : StartedActivity) (moves : List Move) → slice_get bs t ≡ Some b → slice_get mss t ≡ Some moves →
    slice_get (map (λ (a : StartedActivity × List Move). op_origins_of a.0 a.1) (zip bs mss)) t ≡ Some (op_origins_of b moves)
pair_at [] mss t b moves is are = absurd cc
pair_at (x ∷ bs) [] t b moves is are = absurd cc
pair_at (x ∷ bs) (ms ∷ mss) zero b moves is are =
    let one : ◌≡◌ {A = Option StartedActivity} (Some x) (Some b) = is in
    let other : ◌≡◌ {A = Option (List Move)} (Some ms) (Some moves) = are in
    let same : x ≡ b = cc in
    let alike : ms ≡ moves = cc in
    ap (λ z. Some (op_origins_of z ms)) same ∙ ap (λ z. Some (op_origins_of b z)) alike
pair_at (x ∷ bs) (ms ∷ mss) (suc t) b moves is are = pair_at bs mss t b moves is are

pub code_at : (mss : List (List Move)) (t : ℕ) (moves : List Move) → slice_get mss t ≡ Some moves → slice_get (map code_of_moves mss) t ≡ Some (code_of_moves moves)
code_at [] t moves is = absurd cc
code_at (ms ∷ mss) zero moves is = (let one : ◌≡◌ {A = Option (List Move)} (Some ms) (Some moves) = is in let same : ms ≡ moves = cc in ap (λ z. Some (code_of_moves z)) same)
code_at (ms ∷ mss) (suc t) moves is = code_at mss t moves is

-- what is noted of the code of a task is from which statements its ops come
pub noted_at :
    (p : ClockTree) (u : ClockUnfolding) (t : ℕ) (begun : List StartedActivity) (os : List (Option ℕ)) → clock_unfolded p ≡ Ok u → begun ≡ all_begun u → t < length u.parents →
    IfSome (slice_get begun t) (λ b. os ≡ (code_noted b (code_of (plan_of_moves u) t)).origins) → slice_get (all_op_origins u) t ≡ Some os
noted_at p u t begun os is same lt noted =
    let (b, begun_is) = some_at (all_begun u) t (omega (arith, begun_many p u is)) in
    let (moves, moves_are) = some_at u.moves t (omega (arith, moves_many p u is)) in
    let there : slice_get begun t ≡ Some b = ap (λ z. slice_get z t) same ∙ begun_is in
    let noted_is : os ≡ (code_noted b (code_of (plan_of_moves u) t)).origins =
    subst (λ o. IfSome o (λ b. os ≡ (code_noted b (code_of (plan_of_moves u) t)).origins)) there noted in
    let code : code_of (plan_of_moves u) t ≡ code_of_moves moves = ap (λ o. unwrap_or o []) (code_at u.moves t moves moves_are) in
    pair_at (all_begun u) u.moves t b moves begun_is moves_are
    ∙ ap (λ z. Some z) (sym (noted_is ∙ ap (λ c. (code_noted b c).origins) code ∙ code_is_noted b moves (moves_come p u is t b moves begun_is moves_are)))

-- a program with a plan has an unfolding, of which it is the plan
pub unfolding_of_plan : (p : ClockTree) (plan : Plan) → clock_plan_of p ≡ Ok plan → (u : ClockUnfolding) × (clock_unfolded p ≡ Ok u) × (plan_of_moves u ≡ plan)
unfolding clock_plan_of
unfolding_of_plan p plan is =
    let a = bind_ok (clock_unfolded p) (λ s. Ok (plan_of_moves s)) plan is in
    (a.0, a.1, ok_is (plan_of_moves a.0) plan a.2)

take_more_of : {A : Type 0} (xs : List A) (t : ℕ) (x : A) → slice_get xs t ≡ Some x → take (t + 1) xs ≡ take t xs ++ x ∷ []
take_more_of {A} xs t x is = ap (λ k. take k xs) (let e : t + 1 ≡ suc t = omega arith in e) ∙ one xs t is
  where
    one : (ys : List A) (k : ℕ) → slice_get ys k ≡ Some x → take (suc k) ys ≡ take k ys ++ x ∷ []
    one [] k is = absurd cc
    one (y ∷ ys) zero is = (let one : ◌≡◌ {A = Option A} (Some y) (Some x) = is in let same : y ≡ x = cc in ap (λ z. z ∷ []) same)
    one (y ∷ ys) (suc k) is = ap (λ zs. y ∷ zs) (one ys k is)

-- one task more
pub origins_next :
    (p : ClockTree) (u : ClockUnfolding) (plan : Plan) (t : ℕ) (begun : List StartedActivity) (os : List (Option ℕ)) (all next : List (List (Option ℕ))) → clock_unfolded p ≡ Ok u →
    clock_plan_of p ≡ Ok plan → begun ≡ all_begun u → t < length plan.parents → IfSome (slice_get begun t) (λ b. os ≡ (code_noted b (code_of plan t)).origins) →
    all ≡ take t (all_op_origins u) → next ≡ all ++ os ∷ [] → next ≡ take (t + 1) (all_op_origins u)
origins_next p u plan t begun os all next is plan_is same lt noted so_far more =
    let (v, v_is, of_v) = unfolding_of_plan p plan plan_is in
    let it : plan_of_moves u ≡ plan = ap plan_of_moves (same_unfolding p u v is v_is) ∙ of_v in
    let there = noted_at p u t begun os is same (omega (arith, lt, ap (λ (q : Plan). length q.parents) it))
    (subst (λ q. IfSome (slice_get begun t) (λ b. os ≡ (code_noted b (code_of q t)).origins)) (sym it) noted) in
    more ∙ ap (λ z. z ++ os ∷ []) so_far ∙ sym (take_more_of (all_op_origins u) t os there)

-- all tasks
pub origins_end :
    (p : ClockTree) (u : ClockUnfolding) (plan : Plan) (t : ℕ) (all : List (List (Option ℕ))) → clock_unfolded p ≡ Ok u → clock_plan_of p ≡ Ok plan → length plan.parents ≤ t →
    all ≡ take t (all_op_origins u) → all ≡ all_op_origins u
origins_end p u plan t all is plan_is le so_far =
    let (v, v_is, of_v) = unfolding_of_plan p plan plan_is in
    let it : plan_of_moves u ≡ plan = ap plan_of_moves (same_unfolding p u v is v_is) ∙ of_v in
    let many = ap length (ops_have_statements p u is) in
    let lists = length-map (all_op_origins u) length in
    let codes = length-map (map code_of_moves u.moves) length in
    let made = length-map u.moves code_of_moves in
    so_far ∙ take_all t (all_op_origins u) (omega (arith, le, many, lists, codes, made, moves_many p u is, ap (λ (q : Plan). length q.parents) it))
