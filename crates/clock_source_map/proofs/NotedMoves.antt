-- What is noted of the ops of an activity is from which statements its moves come.
use Rattle.std.proofs.Common.{◌≡◌, ℕ, suc, Bool, true, false, List, [], ◌∷◌, ◌++◌, Option, Some, None, length, map, refl, sym, ap, ◌∙◌, subst, append_assoc, append-nil}
use Rattle.std.specs.Prelude.{if◌then◌else◌, option_to_list, replicate}
use Rattle.std.specs.List.{zip}
use Rattle.armus_base.specs.declared.offset.Offset.TheVariants.{Here}
use Rattle.armus_base.specs.declared.op.Op.{Op}
use Rattle.armus_base.specs.declared.op.Op.TheVariants as op
use Rattle.armus_base.specs.Numbers.{phaser, task}
use Rattle.clock_syntax.specs.Trees.{advance, clock, drop, resume, skip}
use Rattle.clock_semantics.specs.Moves.{Move, ActivityStanding, advances, after_move, begins, code_from, code_of_moves, drops, ends, no_standing, opens, ops_of, resumes, starts, stops}
use Rattle.clock_semantics.specs.Unfolding.{ClockComing, ClockPart, a_close, a_finish, a_loop, a_plain, a_turn, an_async}
use Rattle.clock_semantics.proofs.PlanSteps.{map-append}
use Rattle.clock_source_map.specs.ClockOps.{makes_move, moving_comings, op_origins_from, op_origins_of}
use Rattle.clock_source_map.specs.ClockOrigins.{StartedActivity, comings_by}
use Rattle.clock_source_map.specs.calls.Laws.{AreMovesAt, IsMoveAt}
use Rattle.clock_source_map.specs.inside.OpNotes.{OpNotesValue, all_noted, code_noted, ops_noted, part_noted, start_noted, stop_noted}

-- these ops are left, and these origins noted
abbrev notes : List Op → List (Option ℕ) → OpNotesValue
notes ops os = record { left = ops; origins = os }

-- this origin for each of these ops
abbrev each_from : Option ℕ → List Op → List (Option ℕ)
each_from n ops = map (λ o. n) ops

each_is : (n : Option ℕ) (ops : List Op) → each_from n ops ≡ replicate (length ops) n
each_is n [] = refl
each_is n (o ∷ ops) = ap (λ z. n ∷ z) (each_is n ops)

-- ---- one move

-- the registrations of a start
regs_noted : (n c : ℕ) (ps : List ℕ) (ops : List Op) (os : List (Option ℕ)) →
    start_noted n (map (λ p. op.Reg (task c) (phaser p)) ps ++ ops) os ≡ start_noted n ops (os ++ each_from (Some n) (map (λ p. op.Reg (task c) (phaser p)) ps))
regs_noted n c [] ops os = ap (start_noted n ops) (sym (append-nil os))
regs_noted n c (p ∷ ps) ops os =
    regs_noted n c ps ops (os ++ Some n ∷ [])
    ∙ ap (start_noted n ops) (append_assoc os (Some n ∷ []) (each_from (Some n) (map (λ q. op.Reg (task c) (phaser q)) ps)))

start_ops_noted : (n c : ℕ) (s : ActivityStanding) (ps : List ℕ) (f : Option ℕ) (rest : List Op) (os : List (Option ℕ)) →
    start_noted n (ops_of s (starts c ps f) ++ rest) os ≡ notes rest (os ++ each_from (Some n) (ops_of s (starts c ps f)))
start_ops_noted n c s ps f rest os =
    let regs = λ (qs : List ℕ). map (λ p. op.Reg (task c) (phaser p)) qs in
    let first : List Op = regs ps in
    let second : List Op = regs (option_to_list f) in
    let fork : List Op = op.Fork (task c) ∷ [] in
    ap (λ z. start_noted n z os) (append_assoc first (second ++ fork) rest)
    ∙ regs_noted n c ps ((second ++ fork) ++ rest) os
    ∙ ap (λ z. start_noted n z (os ++ each_from (Some n) first)) (append_assoc second fork rest)
    ∙ regs_noted n c (option_to_list f) (fork ++ rest) (os ++ each_from (Some n) first)
    ∙ ap (notes rest)
    (append_assoc (os ++ each_from (Some n) first) (each_from (Some n) second) (Some n ∷ [])
    ∙ append_assoc os (each_from (Some n) first) (each_from (Some n) second ++ Some n ∷ [])
    ∙ ap (λ z. os ++ z)
    (sym (map-append (λ o. Some n) first (second ++ fork) ∙ ap (λ z. each_from (Some n) first ++ z) (map-append (λ o. Some n) second fork))))

-- the ops of an advance of a clock that is pending or not
abbrev advance_ops : Bool → ℕ → List Op
advance_ops b p = (if b then [] else op.Adv (phaser p) ∷ []) ++ op.Await (phaser p) Here ∷ []

advance_noted : (n p : ℕ) (b : Bool) (x : List ℕ) (rest : List Op) (os : List (Option ℕ)) →
    part_noted n (a_plain (advance x)) (notes (advance_ops b p ++ rest) os) ≡ notes rest (os ++ each_from (Some n) (advance_ops b p))
advance_noted n p true x rest os = refl
advance_noted n p false x rest os = ap (notes rest) (append_assoc os (Some n ∷ []) (Some n ∷ []))

-- what is noted of the ops of a move at its part
part_is : (n : ℕ) (part : ClockPart) (move : Move) (s : ActivityStanding) (rest : List Op) (os : List (Option ℕ)) → IsMoveAt part move →
    part_noted n part (notes (ops_of s move ++ rest) os) ≡ notes rest (os ++ each_from (Some n) (ops_of s move))
part_is n (a_plain (clock x)) (opens p) s rest os is = refl
part_is n (a_plain (advance x)) (advances p) s rest os is = advance_noted n p (s.pending p) x rest os
part_is n (a_plain (resume x)) (resumes p) s rest os is = refl
part_is n (a_plain (drop x)) (drops p) s rest os is = refl
part_is n (an_async xs body) (starts c ps f) s rest os is = start_ops_noted n c s ps f rest os
part_is n a_finish (begins f) s rest os is = refl
part_is n a_close (ends f) s rest os is =
    ap (notes rest) (append_assoc (os ++ Some n ∷ []) (Some n ∷ []) (Some n ∷ []) ∙ append_assoc os (Some n ∷ []) (Some n ∷ Some n ∷ []))
part_is n part move s rest os is = absurd is

-- where no move is made, nothing is noted
no_move_noted : (n : ℕ) (part : ClockPart) (k : OpNotesValue) → makes_move part ≡ false → part_noted n part k ≡ k
no_move_noted n (a_plain (clock x)) k none = absurd cc
no_move_noted n (a_plain (advance x)) k none = absurd cc
no_move_noted n (a_plain (resume x)) k none = absurd cc
no_move_noted n (a_plain (drop x)) k none = absurd cc
no_move_noted n (a_plain skip) k none = refl
no_move_noted n (an_async xs body) k none = absurd cc
no_move_noted n a_finish k none = absurd cc
no_move_noted n a_close k none = absurd cc
no_move_noted n a_loop k none = refl
no_move_noted n a_turn k none = refl

-- ---- the stop

stop_is : (ops : List Op) (os : List (Option ℕ)) → stop_noted ops os ≡ notes [] (os ++ each_from None ops)
stop_is [] os = ap (notes []) (sym (append-nil os))
stop_is (o ∷ ops) os = stop_is ops (os ++ None ∷ []) ∙ ap (notes []) (append_assoc os (None ∷ []) (each_from None ops))

-- ---- all moves

-- the statements of these comings, and none for the stop
abbrev statements : List ClockComing → List (Option ℕ)
statements ms = map (λ (m : ClockComing). Some m.statement) ms ++ None ∷ []

pub moving_more : (m : ClockComing) (ms : List ClockComing) (b : Bool) → makes_move m.part ≡ b → moving_comings (m ∷ ms) ≡ (if b then m ∷ moving_comings ms else moving_comings ms)
moving_more m ms b is = ap (λ z. if z then m ∷ moving_comings ms else moving_comings ms) is

moves_noted : (ms : List ClockComing) (s : ActivityStanding) (moves : List Move) (os : List (Option ℕ)) → AreMovesAt (moving_comings ms) moves →
    all_noted (ops_noted ms (notes (code_from s moves) os)) ≡ notes [] (os ++ op_origins_from s (zip (statements (moving_comings ms)) moves))
moves_noted [] s (stops ps ∷ []) os are =
    stop_is (ops_of s (stops ps) ++ []) os
    ∙ ap (λ z. notes [] (os ++ z))
    (ap (each_from None) (append-nil (ops_of s (stops ps))) ∙ each_is None (ops_of s (stops ps)) ∙ sym (append-nil (replicate (length (ops_of s (stops ps))) None)))
moves_noted [] s moves os are = absurd are
moves_noted (m ∷ ms) s moves os are =
    by (makes_move m.part) refl moves (subst (λ z. AreMovesAt z moves) (moving_more m ms (makes_move m.part) refl) are) (moves_noted ms)
    ∙ ap (λ z. notes [] (os ++ op_origins_from s (zip (statements z) moves))) (sym (moving_more m ms (makes_move m.part) refl))
  where
    by :
        (b : Bool) → makes_move m.part ≡ b → (moves : List Move) → AreMovesAt (if b then m ∷ moving_comings ms else moving_comings ms) moves →
        ((s : ActivityStanding) (moves : List Move) (os : List (Option ℕ)) → AreMovesAt (moving_comings ms) moves →
        all_noted (ops_noted ms (notes (code_from s moves) os)) ≡ notes [] (os ++ op_origins_from s (zip (statements (moving_comings ms)) moves))) →
        all_noted (ops_noted (m ∷ ms) (notes (code_from s moves) os))
        ≡ notes [] (os ++ op_origins_from s (zip (statements (if b then m ∷ moving_comings ms else moving_comings ms)) moves))
    by true is [] are rest = absurd are
    by true is (move ∷ moves) are rest =
        let n = m.statement in
        let next = after_move move s in
        ap (λ k. all_noted (ops_noted ms k)) (part_is n m.part move s (code_from next moves) os are.0)
        ∙ rest next moves (os ++ each_from (Some n) (ops_of s move)) are.1
        ∙ ap (notes [])
        (append_assoc os (each_from (Some n) (ops_of s move)) (op_origins_from next (zip (statements (moving_comings ms)) moves))
        ∙ ap (λ z. os ++ (z ++ op_origins_from next (zip (statements (moving_comings ms)) moves))) (each_is (Some n) (ops_of s move)))
    by false is moves are rest = ap (λ k. all_noted (ops_noted ms k)) (no_move_noted m.statement m.part (notes (code_from s moves) os) is) ∙ rest s moves os are

-- what is noted of an activity that makes these moves
pub code_is_noted : (b : StartedActivity) (moves : List Move) → AreMovesAt (moving_comings (comings_by b)) moves →
    (code_noted b (code_of_moves moves)).origins ≡ op_origins_of b moves
code_is_noted b moves are = ap (λ (k : OpNotesValue). k.origins) (moves_noted (comings_by b) no_standing moves [] are)

-- ---- how many

many_more : (n : Option ℕ) (ops : List Op) (os : List (Option ℕ)) (more : List Op) → length os ≡ length more → length (replicate (length ops) n ++ os) ≡ length (ops ++ more)
many_more n [] os more same = same
many_more n (o ∷ ops) os more same = ap suc (many_more n ops os more same)

origins_many : (ms : List ClockComing) (s : ActivityStanding) (moves : List Move) → AreMovesAt ms moves →
    length (op_origins_from s (zip (statements ms) moves)) ≡ length (code_from s moves)
origins_many [] s (stops ps ∷ []) are = many_more None (ops_of s (stops ps)) [] [] refl
origins_many [] s moves are = absurd are
origins_many (m ∷ ms) s [] are = absurd are
origins_many (m ∷ ms) s (move ∷ moves) are =
    many_more (Some m.statement) (ops_of s move) _ _ (origins_many ms (after_move move s) moves are.1)

-- an activity has an origin for each op
pub as_many_as_ops : (b : StartedActivity) (moves : List Move) → AreMovesAt (moving_comings (comings_by b)) moves → length (op_origins_of b moves) ≡ length (code_of_moves moves)
as_many_as_ops b moves are = origins_many (moving_comings (comings_by b)) no_standing moves are
