-- The code of moves, when there is one more.
use Rattle.std.proofs.Common.{◌≡◌, ℕ, ◌<◌, true, false, List, [], ◌∷◌, ◌++◌, length, arith, sym, ◌∙◌, ap, refl}
use Rattle.std.specs.Prelude.{if◌then◌else◌, map, slice_index_or, slice_set, ◌==◌}
use Rattle.std.proofs.lemmas.List.{append_assoc, append-nil, get_or-map, length-map, map-set}
use Rattle.armus_base.specs.Plans.{Plan}
use Rattle.clock_semantics.specs.Moves.{Move, ActivityStanding, advances, after_move, begins, code_from, code_of_moves, drops, ends, no_standing, opens, ops_of, resumes, starts, stops}
use Rattle.clock_semantics.specs.Unfolding.{ClockUnfolding, with_move}
use Rattle.clock_semantics.proofs.PlanSteps.{with_ops, with_ops_is}

-- how an activity stands after moves
abbrev pub stood : ActivityStanding → List Move → ActivityStanding
stood s [] = s
stood s (m ∷ ms) = stood (after_move m s) ms

pub stood-append : (s : ActivityStanding) (ms ns : List Move) → stood s (ms ++ ns) ≡ stood (stood s ms) ns
stood-append s [] ns = refl
stood-append s (m ∷ ms) ns = stood-append (after_move m s) ms ns

pub code_from-append : (s : ActivityStanding) (ms ns : List Move) → code_from s (ms ++ ns) ≡ code_from s ms ++ code_from (stood s ms) ns
code_from-append s [] ns = refl
code_from-append s (m ∷ ms) ns =
    ap (λ os. ops_of s m ++ os) (code_from-append (after_move m s) ms ns)
    ∙ sym (append_assoc (ops_of s m) (code_from (after_move m s) ms) (code_from (stood (after_move m s) ms) ns))

-- two ways to stand with the same pending clocks
abbrev pub SamePending : ActivityStanding → ActivityStanding → Type 0
SamePending s s' = (q : ℕ) → s.pending q ≡ s'.pending q

-- have the same ops
pub same_ops : (s s' : ActivityStanding) (m : Move) → SamePending s s' → ops_of s m ≡ ops_of s' m
same_ops s s' (opens p) same = refl
same_ops s s' (starts c ps f) same = refl
same_ops s s' (advances p) same = ap (λ b. ops_of (record s { pending = λ q. b }) (advances p)) (same p)
same_ops s s' (resumes p) same = refl
same_ops s s' (drops p) same = refl
same_ops s s' (begins f) same = refl
same_ops s s' (ends f) same = refl
same_ops s s' (stops ps) same = refl

-- and have them after a move
pub same_after : (s s' : ActivityStanding) (m : Move) → SamePending s s' → SamePending (after_move m s) (after_move m s')
same_after s s' (opens p) same = same
same_after s s' (starts c ps f) same = same
same_after s s' (advances p) same = λ q. ap (λ b. if q == p then false else b) (same q)
same_after s s' (resumes p) same = λ q. ap (λ b. if q == p then true else b) (same q)
same_after s s' (drops p) same = λ q. ap (λ b. if q == p then false else b) (same q)
same_after s s' (begins f) same = same
same_after s s' (ends f) same = λ q. ap (λ b. if q == f then false else b) (same q)
same_after s s' (stops ps) same = λ q. refl

-- the moves of activity t
abbrev pub moves_at : ClockUnfolding → ℕ → List Move
moves_at u t = slice_index_or u.moves t []

-- the plan of the moves so far
abbrev pub plan_now : ClockUnfolding → Plan
plan_now u = record { parents = u.parents; makers = u.makers; codes = map code_of_moves u.moves; pieces = [] }

-- one move more
pub code_more : (ms : List Move) (m : Move) (s : ActivityStanding) → SamePending (stood no_standing ms) s → code_of_moves (ms ++ m ∷ []) ≡ code_of_moves ms ++ ops_of s m
code_more ms m s same =
    code_from-append no_standing ms (m ∷ [])
    ∙ ap (λ os. code_of_moves ms ++ os) (append-nil (ops_of (stood no_standing ms) m) ∙ same_ops (stood no_standing ms) s m same)

pub pending_more : (ms : List Move) (m : Move) (s : ActivityStanding) → SamePending (stood no_standing ms) s → SamePending (stood no_standing (ms ++ m ∷ [])) (after_move m s)
pending_more ms m s same q = ap (λ (z : ActivityStanding). z.pending q) (stood-append no_standing ms (m ∷ [])) ∙ same_after (stood no_standing ms) s m same q

pub plan_more :
    (t : ℕ) (m : Move) (u : ClockUnfolding) → t < length u.moves → SamePending (stood no_standing (moves_at u t)) u.now.standing →
    plan_now (with_move t m u) ≡ with_ops t (ops_of u.now.standing m) (plan_now u)
plan_more t m u here same =
    ap (λ cs. record (plan_now u) { codes = cs })
    (map-set code_of_moves u.moves t (moves_at u t ++ m ∷ [])
    ∙ ap (slice_set (map code_of_moves u.moves) t)
    (code_more (moves_at u t) m u.now.standing same
    ∙ ap (λ c. c ++ ops_of u.now.standing m) (sym (get_or-map code_of_moves u.moves t [] [] here))))
    ∙ sym (with_ops_is t (ops_of u.now.standing m) (plan_now u) (omega (arith, here, length-map u.moves code_of_moves)))
