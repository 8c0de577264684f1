-- Moves: what an activity does, step by step, with its names resolved and its loops unrolled; and the ops that stand for a move.
use Rattle.std.specs.Prelude.{ℕ, Bool, true, false, if◌then◌else◌, List, [], ◌∷◌, ◌++◌, map, Option, option_to_list}
use Rattle.armus_base.specs.declared.offset.Offset.TheVariants.{Here}
use Rattle.armus_base.specs.declared.op.Op.{Op}
use Rattle.armus_base.specs.declared.op.Op.TheVariants.{Make, Reg, Fork, Adv, Drop, Await}
use Rattle.armus_base.specs.States.{updated}
use Rattle.armus_base.specs.Numbers.{phaser, task}

-- one move of an activity; clocks and finishes share one row of numbers
pub data Move : Type 0 where
  opens : (clock : ℕ) → Move  -- makes a clock
  starts : (child : ℕ) (clocks : List ℕ) (governed : Option ℕ) → Move  -- starts an activity on these clocks, under the finish that governs it, if one does
  advances : (clock : ℕ) → Move
  resumes : (clock : ℕ) → Move
  drops : (clock : ℕ) → Move
  begins : (finish : ℕ) → Move
  ends : (finish : ℕ) → Move
  stops : (members : List ℕ) → Move  -- ends, and leaves these clocks and finishes

-- how an activity stands before a move: of which clocks and finishes it is a member, and which clocks are pending: it has signalled on them, and not waited since
pub record ActivityStanding : Type 0 where
  pub members : ℕ → Bool
  pub pending : ℕ → Bool

-- a member of nothing, with nothing pending
abbrev pub no_standing : ActivityStanding
no_standing = record { members = λ p. false; pending = λ p. false }

-- a member of p too
abbrev pub registered_on : ℕ → ActivityStanding → ActivityStanding
registered_on p s = record s { members = updated s.members p true }

-- no member of p, which is not pending either
abbrev pub unregistered_from : ℕ → ActivityStanding → ActivityStanding
unregistered_from p s = record { members = updated s.members p false; pending = updated s.pending p false }

-- p is pending, or not
abbrev pub with_pending : ℕ → Bool → ActivityStanding → ActivityStanding
with_pending p v s = record s { pending = updated s.pending p v }

-- how an activity stands after a move
abbrev pub after_move : Move → ActivityStanding → ActivityStanding
after_move (opens p) s = registered_on p s
after_move (starts c ps f) s = s
after_move (advances p) s = with_pending p false s
after_move (resumes p) s = with_pending p true s
after_move (drops p) s = unregistered_from p s
after_move (begins f) s = registered_on f s
after_move (ends f) s = unregistered_from f s
after_move (stops ps) s = no_standing

-- the phaser of a clock or finish is the one with its number, and the task of an activity the one with its number: the ops of a move
abbrev pub ops_of : ActivityStanding → Move → List Op
ops_of s (opens p) = Make (phaser p) ∷ []
ops_of s (starts c ps f) =
    map (λ p. Reg (task c) (phaser p)) ps ++ (map (λ p. Reg (task c) (phaser p)) (option_to_list f) ++ Fork (task c) ∷ [])
ops_of s (advances p) = (if s.pending p then [] else Adv (phaser p) ∷ []) ++ Await (phaser p) Here ∷ []
ops_of s (resumes p) = Adv (phaser p) ∷ []
ops_of s (drops p) = Drop (phaser p) ∷ []
ops_of s (begins f) = Make (phaser f) ∷ []
ops_of s (ends f) = Adv (phaser f) ∷ Await (phaser f) Here ∷ Drop (phaser f) ∷ []
ops_of s (stops ps) = map (λ p. Drop (phaser p)) ps

-- the ops of moves, one after the other
abbrev pub code_from : ActivityStanding → List Move → List Op
code_from s [] = []
code_from s (m ∷ ms) = ops_of s m ++ code_from (after_move m s) ms

-- the code of an activity with these moves: it begins with nothing pending
abbrev pub code_of_moves : List Move → List Op
code_of_moves = code_from no_standing

-- the activity that a move starts, if it starts one
abbrev pub child_of : Move → List ℕ
child_of (starts c ps f) = c ∷ []
child_of m = []

-- the clock or finish that it makes
abbrev pub made_of : Move → List ℕ
made_of (opens p) = p ∷ []
made_of (begins f) = f ∷ []
made_of m = []

-- the activities that these moves start, in order
abbrev pub started_by : List Move → List ℕ
started_by [] = []
started_by (m ∷ ms) = child_of m ++ started_by ms

-- the clocks and finishes that they make, in order
abbrev pub made_by : List Move → List ℕ
made_by [] = []
made_by (m ∷ ms) = made_of m ++ made_by ms
