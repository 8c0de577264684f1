-- What the rule of the board says of deadlock at every moment: between any two steps of any seats.
use Rattle.std.specs.Prelude.{ℕ, false}
use Rattle.atomic_table.specs.Table.{State}
use Rattle.armus_base.specs.Deadlocks.{IsDeadIn, NobodyDead}
use Rattle.armus_base.specs.Places.{state_at}
use Rattle.armus_base.specs.Plans.{Plan}
use Rattle.armus_base.specs.calls.Seats.{IsKnownDead}
use Rattle.board.specs.declared.mode.Mode.TheVariants.{Avoid, Detect}
use Rattle.board.specs.declared.view.View.{View}
use Rattle.board.specs.calls.Rule.{IsKeptBy, IsThere}
use Rattle.board.specs.calls.Views.{seen}

-- where the rule of a board that avoids deadlock holds, nobody is dead in the state that the words show
abbrev pub NobodyDeadByRule : Type 0
NobodyDeadByRule = (plan : Plan) (s : State (Unit {0}) View) (rule : IsKeptBy plan Avoid s) → NobodyDead (state_at plan rule.places)

-- where the rule of a board that detects deadlock holds, whoever a seat knows to be dead, by what it has seen, is dead in the state that the words show
abbrev pub KnownDeadByRule : Type 0
KnownDeadByRule =
    (plan : Plan) (s : State (Unit {0}) View) (rule : IsKeptBy plan Detect s) (j : ℕ) (v : View) (t : ℕ) → IsThere s.views j v →
    IsKnownDead false plan v.own (seen v) t → IsDeadIn (state_at plan rule.places) t
