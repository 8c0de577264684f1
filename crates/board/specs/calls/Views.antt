-- Views: what a seat knows, as plain data, and what that says it has seen.
use Rattle.std.specs.Prelude.{ℕ, Bool, true, false, List, [], ◌∷◌, Option, Some, None, slice_index_or, unwrap_or, ◌==◌, ◌||◌, if◌then◌else◌}
use Rattle.armus_base.specs.Plans.{Plan, Action, action_at}
use Rattle.armus_base.specs.Runs.{Place, first_place}
use Rattle.armus_base.specs.calls.Seats.{Found, FoundIdle, FoundWaiting, FoundRefused, SeenBy}
use Rattle.board.specs.declared.mode.Mode.{Mode}
use Rattle.board.specs.declared.mode.Mode.TheVariants.{Detect, Avoid}
use Rattle.board.specs.declared.seen.Seen.{Seen}
use Rattle.board.specs.declared.seen.Seen.TheVariants.{Idle, Waits, Refused}
use Rattle.board.specs.declared.view.View.{View}
use Rattle.board.specs.declared.view.Sight.{Sight}

-- the board avoids deadlock
abbrev pub avoids : Mode → Bool
avoids Detect = false
avoids Avoid = true

-- what an answer says of an await word
abbrev pub found_of : Seen → Found
found_of Idle = FoundIdle
found_of (Waits e) = FoundWaiting e
found_of (Refused e) = FoundRefused e

-- u is one of these tasks
abbrev pub is_among : List ℕ → ℕ → Bool
is_among [] u = false
is_among (t ∷ ts) u = (u == t) || is_among ts u

-- what was found of u last
abbrev pub last_found : List (ℕ × Seen) → ℕ → Option Found
last_found [] u = None
last_found (x ∷ xs) u = if u == x.0 then Some (found_of x.1) else last_found xs u

-- the place of u
abbrev pub place_in : List Place → ℕ → Place
place_in places u = slice_index_or places u first_place

-- what a seat has seen
abbrev pub seen_by : Sight → SeenBy
seen_by s =
    record {
      places = place_in s.places;
      exact = is_among s.exact;
      scanned = s.scanned;
      found = last_found s.found;
    }

-- what the seat with this view has seen
abbrev pub seen : View → SeenBy
seen v = seen_by v.sight

-- the task of a seat
abbrev pub task_of : View → ℕ
task_of v = unwrap_or v.own 0

-- the place of the seat's own task
abbrev pub own_place : View → Place
own_place v = place_in v.sight.places (task_of v)

-- the action that comes next at a place, if its task is not refused
abbrev pub action_after : Plan → ℕ → ℕ → Option ℕ → Option Action
action_after plan t k None = action_at plan t k
action_after plan t k (Some d) = None

-- the action that the task of a seat makes next by its code
abbrev pub next_action : View → Option Action
next_action v = action_after v.plan (task_of v) (own_place v).done (own_place v).dropped
