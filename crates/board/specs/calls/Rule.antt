-- The rule of the board, which holds between any two steps of any seats.
use Rattle.std.specs.Prelude.{◌≡◌, ℕ, ◌<◌, true, false, List, [], ◌∷◌, Option, Some, None, length, replicate, ◌⊎◌}
use mathlib.Core.Option.{some}
use lib.ListN.{get_elem?}
use Rattle.atomic_table.specs.Table.{State}
use Rattle.armus_base.specs.Plans.{Plan}
use Rattle.armus_base.specs.Runs.{Place, first_place}
use Rattle.armus_base.specs.Places.{state_at, forked_at, done_by}
use Rattle.armus_base.specs.CheckedPlans.{IsCheckedPlan}
use Rattle.armus_base.specs.calls.Boards.{IsLawful}
use Rattle.armus_base.specs.calls.Seats.{IsAsFarOn, HasLockWith}
use Rattle.board.specs.declared.mode.Mode.{Mode}
use Rattle.board.specs.declared.mode.Setting.{Setting}
use Rattle.board.specs.declared.view.View.{View}
use Rattle.board.specs.calls.Words.{IsShown}
use Rattle.board.specs.calls.Views.{avoids, seen, is_among}

-- who steps for a task: nobody yet, one seat, or nobody any more
pub data Stepper : Type 0 where
  not_yet : Stepper
  by_seat : (number : ℕ) → Stepper
  no_more : Stepper

-- the seat j steps for its own task t, whose place it knows
pub record Owns (plan : Plan) (steppers : ℕ → Stepper) (j : ℕ) (v : View) (t : ℕ) : Type 0 where
  pub within : t < length plan.parents
  pub exact : is_among v.sight.exact t ≡ true
  pub alone : steppers t ≡ by_seat j

-- the seat of task t has the lock where t holds it, and what it found since agrees with the state
pub record HoldsAsSeen (plan : Plan) (a : ℕ → Place) (lock : Option ℕ) (v : View) (t : ℕ) : Type 0 where
  pub holds : v.holds ≡ true → HasLockWith plan t a lock (seen v)
  pub held : lock ≡ Some t → v.holds ≡ true

-- what the seat j knows is true at these places, with this holder of the lock
pub record SeatFits (plan : Plan) (mode : Mode) (a : ℕ → Place) (lock : Option ℕ) (steppers : ℕ → Stepper) (j : ℕ) (v : View) : Type 0 where
  pub plan_is : v.plan ≡ plan
  pub mode_is : v.mode ≡ mode
  pub count : length v.sight.places ≡ length plan.parents
  pub far : IsAsFarOn plan v.own a (seen v)
  pub own : (t : ℕ) → v.own ≡ Some t → Owns plan steppers j v t
  pub exact : (u : ℕ) → is_among v.sight.exact u ≡ true → (v.own ≡ Some u) ⊎ (steppers u ≡ no_more)
  pub holding : (t : ℕ) → v.own ≡ Some t → HoldsAsSeen plan a lock v t
  pub viewer : v.own ≡ None → v.holds ≡ false

-- the view v is that of the seat j, which was not taken in
pub record IsThere (views : List View) (j : ℕ) (v : View) : Type 0 where
  pub found : get_elem? views j ≡ some v
  pub live : v.spent ≡ false

-- nobody steps yet for a task exactly where it is not forked; the seat that steps for a task is there, and is that task's own; and a task for which nobody
-- steps any more stands among the exact ones of a seat that is there
pub record AreSeated (plan : Plan) (a : ℕ → Place) (steppers : ℕ → Stepper) (views : List View) : Type 0 where
  pub forks : (t : ℕ) → (forked_at plan (done_by a) t ≡ false → steppers t ≡ not_yet) × (steppers t ≡ not_yet → forked_at plan (done_by a) t ≡ false)
  pub seats : (t j : ℕ) → steppers t ≡ by_seat j → (v : View) × IsThere views j v × v.own ≡ Some t
  pub ended : (t : ℕ) → steppers t ≡ no_more → (j : ℕ) × (v : View) × IsThere views j v × is_among v.sight.exact t ≡ true

-- there are lawful places and a holder of the lock that the words show, each forked task is the own task of one seat or has ended, and every view fits
pub record IsKeptBy (plan : Plan) (mode : Mode) (s : State (Unit {0}) View) : Type 0 where
  pub places : ℕ → Place
  pub lock : Option ℕ
  pub steppers : ℕ → Stepper
  pub checked : IsCheckedPlan plan
  pub lawful : IsLawful (avoids mode) plan places lock
  pub shown : IsShown plan (state_at plan places) lock s.words
  pub seated : AreSeated plan places steppers s.views
  pub views : (j : ℕ) (v : View) → get_elem? s.views j ≡ some v → v.spent ≡ false → SeatFits plan mode places lock steppers j v

-- the rule, of what the table was told
abbrev pub IsKept : Setting → State (Unit {0}) View → Type 0
IsKept k s = IsKeptBy k.plan.value k.mode s

-- the first view: of task 0, which has seen the opening
abbrev pub first_view : Setting → View
first_view k =
    record {
      plan = k.plan.value;
      mode = k.mode;
      own = Some 0;
      sight = record { places = replicate (length k.plan.value.parents) first_place; exact = 0 ∷ []; scanned = 0; found = [] };
      holds = false;
      loads = 0;
      spent = false;
    }
