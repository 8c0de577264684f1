-- What each step makes of a view, and what it tells.
use Rattle.std.specs.Prelude.{◌≡◌, ◌≢◌, ℕ, ◌+◌, ◌^◌, ◌<◌, Bool, true, false, List, [], ◌∷◌, ◌++◌, Option, Some, None, length, slice_set, unwrap_or, ◌==◌, ◌&&◌, ◌||◌, if◌then◌else◌, nat_le}
use Rattle.atomic_table.specs.Table.{Me, Step}
use Rattle.armus_base.specs.declared.event.Event.{Event}
use Rattle.armus_base.specs.Plans.{Plan, Action, Forks, Blocks, Passes, Drops}
use Rattle.armus_base.specs.States.{State}
use Rattle.armus_base.specs.Runs.{Place, first_place, next_place}
use Rattle.armus_base.specs.Places.{state_at}
use Rattle.armus_base.specs.calls.Places.{phases_at_place}
use Rattle.armus_base.specs.calls.Boards.{IsLawful}
use Rattle.armus_base.specs.calls.Seats.{Found, FoundRefused, IsAsFarOn, IsSeenAfterAwait, IsSeenAfterPhase, await_word, own_event}
use Rattle.board.specs.declared.mode.Mode.{Mode}
use Rattle.board.specs.declared.mode.Mode.TheVariants.{Detect}
use Rattle.board.specs.declared.view.View.{View}
use Rattle.board.specs.calls.Words.{found_in, await_index, phase_index, await_number, phase_number, IsInRange}
use Rattle.board.specs.calls.Views.{avoids, seen, task_of, own_place, place_in, next_action}

-- a block and a pass begin with nothing scanned
abbrev pub scanned_next : Action → ℕ → ℕ
scanned_next (Blocks p) k = 0
scanned_next (Passes p) k = 0
scanned_next x k = k

-- the view after an own action
abbrev pub after_action : Action → View → View
after_action x v =
    record v {
      sight = record v.sight {
        places = slice_set v.sight.places (task_of v) (next_place (own_place v).done (own_place v).dropped x);
        scanned = scanned_next x v.sight.scanned;
      };
    }

-- the view after the action that comes next: by the code, or after a refusal a drop
abbrev pub next_view : View → View
next_view v = after_action (unwrap_or (next_action v) (Drops 0)) v

-- the child that an action forks
abbrev pub child_forked : Option Action → ℕ
child_forked (Some (Forks c)) = c
child_forked o = 0

-- the view of the child that the next action forks
abbrev pub child : View → View
child v =
    record v {
      own = Some (child_forked (next_action v));
      sight = record { places = (next_view v).sight.places; exact = child_forked (next_action v) ∷ []; scanned = 0; found = [] };
      holds = false;
      loads = 0;
    }

-- the view of a second viewer that has seen the same
abbrev pub another : View → View
another v = record v { loads = 0 }

-- the view of the first viewer, beside the seat of task 0
abbrev pub viewer : View → View
viewer v =
    record v { own = None; sight = record { places = v.sight.places; exact = []; scanned = 0; found = [] }; holds = false; loads = 0 }

-- it is the seat of the same task, or the same viewer, of the same board, and has the lock as before
pub record IsSameSeat (before now : View) : Type 0 where
  pub plan : now.plan ≡ before.plan
  pub mode : now.mode ≡ before.mode
  pub own : now.own ≡ before.own
  pub holds : now.holds ≡ before.holds
  pub spent : now.spent ≡ before.spent
  pub count : length now.sight.places ≡ length before.sight.places

-- in some lawful state, which is as far on as what was seen before and as what is seen now, this holds
pub record WasSo (plan : Plan) (mode : Mode) (Holds : State → Type 0) (before now : View) : Type 0 where
  pub places : ℕ → Place
  pub lock : Option ℕ
  pub lawful : IsLawful (avoids mode) plan places lock
  pub before_far : IsAsFarOn plan before.own places (seen before)
  pub now_far : IsAsFarOn plan before.own places (seen now)
  pub holds : Holds (state_at plan places)

-- one load of the await word of t
pub record LoadsAwait (plan : Plan) (mode : Mode) (t : ℕ) (answer : Found) (before now : View) : Type 0 where
  pub seen_now : IsSeenAfterAwait (avoids mode) plan before.holds t answer (seen before) (seen now)
  pub was : WasSo plan mode (λ s. found_in s t ≡ answer) before now
  pub there : ((e : Event) → answer ≢ FoundRefused e) → await_word plan t ((seen now).places t) ≡ answer
  pub same : IsSameSeat before now
  pub loads : now.loads ≡ before.loads + 1

-- one load of the phase word of t on p
pub record LoadsPhase (plan : Plan) (mode : Mode) (t p : ℕ) (answer : Option ℕ) (before now : View) : Type 0 where
  pub seen_now : IsSeenAfterPhase (avoids mode) plan before.own t p answer (seen before) (seen now)
  pub was : WasSo plan mode (λ s. s.phases t p ≡ answer) before now
  pub there : (n : ℕ) → answer ≡ Some n → (seen now).places t ≢ first_place → phases_at_place plan t ((seen now).places t) p ≡ answer
  pub same : IsSameSeat before now
  pub loads : now.loads ≡ before.loads + 1

-- whether place (k, o) is a prefix of place (j, r)
abbrev pub precedes : ℕ → Option ℕ → ℕ → Option ℕ → Bool
precedes k None j r = nat_le k j
precedes k (Some p) j None = false
precedes k (Some p) j (Some q) = (k == j) && nat_le p q

-- whether place a is a prefix of place b
abbrev pub is_prefix : Place → Place → Bool
is_prefix a b = precedes a.done a.dropped b.done b.dropped

-- the longer of two places
abbrev pub longer : Place → Place → Place
longer a b = if is_prefix a b then b else a

-- the longer of each two places
abbrev pub longer_places : List Place → List Place → List Place
longer_places (a ∷ rest_a) (b ∷ bs) = longer a b ∷ longer_places rest_a bs
longer_places xs ys = []

-- of each two places one is a prefix of the other
abbrev pub are_of_one_run : List Place → List Place → Bool
are_of_one_run (a ∷ rest_a) (b ∷ bs) = (is_prefix a b || is_prefix b a) && are_of_one_run rest_a bs
are_of_one_run xs ys = true

-- the view of a viewer that has taken in the seat of a task
abbrev pub with_seat : View → View → View
with_seat v w =
    record v {
      sight = record {
        places = longer_places v.sight.places w.sight.places;
        exact = (v.sight.exact ++ w.sight.exact) ++ task_of w ∷ [];
        scanned = 0;
        found = [];
      };
    }

-- of each of these tasks the first view's place is the second one's or further on
abbrev pub are_ahead : List ℕ → List Place → List Place → Bool
are_ahead [] xs ys = true
are_ahead (u ∷ us) xs ys = is_prefix (place_in ys u) (place_in xs u) && are_ahead us xs ys

-- the places are of one run; the viewer has not seen the seat's task further on than the seat, nor the seat a task that the viewer knows exactly further
-- on than the viewer
abbrev pub may_join : View → View → Bool
may_join v w =
    are_of_one_run v.sight.places w.sight.places
    && (are_ahead (task_of w ∷ []) w.sight.places v.sight.places && are_ahead v.sight.exact v.sight.places w.sight.places)

-- What it has after the two views become one. They always may be joined; what is said of others is true of no viewer, so that who has this view knows
-- that they might.
abbrev pub both : View → View → View
both v w =
    if may_join v w then with_seat v w
    else record v { sight = record { places = []; exact = []; scanned = 0; found = [] } }

-- the view of a seat that was taken in, of which nothing is said
abbrev pub spent_view : View
spent_view =
    record {
      plan = record { parents = []; makers = []; codes = []; pieces = [] };
      mode = Detect;
      own = None;
      sight = record { places = []; exact = []; scanned = 0; found = [] };
      holds = false;
      loads = 0;
      spent = true;
    }

-- a seat of the table: its view, and no slots
abbrev pub TableSeat : Type 0
TableSeat = Me (Unit {0}) View

-- an own action was made
abbrev pub Acted : Step (Unit {0}) → TableSeat → ℕ → TableSeat → Type 0
Acted step before n now = now.0 ≡ next_view before.0 × now.1 ≡ before.1

-- the published event was withdrawn
abbrev pub Withdrawn : Step (Unit {0}) → TableSeat → ℕ → TableSeat → Type 0
Withdrawn step before n now =
    now.1 ≡ before.1
    × ((e : Event) → own_event before.0.plan before.0.own (seen before.0) ≡ Some e →
    now.0 ≡ next_view before.0 × next_action before.0 ≡ Some (Passes e.p.0))

-- an await word was loaded
abbrev pub Watched : Step (Unit {0}) → TableSeat → ℕ → TableSeat → Type 0
Watched step before n now =
    now.1 ≡ before.1
    × ((t : ℕ) → t < length before.0.plan.parents → step.word ≡ await_index t →
    (answer : Found) × n ≡ await_number answer × IsInRange answer × LoadsAwait before.0.plan before.0.mode t answer before.0 now.0)

-- a phase word was loaded
abbrev pub Looked : Step (Unit {0}) → TableSeat → ℕ → TableSeat → Type 0
Looked step before n now =
    now.1 ≡ before.1
    × ((t p : ℕ) → t < length before.0.plan.parents → p < length before.0.plan.makers → step.word ≡ phase_index before.0.plan t p →
    (answer : Option ℕ) × n ≡ phase_number answer × n < 2 ^ 32 × LoadsPhase before.0.plan before.0.mode t p answer before.0 now.0)

-- the own phase of a seat's task
abbrev pub own_phase : View → ℕ → Option ℕ
own_phase v p = phases_at_place v.plan (task_of v) (own_place v) p

-- an own phase word was loaded
abbrev pub Recalled : Step (Unit {0}) → TableSeat → ℕ → TableSeat → Type 0
Recalled step before n now =
    now.0 ≡ before.0 × now.1 ≡ before.1
    × ((p : ℕ) → p < length before.0.plan.makers → step.word ≡ phase_index before.0.plan (task_of before.0) p →
    n ≡ phase_number (own_phase before.0 p) × n < 2 ^ 32)

-- no step is seen of the child that comes to be forked next
abbrev pub Unforked : Step (Unit {0}) → TableSeat → ℕ → TableSeat → Type 0
Unforked step before n now =
    now.0 ≡ before.0 × now.1 ≡ before.1
    × ((c : ℕ) → next_action before.0 ≡ Some (Forks c) → place_in before.0.sight.places c ≡ first_place)

-- the view has a place for each task
abbrev pub Counted : Step (Unit {0}) → TableSeat → ℕ → TableSeat → Type 0
Counted step before n now =
    now.0 ≡ before.0 × now.1 ≡ before.1 × length before.0.sight.places ≡ length before.0.plan.parents
