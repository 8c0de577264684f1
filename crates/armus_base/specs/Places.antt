-- Places: how many of its own steps each task has made, and the state that they fix.
use Rattle.std.specs.Prelude.{ℕ, Bool, false, Option, Some, None, ◌==◌, ◌||◌, if◌then◌else◌, length, nat_lt, is_some}
use Rattle.armus_base.specs.declared.event.Event.{Event}
use Rattle.std.proofs.Common.{zero, suc}
use Rattle.armus_base.specs.Plans.{Plan, Action, Makes, Registers, Forks, Advances, Drops, parent_of, maker_of, actions, action_at}
use Rattle.armus_base.specs.Runs.{Place}
use Rattle.armus_base.specs.States.{State, Phases, updated, next_phase, awaited}

-- the phases of a task after this action of its own
abbrev pub own_step : Option Action → Phases → Phases
own_step (Some (Makes p)) m = updated m p (Some 0)
own_step (Some (Advances p)) m = updated m p (next_phase (m p))
own_step (Some (Drops p)) m = updated m p None
own_step o m = m

-- the phases of a task that began with m, after the first k of its actions
abbrev pub own_phases : (ℕ → Option Action) → Phases → ℕ → Phases
own_phases act m zero = m
own_phases act m (suc k) = own_step (act k) (own_phases act m k)

-- the phases of child c, which so far has those of r, after this action of its parent, which has those of m
abbrev pub register_step : Option Action → ℕ → Phases → Phases → Phases
register_step (Some (Registers d p)) c m r = if d == c then updated r p (m p) else r
register_step o c m r = r

-- the phases with which the first k actions of a task that began with m register its child c
abbrev pub registered : (ℕ → Option Action) → Phases → ℕ → ℕ → Phases
registered act m c zero = λ _. None
registered act m c (suc k) = register_step (act k) c (own_phases act m k) (registered act m c k)

-- the phases with which task t begins, by at most d parents
abbrev pub first_phases_by : Plan → ℕ → ℕ → Phases
first_phases_by plan zero t = λ _. None
first_phases_by plan (suc d) zero = λ _. None
first_phases_by plan (suc d) (suc t) =
    registered (action_at plan (parent_of plan (suc t))) (first_phases_by plan d (parent_of plan (suc t))) (suc t)
    (length (actions plan (parent_of plan (suc t))))

-- the phases with which task t begins: those with which its parent registers it
unfoldable pub first_phases : Plan → ℕ → Phases
first_phases plan t = first_phases_by plan t t

-- the phases of task t after the first k of its actions: the plan fixes them
unfoldable pub phases_after : Plan → ℕ → ℕ → Phases
phases_after plan t k = own_phases (action_at plan t) (first_phases plan t) k

-- the phases with which the first k actions of task u register its child c
unfoldable pub registered_by : Plan → ℕ → ℕ → ℕ → Phases
registered_by plan u c k = registered (action_at plan u) (first_phases plan u) c k

-- the phases of task t at these places: while it has not begun, those with which its parent has registered it so far
unfoldable pub phases_at : Plan → (ℕ → ℕ) → ℕ → Phases
phases_at plan a t = if a t == 0 then registered_by plan (parent_of plan t) t (a (parent_of plan t)) else phases_after plan t (a t)

-- the action forks task c
abbrev pub forks : Option Action → ℕ → Bool
forks (Some (Forks d)) c = c == d
forks o c = false

-- the action makes phaser p
abbrev pub makes : Option Action → ℕ → Bool
makes (Some (Makes q)) p = p == q
makes o p = false

-- one of the first k actions passes the test
abbrev pub some_before : (ℕ → Bool) → ℕ → Bool
some_before test zero = false
some_before test (suc k) = test k || some_before test k

-- task c is forked at these places
unfoldable pub forked_at : Plan → (ℕ → ℕ) → ℕ → Bool
forked_at plan a c = (c == 0) || some_before (λ j. forks (action_at plan (parent_of plan c) j) c) (a (parent_of plan c))

-- phaser p is made at these places
unfoldable pub made_at : Plan → (ℕ → ℕ) → ℕ → Bool
made_at plan a p = some_before (λ j. makes (action_at plan (maker_of plan p) j) p) (a (maker_of plan p))

-- how many actions of its code each task has done
abbrev pub done_by : (ℕ → Place) → ℕ → ℕ
done_by a t = (a t).done

-- of how many phasers with a number below p the task is a member
abbrev pub members_below : Phases → ℕ → ℕ
members_below m zero = 0
members_below m (suc p) = if is_some (m p) then suc (members_below m p) else members_below m p

-- a refused task has left its first d phasers
abbrev pub kept : Option ℕ → Phases → Phases
kept None m = m
kept (Some d) m = λ p. if nat_lt (members_below m p) d then None else m p

-- the event that task t awaits by its code after its first k actions
abbrev pub awaited_at : Plan → ℕ → ℕ → Option Event
awaited_at plan t k = awaited (action_at plan t k) (phases_after plan t k)

-- the event on which task t is published after its first k actions
abbrev pub published_after : Plan → ℕ → ℕ → Option Event
published_after plan t zero = None
published_after plan t (suc k) = awaited_at plan t k

-- the event at which task t is refused that stands at this place
abbrev pub refused_at : Plan → ℕ → ℕ → Option ℕ → Option Event
refused_at plan t k None = None
refused_at plan t k (Some q) = awaited_at plan t k

-- the state that these places fix
abbrev pub state_at : Plan → (ℕ → Place) → State
state_at plan a =
    record {
      forked = forked_at plan (done_by a);
      made = made_at plan (done_by a);
      phases = λ t. kept (a t).dropped (phases_at plan (done_by a) t);
      published = λ t. published_after plan t (a t).done;
      refused = λ t. refused_at plan t (a t).done (a t).dropped;
    }
