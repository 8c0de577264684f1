-- States: who is forked, which phasers are made, who is a member where and at which phase, who is published or refused.
use Rattle.std.specs.Prelude.{◌≡◌, ℕ, ◌+◌, ◌<◌, ◌≤◌, Bool, true, false, Option, Some, None, ◌==◌, ◌&&◌, if◌then◌else◌, IsSome}
use Rattle.std.specs.Option.{option_map}
use Rattle.armus_base.specs.declared.event.Event.{Event}
use Rattle.armus_base.specs.Offsets.{target}
use Rattle.armus_base.specs.Plans.{Plan, Action, Makes, Registers, Forks, Advances, Drops, Blocks, Passes, Refuses, IsParentOf, IsMakerOf}

-- the event p@n
abbrev pub event_at : ℕ → ℕ → Event
event_at p n = record { p = record { 0 = p }; n = n }

-- the phases of one task: for each phaser its phase there, if it is a member
abbrev pub Phases : Type 0
Phases = ℕ → Option ℕ

-- a state: who is forked, which phasers are made, each task's phases, and on which event it is published and at which it is refused
pub record State : Type 0 where
  pub forked : ℕ → Bool
  pub made : ℕ → Bool
  pub phases : ℕ → Phases  -- of each task
  pub published : ℕ → Option Event
  pub refused : ℕ → Option Event

-- the function f with the value v at n
abbrev pub updated : {A : Type 0} → (ℕ → A) → ℕ → A → ℕ → A
updated f n v k = if k == n then v else f k

-- the phases of all tasks, with v for task t on phaser p
abbrev pub with_phase : (ℕ → Phases) → ℕ → ℕ → Option ℕ → ℕ → Phases
with_phase phases t p v u q = if (u == t) && (q == p) then v else phases u q

-- the phase of a member after an advance
abbrev pub next_phase : Option ℕ → Option ℕ
next_phase None = None
next_phase (Some n) = Some (n + 1)

-- the event of p at this phase
abbrev pub event_on : ℕ → Option ℕ → Option Event
event_on p None = None
event_on p (Some n) = Some (event_at p n)

-- the event on which a task with these phases waits, whose code goes on with this action
abbrev pub awaited : Option Action → Phases → Option Event
awaited (Some (Blocks a)) m = event_on a.phaser (option_map (target a.off) (m a.phaser))
awaited o m = None

-- nothing is made, only task 0 is forked
abbrev pub opening : State
opening = record { forked = λ t. t == 0; made = λ _. false; phases = λ _ _. None; published = λ _. None; refused = λ _. None }

-- the state after a step of task t
abbrev pub after : State → ℕ → Action → State
after s t (Makes p) = record s { made = updated s.made p true; phases = with_phase s.phases t p (Some 0) }
after s t (Registers c p) = record s { phases = with_phase s.phases c p (s.phases t p) }
after s t (Forks c) = record s { forked = updated s.forked c true }
after s t (Advances p) = record s { phases = with_phase s.phases t p (next_phase (s.phases t p)) }
after s t (Drops p) = record s { phases = with_phase s.phases t p None }
after s t (Blocks a) = record s { published = updated s.published t (awaited (Some (Blocks a)) (s.phases t)) }
after s t (Passes p) = record s { published = updated s.published t None }
after s t (Refuses a) = record s { refused = updated s.refused t (awaited (Some (Blocks a)) (s.phases t)) }

-- a step: a task and what it does
pub record Step : Type 0 where
  pub task : ℕ
  pub action : Action

-- the state as it would be if task t were published on the event
abbrev pub if_published : State → ℕ → Event → State
if_published s t e = record s { published = updated s.published t (Some e) }

-- every member of the event's phaser has its phase at least
abbrev pub IsReached : State → Event → Type 0
IsReached s e = (u m : ℕ) → s.phases u e.p.0 ≡ Some m → e.n ≤ m

-- task t is a member of p
abbrev pub IsMember : State → ℕ → ℕ → Type 0
IsMember s t p = (n : ℕ) × (s.phases t p ≡ Some n)

-- task t is forked, and neither published nor refused
pub record IsActive (s : State) (t : ℕ) : Type 0 where
  pub forked : s.forked t ≡ true
  pub unpublished : s.published t ≡ None
  pub unrefused : s.refused t ≡ None

-- task t may do this
abbrev pub IsLegal : Plan → State → ℕ → Action → Type 0
IsLegal plan s t (Makes p) = IsActive s t × IsMakerOf plan t p × s.made p ≡ false
IsLegal plan s t (Registers c p) =
    IsActive s t × IsParentOf plan t c × s.forked c ≡ false × IsMember s t p × s.phases c p ≡ None
IsLegal plan s t (Forks c) = IsActive s t × IsParentOf plan t c × s.forked c ≡ false
IsLegal plan s t (Advances p) = IsActive s t × IsMember s t p
IsLegal plan s t (Drops p) =
    s.forked t ≡ true × s.published t ≡ None × IsMember s t p × (IsSome (s.refused t) → (q : ℕ) → q < p → s.phases t q ≡ None)
IsLegal plan s t (Blocks a) = IsActive s t × IsMember s t a.phaser
IsLegal plan s t (Passes p) =
    s.forked t ≡ true × (n : ℕ) × (s.published t ≡ Some (event_at p n)) × IsReached s (event_at p n) × s.refused t ≡ None
IsLegal plan s t (Refuses a) = IsActive s t × IsMember s t a.phaser
