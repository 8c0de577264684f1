-- The words of a board: where they stand, and what they say of a state.
use Rattle.std.specs.Prelude.{◌≡◌, ℕ, ◌+◌, ◌*◌, ◌^◌, ◌<◌, ◌≤◌, List, Option, Some, None, length, slice_index}
use Rattle.armus_base.specs.declared.event.Event.{Event}
use Rattle.armus_base.specs.calls.Limits.{max_awaited}
use Rattle.armus_base.specs.Limits.{max_phasers}
use Rattle.armus_base.specs.Plans.{Plan}
use Rattle.armus_base.specs.States.{State}
use Rattle.armus_base.specs.calls.Seats.{Found, FoundIdle, FoundWaiting, FoundRefused, found_by}

-- where the await word of task t stands: the lock word is the first, and then these come
abbrev pub await_index : ℕ → ℕ
await_index t = 1 + t

-- where the phase word of task t on p stands: after all await words, phaser by phaser, and of one phaser task by task
abbrev pub phase_index : Plan → ℕ → ℕ → ℕ
phase_index plan t p = 1 + length plan.parents + p * length plan.parents + t

-- how many words a board has
abbrev pub word_count : Plan → ℕ
word_count plan = 1 + length plan.parents + length plan.parents * length plan.makers

-- an event as a number
abbrev pub event_number : Event → ℕ
event_number e = (e.p.0 + 1) * 2 ^ 32 + e.n

-- what an await word says
abbrev pub await_number : Found → ℕ
await_number FoundIdle = 0
await_number (FoundWaiting e) = event_number e
await_number (FoundRefused e) = event_number e + 2 ^ 63

-- what a phase word says
abbrev pub phase_number : Option ℕ → ℕ
phase_number None = 0
phase_number (Some n) = n + 1

-- what the lock word says
abbrev pub holder_number : Option ℕ → ℕ
holder_number None = 0
holder_number (Some t) = t + 1

-- what an await word of a checked plan says is one of its events
abbrev pub IsInRange : Found → Type 0
IsInRange FoundIdle = Unit {0}
IsInRange (FoundWaiting e) = e.p.0 < max_phasers × e.n ≤ max_awaited
IsInRange (FoundRefused e) = e.p.0 < max_phasers × e.n ≤ max_awaited

-- what task t awaits, or at what it is refused, in a state
abbrev pub found_in : State → ℕ → Found
found_in s t = found_by (s.published t) (s.refused t)

-- the words say what the state is, and who holds the lock
pub record IsShown (plan : Plan) (s : State) (lock : Option ℕ) (words : List ℕ) : Type 0 where
  pub count : length words ≡ word_count plan
  pub holder : slice_index words 0 ≡ holder_number lock
  pub awaits : (t : ℕ) → t < length plan.parents → slice_index words (await_index t) ≡ await_number (found_in s t)
  pub phases :
      (t p : ℕ) → t < length plan.parents → p < length plan.makers →
      slice_index words (phase_index plan t p) ≡ phase_number (s.phases t p)
