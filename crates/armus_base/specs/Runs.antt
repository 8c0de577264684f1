-- Runs: lists of steps, the last one first, and the places to which they lead.
use Rattle.std.specs.Prelude.{◌≡◌, ◌≢◌, ℕ, true, List, [], ◌∷◌, Option, Some, None, IsSome}
use Rattle.std.proofs.Common.{suc}
use Rattle.armus_base.specs.declared.event.Event.{Event}
use Rattle.armus_base.specs.Plans.{Plan, Action, Aim, Drops, Refuses, in_code, action_at}
use Rattle.armus_base.specs.States.{State, Step, opening, after, updated, IsLegal, IsReached}

-- the state after these steps, the last one first
abbrev pub state_after : List Step → State
state_after [] = opening
state_after (e ∷ h) = after (state_after h) e.task e.action

-- the place of a task: how many actions of its code it has done, and, once it is refused, how many phasers it has dropped since
pub record Place : Type 0 where
  pub done : ℕ
  pub dropped : Option ℕ

-- no step yet
abbrev pub first_place : Place
first_place = record { done = 0; dropped = None }

-- the place after one more step
abbrev pub next_place : ℕ → Option ℕ → Action → Place
next_place k None (Refuses a) = record { done = k; dropped = Some 0 }
next_place k None x = record { done = suc k; dropped = None }
next_place k (Some d) (Drops p) = record { done = k; dropped = Some (suc d) }
next_place k (Some d) x = record { done = k; dropped = Some d }

-- the places after one more step of task t
abbrev pub moved : (ℕ → Place) → ℕ → Action → ℕ → Place
moved a t x = updated a t (next_place (a t).done (a t).dropped x)

-- the place of each task after these steps
abbrev pub places : List Step → ℕ → Place
places [] = λ _. first_place
places (e ∷ h) = moved (places h) e.task e.action

-- the action drops a phaser
abbrev pub IsDrop : Action → Type 0
IsDrop (Drops p) = Unit {0}
IsDrop x = ⊥

-- the action is the next one of task t at this place: its code's, or a refusal where its code blocks, or after a refusal a drop
abbrev pub IsByCode : Plan → ℕ → ℕ → Option ℕ → Action → Type 0
IsByCode plan t k None x = action_at plan t k ≡ Some (in_code x)
IsByCode plan t k (Some q) x = IsDrop x

-- the step is legal after h, and the next one by its task's code
pub record IsNextStep (plan : Plan) (h : List Step) (e : Step) : Type 0 where
  pub legal : IsLegal plan (state_after h) e.task e.action
  pub by_code : IsByCode plan e.task (places h e.task).done (places h e.task).dropped e.action

-- the step by which task t goes on by its code after the run h, if it has one
pub record IsOwnNextStep (plan : Plan) (h : List Step) (t : ℕ) (x : Action) : Type 0 where
  pub by_code : action_at plan t (places h t).done ≡ Some x
  pub legal : IsLegal plan (state_after h) t x

-- a legal run: each step is legal after those before it, and the next one by its task's code; it may refuse anywhere
abbrev pub IsLegalRun : Plan → List Step → Type 0
IsLegalRun plan [] = Unit {0}
IsLegalRun plan (e ∷ h) = IsLegalRun plan h × IsNextStep plan h e

-- nobody is refused
abbrev pub IsPlain : List Step → Type 0
IsPlain [] = Unit {0}
IsPlain (e ∷ h) = IsPlain h × ((a : Aim) → e.action ≢ Refuses a)

-- a plain run: a legal run in which nobody is refused
abbrev pub IsPlainRun : Plan → List Step → Type 0
IsPlainRun plan h = IsLegalRun plan h × IsPlain h

-- places to which a legal run leads; since such a run may refuse anywhere, no board has them all lawful
pub record IsReachable (plan : Plan) (a : ℕ → Place) : Type 0 where
  pub steps : List Step
  pub run : IsLegalRun plan steps
  pub there : (t : ℕ) → places steps t ≡ a t

-- a task that has come to an end: its code is done, or it waits on an event that is not reached, or it is refused and a member of nothing
pub data HasEnded (plan : Plan) (s : State) (place : Place) (t : ℕ) : Type 0 where
  is_done : action_at plan t place.done ≡ None → HasEnded plan s place t
  is_waiting : (e : Event) → s.published t ≡ Some e → (IsReached s e → ⊥) → HasEnded plan s place t
  is_refused : IsSome (s.refused t) → ((p : ℕ) → s.phases t p ≡ None) → HasEnded plan s place t

-- each forked task has come to an end
abbrev pub IsMaximal : Plan → List Step → Type 0
IsMaximal plan h = (t : ℕ) → (state_after h).forked t ≡ true → HasEnded plan (state_after h) (places h t) t

-- the state in which a maximal plain run ends
pub record IsFinal (plan : Plan) (s : State) : Type 0 where
  pub steps : List Step
  pub run : IsPlainRun plan steps
  pub maximal : IsMaximal plan steps
  pub there : state_after steps ≡ s
