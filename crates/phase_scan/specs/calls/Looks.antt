-- What a look tells.
use Rattle.std.specs.Prelude.{◌≡◌, ℕ, ◌+◌, ◌<◌, ◌≤◌, true, Option, Some, length}
use Rattle.std.proofs.Common.{zero, suc}
use Rattle.armus_base.specs.declared.event.Event.{Event}
use Rattle.armus_base.specs.States.{State, IsReached}
use Rattle.armus_base.specs.Runs.{Place}
use Rattle.armus_base.specs.calls.Runs.{IsPrefix}
use Rattle.armus_base.specs.Places.{state_at}
use Rattle.armus_base.specs.calls.Boards.{IsLawful}
use Rattle.armus_base.specs.calls.Seats.{IsAsFarOn, SeenBy, is_not_behind}
use Rattle.board.specs.calls.Views.{avoids, seen}
use Rattle.board.specs.calls.Steps.{IsSameSeat}
use Rattle.board.specs.calls.Seats.{Known, IsSeat, AnswersPhase, event_of}
use Rattle.phase_scan.specs.declared.answer.Look as answers
use Rattle.phase_scan.specs.declared.answer.Look.TheVariants as cases

-- What was seen before is seen now: no place gets shorter, the same tasks are exact and have the places that they had, and no scanned task is lost.
pub record KeepsSeen (before now : SeenBy) : Type 0 where
  pub later : (u : ℕ) → IsPrefix (before.places u) (now.places u)
  pub exact : (u : ℕ) → now.exact u ≡ before.exact u
  pub here : (u : ℕ) → before.exact u ≡ true → now.places u ≡ before.places u
  pub scanned : before.scanned ≤ now.scanned

-- the seat has made loads alone: it keeps what it has seen, and has published what it had
pub record LoadsAlone (before now : Known) : Type 0 where
  pub table : now.table ≡ before.table
  pub same : IsSameSeat before.view now.view
  pub seen_now : KeepsSeen (seen before.view) (seen now.view)
  pub loads : before.view.loads ≤ now.view.loads
  pub event : event_of now ≡ event_of before
  pub kept : IsSeat now

-- this holds in every lawful state as far on as what the seat has seen
abbrev pub InEachLawful : Known → (State → Type 0) → Type 0
InEachLawful seat Holds =
    (a : ℕ → Place) (lock : Option ℕ) → IsLawful (avoids seat.view.mode) seat.view.plan a lock →
    IsAsFarOn seat.view.plan seat.view.own a (seen seat.view) → Holds (state_at seat.view.plan a)

-- the loads of the words of the event's phaser of n tasks, from task k upward, in order: each was found no member, or not behind
abbrev pub LoadsAhead : Event → ℕ → ℕ → Known → Known → Type 0
LoadsAhead e k zero before now = now ≡ before
LoadsAhead e k (suc n) before now =
    (between : Known) × LoadsAhead e k n before between
    × (found : Option ℕ) × is_not_behind found e ≡ true × AnswersPhase (k + n) e.p.0 found between now

-- the seat has made the loads from the task that is scanned next up to the one before task t, and no others
pub record ScansTo (e : Event) (t : ℕ) (before now : Known) : Type 0 where
  pub count : ℕ
  pub up_to : (seen before.view).scanned + count ≡ t
  pub loads : LoadsAhead e (seen before.view).scanned count before now

-- the words of all further tasks were loaded, all tasks are scanned, and the awaited event is reached wherever the run goes
pub record FindsReached (before now : Known) : Type 0 where
  pub event : Event
  pub published : event_of before ≡ Some event
  pub scans : ScansTo event (length before.view.plan.parents) before now
  pub scanned : (seen now.view).scanned ≡ length now.view.plan.parents
  pub reached : (e : Event) → event_of before ≡ Some e → InEachLawful now (λ s. IsReached s e)

-- the words up to that of task t were loaded; the last of these loads found it a member of the awaited phaser at phase n, below the awaited one, and it
-- is scanned next
pub record FindsBehind (t n : ℕ) (before now : Known) : Type 0 where
  pub between : Known
  pub event : Event
  pub published : event_of before ≡ Some event
  pub scans : ScansTo event t before between
  pub goes_on : LoadsAlone before between
  pub load : AnswersPhase t event.p.0 (Some n) between now
  pub below : n < event.n
  pub scanned : (seen now.view).scanned ≡ t

-- what the answer says
abbrev pub IsLook : answers.Look → Known → Known → Type 0
IsLook cases.Reached before now = FindsReached before now
IsLook (cases.Behind t n) before now = FindsBehind t.0 n before now
