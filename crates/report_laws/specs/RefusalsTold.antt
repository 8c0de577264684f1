-- What an explanation of the serial avoided run tells of a refusal.
use Rattle.std.specs.Prelude.{◌≡◌, ◌↔◌, ◌++◌, ◌∷◌, ℕ, Bool, Contains, List, Option, length}
use Rattle.armus_base.specs.declared.event.Event.{Event}
use Rattle.armus_base.specs.declared.ids.TaskId.{TaskId}
use Rattle.armus_base.specs.AgreementLaws.{has_task}
use Rattle.armus_base.specs.Deadlocks.{IsAtPhase, IsDeadlockedSet, IsPublishedOn}
use Rattle.armus_base.specs.Plans.{Aim, Drops, Passes, Plan, Refuses}
use Rattle.armus_base.specs.Runs.{state_after}
use Rattle.armus_base.specs.States.{Step, if_published}
use Rattle.explain_avoid.specs.AvoidedExplanations.{IsAvoidedExplanation}
use Rattle.explain_avoid.specs.RefusalWords.{left_phasers}
use Rattle.explain_avoid.specs.Refusals.{IsRefusalText}
use Rattle.program_io.specs.Texts.{Text}

-- Task t, which waits for no event yet, is refused one behind the steps h, and these are the later steps. The cycle is a deadlock in the state of the decision, were
-- the task published on the event, and the task is in it. It left just these phasers by its later steps. Who waited and may go on passed later.
pub record IsRefusalSo (plan : Plan) (h later : List Step) (t : TaskId) (event : Event) (cycle released : List TaskId) : Type 0 where
  pub deadlocked : IsDeadlockedSet (IsPublishedOn (if_published (state_after h) t.0 event)) (IsAtPhase (if_published (state_after h) t.0 event)) (has_task cycle)
  pub inside : Contains cycle t
  pub left : (q : ℕ) →
      Contains (left_phasers ((state_after h).phases t.0) (length plan.makers)) q ↔ Contains later (record { task = t.0; action = Drops q })
  pub gone_on : (u : TaskId) (e : Event) → Contains released u → IsPublishedOn (state_after h) u.0 e →
      Contains later (record { task = u.0; action = Passes e.p.0 })

-- so it is with what the paragraph of each refusal tells
abbrev pub RefusalsAreSo : Type 0
RefusalsAreSo =
    (file : Option Text) (text : Text) (plan : Plan) (steps : List Step) (lines : Text) (stays : Bool) (x : IsAvoidedExplanation file text plan steps lines stays)
    (later h : List Step) (t : TaskId) (aim : Aim) (own : Text) → steps ≡ later ++ record { task = t.0; action = Refuses aim } ∷ h →
    (r : IsRefusalText file x.are_refusals.layout x.program plan h t.0 aim own) → IsRefusalSo plan h later t r.event r.cycle r.released
