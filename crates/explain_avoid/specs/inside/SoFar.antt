-- A run that avoids deadlock, as far as it has come, and how it goes on.
use Rattle.std.specs.Prelude.{◌≡◌, ◌⊎◌, ℕ, Bool, false, List, [], ◌++◌, MatchBool, Option}
use Rattle.armus_base.specs.declared.event.Event.{Event}
use Rattle.armus_base.specs.declared.ids.TaskId.{TaskId}
use Rattle.armus_base.specs.Deadlocks.{NobodyDead}
use Rattle.armus_base.specs.Plans.{Plan, code_of}
use Rattle.armus_base.specs.Serial.{GoesOn, IsSerialAvoidedEnd, RoundBelow}
use Rattle.armus_base.specs.States.{Step}
use Rattle.pl_core.specs.Tasks.{IsAtOp}
use Rattle.pl_core.specs.calls.Stands.{IsEnabled}
use Rattle.pl_core.specs.calls.Worlds.{WorldValue, places_of, state_of}
use Rattle.pl_syntax.specs.declared.tree.Program.{Program}
use Rattle.explain_facts.specs.Accounts.{Layout}
use Rattle.verdict.specs.declared.found.Cycle.{Cycle}
use Rattle.avoider.specs.calls.Decisions.{IsDecision}
use Rattle.avoider.specs.declared.decision.Decision.TheVariants.{Published, Refused}
use Rattle.world_runs.specs.inside.AvoidedRounds.{LeadsTo}
use Rattle.explain_avoid.specs.Released.{AreReleased, when_left}
use Rattle.explain_avoid.specs.RefusalWords.{refusal_words}
use Rattle.explain_avoid.specs.Refusals.{AreRefusals}
use Rattle.explain_avoid.specs.declared.avoiding.Avoiding.{Avoiding}

-- each task stands at this op of its code
abbrev pub StandAt : WorldValue → (ℕ → ℕ) → Type 0
StandAt w ops = (u : ℕ) → IsAtOp (code_of w.plan u) (places_of w u).done (ops u)

-- What was decided on the await of this event at which task t stood, and what is kept of it: of a refusal its paragraph, where tasks stand at their ops as they
-- did, with the tasks that are released by it.
abbrev pub HasDecided : Option (List ℕ) → Layout → Program → Avoiding → Avoiding → ℕ → Event → Type 0
HasDecided file l p old new t e =
    ((d : Event) × IsDecision old.world new.world t (Published d) × (new.refusals.items ≡ old.refusals.items))
    ⊎ ((c : Cycle) × IsDecision old.world new.world t (Refused c) × (released : List TaskId)
    × AreReleased (state_of old.world) (when_left (state_of old.world) t) released
    × ((ops : ℕ → ℕ) → StandAt new.world ops →
    new.refusals.items ≡ old.refusals.items ++ refusal_words file l p old.world.plan (state_of old.world) t e ops c.tasks released))

-- nobody is dead in the world
abbrev pub NobodyDeadIn : WorldValue → Type 0
NobodyDeadIn w = NobodyDead (state_of w)

-- these steps lead to the world, and their refusals have these paragraphs
pub record AreRefusalsSoFar (file : Option (List ℕ)) (l : Layout) (p : Program) (h : List Step) (a : Avoiding) : Type 0 where
  pub leads : LeadsTo a.world.plan h a.world
  pub told : AreRefusals file l p a.world.plan h a.refusals.items

-- each run that has come to the old one goes on to the new one by steps of task t alone; by none where it has not moved
abbrev pub RoundsGoTo : Option (List ℕ) → Layout → Program → ℕ → Avoiding → Avoiding → Bool → Type 0
RoundsGoTo file l p t old new moved =
    (h : List Step) → AreRefusalsSoFar file l p h old →
    (own : List Step) × AreRefusalsSoFar file l p (own ++ h) new × GoesOn old.world.plan t h own × (moved ≡ false → own ≡ [])

-- task t has had its turn, if it has one
abbrev pub HasTurn : Option (List ℕ) → Layout → Program → ℕ → Bool → Avoiding → Avoiding → Bool → Type 0
HasTurn file l p t has old new moved =
    MatchBool has (RoundsGoTo file l p t old new moved × (IsEnabled new.world t → ⊥)) ((new ≡ old) × (moved ≡ false))

-- each run that has come to the old one leads through the turns of a round of the tasks below k to the new one
abbrev pub RoundTo : Option (List ℕ) → Layout → Program → ℕ → Avoiding → Avoiding → Bool → Type 0
RoundTo file l p k old new moved =
    (h : List Step) → AreRefusalsSoFar file l p h old →
    (g : List Step) × AreRefusalsSoFar file l p g new × RoundBelow old.world.plan k h g × (moved ≡ false → g ≡ h)

-- the run has made the serial avoided run of the plan, which has ended there
pub record HasEndedSo (file : Option (List ℕ)) (l : Layout) (p : Program) (plan : Plan) (a : Avoiding) : Type 0 where
  pub steps : List Step
  pub ended : IsSerialAvoidedEnd plan steps
  pub plan_is : a.world.plan ≡ plan
  pub so_far : AreRefusalsSoFar file l p steps a
