-- What is proved of explanations.
use Rattle.std.specs.Prelude.{◌≡◌, ◌↔◌, ◌⊎◌, ℕ, Bool, true, List, Contains, Ok, Option, Some, slice_get}
use Rattle.armus_base.specs.declared.ids.TaskId.{TaskId}
use Rattle.armus_base.specs.Counts.{IsDistinct}
use Rattle.armus_base.specs.Finals.{final_of}
use Rattle.armus_base.specs.Plans.{Plan}
use Rattle.armus_base.specs.Runs.{IsLegalRun, IsMaximal, IsPlainRun, state_after}
use Rattle.armus_base.specs.States.{Phases, State, Step}
use Rattle.explain_facts.specs.RunStates.{done_after}
use Rattle.pl_plan.specs.Unfolding.{plan_of}
use Rattle.pl_syntax.specs.Grammar.{IsText}
use Rattle.pl_syntax.specs.declared.tree.Program.{Program}
use Rattle.report.specs.Reports.{IsSomeDead}
use Rattle.explain_tasks.specs.declared.impeders.Impeder.{Impeder}
use Rattle.explain_deadlock.specs.declared.outcome.WaitVerdict.{WaitVerdict}
use Rattle.explain_deadlock.specs.declared.outcome.WaitVerdict.TheVariants.{Chain, Circle}
use Rattle.explain_tasks.specs.declared.situation.Situation.{Situation}
use Rattle.explain_tasks.specs.declared.situation.Situation.TheVariants.{Deadlocked, HasEnded, Held, NeverForked, NotForkedYet}
use Rattle.explain_deadlock.specs.Explanations.{IsExplanationAt}
use Rattle.explain_tasks.specs.Facts.{FactsValue, is_waiting, situation_of, tasks_that}
use Rattle.explain_deadlock.specs.ImpederLines.{told_of}
use Rattle.explain_tasks.specs.Impeders.{impeders_by_facts}
use Rattle.explain_tasks.specs.Nexts.{IsNext, next_of}
use Rattle.explain_deadlock.specs.Laws.{IsDeadAndWaitsFor, ShowsCircle}
use Rattle.explain_deadlock.specs.Paragraphs.{sayings_of}
use Rattle.explain_deadlock.specs.RunEnds.{AreFactsAt}
use Rattle.explain_tasks.specs.Sayings.{Said, impeder_said, same_said}
use Rattle.explain_deadlock.specs.Verdicts.{IsVerdict, somebody_waits}

-- ---- one explanation

-- there is one explanation at most of a state of a text's plan
abbrev pub OneExplanation : Type 0
OneExplanation =
    (file : Option (List ℕ)) (text : List ℕ) (plan : Plan) (s : State) (done : ℕ → ℕ) (lines other : List ℕ) (waits also : Bool) →
    IsExplanationAt file text plan s done lines waits → IsExplanationAt file text plan s done other also → (lines ≡ other) × (waits ≡ also)

-- and the end of each maximal run of a text's plan has one
abbrev pub ExplanationExists : Type 0
ExplanationExists =
    (file : Option (List ℕ)) (text : List ℕ) (p : Program) (plan : Plan) (steps : List Step) → IsText text p → plan_of p ≡ Ok plan → IsLegalRun plan steps →
    IsMaximal plan steps → (lines : List ℕ) × (waits : Bool) × IsExplanationAt file text plan (state_after steps) (done_after steps) lines waits

-- nothing is said in two paragraphs
abbrev pub NothingIsSaidTwice : Type 0
NothingIsSaidTwice = (f : FactsValue) (shown : List TaskId) → IsDistinct (sayings_of f shown)

-- in the paragraph of a deadlocked task a group of deadlocked impeders stands first
abbrev pub DeadlockStandsFirst : Type 0
DeadlockStandsFirst =
    (plan : Plan) (s : State) (done : ℕ → ℕ) (f : FactsValue) (t : ℕ) → AreFactsAt plan s done f → situation_of f t ≡ Deadlocked → let phases = s.phases in
    (said : Said) × (slice_get (told_of f (next_of f phases t) (impeders_by_facts f phases t)) 0 ≡ Some said)
    × ((i : Impeder) → Contains (impeders_by_facts f phases t) i → same_said said (impeder_said f i) ≡ true → situation_of f i.t.0 ≡ Deadlocked)

-- ---- the verdict

-- somebody waits for ever just where a task waits
abbrev pub WaitingIsTold : Type 0
WaitingIsTold =
    (f : FactsValue) (phases : ℕ → Phases) (v : WaitVerdict) → IsVerdict f phases v → (somebody_waits v ≡ true) ↔ ((t : TaskId) × Contains (tasks_that is_waiting f) t)

-- no impeder of a held task is deadlocked
abbrev pub HeldAreNotImpededByDead : Type 0
HeldAreNotImpededByDead =
    (plan : Plan) (s : State) (done : ℕ → ℕ) (f : FactsValue) (t : ℕ) (i : Impeder) → AreFactsAt plan s done f → situation_of f t ≡ Held →
    Contains (impeders_by_facts f s.phases t) i → situation_of f i.t.0 ≡ Deadlocked → ⊥

-- a task that stands so has not come to its end, and somebody forks it: it waits, or is not forked yet
pub record IsToCome (s : Situation) : Type 0 where
  pub not_ended : s ≡ HasEnded → ⊥
  pub not_never : s ≡ NeverForked → ⊥

-- at the end of a maximal run who would fork a task that is not forked yet waits, or is not forked yet itself
abbrev pub ForkersAreToCome : Type 0
ForkersAreToCome =
    (plan : Plan) (steps : List Step) (f : FactsValue) (t u : TaskId) → IsPlainRun plan steps → IsMaximal plan steps → AreFactsAt plan (state_after steps) (done_after steps) f →
    situation_of f t.0 ≡ NotForkedYet → IsNext f (state_after steps).phases t u → IsToCome (situation_of f u.0)

-- and where the walk comes to an end, it is a held task that waits for one that has ended or is never forked
abbrev pub ChainsEnd : Type 0
ChainsEnd =
    (plan : Plan) (steps : List Step) (f : FactsValue) (held last : TaskId) → IsPlainRun plan steps → IsMaximal plan steps → AreFactsAt plan (state_after steps) (done_after steps) f →
    IsVerdict f (state_after steps).phases (Chain held last) →
    (situation_of f held.0 ≡ Held) × ((situation_of f last.0 ≡ HasEnded) ⊎ (situation_of f last.0 ≡ NeverForked))

-- where a task is dead, all shown tasks are, and each is impeded by the one behind it, the last by the first
abbrev pub ShownAreDead : Type 0
ShownAreDead =
    (plan : Plan) (s : State) (done : ℕ → ℕ) (f : FactsValue) (shown : List TaskId) → AreFactsAt plan s done f → IsVerdict f s.phases (Circle shown) →
    IsSomeDead (final_of plan s).blocked → ShowsCircle (IsDeadAndWaitsFor s) shown
