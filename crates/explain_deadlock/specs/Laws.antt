-- What is proved of explanations.
use Rattle.std.specs.Prelude.{◌≡◌, ◌↔◌, ℕ, ◌-◌, ◌<◌, ◌≤◌, true, false, List, ◌∷◌, ◌++◌, Contains, Some, flat_map, length, slice_get, slice_index_or, take}
use Rattle.armus_base.specs.declared.ids.TaskId.{TaskId}
use Rattle.armus_base.specs.declared.event.Event.{Event}
use Rattle.armus_base.specs.CheckedPlans.{IsCheckedPlan}
use Rattle.armus_base.specs.Counts.{IsDistinct}
use Rattle.armus_base.specs.Deadlocks.{IsDeadIn}
use Rattle.armus_base.specs.Finals.{final_of}
use Rattle.armus_base.specs.Plans.{IsMakerOf, Plan, code_of}
use Rattle.armus_base.specs.Relations.{IsWalk}
use Rattle.armus_base.specs.Runs.{IsLegalRun, IsPlainRun, places, state_after}
use Rattle.armus_base.specs.States.{IsMember, IsReached, Phases, State, Step}
use Rattle.pl_core.specs.Tasks.{IsAtOp}
use Rattle.pl_syntax.specs.declared.tree.Program.{Program}
use Rattle.source_map.specs.Origins.{op_origin}
use Rattle.explain_facts.specs.ImmediateAwaits.{is_immediate}
use Rattle.explain_facts.specs.PhaserUses.{is_used_so}
use Rattle.explain_facts.specs.declared.account.Waiting.{Waiting}
use Rattle.explain_facts.specs.declared.uses.PhaserUse.TheVariants.{Awaits, Registers}
use Rattle.report.specs.Reports.{IsReportedCycle, IsSomeDead}
use Rattle.explain_deadlock.specs.declared.outcome.WaitVerdict.{WaitVerdict}
use Rattle.explain_deadlock.specs.declared.outcome.WaitVerdict.TheVariants.{Circle}
use Rattle.explain_tasks.specs.Facts.{FactsValue, is_waiting, situation_of, wait_of}
use Rattle.explain_deadlock.specs.ImpederLines.{group_of, rest_of, told_of}
use Rattle.explain_tasks.specs.Impeders.{impeders_by_facts}
use Rattle.explain_tasks.specs.Nexts.{next_of}
use Rattle.explain_deadlock.specs.Paragraphs.{explained_tasks, sayings_of, tasks_of}
use Rattle.explain_deadlock.specs.RunEnds.{AreFactsAt}
use Rattle.explain_tasks.specs.Sayings.{Said, own_said}
use Rattle.explain_deadlock.specs.Verdicts.{IsVerdict}

-- ---- the paragraphs

-- a task that is not done stands in the paragraph of what is said of it
abbrev pub EachHasAParagraph : Type 0
EachHasAParagraph =
    (f : FactsValue) (shown : List TaskId) (t : TaskId) → Contains (explained_tasks f) t →
    Contains (sayings_of f shown) (own_said f t.0) × Contains (tasks_of f (own_said f t.0)) t

-- what a paragraph says is what is said of each of its tasks, so a task stands in one paragraph only, and each of these is not done
abbrev pub SaysWhatIsSo : Type 0
SaysWhatIsSo = (f : FactsValue) (said : Said) (t : TaskId) → Contains (tasks_of f said) t → (said ≡ own_said f t.0) × Contains (explained_tasks f) t

-- the tasks of the paragraph of a task that waits stand as it does, and have its impeders and its next
abbrev pub WaitAlike : Type 0
WaitAlike =
    (f : FactsValue) (phases : ℕ → Phases) (said : Said) (t u : TaskId) → Contains (tasks_of f said) t → Contains (tasks_of f said) u →
    is_waiting (situation_of f t.0) ≡ true →
    (situation_of f u.0 ≡ situation_of f t.0) × (impeders_by_facts f phases u.0 ≡ impeders_by_facts f phases t.0) × (next_of f phases u.0 ≡ next_of f phases t.0)

-- ---- the impeders

-- what the lines of groups say where the impeders of task t are told
abbrev pub told_in_lines : FactsValue → (ℕ → Phases) → ℕ → List Said
told_in_lines f phases t = take 3 (told_of f (next_of f phases t) (impeders_by_facts f phases t))

-- the tasks named there: those of the groups, and those of the rest
abbrev pub named_impeders : FactsValue → (ℕ → Phases) → ℕ → List TaskId
named_impeders f phases t =
    flat_map (group_of f (impeders_by_facts f phases t)) (told_in_lines f phases t) ++ rest_of f (impeders_by_facts f phases t) (told_in_lines f phases t)

-- task u impedes the event for which task t waits
abbrev pub IsImpededBy : FactsValue → (ℕ → Phases) → ℕ → TaskId → Type 0
IsImpededBy f phases t u =
    (w : Waiting) × (wait_of f t ≡ Some w) × (u.0 < length f.standings) × (m : ℕ) × (phases u.0 w.event.p.0 ≡ Some m) × (m < w.event.n)

-- each impeder of a task is named once, and nobody else is
abbrev pub EachImpederIsTold : Type 0
EachImpederIsTold =
    (f : FactsValue) (phases : ℕ → Phases) (t : ℕ) →
    IsDistinct (named_impeders f phases t) × ((u : TaskId) → Contains (named_impeders f phases t) u ↔ IsImpededBy f phases t u)

-- where a task is dead, the verdict is a circle that begins as the cycle of the report, and is no longer
abbrev pub DeadlockIsReported : Type 0
DeadlockIsReported =
    (plan : Plan) (s : State) (done : ℕ → ℕ) (f : FactsValue) (v : WaitVerdict) → AreFactsAt plan s done f → IsVerdict f s.phases v →
    IsSomeDead (final_of plan s).blocked →
    (t : TaskId) × (shown cycle : List TaskId) × (v ≡ Circle (t ∷ shown)) × IsReportedCycle (final_of plan s).blocked (t ∷ cycle)
    × (length shown ≤ length cycle)

-- task t is dead in this state, and task u impedes the event that it awaits
abbrev pub IsDeadAndWaitsFor : State → TaskId → TaskId → Type 0
IsDeadAndWaitsFor s t u = IsDeadIn s t.0 × (e : Event) × (s.published t.0 ≡ Some e) × (m : ℕ) × (s.phases u.0 e.p.0 ≡ Some m) × (m < e.n)

-- there are tasks, each of them stands so to the one behind it, and the last to the first
pub record ShowsCircle (R : TaskId → TaskId → Type 0) (shown : List TaskId) : Type 0 where
  pub some : 0 < length shown
  pub steps : IsWalk R shown
  pub back : (d : TaskId) → R (slice_index_or shown (length shown - 1) d) (slice_index_or shown 0 d)

-- where a task is dead, no circle of dead tasks, each impeded by the one behind it, the last by the first, that begins with the first shown task is shorter than the
-- shown one
abbrev pub ShownAreShortest : Type 0
ShownAreShortest =
    (plan : Plan) (s : State) (done : ℕ → ℕ) (f : FactsValue) (shown other : List TaskId) → AreFactsAt plan s done f → IsVerdict f s.phases (Circle shown) →
    IsSomeDead (final_of plan s).blocked → ShowsCircle (IsDeadAndWaitsFor s) other → slice_get other 0 ≡ slice_get shown 0 →
    length shown ≤ length other

-- ---- the notes

-- where no op of a plan awaits phaser q, nobody waits there in any state to which a run leads
abbrev pub NobodyWaitsThere : Type 0
NobodyWaitsThere =
    (plan : Plan) (steps : List Step) (q t : ℕ) (e : Event) → IsCheckedPlan plan → IsPlainRun plan steps → is_used_so Awaits plan q ≡ false →
    (state_after steps).published t ≡ Some e → e.p.0 ≡ q → ⊥

-- where no op of a plan registers a task on phaser q, its maker alone is a member of it in any state to which a run leads
abbrev pub OnlyMakersAreMembers : Type 0
OnlyMakersAreMembers =
    (plan : Plan) (steps : List Step) (q t : ℕ) → IsCheckedPlan plan → IsLegalRun plan steps → is_used_so Registers plan q ≡ false → IsMember (state_after steps) t q →
    IsMakerOf plan t q

-- where nobody ever has to wait at statement n of a text, the event of each task that stands there and waits is reached, in any state to which a run leads
abbrev pub NobodyIsHeldUpThere : Type 0
NobodyIsHeldUpThere =
    (p : Program) (plan : Plan) (steps : List Step) (n t i : ℕ) (e : Event) → IsCheckedPlan plan → IsLegalRun plan steps → is_immediate p plan n ≡ true →
    op_origin p t i ≡ Some n → IsAtOp (code_of plan t) (places steps t).done i → (state_after steps).published t ≡ Some e → IsReached (state_after steps) e
