-- What is proved of explanations of runs that avoid deadlock.
use Rattle.std.specs.Prelude.{◌≡◌, ◌↔◌, ℕ, ◌<◌, Bool, List, [], ◌∷◌, ◌++◌, Contains, IsSome, Ok, Option, flat_map, length}
use Rattle.std.specs.List.{AllZip}
use Rattle.armus_base.specs.declared.ending.TaskEnd.TheVariants.{Done}
use Rattle.armus_base.specs.declared.ids.TaskId.{TaskId}
use Rattle.armus_base.specs.Counts.{IsDistinct}
use Rattle.armus_base.specs.Finals.{end_of}
use Rattle.armus_base.specs.Plans.{Action, Aim, Plan, Refuses}
use Rattle.armus_base.specs.Runs.{IsLegalRun, state_after}
use Rattle.armus_base.specs.Serial.{IsSerialAvoidedEnd}
use Rattle.armus_base.specs.States.{Step}
use Rattle.pl_plan.specs.Unfolding.{plan_of}
use Rattle.pl_syntax.specs.Grammar.{IsText}
use Rattle.pl_syntax.specs.declared.tree.Program.{Program}
use Rattle.explain_facts.specs.Accounts.{Layout}
use Rattle.explain_deadlock.specs.Paragraphs.{sayings_of, tasks_of}
use Rattle.explain_tasks.specs.Facts.{FactsValue, facts_of}
use Rattle.explain_tasks.specs.Sayings.{Said, own_said}
use Rattle.explain_avoid.specs.AvoidedExplanations.{IsAvoidedExplanation}
use Rattle.explain_avoid.specs.AvoidedWords.{tasks_with, was_refused}
use Rattle.explain_avoid.specs.Refusals.{IsRefusalText}

-- ---- one explanation

-- a run of a text's plan has one explanation at most
abbrev pub OneAvoidedExplanation : Type 0
OneAvoidedExplanation =
    (file : Option (List ℕ)) (text : List ℕ) (plan : Plan) (steps : List Step) (lines other : List ℕ) (stays also : Bool) →
    IsAvoidedExplanation file text plan steps lines stays → IsAvoidedExplanation file text plan steps other also → (lines ≡ other) × (stays ≡ also)

-- and the serial avoided run of a text's plan up to its end has one
abbrev pub AvoidedExplanationExists : Type 0
AvoidedExplanationExists =
    (file : Option (List ℕ)) (text : List ℕ) (p : Program) (plan : Plan) (steps : List Step) → IsText text p → plan_of p ≡ Ok plan → IsSerialAvoidedEnd plan steps →
    (lines : List ℕ) × (stays : Bool) × IsAvoidedExplanation file text plan steps lines stays

-- ---- who is refused in a run

-- who is refused by this action of task t: itself, or nobody
abbrev pub refused_in_step : ℕ → Action → List TaskId
refused_in_step t (Refuses aim) = record { 0 = t } ∷ []
refused_in_step t x = []

-- who is refused by these steps, in the order in which it was decided; of the steps the last one stands first
abbrev pub refused_in : List Step → List TaskId
refused_in [] = []
refused_in (e ∷ h) = refused_in h ++ refused_in_step e.task e.action

-- a run refuses each task at most once, and just those that are refused in the state behind it
abbrev pub EachIsRefusedOnce : Type 0
EachIsRefusedOnce =
    (plan : Plan) (steps : List Step) → IsLegalRun plan steps →
    IsDistinct (refused_in steps) × ((t : TaskId) → Contains (refused_in steps) t ↔ IsSome ((state_after steps).refused t.0))

-- ---- one paragraph for each

-- this is the paragraph of the refusal that task t makes among these steps
abbrev pub IsRefusalIn : Option (List ℕ) → Layout → Program → Plan → List Step → TaskId → List ℕ → Type 0
IsRefusalIn file l p plan steps t text =
    (later : List Step) × (h : List Step) × (aim : Aim) × (steps ≡ later ++ record { task = t.0; action = Refuses aim } ∷ h)
    × IsRefusalText file l p plan h t.0 aim text

-- the text is one paragraph for each of these tasks, in their order
pub record HasParagraphFor (IsOf : TaskId → List ℕ → Type 0) (tasks : List TaskId) (text : List ℕ) : Type 0 where
  pub texts : List (List ℕ)
  pub each : AllZip IsOf tasks texts
  pub text_is : text ≡ flat_map (λ own. own) texts

-- task t stands in one paragraph behind the refusals: what is said of it is said, once, and it stands where this is said and nowhere else
pub record HasOneBehind (f : FactsValue) (t : TaskId) : Type 0 where
  pub once : IsDistinct (sayings_of f [])
  pub said : Contains (sayings_of f []) (own_said f t.0)
  pub there : Contains (tasks_of f (own_said f t.0)) t
  pub only : (said : Said) → Contains (tasks_of f said) t → said ≡ own_said f t.0

-- What an explanation tells of a run: the tasks that its second line names are just those that are refused at the end; the refusals are one paragraph for each
-- of these, in the order in which it was decided, and none of them stands in a paragraph behind; and each other task that is not done stands in one.
pub record TellsOfEachOnce (file : Option (List ℕ)) (text : List ℕ) (plan : Plan) (steps : List Step) (lines : List ℕ) (stays : Bool)
    (x : IsAvoidedExplanation file text plan steps lines stays) : Type 0 where
  pub named : (t : TaskId) → Contains (tasks_with was_refused x.standings) t ↔ IsSome ((state_after steps).refused t.0)
  pub refused : (t : TaskId) → Contains (refused_in steps) t ↔ IsSome ((state_after steps).refused t.0)
  pub once : IsDistinct (refused_in steps)
  pub told : HasParagraphFor (IsRefusalIn file x.are_refusals.layout x.program plan steps) (refused_in steps) x.refusals
  pub not_behind : (t : TaskId) (said : Said) → IsSome ((state_after steps).refused t.0) → Contains (tasks_of (facts_of text file x.account x.standings) said) t → ⊥
  pub behind : (t : TaskId) → t.0 < length plan.parents → (end_of (state_after steps) t.0 ≡ Done → ⊥) → (IsSome ((state_after steps).refused t.0) → ⊥)
      → HasOneBehind (facts_of text file x.account x.standings) t

-- each explanation of a run does
abbrev pub EachIsToldOnce : Type 0
EachIsToldOnce =
    (file : Option (List ℕ)) (text : List ℕ) (plan : Plan) (steps : List Step) (lines : List ℕ) (stays : Bool)
    (x : IsAvoidedExplanation file text plan steps lines stays) → TellsOfEachOnce file text plan steps lines stays x
