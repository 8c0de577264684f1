-- Who has a paragraph in the explanation of a clock text, and who is named in the paragraph of one who waits.
use Rattle.std.specs.Prelude.{◌≡◌, ◌↔◌, ℕ, ◌<◌, List, [], Option, Some, Ok, AllPairs, Bool, Contains, length, map, slice_get, take}
use Rattle.armus_base.specs.declared.ending.TaskEnd.{TaskEnd}
use Rattle.armus_base.specs.declared.ending.TaskEnd.TheVariants.{Blocked, Done, Refused, Unforked}
use Rattle.armus_base.specs.declared.event.Event.{Event}
use Rattle.armus_base.specs.Counts.{IsDistinct}
use Rattle.armus_base.specs.Finals.{end_of}
use Rattle.armus_base.specs.Plans.{Plan}
use Rattle.armus_base.specs.Runs.{IsFinal}
use Rattle.armus_base.specs.States.{State}
use Rattle.clock_syntax.specs.Trees.{ClockTree}
use Rattle.clock_semantics.specs.Unfolding.{ClockUnfolding, clock_unfolded, plan_of_moves}
use Rattle.clock_source_map.specs.ClockOrigins.{MadeThing}
use Rattle.armus_base.specs.declared.ids.TaskId.{TaskId}
use Rattle.explain_clock.specs.ActivityLists.{those_said}
use Rattle.explain_clock.specs.ClockExplanations.{ExplainsActivities, explained_activities, paragraph_said, paragraph_sayings, unstarted_line, waiting_paragraph}
use Rattle.explain_clock.specs.ClockKeepers.{keeper_lines, keeper_said, keepers, lines_of}
use Rattle.explain_clock.specs.ClockFacts.{ClockFacts}

-- ---- who waits

-- task t waits in this state
abbrev pub IsWaitingIn : State → ℕ → Type 0
IsWaitingIn s t = (e : Event) × s.published t ≡ Some e

-- in a final state of a clock program whoever is a member of a clock or a finish waits: who has ended, or is not started, is a member of nothing
abbrev pub MembersWait : Type 0
MembersWait =
    (p : ClockTree) (u : ClockUnfolding) (s : State) (t q n : ℕ) → clock_unfolded p ≡ Ok u → IsFinal (plan_of_moves u) s → s.phases t q ≡ Some n → IsWaitingIn s t

-- ---- paragraphs

-- activity t stands in one paragraph, where this is the circle: in that which says what is said of t, and in no other; and no two paragraphs say the same
pub record StandsInOne (f : ClockFacts) (circle : List TaskId) (t : ℕ) : Type 0 where
  pub once : IsDistinct (paragraph_sayings f circle)
  pub there : Contains (paragraph_sayings f circle) (paragraph_said f t)
  pub named : Contains (those_said (paragraph_said f) (explained_activities f) (paragraph_said f t)) (record { 0 = t })
  pub alone : (said : List ℕ) → Contains (those_said (paragraph_said f) (explained_activities f) said) (record { 0 = t }) → said ≡ paragraph_said f t

-- What is said of activity t, which has ended so: of who waits, for which clock or finish; of who is not started, that it is not; each stands in one paragraph.
-- Who has ended stands in none.
abbrev pub IsSaidOf : ClockFacts → List TaskId → ℕ → TaskEnd → Type 0
IsSaidOf f circle t (Blocked e) =
    (thing : MadeThing) × slice_get f.of_text.things e.p.0 ≡ Some thing × paragraph_said f t ≡ waiting_paragraph f t 1 [] e thing × StandsInOne f circle t
IsSaidOf f circle t Unforked = paragraph_said f t ≡ unstarted_line f.of_text t 1 [] × StandsInOne f circle t
IsSaidOf f circle t Done = (said : List ℕ) → Contains (those_said (paragraph_said f) (explained_activities f) said) (record { 0 = t }) → ⊥
IsSaidOf f circle t (Refused e) = ⊥

-- the explanation of a final state says so of each activity
abbrev pub EachHasItsParagraph : Type 0
EachHasItsParagraph =
    (file : Option (List ℕ)) (text : List ℕ) (p : ClockTree) (u : ClockUnfolding) (plan : Plan) (s : State) (done : ℕ → ℕ) (lines : List ℕ) (waits : Bool)
    (x : ExplainsActivities file text p u plan s done lines waits) (t : ℕ) → IsFinal plan s → t < length plan.parents →
    IsSaidOf x.facts x.circle t (end_of s t)

-- ---- who is named

-- activity v keeps the event from being reached: it is a member of that clock or finish with a phase below
abbrev pub IsMemberBelow : State → Event → ℕ → Type 0
IsMemberBelow s e v = (n : ℕ) × s.phases v e.p.0 ≡ Some n × n < e.n

-- The activities that keep one who waits for this event, whose signal is missing or who have not ended: in order of number, each once; exactly those that keep the
-- event from being reached; and each of them waits itself. The first three things that are said of them have a line, and the others are counted: what is told is
-- told once, of each of them one thing, and each thing of just those of whom it is so.
pub record NamesThoseBehind (f : ClockFacts) (s : State) (e : Event) : Type 0 where
  pub named : List ℕ
  pub named_are : map (λ (t : TaskId). t.0) (keepers f e) ≡ named
  pub ascend : AllPairs (λ v w. v < w) named
  pub exact : (v : ℕ) → Contains named v ↔ IsMemberBelow s e v
  pub wait : (v : ℕ) → Contains named v → IsWaitingIn s v
  pub told : List (List ℕ)
  pub lines_are : keeper_lines f e ≡ lines_of f e (take 3 told)
  pub once : IsDistinct told
  pub there : (t : TaskId) → Contains (keepers f e) t → Contains told (keeper_said f e t.0)
  pub with_it : (t : TaskId) → Contains (keepers f e) t → Contains (those_said (keeper_said f e) (keepers f e) (keeper_said f e t.0)) t
  pub alone : (said : List ℕ) (t : TaskId) → Contains (those_said (keeper_said f e) (keepers f e) said) t → said ≡ keeper_said f e t.0

-- the explanation of a final state names those to each who waits
abbrev pub ThoseBehindAreNamed : Type 0
ThoseBehindAreNamed =
    (file : Option (List ℕ)) (text : List ℕ) (p : ClockTree) (u : ClockUnfolding) (plan : Plan) (s : State) (done : ℕ → ℕ) (lines : List ℕ) (waits : Bool)
    (x : ExplainsActivities file text p u plan s done lines waits) (t : ℕ) (e : Event) → IsFinal plan s → s.published t ≡ Some e →
    NamesThoseBehind x.facts s e
