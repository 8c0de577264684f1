-- Laws of places: those to which legal runs lead, and the lawful ones of both boards.
use Rattle.std.specs.Prelude.{◌≡◌, ◌≢◌, ℕ, ◌<◌, Bool, true, false, List, ◌∷◌, ◌++◌, Option, Some, None, Contains, length}
use Rattle.armus_base.specs.declared.event.Event.{Event}
use Rattle.armus_base.specs.Plans.{Plan, Action, Aim, Refuses}
use Rattle.armus_base.specs.States.{after, IsLegal, IsActive, IsReached}
use Rattle.armus_base.specs.Runs.{first_place, Place, IsByCode, IsReachable, moved, state_after}
use Rattle.armus_base.specs.calls.Runs.{IsAtAwait, ArePrefixes}
use Rattle.armus_base.specs.calls.Places.{IsConsistent}
use Rattle.armus_base.specs.Places.{members_below, phases_after, state_at}
use Rattle.armus_base.specs.CheckedPlans.{IsCheckedPlan}
use Rattle.armus_base.specs.Avoidance.{Avoids}
use Rattle.armus_base.specs.calls.Boards.{Entry, Frees, IsBoardRun, IsLawful, MayDo, Takes}
use Rattle.armus_base.specs.calls.Seats.{IsPlaceOf}

-- the state of reachable places is the state after each run that leads there, and only forked tasks have begun in it
abbrev pub ReachableIsFixed : Type 0
ReachableIsFixed =
    (plan : Plan) (a : ℕ → Place) → IsCheckedPlan plan → (l : IsReachable plan a) → state_after l.steps ≡ state_at plan a × IsConsistent plan a

-- a legal step that is next by the code leads to reachable places, and to the state after it
abbrev pub ReachableSteps : Type 0
ReachableSteps =
    (plan : Plan) (a : ℕ → Place) (t : ℕ) (x : Action) → IsCheckedPlan plan → IsReachable plan a → IsByCode plan t (a t).done (a t).dropped x →
    IsLegal plan (state_at plan a) t x → IsReachable plan (moved a t x) × after (state_at plan a) t x ≡ state_at plan (moved a t x)

-- what is reached at reachable places is reached at later ones
abbrev pub ReachedStaysAtReachable : Type 0
ReachedStaysAtReachable =
    (plan : Plan) (a b : ℕ → Place) (e : Event) → IsCheckedPlan plan → IsReachable plan a → IsReachable plan b → ArePrefixes a b →
    (state_at plan a).made e.p.0 ≡ true → IsReached (state_at plan a) e → IsReached (state_at plan b) e

-- a refused task that is a member of nothing has dropped each phaser of which it was a member
abbrev pub RefusedHasDropped : Type 0
RefusedHasDropped =
    (plan : Plan) (a : ℕ → Place) (t d : ℕ) → IsCheckedPlan plan → IsReachable plan a → (a t).dropped ≡ Some d →
    ((p : ℕ) → (state_at plan a).phases t p ≡ None) → d ≡ members_below (phases_after plan t (a t).done) (length plan.makers)

-- lawful places are reachable
abbrev pub LawfulIsReachable : Type 0
LawfulIsReachable = (avoids : Bool) (plan : Plan) (a : ℕ → Place) (lock : Option ℕ) → IsLawful avoids plan a lock → IsReachable plan a

-- each place of lawful places is a place of its task on this board
abbrev pub LawfulPlacesAreOf : Type 0
LawfulPlacesAreOf =
    (avoids : Bool) (plan : Plan) (a : ℕ → Place) (lock : Option ℕ) (t : ℕ) → IsCheckedPlan plan → IsLawful avoids plan a lock →
    IsPlaceOf avoids plan t (a t)

-- the opening places are lawful on both boards
abbrev pub OpeningIsLawful : Type 0
OpeningIsLawful = (avoids : Bool) (plan : Plan) → IsLawful avoids plan (λ _. first_place) None

-- on a board that detects deadlock a legal step by the code that refuses nothing keeps the places lawful
abbrev pub PlainStepIsLawful : Type 0
PlainStepIsLawful =
    (plan : Plan) (a : ℕ → Place) (t : ℕ) (x : Action) → IsCheckedPlan plan → IsLawful false plan a None →
    IsByCode plan t (a t).done (a t).dropped x → IsLegal plan (state_at plan a) t x → ((aim : Aim) → x ≢ Refuses aim) →
    IsLawful false plan (moved a t x) None

-- on a board that avoids deadlock a legal step by the code keeps the places lawful, where it avoids deadlock and is one that its task may do
abbrev pub AvoidedStepIsLawful : Type 0
AvoidedStepIsLawful =
    (plan : Plan) (a : ℕ → Place) (lock : Option ℕ) (t : ℕ) (x : Action) → IsCheckedPlan plan → IsLawful true plan a lock →
    IsByCode plan t (a t).done (a t).dropped x → IsLegal plan (state_at plan a) t x → Avoids (state_at plan a) t x → MayDo lock t x →
    IsLawful true plan (moved a t x) lock

-- an active task before an await may take the lock, if nobody holds it
abbrev pub TakingIsLawful : Type 0
TakingIsLawful =
    (plan : Plan) (a : ℕ → Place) (t : ℕ) → IsCheckedPlan plan → IsLawful true plan a None → IsActive (state_at plan a) t →
    IsAtAwait plan t (a t) → IsLawful true plan a (Some t)

-- the holder of the lock may free it
abbrev pub FreeingIsLawful : Type 0
FreeingIsLawful = (plan : Plan) (a : ℕ → Place) (t : ℕ) → IsLawful true plan a (Some t) → IsLawful true plan a None

-- between two takings of the lock whoever took it first frees it
abbrev pub TakersFree : Type 0
TakersFree =
    (plan : Plan) (t u : ℕ) (between earlier : List Entry) → IsBoardRun true plan (Takes u ∷ (between ++ (Takes t ∷ earlier))) →
    Contains between (Frees t)

-- the holder of the lock is a task of the plan
abbrev pub HolderIsTask : Type 0
HolderIsTask = (plan : Plan) (a : ℕ → Place) (t : ℕ) → IsCheckedPlan plan → IsLawful true plan a (Some t) → t < length plan.parents
