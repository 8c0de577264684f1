-- Laws of what is seen: the least state, what was scanned, and what a load or a try for the lock adds.
use Rattle.std.specs.Prelude.{◌≡◌, ℕ, ◌<◌, ◌↔◌, Bool, true, false, List, ◌∷◌, Option, Some, None, length}
use Rattle.armus_base.specs.declared.event.Event.{Event}
use Rattle.armus_base.specs.Plans.{Plan}
use Rattle.armus_base.specs.States.{Step, IsReached}
use Rattle.armus_base.specs.calls.States.{IsReachedBelow}
use Rattle.armus_base.specs.Runs.{Place, IsReachable, IsLegalRun, IsPlainRun, state_after, places}
use Rattle.armus_base.specs.calls.Runs.{IsPrefix}
use Rattle.armus_base.specs.Places.{state_at, published_after}
use Rattle.armus_base.specs.calls.Places.{phases_at_place}
use Rattle.armus_base.specs.CheckedPlans.{IsCheckedPlan}
use Rattle.armus_base.specs.Deadlocks.{IsDeadIn}
use Rattle.armus_base.specs.calls.Boards.{IsLawful}
use Rattle.armus_base.specs.calls.Seats.{SeenBy, IsAsFarOn, IsKnownDead, IsLeast, IsLeastLawful, Found, IsLongestPrefix, await_word, MayHold, IsExactOf, IsSeenAfterAwait, IsSeenAfterBusy, IsSeenAfterPhase}

-- the shorter of the places of each task after two plain runs are the places of a plain run
abbrev pub EarlierPlaces : Type 0
EarlierPlaces =
    (plan : Plan) (h g : List Step) → IsCheckedPlan plan → IsPlainRun plan h → IsPlainRun plan g →
    (m : List Step) × IsPlainRun plan m × ((t : ℕ) →
    IsPrefix (places m t) (places h t) × IsPrefix (places m t) (places g t) × ((b : Place) →
    IsPrefix b (places h t) → IsPrefix b (places g t) → IsPrefix b (places m t)))

-- where some plain run leads as far on as what is seen, there is one that leads to the least such places
abbrev pub LeastExists : Type 0
LeastExists =
    (plan : Plan) (seen : SeenBy) (h : List Step) → IsCheckedPlan plan → IsPlainRun plan h → IsAsFarOn plan None (places h) seen →
    (m : List Step) × IsLeast plan seen m

-- on a board that detects deadlock the known dead are the dead of the least state
abbrev pub KnownAreLeastDead : Type 0
KnownAreLeastDead =
    (plan : Plan) (seen : SeenBy) (m : List Step) (t : ℕ) → IsCheckedPlan plan → IsLeast plan seen m →
    IsKnownDead false plan None seen t ↔ IsDeadIn (state_after m) t

-- on a board that detects deadlock, the shorter of the places of each task in two lawful states are lawful
abbrev pub EarlierIsLawful : Type 0
EarlierIsLawful =
    (plan : Plan) (a b : ℕ → Place) → IsCheckedPlan plan → IsLawful false plan a None → IsLawful false plan b None →
    (c : ℕ → Place) × IsLawful false plan c None × ((t : ℕ) →
    IsPrefix (c t) (a t) × IsPrefix (c t) (b t) × ((d : Place) → IsPrefix d (a t) → IsPrefix d (b t) → IsPrefix d (c t)))

-- on a board that detects deadlock, where some lawful state is as far on as what a viewer has seen, there is a least one, and the known dead are
-- the dead of that state
abbrev pub LeastLawfulExists : Type 0
LeastLawfulExists =
    (plan : Plan) (seen : SeenBy) (a : ℕ → Place) (lock : Option ℕ) → IsCheckedPlan plan → IsLawful false plan a lock →
    IsAsFarOn plan None a seen →
    (c : ℕ → Place) × IsLeastLawful plan seen c × ((t : ℕ) → IsKnownDead false plan None seen t ↔ IsDeadIn (state_at plan c) t)

-- what is reached by the tasks below k stays so, whatever step comes
abbrev pub ScannedStays : Type 0
ScannedStays =
    (plan : Plan) (h : List Step) (d : Step) (k : ℕ) (e : Event) → IsCheckedPlan plan → IsLegalRun plan (d ∷ h) →
    (state_after h).made e.p.0 ≡ true → IsReachedBelow (state_after h) k e → IsReachedBelow (state_after (d ∷ h)) k e

-- where all tasks are scanned, the event on which the seat's task is published is reached
abbrev pub AllScannedIsReached : Type 0
AllScannedIsReached =
    (plan : Plan) (t : ℕ) (seen : SeenBy) (a : ℕ → Place) (e : Event) → IsCheckedPlan plan → IsReachable plan a →
    IsAsFarOn plan (Some t) a seen → published_after plan t (seen.places t).done ≡ Some e → seen.scanned ≡ length plan.parents →
    IsReached (state_at plan a) e

-- a place seen by a load of an await word is at or before the lawful one, where the word means there what was loaded
abbrev pub AwaitLoadIsBefore : Type 0
AwaitLoadIsBefore =
    (avoids : Bool) (plan : Plan) (a : ℕ → Place) (lock : Option ℕ) (t : ℕ) (answer : Found) (before now : Place) → IsCheckedPlan plan →
    IsLawful avoids plan a lock → IsLongestPrefix avoids plan t (λ b. await_word plan t b ≡ answer) before now → IsPrefix before (a t) →
    await_word plan t (a t) ≡ answer → IsPrefix now (a t)

-- a place seen by a load of a phase word is at or before the lawful one, where the word means there what was loaded
abbrev pub PhaseLoadIsBefore : Type 0
PhaseLoadIsBefore =
    (avoids : Bool) (plan : Plan) (a : ℕ → Place) (lock : Option ℕ) (t p : ℕ) (answer : Option ℕ) (before now : Place) → IsCheckedPlan plan →
    IsLawful avoids plan a lock → IsLongestPrefix avoids plan t (λ b. phases_at_place plan t b p ≡ answer) before now →
    IsPrefix before (a t) → phases_at_place plan t (a t) p ≡ answer → IsPrefix now (a t)

-- the holder of the lock stands where it may hold it
abbrev pub HolderMayHold : Type 0
HolderMayHold =
    (plan : Plan) (a : ℕ → Place) (t : ℕ) → IsCheckedPlan plan → IsLawful true plan a (Some t) → MayHold plan t (a t)

-- a place seen by a try for the lock that finds it held is at or before the lawful one
abbrev pub BusyIsBefore : Type 0
BusyIsBefore =
    (plan : Plan) (a : ℕ → Place) (t : ℕ) (before now : Place) → IsCheckedPlan plan → IsLawful true plan a (Some t) →
    IsLongestPrefix true plan t (MayHold plan t) before now → IsPrefix before (a t) → IsPrefix now (a t)

-- lawful places as far on as what a seat has seen are as far on as what it has seen after a load of an await word that tells its meaning there
abbrev pub AwaitLoadKeepsFar : Type 0
AwaitLoadKeepsFar =
    (avoids : Bool) (plan : Plan) (own : Option ℕ) (a : ℕ → Place) (lock : Option ℕ) (holds : Bool) (t : ℕ) (before now : SeenBy) →
    IsCheckedPlan plan → IsLawful avoids plan a lock → t < length plan.parents → IsExactOf plan own before → IsAsFarOn plan own a before →
    IsSeenAfterAwait avoids plan holds t (await_word plan t (a t)) before now → IsAsFarOn plan own a now

-- the same after a load of a phase that tells the task's phase in that state
abbrev pub PhaseLoadKeepsFar : Type 0
PhaseLoadKeepsFar =
    (avoids : Bool) (plan : Plan) (own : Option ℕ) (a : ℕ → Place) (lock : Option ℕ) (t p : ℕ) (before now : SeenBy) →
    IsCheckedPlan plan → IsLawful avoids plan a lock → t < length plan.parents → IsExactOf plan own before → IsAsFarOn plan own a before →
    IsSeenAfterPhase avoids plan own t p ((state_at plan a).phases t p) before now → IsAsFarOn plan own a now

-- the same after a try for the lock that finds it held by its holder
abbrev pub BusyKeepsFar : Type 0
BusyKeepsFar =
    (plan : Plan) (own : Option ℕ) (a : ℕ → Place) (h : ℕ) (before now : SeenBy) → IsCheckedPlan plan → IsLawful true plan a (Some h) →
    IsExactOf plan own before → IsAsFarOn plan own a before → IsSeenAfterBusy plan h before now → IsAsFarOn plan own a now
