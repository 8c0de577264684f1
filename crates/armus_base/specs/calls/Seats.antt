-- Seats: what one has seen of a board, what a call adds to it, and who is known to be dead by it.
use Rattle.std.specs.Prelude.{List, ◌≡◌, ◌≢◌, ℕ, ◌<◌, ◌≤◌, ◌⊎◌, Bool, true, false, Option, Some, None, length, ◌==◌, ◌&&◌, ◌||◌, if◌then◌else◌, nat_lt}
use Rattle.std.proofs.Common.{suc}
use Rattle.armus_base.specs.declared.event.Event.{Event}
use Rattle.armus_base.specs.Plans.{Plan, Action, Blocks, Passes, actions}
use Rattle.armus_base.specs.States.{State, Step}
use Rattle.armus_base.specs.calls.States.{IsReachedBelow}
use Rattle.armus_base.specs.Runs.{Place, first_place, moved, IsPlainRun, places}
use Rattle.armus_base.specs.calls.Runs.{IsPrefix, ArePrefixes, IsAtAwait}
use Rattle.armus_base.specs.Places.{phases_after, members_below, published_after, refused_at, state_at}
use Rattle.armus_base.specs.calls.Places.{phases_at_place}
use Rattle.armus_base.specs.Deadlocks.{IsDeadIn}
use Rattle.armus_base.specs.Avoidance.{Avoids}
use Rattle.armus_base.specs.calls.Boards.{IsLawful}

-- what an await word means, and what a load of it finds
pub data Found : Type 0 where
  FoundIdle : Found
  FoundWaiting : (event : Event) → Found
  FoundRefused : (event : Event) → Found

-- what a seat has seen: for each task a place that it has reached, whether that place is the exact one, how many tasks it has scanned for the
-- event on which its own task is published, and what it has found of a task since it took the lock
pub record SeenBy : Type 0 where
  pub places : ℕ → Place
  pub exact : ℕ → Bool
  pub scanned : ℕ
  pub found : ℕ → Option Found

-- the members of the event's phaser that are scanned have its phase at least
abbrev pub IsScanned : State → ℕ → Option Event → Type 0
IsScanned s k None = Unit {0}
IsScanned s k (Some e) = IsReachedBelow s k e

-- the places are as far on as what is seen, by a seat of its own task or by a viewer
pub record IsAsFarOn (plan : Plan) (own : Option ℕ) (a : ℕ → Place) (seen : SeenBy) : Type 0 where
  pub later : (t : ℕ) → t < length plan.parents → IsPrefix (seen.places t) (a t)
  pub equal : (t : ℕ) → t < length plan.parents → seen.exact t ≡ true → a t ≡ seen.places t
  pub scanned : (t : ℕ) → own ≡ Some t → IsScanned (state_at plan a) seen.scanned (published_after plan t (seen.places t).done)

-- a plain run to the least places that are as far on as what a viewer has seen
pub record IsLeast (plan : Plan) (seen : SeenBy) (m : List Step) : Type 0 where
  pub run : IsPlainRun plan m
  pub far : IsAsFarOn plan None (places m) seen
  pub least : (g : List Step) → IsPlainRun plan g → IsAsFarOn plan None (places g) seen → ArePrefixes (places m) (places g)

-- the least lawful places, on a board that detects deadlock, that are as far on as what a viewer has seen
pub record IsLeastLawful (plan : Plan) (seen : SeenBy) (c : ℕ → Place) : Type 0 where
  pub lawful : IsLawful false plan c None
  pub far : IsAsFarOn plan None c seen
  pub least : (a : ℕ → Place) (lock : Option ℕ) → IsLawful false plan a lock → IsAsFarOn plan None a seen → ArePrefixes c a

-- a seat of a task has its own task among the exact ones
abbrev pub IsExactOf : Plan → Option ℕ → SeenBy → Type 0
IsExactOf plan own seen = (t : ℕ) → own ≡ Some t → t < length plan.parents × seen.exact t ≡ true

-- neither published nor refused
abbrev pub HasNoEvent : State → ℕ → Type 0
HasNoEvent s t = s.published t ≡ None × s.refused t ≡ None

-- what a holder of the lock found of task t still agrees with the state
abbrev pub StillAgrees : State → ℕ → Option Found → Type 0
StillAgrees s t None = Unit {0}
StillAgrees s t (Some FoundIdle) = HasNoEvent s t
StillAgrees s t (Some (FoundWaiting e)) = (s.published t ≡ Some e) ⊎ (HasNoEvent s t)
StillAgrees s t (Some (FoundRefused e)) = s.refused t ≡ Some e

-- the board's state has the lock with the seat of task t
pub record HasLockWith (plan : Plan) (t : ℕ) (a : ℕ → Place) (lock : Option ℕ) (seen : SeenBy) : Type 0 where
  pub holds : lock ≡ Some t
  pub agrees : (u : ℕ) → u ≢ t → StillAgrees (state_at plan a) u (seen.found u)

-- task t is dead in every lawful state as far on as what is seen
abbrev pub IsKnownDead : Bool → Plan → Option ℕ → SeenBy → ℕ → Type 0
IsKnownDead avoids plan own seen t =
    (a : ℕ → Place) (lock : Option ℕ) → IsLawful avoids plan a lock → IsAsFarOn plan own a seen → IsDeadIn (state_at plan a) t

-- this holds in each lawful state that has the lock with the seat of task t and is as far on as what it has seen
abbrev pub InEachWithLock : Plan → ℕ → SeenBy → (State → Type 0) → Type 0
InEachWithLock plan t seen Holds =
    (a : ℕ → Place) (lock : Option ℕ) → IsLawful true plan a lock → HasLockWith plan t a lock seen → IsAsFarOn plan (Some t) a seen →
    Holds (state_at plan a)

-- the seat of task t may publish or refuse an await of p: on a board that avoids deadlock this avoids it in each such state
abbrev pub AvoidsByWhatIsSeen : Plan → ℕ → SeenBy → Action → Type 0
AvoidsByWhatIsSeen plan t seen x = InEachWithLock plan t seen (λ s. Avoids s t x)

-- a place at which task t may stand on this board by its code
pub record IsPlaceOf (avoids : Bool) (plan : Plan) (t : ℕ) (place : Place) : Type 0 where
  pub within : place.done ≤ length (actions plan t)
  pub unrefused : avoids ≡ false → place.dropped ≡ None
  pub before_await : (d : ℕ) → place.dropped ≡ Some d → IsAtAwait plan t place
  pub no_more : (d : ℕ) → place.dropped ≡ Some d → d ≤ members_below (phases_after plan t place.done) (length plan.makers)

-- the place c is a prefix of every place of t, from this one on, with this meaning
abbrev pub IsPrefixOfAll : Bool → Plan → ℕ → (Place → Type 0) → Place → Place → Type 0
IsPrefixOfAll avoids plan t Means before c = (b : Place) → IsPlaceOf avoids plan t b → IsPrefix before b → Means b → IsPrefix c b

-- the longest such place
pub record IsLongestPrefix (avoids : Bool) (plan : Plan) (t : ℕ) (Means : Place → Type 0) (before now : Place) : Type 0 where
  pub place : IsPlaceOf avoids plan t now
  pub below : IsPrefixOfAll avoids plan t Means before now
  pub longest : (c : Place) → IsPlaceOf avoids plan t c → IsPrefixOfAll avoids plan t Means before c → IsPrefix c now

-- what an await word means of a task that is published on the first event or refused at the second
abbrev pub found_by : Option Event → Option Event → Found
found_by (Some e) refused = FoundWaiting e
found_by None (Some e) = FoundRefused e
found_by None None = FoundIdle

-- what the await word of task t means at its place
abbrev pub await_word : Plan → ℕ → Place → Found
await_word plan t place = found_by (published_after plan t place.done) (refused_at plan t place.done place.dropped)

-- task t may hold the lock at its place: it stands before an unpublished await, or its last step is a block or a refusal
pub data MayHold (plan : Plan) (t : ℕ) (place : Place) : Type 0 where
  stands_before : place.dropped ≡ None → IsAtAwait plan t place → MayHold plan t place
  has_blocked : (e : Event) → published_after plan t place.done ≡ Some e → MayHold plan t place
  has_refused : place.dropped ≡ Some 0 → MayHold plan t place

-- an own step of task t; a block and a pass begin with nothing scanned
abbrev pub seen_after_step : ℕ → Action → SeenBy → SeenBy
seen_after_step t (Blocks a) seen = record seen { places = moved seen.places t (Blocks a); scanned = 0 }
seen_after_step t (Passes p) seen = record seen { places = moved seen.places t (Passes p); scanned = 0 }
seen_after_step t x seen = record seen { places = moved seen.places t x }

-- the seat of child c at its fork has seen what its parent has seen after it
abbrev pub seen_by_child : ℕ → SeenBy → SeenBy
seen_by_child c seen = record { places = seen.places; exact = λ u. u == c; scanned = 0; found = λ _. None }

-- the place seen of task t is another one now, and that of each other task is not
pub record ChangesPlace (t : ℕ) (Changes : Place → Place → Type 0) (before now : SeenBy) : Type 0 where
  pub here : Changes (before.places t) (now.places t)
  pub others : (u : ℕ) → u ≢ t → now.places u ≡ before.places u
  pub exact : (u : ℕ) → now.exact u ≡ before.exact u

-- a load of the await word of t that answers, by a seat that holds the lock or does not; a holder finds what it loads
pub record IsSeenAfterAwait (avoids : Bool) (plan : Plan) (holds : Bool) (t : ℕ) (answer : Found) (before now : SeenBy) : Type 0 where
  pub place : ChangesPlace t (IsLongestPrefix avoids plan t (λ b. await_word plan t b ≡ answer)) before now
  pub scanned : now.scanned ≡ before.scanned
  pub found : (u : ℕ) → now.found u ≡ (if holds && (u == t) then Some answer else before.found u)

-- the answer is no phase below that of the event
abbrev pub is_not_behind : Option ℕ → Event → Bool
is_not_behind None e = true
is_not_behind (Some n) e = if nat_lt n e.n then false else true

-- how many tasks are scanned for the event after a load of the phase of t on p that answers
abbrev pub scanned_after : Option Event → ℕ → ℕ → ℕ → Option ℕ → ℕ
scanned_after None k t p answer = k
scanned_after (Some e) k t p answer = if (e.p.0 == p) && (t == k) && is_not_behind answer e then suc k else k

-- the event on which the seat's own task is published at its place
abbrev pub own_event : Plan → Option ℕ → SeenBy → Option Event
own_event plan None seen = None
own_event plan (Some t) seen = published_after plan t (seen.places t).done

-- a load of the phase word of t on p that answers: it changes no place while no step of t is seen
pub record IsSeenAfterPhase (avoids : Bool) (plan : Plan) (own : Option ℕ) (t p : ℕ) (answer : Option ℕ) (before now : SeenBy) : Type 0 where
  pub empty : before.places t ≡ first_place → (u : ℕ) → now.places u ≡ before.places u
  pub place :
      before.places t ≢ first_place →
      ChangesPlace t (IsLongestPrefix avoids plan t (λ b. phases_at_place plan t b p ≡ answer)) before now
  pub exact : (u : ℕ) → now.exact u ≡ before.exact u
  pub scanned : now.scanned ≡ scanned_after (own_event plan own before) before.scanned t p answer
  pub found : (u : ℕ) → now.found u ≡ before.found u

-- a try for the lock that finds it held by h
pub record IsSeenAfterBusy (plan : Plan) (h : ℕ) (before now : SeenBy) : Type 0 where
  pub place : ChangesPlace h (IsLongestPrefix true plan h (MayHold plan h)) before now
  pub scanned : now.scanned ≡ before.scanned
  pub found : (u : ℕ) → now.found u ≡ before.found u

-- the longer of two places
abbrev pub IsLonger : Place → Place → Place → Type 0
IsLonger a b c = (c ≡ a × IsPrefix b a) ⊎ (c ≡ b × IsPrefix a b)

-- a view that takes in the ended seat of task t
pub record IsSeenAfterTakingIn (t : ℕ) (view seat now : SeenBy) : Type 0 where
  pub places : (u : ℕ) → IsLonger (view.places u) (seat.places u) (now.places u)
  pub exact : (u : ℕ) → now.exact u ≡ ((view.exact u || seat.exact u) || (u == t))
  pub scanned : now.scanned ≡ 0
  pub found : (u : ℕ) → now.found u ≡ None
