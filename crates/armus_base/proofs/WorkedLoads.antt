-- What single loads of the second of the two tasks show.
use Rattle.std.proofs.Common.{◌≡◌, ℕ, zero, suc, ◌≤◌, Bool, true, Option, Some, None, arith, sym, subst, refl}
use Rattle.armus_base.specs.declared.event.Event.{Event}
use Rattle.armus_base.specs.Plans.{Plan, action_at, actions, maker_of, parent_of}
use Rattle.armus_base.specs.calls.Plans.{here}
use Rattle.armus_base.specs.States.{event_at}
use Rattle.armus_base.specs.calls.Runs.{IsAtAwait, IsPrefix, Precedes}
use Rattle.armus_base.specs.Runs.{Place, first_place}
use Rattle.armus_base.specs.Places.{first_phases, phases_after, published_after, registered_by}
use Rattle.armus_base.specs.calls.Seats.{FoundIdle, FoundRefused, IsLongestPrefix, IsPlaceOf, IsPrefixOfAll, MayHold, await_word, found_by, has_blocked, has_refused, stands_before}
use Rattle.armus_base.specs.calls.TwoTasks.{two_tasks}
use Rattle.armus_base.specs.calls.WorkedDecisions.{Shows, WorkedLoads}
use Rattle.armus_base.proofs.KeepsFar.{one_longest_prefix}

-- a place with the meaning, at or after where the task was, that is a prefix of all such places is what a load shows
shows :
    (avoids : Bool) (plan : Plan) (t : ℕ) (Means : Place → Type 0) (before now : Place) → IsPlaceOf avoids plan t now → IsPrefix before now → Means now →
    IsPrefixOfAll avoids plan t Means before now → Shows avoids plan t Means before now
shows avoids plan t Means before now place later means below c = (
  λ longest. one_longest_prefix avoids plan t Means before c now longest here,
  λ same. subst (λ b. IsLongestPrefix avoids plan t Means before b) (sym same) here,
)
  where
    here : IsLongestPrefix avoids plan t Means before now
    here = record { place = place; below = below; longest = λ b of all. all now place later means }

-- the second task stands before its await after one action alone
at_one : (k : ℕ) (o : Option ℕ) → IsAtAwait two_tasks 1 (record { done = k; dropped = o }) → k ≡ 1
unfolding actions action_at
at_one zero o stands = absurd (let no = stands.1 in cc)
at_one (suc zero) o stands = refl
at_one (suc (suc zero)) o stands = absurd (let no = stands.1 in cc)
at_one (suc (suc (suc k))) o stands = absurd (let no = stands.1 in cc)

unrefused_word : (x : Option Event) (e : Event) → found_by x None ≡ FoundRefused e → ⊥
unrefused_word None e h = absurd (cc)
unrefused_word (Some d) e h = absurd (cc)

from_refused :
    (k : ℕ) (o : Option ℕ) → IsPlaceOf true two_tasks 1 (record { done = k; dropped = o }) →
    await_word two_tasks 1 (record { done = k; dropped = o }) ≡ FoundRefused (event_at 1 1) → Precedes 1 (Some 0) k o
from_refused k None place means = absurd (unrefused_word (published_after two_tasks 1 k) (event_at 1 1) means)
from_refused k (Some q) place means = (sym (at_one k (Some q) (place.before_await q refl)), omega arith)

from_await :
    (k : ℕ) (o : Option ℕ) → IsPlaceOf true two_tasks 1 (record { done = k; dropped = o }) →
    MayHold two_tasks 1 (record { done = k; dropped = o }) → 1 ≤ k
from_await (suc k) o place may = omega arith
from_await zero o place (stands_before undropped stands) = absurd (let no = at_one zero o stands in omega arith)
from_await zero o place (has_blocked e published) = absurd (cc)
from_await zero o place (has_refused refused) = absurd (let no = at_one zero o (place.before_await 0 refused) in omega arith)

from_passed : (k : ℕ) (o : Option ℕ) → 2 ≤ k → await_word two_tasks 1 (record { done = k; dropped = o }) ≡ FoundIdle → 3 ≤ k
unfolding parent_of maker_of actions action_at first_phases phases_after registered_by
from_passed zero o l means = absurd (omega arith)
from_passed (suc zero) o l means = absurd (omega arith)
from_passed (suc (suc zero)) o l means = absurd (cc)
from_passed (suc (suc (suc k))) o l means = omega arith

just_refused : IsPlaceOf true two_tasks 1 (record { done = 1; dropped = Some 0 })
unfolding actions action_at
just_refused =
    record {
      within = omega arith;
      unrefused = λ e. absurd (cc);
      before_await = λ d e. (here 1, refl);
      no_more = λ d e. (let none : 0 ≡ d = (cc) in omega arith);
    }

undropped_place : (k : ℕ) → k ≤ 3 → IsPlaceOf true two_tasks 1 (record { done = k; dropped = None })
unfolding actions action_at
undropped_place k l =
    record {
      within = omega arith;
      unrefused = λ e. refl;
      before_await = λ d e. absurd (cc);
      no_more = λ d e. absurd (cc);
    }

refused_there : await_word two_tasks 1 (record { done = 1; dropped = Some 0 }) ≡ FoundRefused (event_at 1 1)
unfolding parent_of maker_of actions action_at first_phases phases_after registered_by
refused_there = refl

may_hold_there : MayHold two_tasks 1 (record { done = 1; dropped = None })
unfolding actions action_at
may_hold_there = stands_before refl (here 1, refl)

idle_there : await_word two_tasks 1 (record { done = 3; dropped = None }) ≡ FoundIdle
unfolding parent_of maker_of actions action_at first_phases phases_after registered_by
idle_there = refl

pub worked_loads : WorkedLoads
worked_loads =
    record {
      refused =
          shows true two_tasks 1 (λ b. await_word two_tasks 1 b ≡ FoundRefused (event_at 1 1)) first_place (record { done = 1; dropped = Some 0 })
          just_refused (omega arith) refused_there (λ b place later means. from_refused b.done b.dropped place means);
      held =
          shows true two_tasks 1 (MayHold two_tasks 1) first_place (record { done = 1; dropped = None }) (undropped_place 1 (omega arith)) (omega arith)
          may_hold_there (λ b place later means. from_await b.done b.dropped place means);
      passed =
          shows true two_tasks 1 (λ b. await_word two_tasks 1 b ≡ FoundIdle) (record { done = 2; dropped = None }) (record { done = 3; dropped = None })
          (undropped_place 3 (omega arith)) (omega arith) idle_there (λ b place later means. from_passed b.done b.dropped later means);
    }
