-- What is true of a seat whose task's turn is over, and what its task has begun.
use Rattle.std.proofs.Common.{◌≡◌, ◌≢◌, ℕ, zero, suc, ◌<◌, ◌≤◌, ◌+◌, ◌^◌, List, [], ◌∷◌, Option, Some, None, length, drop, sym, refl, ap, ◌∙◌, subst, arith, inl, inr, ◌⊎◌}
use Rattle.std.specs.Prelude.{slice_get, is_some, not, Bool, IsTrue, true, false}
use Rattle.std.proofs.lemmas.Bool.{false≢true}
use Rattle.armus_base.specs.declared.event.Event.{Event}
use Rattle.armus_base.specs.declared.op.Op.{Op}
use Rattle.armus_base.specs.declared.op.Op.TheVariants.{Adv, Await, Drop, Fork, Make, Reg}
use Rattle.armus_base.specs.CheckedPlans.{IsCheckedPlan}
use Rattle.pl_core.proofs.StepKinds.{few_actions}
use Rattle.armus_base.specs.Plans.{Aim, Plan, Refuses, action_at, actions, actions_of, code_of}
use Rattle.armus_base.specs.Runs.{Place, first_place}
use Rattle.armus_base.specs.calls.Places.{phases_at_place}
use Rattle.armus_base.specs.calls.Seats.{own_event}
use Rattle.armus_base.proofs.BoardRuns.{lawful_is_reachable}
use Rattle.armus_base.proofs.Reachable.{reachable_is_fixed}
use Rattle.armus_base.proofs.Tasks.{member_within}
use Rattle.board.specs.calls.Views.{avoids, own_place, seen, task_of}
use Rattle.board.specs.calls.Seats.{IsSeat, Known, event_of}
use Rattle.board.specs.calls.Steps.{WasSo}
use Rattle.board.specs.inside.Walking.{HasLeft, begins, left_of}
use Rattle.board.proofs.Walking.{left_at_first}
use Rattle.phase_scan.specs.calls.Looks.{FindsBehind, LoadsAlone}
use Rattle.board_runs.specs.calls.Turns.{EndsTurn, EndsTurnWithin, IsDone, IsSeenBehind, is_behind, is_done, is_locked_out, is_refused}
use Rattle.board_runs.specs.inside.Tasks.{AreLeft}
use Rattle.board_runs.proofs.Goings.{own_stays, same_task}

-- the same ops are left where the seat does not hold the lock
pub left_free : (ops : List Op) (k : Known) → AreLeft ops k → k.view.holds ≡ false → HasLeft ops k
left_free ops k left free = record { free = free; unrefused = left.unrefused; left = left.left }

-- and where it may hold it
pub left_there : (ops : List Op) (k : Known) → HasLeft ops k → AreLeft ops k
left_there ops k left = record { unrefused = left.unrefused; left = left.left }

-- to who has made no step its whole code is left
pub left_first :
    (k : Known) (t : ℕ) (plan : Plan) (ops : List Op) → k.view.own ≡ Some t → k.view.plan ≡ plan → ops ≡ code_of plan t → own_place k.view ≡ first_place → AreLeft ops k
left_first k t plan ops own planned all first =
    (let left : HasLeft ops (record k { view = record k.view { holds = false } }) =
    left_at_first (record k { view = record k.view { holds = false } }) t plan ops own planned all first refl in
    record { unrefused = left.unrefused; left = left.left })

-- loads begin no op
pub left_by_loads : (ops : List Op) (k m : Known) (t : ℕ) → k.view.own ≡ Some t → IsSeat k → HasLeft ops k → LoadsAlone k m → HasLeft ops m
left_by_loads ops k m t own seat b goes =
    let place = own_stays k m t own seat goes in
    let task = same_task k m goes.same in
    record {
      free = goes.same.holds ∙ b.free;
      unrefused = ap (λ (x : Place). x.dropped) place ∙ b.unrefused;
      left = (λ i. drop (place i).done (actions (goes.same.plan i) (task i))) ∙ b.left ∙ sym (ap (λ o. left_of o ops) goes.event);
    }

-- whose event is published
pub owned : (k : Known) (e : Event) → event_of k ≡ Some e → (t : ℕ) × (k.view.own ≡ Some t)
owned k e is = by_own k.view.own refl
  where
    by_own : (o : Option ℕ) → k.view.own ≡ o → (t : ℕ) × (k.view.own ≡ Some t)
    by_own None own = absurd (let n : None ≡ Some e = sym (ap (λ o. own_event k.view.plan o (seen k.view)) own) ∙ is in cc)
    by_own (Some t) own = (t, own)

first_or_not : (b : Place) → (b ≡ first_place) ⊎ (b ≢ first_place)
first_or_not b = by_parts b.done b.dropped refl refl
  where
    by_parts : (k : ℕ) (o : Option ℕ) → b.done ≡ k → b.dropped ≡ o → (b ≡ first_place) ⊎ (b ≢ first_place)
    by_parts zero None a e = inl (λ i. record { done = a i; dropped = e i })
    by_parts zero (Some d) a e = inr (λ h. let f = ap (λ (x : Place). x.dropped) h in cc)
    by_parts (suc k) o a e = inr (λ h. let f : b.done ≡ 0 = ap (λ (x : Place). x.done) h in omega arith)

-- who was found to be a member is a task of the plan
found_within : (k m : Known) (t p n : ℕ) → IsSeat k → WasSo k.view.plan k.view.mode (λ s. s.phases t p ≡ Some n) k.view m.view → t < length k.view.plan.parents
found_within k m t p n seat was =
    let reachable = lawful_is_reachable (avoids k.view.mode) k.view.plan was.places was.lock was.lawful in
    let same = (reachable_is_fixed k.view.plan was.places seat.checked reachable).0 in
    member_within k.view.plan seat.checked reachable.steps reachable.run t p n (ap (λ s. s.phases t p) same ∙ was.holds)

-- a member that was found behind ends the turn
pub ends_behind : (k m : Known) (t n : ℕ) → IsSeat k → LoadsAlone k m → FindsBehind t n k m → EndsTurn k m
ends_behind k m t n seat goes f =
    let load = f.load.load in
    let within : t < length m.view.plan.parents =
    subst (λ (q : Plan). t < length q.parents) (sym load.same.plan) (found_within f.between m t f.event.p.0 n f.goes_on.kept load.was) in
    is_behind f.event (goes.event ∙ f.published) (subst (λ u. u < length m.view.plan.parents) (sym f.scanned) within)
    (subst (λ u. IsSeenBehind m f.event u) (sym f.scanned)
    (elim (first_or_not ((seen m.view).places t)) [
      | inl first ↦ inl first
      | inr far ↦ inr (n, (λ i. phases_at_place (load.same.plan i) t ((seen m.view).places t) f.event.p.0) ∙ load.there n refl far, f.below)
    ]))
    (record { between = k; since = omega arith; task = t; phase = n; found = f })

-- what ends the rest of a turn ends the turn
pub ends_since : (a b m : Known) → a.view.loads ≤ b.view.loads → EndsTurn b m → EndsTurn a m
ends_since a b m more (is_done done) = is_done done
ends_since a b m more (is_refused left) = is_refused left
ends_since a b m more (is_behind e published few behind found) =
    is_behind e published few behind
    (record { between = found.between; since = (let l = found.since in omega arith); task = found.task; phase = found.phase; found = found.found })
ends_since a b m more (is_locked_out u mode at other may held) =
    is_locked_out u mode at other may (record { between = held.between; since = (let l = held.since in omega arith); found = held.found })

pub ends_since_within : (bound loads : ℕ) (a b m : Known) → a.view.loads ≤ b.view.loads → EndsTurnWithin bound loads b m → EndsTurnWithin bound loads a m
ends_since_within bound loads a b m more (inl ends) = inl (ends_since a b m more ends)
ends_since_within bound loads a b m more (inr cut) = inr cut

-- a list that has no first has nothing
pub none_left : {A : Type 0} (xs : List A) → slice_get xs 0 ≡ None → xs ≡ []
none_left [] e = refl
none_left (x ∷ xs) e = absurd (cc)

none_there : {A : Type 0} (xs : List A) (k : ℕ) → drop k xs ≡ [] → slice_get xs k ≡ None
none_there [] zero e = refl
none_there [] (suc k) e = refl
none_there (x ∷ xs) zero e = absurd (cc)
none_there (x ∷ xs) (suc k) e = none_there xs k e

-- a task that has begun all its ops, and waits for nothing, is done
pub ends_done : (ops : List Op) (k : Known) → AreLeft ops k → event_of k ≡ None → slice_get ops 0 ≡ None → IsDone k
unfolding action_at
ends_done ops k b idle past =
    let none : drop (own_place k.view).done (actions k.view.plan (task_of k.view)) ≡ [] =
    b.left ∙ ap (λ o. left_of o ops) idle ∙ ap actions_of (none_left ops past) in
    record { idle = idle; unrefused = b.unrefused; past = none_there (actions k.view.plan (task_of k.view)) (own_place k.view).done none }

all_there : {A : Type 0} (xs : List A) (k : ℕ) → slice_get xs k ≡ None → drop k xs ≡ []
all_there [] zero e = refl
all_there (x ∷ xs) zero e = absurd (cc)
all_there [] (suc k) e = refl
all_there (x ∷ xs) (suc k) e = all_there xs k e

-- each op has an action
no_action : (ops : List Op) → actions_of ops ≡ [] → slice_get ops 0 ≡ None
no_action [] e = refl
no_action (Make p ∷ ops) e = absurd (cc)
no_action (Reg c p ∷ ops) e = absurd (cc)
no_action (Fork c ∷ ops) e = absurd (cc)
no_action (Adv p ∷ ops) e = absurd (cc)
no_action (Drop p ∷ ops) e = absurd (cc)
no_action (Await p off ∷ ops) e = absurd (cc)

-- a task that is done has begun all its ops
pub done_began : (ops : List Op) (k : Known) → AreLeft ops k → IsDone k → slice_get ops 0 ≡ None
unfolding action_at
done_began ops k b done =
    no_action ops
    (sym (b.left ∙ ap (λ o. left_of o ops) done.idle) ∙ all_there (actions k.view.plan (task_of k.view)) (own_place k.view).done done.past)

-- where there is not some, there is none
pub no_one : {A : Type 0} (o : Option A) → is_some o ≡ false → o ≡ None
no_one None e = refl
no_one (Some x) h = absurd (false≢true (sym h))

pub true_for : (b : Bool) → not b ≡ false → IsTrue b
true_for true e = refl
true_for false e = absurd (false≢true (sym e))

-- what an op begins with is no refusal
pub no_refusal : (op : Op) (aim : Aim) → begins op ≢ Refuses aim
no_refusal (Make q) p e = cc
no_refusal (Reg c q) p e = cc
no_refusal (Fork c) p e = cc
no_refusal (Adv q) p e = cc
no_refusal (Drop q) p e = cc
no_refusal (Await q off) p e = cc

pub no_event : (o : Option Event) → is_some o ≡ false → o ≡ None
no_event None e = refl
no_event (Some e) h = absurd (false≢true (sym h))

-- a task makes few actions
pub one_more_fits : (plan : Plan) (t k : ℕ) → IsCheckedPlan plan → k < length (actions plan t) → k + 1 < 2 ^ 32
one_more_fits plan t k checked l = (let few = few_actions plan t checked in omega arith)
