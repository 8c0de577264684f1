-- What the steps of a task's seat make of what is left of the task's code.
use Rattle.std.proofs.Common.{◌≡◌, ◌≢◌, ℕ, zero, suc, List, [], ◌∷◌, Option, Some, None, drop, sym, refl, ap, ◌∙◌, subst, false}
use Rattle.std.specs.Prelude.{IfNone, IfSome, IsSome, is_some, slice_get, unwrap_or}
use Rattle.std.proofs.lemmas.Bool.{false≢true}
use Rattle.armus_base.specs.declared.event.Event.{Event}
use Rattle.armus_base.specs.declared.op.Op.{Op}
use Rattle.armus_base.specs.Plans.{Aim, Action, Advances, Blocks, Drops, Forks, Makes, Passes, Plan, Refuses, Registers, action_at, actions, actions_of, code_of}
use Rattle.armus_base.specs.declared.op.Op.TheVariants.{Adv, Await, Drop, Fork, Make, Reg}
use Rattle.armus_base.specs.States.{Phases, State, awaited}
use Rattle.armus_base.specs.Runs.{Place, first_place, next_place}
use Rattle.armus_base.specs.Places.{phases_after, published_after}
use Rattle.armus_base.specs.CheckedPlans.{IsCheckedPlan, IsWellFormed}
use Rattle.armus_base.specs.calls.Seats.{SeenBy, own_event, seen_after_step, seen_by_child}
use Rattle.armus_base.proofs.Codes.{awaited_is, awaited_some, child_within, phaser_within}
use Rattle.armus_base.proofs.Steps.{updated_same}
use Rattle.board.specs.calls.Views.{action_after, next_action, own_place, seen, task_of}
use Rattle.board.specs.calls.Seats.{Frame, aim_at, IsNewSeat, IsSeat, Known, MakesStep, event_of, nothing_seen}
use Rattle.board.specs.inside.Walking.{HasLeft, IsActionOfPlan, begins, left_of}
use Rattle.board.specs.calls.Steps.{IsSameSeat, WasSo}
use Rattle.armus_base.proofs.MemberPhasers.{phaser_of_member}
pub use Rattle.armus_base.proofs.Lists.{first_and_rest as next_left}
use Rattle.board.proofs.Loaded.{event_stays, own_stays}
use Rattle.board.proofs.Seated.{event_here, next_there, not_awaited, place_next_by_code}

of_plan : (plan : Plan) → IsCheckedPlan plan → (t k : ℕ) (x : Action) → IsWellFormed plan t k x → IsActionOfPlan plan x
of_plan plan checked t k (Makes p) f = phaser_within plan t p f.0
of_plan plan checked t k (Registers c p) f = (child_within plan t c f.0, phaser_of_member plan checked t k p f.3.0 f.3.1)
of_plan plan checked t k (Forks c) f = child_within plan t c f.0
of_plan plan checked t k (Advances p) f = phaser_of_member plan checked t k p f.0 f.1
of_plan plan checked t k (Drops p) f = phaser_of_member plan checked t k p f.0 f.1
of_plan plan checked t k (Blocks a) f = phaser_of_member plan checked t k a.phaser f.0.0 f.0.1
of_plan plan checked t k (Passes p) f = tt
of_plan plan checked t k (Refuses p) f = tt

pub next_of_plan : (k : Known) (x : Action) → IsSeat k → next_action k.view ≡ Some x → IsActionOfPlan k.view.plan x
next_of_plan k x seat next =
    let there = next_there k.view x next in
    of_plan k.view.plan seat.checked (task_of k.view) (own_place k.view).done x
    (seat.checked.codes.well_formed (task_of k.view) (own_place k.view).done x there.1)

-- the first of what is left of a list, and what is left then
pub first_left : {A : Type 0} (xs : List A) (k : ℕ) (x : A) (ys : List A) → drop k xs ≡ x ∷ ys → slice_get xs k ≡ Some x
first_left [] zero x ys e = absurd (cc)
first_left [] (suc k) x ys e = absurd (cc)
first_left (z ∷ zs) zero x ys e = cc
first_left (z ∷ zs) (suc k) x ys e = first_left zs k x ys e

pub rest_left : {A : Type 0} (xs : List A) (k : ℕ) (x : A) (ys : List A) → drop k xs ≡ x ∷ ys → drop (suc k) xs ≡ ys
rest_left [] zero x ys e = absurd (cc)
rest_left [] (suc k) x ys e = absurd (cc)
rest_left (z ∷ zs) zero x ys e = cc
rest_left (z ∷ zs) (suc k) x ys e = rest_left zs k x ys e

-- it is the next action of the seat
pub next_is :
    (k : Known) (x : Action) (xs : List Action) → (own_place k.view).dropped ≡ None →
    drop (own_place k.view).done (actions k.view.plan (task_of k.view)) ≡ x ∷ xs → next_action k.view ≡ Some x
unfolding action_at
next_is k x xs unrefused left =
    ap (action_after k.view.plan (task_of k.view) (own_place k.view).done) unrefused
    ∙ first_left (actions k.view.plan (task_of k.view)) (own_place k.view).done x xs left

-- the seat k has made the step x and is m then, and these actions are left
pub record HasStepped (k m : Known) (x : Action) (xs : List Action) : Type 0 where
  pub free : m.view.holds ≡ false
  pub unrefused : (own_place m.view).dropped ≡ None
  pub left : drop (own_place m.view).done (actions m.view.plan (task_of m.view)) ≡ xs
  pub plan : m.view.plan ≡ k.view.plan
  pub task : task_of m.view ≡ task_of k.view
  pub event : event_of m ≡ awaited (Some x) (phases_after k.view.plan (task_of k.view) (own_place k.view).done)

pub moved_here : (t : ℕ) (x : Action) (s : SeenBy) → (seen_after_step t x s).places t ≡ next_place (s.places t).done (s.places t).dropped x
moved_here t (Makes p) s = updated_same s.places t t (next_place (s.places t).done (s.places t).dropped (Makes p)) refl
moved_here t (Registers c p) s = updated_same s.places t t (next_place (s.places t).done (s.places t).dropped (Registers c p)) refl
moved_here t (Forks c) s = updated_same s.places t t (next_place (s.places t).done (s.places t).dropped (Forks c)) refl
moved_here t (Advances p) s = updated_same s.places t t (next_place (s.places t).done (s.places t).dropped (Advances p)) refl
moved_here t (Drops p) s = updated_same s.places t t (next_place (s.places t).done (s.places t).dropped (Drops p)) refl
moved_here t (Blocks p) s = updated_same s.places t t (next_place (s.places t).done (s.places t).dropped (Blocks p)) refl
moved_here t (Passes p) s = updated_same s.places t t (next_place (s.places t).done (s.places t).dropped (Passes p)) refl
moved_here t (Refuses p) s = updated_same s.places t t (next_place (s.places t).done (s.places t).dropped (Refuses p)) refl

pub place_undropped : (k : ℕ) (o : Option ℕ) (x : Action) → o ≡ None → ((aim : Aim) → x ≢ Refuses aim) → (next_place k o x).dropped ≡ None
place_undropped k o x e n = ap (λ (b : Place). b.dropped) (place_next_by_code k o x e n)

pub has_stepped :
    (k m : Known) (t : ℕ) (x : Action) (xs : List Action) → k.view.own ≡ Some t → k.view.holds ≡ false → (own_place k.view).dropped ≡ None →
    drop (own_place k.view).done (actions k.view.plan (task_of k.view)) ≡ x ∷ xs → ((aim : Aim) → x ≢ Refuses aim) → MakesStep x k m → HasStepped k m x xs
has_stepped k m t x xs own free unrefused left n step =
    record {
      free = step.same.holds ∙ free;
      unrefused = ap (λ (b : Place). b.dropped) place;
      left = (λ i. drop (done i) (actions (step.same.plan i) (task i))) ∙ rest_left (actions k.view.plan (task_of k.view)) (own_place k.view).done x xs left;
      plan = step.same.plan;
      task = task;
      event = event_here m t (step.same.own ∙ own) ∙ (λ i. published_after (step.same.plan i) (task i) (done i))
          ∙ ap (λ o. awaited o (phases_after k.view.plan (task_of k.view) (own_place k.view).done)) (next_there k.view x (next_is k x xs unrefused left)).1;
    }
  where
    task : task_of m.view ≡ task_of k.view
    task = ap (λ o. unwrap_or o 0) step.same.own

    place : own_place m.view ≡ record { done = suc (own_place k.view).done; dropped = None }
    place = ap (seen m.view).places task ∙ ap (λ (s : SeenBy). s.places (task_of k.view)) step.seen_now ∙ moved_here (task_of k.view) x (seen k.view) ∙
        place_next_by_code (own_place k.view).done (own_place k.view).dropped x unrefused n

    done : (own_place m.view).done ≡ suc (own_place k.view).done
    done = ap (λ (b : Place). b.done) place

-- these ops are left then, after all steps but a block
pub left_then : (k m : Known) (x : Action) (ops : List Op) → HasStepped k m x (actions_of ops) → ((aim : Aim) → x ≢ Blocks aim) → HasLeft ops m
left_then k m x ops s n =
    record {
      free = s.free;
      unrefused = s.unrefused;
      left = s.left ∙ sym (ap (λ o. left_of o ops) none);
    }
  where
    none : event_of m ≡ None
    none = s.event ∙ not_awaited x (phases_after k.view.plan (task_of k.view) (own_place k.view).done) n

-- and after a block, whose pass is left
pub left_published :
    (k m : Known) (aim : Aim) (ops : List Op) (e : Event) → HasStepped k m (Blocks aim) (Passes aim.phaser ∷ actions_of ops) → event_of m ≡ Some e →
    e.p.0 ≡ aim.phaser → HasLeft ops m
left_published k m aim ops e s is here =
    record {
      free = s.free;
      unrefused = s.unrefused;
      left = s.left ∙ sym (ap (λ o. left_of o ops) is ∙ ap (λ q. Passes q ∷ actions_of ops) here);
    }

-- and before the first step the whole code
all_left : (k : Known) → own_place k.view ≡ first_place → k.view.holds ≡ false → HasLeft (code_of k.view.plan (task_of k.view)) k
unfolding actions
all_left k first free =
    record {
      free = free;
      unrefused = ap (λ (b : Place). b.dropped) first;
      left = ap (λ (b : Place). drop b.done (actions k.view.plan (task_of k.view))) first ∙ ap (λ o. left_of o (code_of k.view.plan (task_of k.view))) (sym (none k.view.own refl));
    }
  where
    none : (o : Option ℕ) → k.view.own ≡ o → event_of k ≡ None
    none None own = ap (λ o. own_event k.view.plan o (seen k.view)) own
    none (Some t) own = event_here k t own ∙ ap (λ (b : Place). published_after k.view.plan (task_of k.view) b.done) first

pub left_at_first :
    (k : Known) (t : ℕ) (plan : Plan) (ops : List Op) → k.view.own ≡ Some t → k.view.plan ≡ plan → ops ≡ code_of plan t → own_place k.view ≡ first_place →
    k.view.holds ≡ false → HasLeft ops k
left_at_first k t plan ops own plan_is all first free =
    subst (λ xs. HasLeft xs k) ((λ i. code_of (plan_is i) (ap (λ o. unwrap_or o 0) own i)) ∙ sym all) (all_left k first free)

-- the seat of a task that has published nothing, and to which this op and these behind it are left
pub record IsBefore (op : Op) (rest : List Op) (k : Known) : Type 0 where
  pub seat : IsSeat k
  pub own : k.view.own ≡ Some (task_of k.view)
  pub left : HasLeft (op ∷ rest) k
  pub idle : event_of k ≡ None

-- what is left behind the next op
pub left_behind : (r : Option Op) (old new : List Op) → IfSome r (λ op. old ≡ op ∷ new) → IfNone r ((old ≡ []) × (new ≡ [])) → new ≡ drop 1 old
left_behind None old new some none = none.1 ∙ sym (ap (drop 1) none.0)
left_behind (Some op) old new some none = sym (ap (drop 1) some)

pub is_before :
    (k now : Known) (t : ℕ) (ops rest : List Op) (o : Option Event) (op : Op) → k ≡ now → HasLeft ops k → k.view.own ≡ Some t → IsSeat k → is_some o ≡ false →
    o ≡ event_of now → ops ≡ op ∷ rest → IsBefore op rest k
is_before k now t ops rest o op same left own seat idle event is =
    record {
      seat = seat;
      own = own ∙ ap Some (sym (ap (λ o. unwrap_or o 0) own));
      left = subst (λ xs. HasLeft xs k) is left;
      idle = ap event_of same ∙ sym event ∙ none o idle;
    }
  where
    none : (o : Option Event) → is_some o ≡ false → o ≡ None
    none None e = refl
    none (Some e) h = absurd (false≢true (sym h))

-- the actions that an op has after its first
abbrev goes_on : Op → List Action → List Action
goes_on (Await p off) xs = Passes p.0 ∷ xs
goes_on op xs = xs

first_of : (op : Op) (ops : List Op) → actions_of (op ∷ ops) ≡ begins op ∷ goes_on op (actions_of ops)
first_of (Make p) ops = refl
first_of (Reg c p) ops = refl
first_of (Fork c) ops = refl
first_of (Adv p) ops = refl
first_of (Drop p) ops = refl
first_of (Await p off) ops = refl

module _ (op : Op) (rest : List Op) (k : Known) (b : IsBefore op rest k) where
  left_now : drop (own_place k.view).done (actions k.view.plan (task_of k.view)) ≡ begins op ∷ goes_on op (actions_of rest)
  left_now = b.left.left ∙ ap (λ o. left_of o (op ∷ rest)) b.idle ∙ first_of op rest

  pub before_next : next_action k.view ≡ Some (begins op)
  before_next = next_is k (begins op) (goes_on op (actions_of rest)) b.left.unrefused left_now

  pub before_of_plan : (plan : Plan) → k.view.plan ≡ plan → IsActionOfPlan plan (begins op)
  before_of_plan plan same = subst (λ q. IsActionOfPlan q (begins op)) same (next_of_plan k (begins op) b.seat before_next)

-- the step with which an op begins leaves what is left of the op, and the ops behind it
abbrev HasBegunOp : List Op → Known → Known → Op → Type 0
HasBegunOp rest k m op = HasStepped k m (begins op) (goes_on op (actions_of rest))

-- after that step the ops behind it are left
pub left_begun : (op : Op) (rest : List Op) (k m : Known) → IsBefore op rest k → MakesStep (begins op) k m → HasLeft rest m
left_begun op rest k m b step =
    by_op op refl (has_stepped k m (task_of k.view) (begins op) _ b.own b.left.free b.left.unrefused (left_now op rest k b) (no_refuse op) step)
  where
    no_refuse : (op : Op) (aim : Aim) → begins op ≢ Refuses aim
    no_refuse (Make q) p e = cc
    no_refuse (Reg c q) p e = cc
    no_refuse (Fork c) p e = cc
    no_refuse (Adv q) p e = cc
    no_refuse (Drop q) p e = cc
    no_refuse (Await q off) p e = cc

    member : (aim : Aim) → next_action k.view ≡ Some (Blocks aim) → (n : ℕ) × (phases_after k.view.plan (task_of k.view) (own_place k.view).done aim.phaser ≡ Some n)
    member aim next = (b.seat.checked.codes.well_formed (task_of k.view) (own_place k.view).done (Blocks aim) (next_there k.view (Blocks aim) next).1).0

    by_op : (o : Op) → op ≡ o → HasBegunOp rest k m op → HasLeft rest m
    by_op (Make p) is s = left_then k m (Makes p.0) rest (subst (HasBegunOp rest k m) is s) (λ q e. cc)
    by_op (Reg c p) is s = left_then k m (Registers c.0 p.0) rest (subst (HasBegunOp rest k m) is s) (λ q e. cc)
    by_op (Fork c) is s = left_then k m (Forks c.0) rest (subst (HasBegunOp rest k m) is s) (λ q e. cc)
    by_op (Adv p) is s = left_then k m (Advances p.0) rest (subst (HasBegunOp rest k m) is s) (λ q e. cc)
    by_op (Drop p) is s = left_then k m (Drops p.0) rest (subst (HasBegunOp rest k m) is s) (λ q e. cc)
    by_op (Await p off) is s =
        let phases : Phases = phases_after k.view.plan (task_of k.view) (own_place k.view).done in
        let found = awaited_some (aim_at p.0 off) phases (member (aim_at p.0 off) (before_next op rest k b ∙ ap (λ o. Some (begins o)) is)) in
        let t : HasStepped k m (Blocks (aim_at p.0 off)) (Passes p.0 ∷ actions_of rest) = subst (HasBegunOp rest k m) is s in
        left_published k m (aim_at p.0 off) rest found.0 t (t.event ∙ found.1) (awaited_is (aim_at p.0 off) phases found.0 found.1).0

-- a task that is published passes next
pub passes_next : (ops : List Op) (k : Known) (e : Event) → HasLeft ops k → event_of k ≡ Some e → next_action k.view ≡ Some (Passes e.p.0)
passes_next ops k e b is = next_is k (Passes e.p.0) (actions_of ops) b.unrefused (b.left ∙ ap (λ o. left_of o ops) is)

-- and then the same ops are left
pub left_passed : (ops : List Op) (k m : Known) (e : Event) (t : ℕ) → k.view.own ≡ Some t → HasLeft ops k → event_of k ≡ Some e → MakesStep (Passes e.p.0) k m → HasLeft ops m
left_passed ops k m e t own b is step =
    left_then k m (Passes e.p.0) ops
    (has_stepped k m t (Passes e.p.0) (actions_of ops) own b.free b.unrefused (b.left ∙ ap (λ o. left_of o ops) is) (λ p h. cc) step) (λ p h. cc)

-- the event of a published task
pub published_is : (o : Option Event) → IsSome o → (e : Event) × (o ≡ Some e)
published_is None h = absurd (false≢true h)
published_is (Some e) h = (e, refl)

-- a load begins no op
pub left_loaded :
    (ops : List Op) (k m : Known) (t : ℕ) (Holds : State → Type 0) → HasLeft ops k → k.view.own ≡ Some t → IsSeat k → IsSameSeat k.view m.view →
    ((u : ℕ) → (seen m.view).exact u ≡ (seen k.view).exact u) → WasSo k.view.plan k.view.mode Holds k.view m.view → HasLeft ops m
left_loaded ops k m t Holds b own seat same exact was =
    record {
      free = same.holds ∙ b.free;
      unrefused = ap (λ (x : Place). x.dropped) place ∙ b.unrefused;
      left = (λ i. drop (place i).done (actions (same.plan i) (task i))) ∙ b.left ∙ sym (ap (λ o. left_of o ops) event);
    }
  where
    task : task_of m.view ≡ task_of k.view
    task = ap (λ o. unwrap_or o 0) same.own

    here : task_of k.view ≡ t
    here = ap (λ o. unwrap_or o 0) own

    place : own_place m.view ≡ own_place k.view
    place =
        ap (seen m.view).places (task ∙ here)
        ∙ own_stays k.table k.view m.view t k.view.mode Holds seat own exact was
        ∙ ap (seen k.view).places (sym here)

    event : event_of m ≡ event_of k
    event = event_stays k.table m.table k.view m.view t k.view.mode Holds seat own same exact was

-- a new seat of task 0 stands where no step of it is seen
pub new_first : (f : Frame) (k : Known) → IsNewSeat f (Some 0) (seen_by_child 0 nothing_seen) k → own_place k.view ≡ first_place
new_first f k new = ap (λ (s : SeenBy). s.places (task_of k.view)) new.seen_is
