-- How many actions a task has made.
use Rattle.std.proofs.Common.{◌≡◌, ℕ, suc, ◌<◌, ◌≤◌, ◌+◌, ◌-◌, List, [], ◌∷◌, ◌++◌, Option, Some, None, length, length-append, refl, sym, ap, ◌∙◌, arith, inl, inr}
use Rattle.std.specs.Prelude.{is_some, if◌then◌else◌}
use Rattle.armus_base.specs.Plans.{Action, Advances, Blocks, Drops, Forks, Makes, Passes, Plan, Refuses, Registers, actions, in_code}
use Rattle.armus_base.specs.Runs.{IsByCode, Place, next_place}
use Rattle.armus_base.specs.CheckedPlans.{IsCheckedPlan}
use Rattle.pl_core.proofs.StepKinds.{few_actions}
use Rattle.board.specs.calls.Views.{own_place, task_of}
use Rattle.board.specs.calls.Seats.{Frame, Known}
use Rattle.board_runs.specs.calls.Turns.{MakesActions, CountsActions, LeadsByCode, Working, max_actions}
use Rattle.board_runs.specs.inside.Tasks.{MakesSome}
use Rattle.board_runs.specs.calls.TaskSeats.{progress_of}
use Rattle.board_runs.proofs.Advancing.{no_drop, task_further}
use Rattle.board_runs.proofs.TaskSeatsKept.{by_code_is, has_left}
use Rattle.board_runs.proofs.Goings.{no_seats, same_task}

-- how many actions lead to a place
abbrev made_to : ℕ → Option ℕ → ℕ
made_to k None = k
made_to k (Some d) = suc (k + d)

one_more : (plan : Plan) (t k : ℕ) (o : Option ℕ) (x : Action) → IsByCode plan t k o x → made_to (next_place k o x).done (next_place k o x).dropped ≡ suc (made_to k o)
one_more plan t k None (Makes p) by = refl
one_more plan t k None (Registers c p) by = refl
one_more plan t k None (Forks c) by = refl
one_more plan t k None (Advances p) by = refl
one_more plan t k None (Drops p) by = refl
one_more plan t k None (Blocks p) by = refl
one_more plan t k None (Passes p) by = refl
one_more plan t k None (Refuses p) by = omega arith
one_more plan t k (Some d) (Drops p) by = omega arith
one_more plan t k (Some d) (Makes p) by = absurd by
one_more plan t k (Some d) (Registers c p) by = absurd by
one_more plan t k (Some d) (Forks c) by = absurd by
one_more plan t k (Some d) (Advances p) by = absurd by
one_more plan t k (Some d) (Blocks p) by = absurd by
one_more plan t k (Some d) (Passes p) by = absurd by
one_more plan t k (Some d) (Refuses p) by = absurd by

all_more : (plan : Plan) (t : ℕ) (a : Place) (own : List Action) (b : Place) → LeadsByCode plan t a own b → made_to b.done b.dropped ≡ made_to a.done a.dropped + length own
all_more plan t a [] b same = (let e : made_to b.done b.dropped ≡ made_to a.done a.dropped = ap (λ (x : Place). made_to x.done x.dropped) same in omega arith)
all_more plan t a (x ∷ own) b steps =
    (let e = one_more plan t a.done a.dropped x steps.0 in
    let r = all_more plan t (next_place a.done a.dropped x) own b steps.1 in
    omega arith)

-- a task that is not refused has made as many actions as its place tells
undropped_more : (plan : Plan) (t : ℕ) (a : Place) (own : List Action) (b : Place) → a.dropped ≡ None → b.dropped ≡ None → LeadsByCode plan t a own b → b.done ≡ a.done + length own
undropped_more plan t a own b first last steps =
    (let r = all_more plan t a own b steps in
    let x : made_to a.done a.dropped ≡ a.done = ap (made_to a.done) first in
    let y : made_to b.done b.dropped ≡ b.done = ap (made_to b.done) last in
    omega arith)

-- a task that makes some actions was not refused
pub was_unrefused : (f : Frame) (made : ℕ) (w v : Working) → MakesSome f made w v → (own_place w.seat.view).dropped ≡ None
was_unrefused f made w v m = elim (no_drop (own_place w.seat.view).dropped) [
  | inl none ↦ none
  | inr some ↦ (let e : length m.own ≡ 0 = ap length (m.acts.refused some) in let c = m.counted in let s = m.some in absurd (omega arith))
]

pub counts_on : (f : Frame) (own made : ℕ) (w v : Working) → CountsActions own w → MakesSome f made w v → CountsActions (own + made) v
counts_on f own made w v c m =
    let plan = w.seat.view.plan in
    let t = task_of w.seat.view in
    let a = own_place w.seat.view in
    let b = own_place v.seat.view in
    let none = was_unrefused f made w v m in
    let steps : LeadsByCode plan t a m.own b = m.acts.goes.place in
    let same : length (actions v.seat.view.plan (task_of v.seat.view)) ≡ length (actions plan t) =
    (λ i. length (actions (m.acts.goes.same.plan i) (same_task w.seat v.seat m.acts.goes.same i))) in
    let before = c.unrefused none in
    record {
      unrefused = λ last. (let e = undropped_more plan t a m.own b none last steps in let n = m.counted in omega arith);
      few = (let l = m.within in let k = m.few in omega arith);
    }

-- who makes no step makes no event
pub counts_still : (f : Frame) (n : ℕ) (w v : Working) → CountsActions n w → MakesActions f [] w v → CountsActions n v
counts_still f n w v c acts =
    let place : own_place v.seat.view ≡ own_place w.seat.view = acts.goes.place in
    let same : length (actions v.seat.view.plan (task_of v.seat.view)) ≡ length (actions w.seat.view.plan (task_of w.seat.view)) =
    (λ i. length (actions (acts.goes.same.plan i) (same_task w.seat v.seat acts.goes.same i))) in
    record {
      unrefused = λ none. (let l = c.unrefused (ap (λ (x : Place). x.dropped) (sym place) ∙ none) in let d = ap (λ (x : Place). x.done) place in omega arith);
      few = (let l = c.few in omega arith);
    }

-- how much is left to a task, which falls with its actions
abbrev pub left_to_task : Working → ℕ
left_to_task w = (length (actions w.seat.view.plan (task_of w.seat.view)) + 1) - progress_of w

pub leaves_by : (f : Frame) (own : List Action) (w v : Working) → MakesActions f own w v → 0 < length own → left_to_task v < left_to_task w
leaves_by f [] w v acts some = absurd (omega arith)
leaves_by f (x ∷ own) w v acts some = elim (no_drop (own_place w.seat.view).dropped) [
  | inl none ↦
      let plan = w.seat.view.plan in
      let t = task_of w.seat.view in
      let k = (own_place w.seat.view).done in
      let within = has_left plan t k (in_code x) (by_code_is plan t k (own_place w.seat.view).dropped x none acts.goes.place.0) in
      let same : length (actions v.seat.view.plan (task_of v.seat.view)) ≡ length (actions plan t) = (λ i. length (actions (acts.goes.same.plan i) (same_task w.seat v.seat acts.goes.same i))) in
      let more = task_further f (x ∷ own) w v acts some in
      let first : progress_of w ≡ k = ap (λ o. k + (if is_some o then 1 else 0)) none ∙ (let z : k + 0 ≡ k = omega arith in z) in
      omega arith
  | inr some ↦ absurd (let e : suc (length own) ≡ 0 = ap length (acts.refused some) in omega arith)
]

pub leaves_less : (f : Frame) (made : ℕ) (w v : Working) → MakesSome f made w v → left_to_task v < left_to_task w
leaves_less f made w v m = leaves_by f m.own w v m.acts (let n = m.counted in let s = m.some in omega arith)

-- who has forked a task has made a step
pub forked_some : (f : Frame) (own : List Action) (w v : Working) (seat : Known) → MakesActions f own w v → v.children ≡ w.children ++ seat ∷ [] → 0 < length own
forked_some f [] w v seat acts forked =
    (let a = ap length (acts.children ∙ ap (λ ks. w.children ++ ks) (no_seats acts.seats)) in
    let b = ap length forked in
    let c = length-append w.children [] in
    let d = length-append w.children (seat ∷ []) in
    absurd (omega arith))
forked_some f (x ∷ own) w v seat acts forked = omega arith

pub counts_nothing : (w : Working) → CountsActions 0 w
counts_nothing w = record { unrefused = λ none. omega arith; few = omega arith }

-- a task makes few actions in a turn
pub few_in_turn : (own : ℕ) (w : Working) → IsCheckedPlan w.seat.view.plan → CountsActions own w → own ≤ max_actions
few_in_turn own w checked c =
    (let few = few_actions w.seat.view.plan (task_of w.seat.view) checked in let l = c.few in omega arith)
