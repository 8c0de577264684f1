-- The tasks of a run without rounds: what a stretch of a turn makes of one, and what is known of each.
use Rattle.std.proofs.Common.{◌≡◌, ℕ, ◌<◌, List, [], ◌++◌, Some, length, get_or, sym, refl, ap, ◌∙◌, subst, arith}
use Rattle.std.specs.Prelude.{All, Contains}
use Rattle.armus_base.specs.Plans.{Action, Forks, Plan, action_at}
use Rattle.armus_base.specs.Runs.{Place}
use Rattle.armus_base.specs.calls.Seats.{seen_by_child}
use Rattle.armus_base.proofs.Elements.{Contains-head}
use Rattle.board.specs.calls.Views.{own_place, task_of}
use Rattle.board.specs.calls.Seats.{Frame, IsNewSeat, IsOf, Known, nothing_seen}
use Rattle.board_runs.specs.calls.Turns.{MakesActions, AreChildSeats, IsChildSeat, Working, tasks_forked}
use Rattle.board_runs.specs.calls.TaskSeats.{HasSeatOf, AreTaskSeats, IsTaskSeat, IsSeatIn, own_number}
use Rattle.board_runs.proofs.Between.{all_from, first_task_seats, to_each}
use Rattle.board_runs.proofs.TaskSeatsKept.{child_is, goes_with_seats}
use Rattle.board_runs.proofs.Goings.{task_is}
use Rattle.task_runner.specs.inside.Pooled.{AreClosedUnderForks, IsForked, ContainsTask, IsPooled}

pub acted : (f : Frame) (own : List Action) (a b : Working) → IsPooled f a → MakesActions f own a b → IsTaskSeat f b.seat
acted f own a b pooled acts = goes_with_seats f own a.seat b.seat pooled.seat acts.goes

-- it has the seats of those that it forked, and no others
pub forked : (f : Frame) (own : List Action) (a b : Working) → IsPooled f a → MakesActions f own a b → All (IsForked f) b.children
forked f own a b pooled acts =
    let seats : AreChildSeats f (tasks_forked own) b.children = subst (AreChildSeats f (tasks_forked own)) (sym (acts.children ∙ ap (λ ks. ks ++ acts.new) pooled.no_child)) acts.seats in
    all_from (IsForked f) b.children (λ k i. child_is k seats i)

-- the seat of a task that was just forked
pub child_task_seats : (f : Frame) (k : Known) → IsForked f k → IsTaskSeat f k
child_task_seats f k child =
    let s : IsChildSeat f child.0 k = child.1 in
    record {
      of_board = s.of_board;
      kept = s.kept;
      free = s.free;
      task = child.0;
      own = s.own;
      alone = s.alone;
      within = (let z : (own_place k.view).done ≡ 0 = ap (λ (x : Place). x.done) s.first in omega arith);
    }

-- and that of task 0 on a new board
pub root_task_seats : (f : Frame) (k : Known) → IsNewSeat f (Some 0) (seen_by_child 0 nothing_seen) k → IsTaskSeat f k
root_task_seats f k new =
    let w : Working = record { seat = k; children = [] } in
    (first_task_seats f w new).each k (w, Contains-head w [], refl)

-- a task of the plan
pub small : (f : Frame) (plan : Plan) (k : Known) → f.plan ≡ plan → IsTaskSeat f k → task_of k.view < length plan.parents
small f plan k same s =
    let t = task_is k s.task s.own in
    let l = (s.kept.own s.task s.own).0 in
    let p : length k.view.plan.parents ≡ length plan.parents = ap (λ (q : Plan). length q.parents) (s.of_board.plan ∙ same) in
    omega arith

-- tasks among which are all that one of them has forked are a board_tasks
pub whole_task_seats : (f : Frame) (tasks : List Working) → All (λ (w : Working). IsTaskSeat f w.seat) tasks → AreClosedUnderForks f.plan tasks → AreTaskSeats f (IsSeatIn tasks)
whole_task_seats f tasks all whole =
    record {
      each = λ k at. subst (IsTaskSeat f) (sym at.2) (seat_of at.0 at.1);
      root = has 0 whole.root;
      forked = λ k at j c l is.
          has c
          (whole.forked at.0 at.1 j c (subst (λ (m : Known). j < (own_place m.view).done) at.2 l)
          (subst (λ (m : Known). action_at f.plan (task_of m.view) j ≡ Some (Forks c)) at.2 is));
    }
  where
    seat_of : (w : Working) → Contains tasks w → IsTaskSeat f w.seat
    seat_of = to_each (λ (w : Working). IsTaskSeat f w.seat) tasks all

    has : (c : ℕ) → ContainsTask tasks c → HasSeatOf (IsSeatIn tasks) c
    has c worker_value =
        let s = seat_of worker_value.0 worker_value.1 in
        (worker_value.0.seat, (worker_value.0, worker_value.1, refl), s.own ∙ ap Some (sym (task_is worker_value.0.seat s.task s.own) ∙ worker_value.2))

-- what is known of each of these tasks
module _ (f : Frame) (tasks : List Working) (pooled : All (IsPooled f) tasks) where
  pub pooled_seats : All (λ (w : Working). IsTaskSeat f w.seat) tasks
  pooled_seats = λ k d l. (pooled k d l).seat

  pub pooled_of : All (λ (w : Working). IsOf w.seat f) tasks
  pooled_of = λ k d l. (pooled k d l).seat.of_board

  pub pooled_none : All (λ (w : Working). w.children ≡ []) tasks
  pooled_none = λ k d l. (pooled k d l).no_child

  pub pooled_within : (n : ℕ) → length f.plan.parents ≡ n → All (λ (w : Working). own_number w < n) tasks
  pooled_within n e = λ k d l. subst (λ m. own_number (get_or tasks k d) < m) e (small f f.plan (get_or tasks k d).seat refl (pooled k d l).seat)
