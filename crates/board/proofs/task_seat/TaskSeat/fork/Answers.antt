use Rattle.std.proofs.Common.{◌≡◌, Some, sym, ap, ◌∙◌, subst, arith}
use Rattle.atomic_table.specs.Table.{Splits}
use Rattle.armus_base.specs.Plans.{Forks}
use Rattle.armus_base.specs.Runs.{first_place}
use Rattle.armus_base.specs.calls.Seats.{seen_by_child}
use Rattle.board.specs.declared.view.View.{View}
use Rattle.board.specs.calls.Rule.{IsKept}
use Rattle.board.specs.calls.Views.{next_action, place_in, seen}
use Rattle.board.specs.calls.Seats.{IsNewSeat, IsOf, Known}
use Rattle.board.specs.calls.Steps.{child, next_view}
use Rattle.board.proofs.Forking.{forks, unforked}
use Rattle.board.proofs.Seated.{acts_sitting, child_apart, child_first, child_new, child_sitting, makes_step, task_inside}
use Rattle.board.proofs.Called.{next_here, of_board}
use Rattle.board.proofs.task_seat.TaskSeat.fork.Goals as goal
use Rattle.board.proofs.task_seat.TaskSeat.fork.Goals.{After-split_seat-place}

pub load-requires : goal.load-requires
load-requires c =
    let s = c.self.view_is in
    let i = c.self.invariant.sitting in
    let o = of_board s c.board.view_is c.requires.made in
    let key = c.board.inside.cells.shared.key in (
      o.table,
      (let n = c.board.invariant.words in omega arith),
      unforked key.plan.value key.mode _ _ _ c.self.inside.task.0 i.task i.seat.live (ap (λ (k : Known). k.view.holds) s ∙ c.requires.unlocked),
    )

pub split_seat-place-requires : goal.split_seat-place-requires
split_seat-place-requires c =
    let s = c.self.view_is in
    let i = c.self.invariant.sitting in
    let o = of_board s c.board.view_is c.requires.made in
    let key = c.board.inside.cells.shared.key in
    let same = sym c.load.ensures.2.0 in (
      c.load.ensures.0 ∙ o.table,
      (let n = c.board.invariant.words in omega arith),
      subst (λ (v : View). Splits (IsKept key) c.load.new.seat.id v (next_view v) (child v)) same
          (forks key.plan.value key.mode c.load.new.seat.id c.self.inside.place.me.0 c.self.inside.task.0 c.args.c.0 i.task i.seat.live
          (ap (λ (k : Known). k.view.holds) s ∙ c.requires.unlocked)
          (next_here s c.requires.next)),
    )

-- what the load and the split told
record Told (c : After-split_seat-place) : Type 0 where
  pub next : next_action c.self.inside.place.me.0 ≡ Some (Forks c.args.c.0)
  pub unseen : place_in c.self.inside.place.me.0.sight.places c.args.c.0 ≡ first_place
  pub parent : c.split_seat-place.new.seat.me.0 ≡ next_view c.self.inside.place.me.0
  pub child_is : c.split_seat-place.result.me.0 ≡ child c.self.inside.place.me.0
  pub table : c.split_seat-place.new.seat.table_id ≡ c.self.inside.place.table_id
  pub child_table : c.split_seat-place.result.table_id ≡ c.self.inside.place.table_id

told : (c : After-split_seat-place) → Told c
told c =
    let next = next_here c.self.view_is c.requires.next in
    let e = c.split_seat-place.ensures in record {
      next = next;
      unseen = c.load.ensures.2.2 c.args.c.0 next;
      parent = ap (λ m. m.0) e.2 ∙ ap next_view c.load.ensures.2.0;
      child_is = ap (λ m. m.0) e.4 ∙ ap child c.load.ensures.2.0;
      table = e.0 ∙ c.load.ensures.0;
      child_table = e.3 ∙ c.load.ensures.0;
    }

pub invariant_of-result : goal.invariant_of-result
invariant_of-result c =
    let t = told c in
    let i = c.self.invariant.sitting in record {
      no_slot = ap (λ m. m.1) c.split_seat-place.ensures.4;
      sitting = child_sitting c.self.inside.place.table_id c.split_seat-place.result.table_id c.self.inside.place.me.0 c.split_seat-place.result.me.0 _ _
          c.args.c.0 _ i t.next t.unseen
          (child_apart _ _ c.args.c.0 i.seat i.task t.next) t.child_is;
    }

pub invariant_of-self : goal.invariant_of-self
invariant_of-self c =
    let t = told c in record {
      no_slot = ap (λ m. m.1) c.split_seat-place.ensures.2 ∙ c.load.ensures.2.1 ∙ c.self.invariant.no_slot;
      sitting = acts_sitting (Forks c.args.c.0) c.self.invariant.sitting t.next (λ q e. cc) (λ q e. cc) (λ q e. cc) t.parent;
    }

pub returns-clause-step : goal.returns-clause-step
returns-clause-step c =
    let t = told c in
    makes_step (Forks c.args.c.0) c.self.view_is c.self.invariant.sitting t.next t.parent t.table

pub returns-clause-child : goal.returns-clause-child
returns-clause-child c =
    let t = told c in
    let i = c.self.invariant.sitting in
    let of = subst (λ k. IsOf k c.args.board.now) (sym c.self.view_is) c.requires.made in
    subst (λ (v : View). IsNewSeat c.args.board.now (Some c.args.c.0) (seen_by_child c.args.c.0 (seen v))
    (record { table = c.split_seat-place.result.table_id; view = c.split_seat-place.result.me.0 })) (sym t.parent)
    (child_new _ _ c.split_seat-place.result.table_id c.split_seat-place.result.me.0 c.args.c.0 of t.child_table t.next t.child_is
    (child_sitting c.self.inside.place.table_id c.split_seat-place.result.table_id c.self.inside.place.me.0 c.split_seat-place.result.me.0 _ _ c.args.c.0 _ i t.next t.unseen
    (child_apart _ _ c.args.c.0 i.seat i.task t.next) t.child_is).seat)

pub returns-clause-first : goal.returns-clause-first
returns-clause-first c =
    let t = told c in
    let i = c.self.invariant.sitting in
    child_first c.self.inside.place.me.0 c.split_seat-place.result.me.0 c.args.c.0 (task_inside _ _ i.seat i.task) t.next t.unseen
    (child_apart _ _ c.args.c.0 i.seat i.task t.next) t.child_is
