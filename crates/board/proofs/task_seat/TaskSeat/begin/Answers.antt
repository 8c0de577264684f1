use Rattle.std.proofs.Common.{sym, ap, ◌∙◌, subst, arith}
use Rattle.armus_base.specs.CheckedPlans.{IsCheckedPlan}
use Rattle.board.specs.declared.view.View.{View}
use Rattle.board.specs.calls.Seats.{Frame}
use Rattle.board.proofs.Forking.{watches_opening}
use Rattle.board.proofs.Beginning.{first_new, first_sitting}
use Rattle.board.proofs.task_seat.TaskSeat.begin.Goals as goal

pub split_seat-other-requires : goal.split_seat-other-requires
split_seat-other-requires c =
    let b = c.board.view_is in
    let key = c.board.inside.cells.shared.key in (
      c.requires.place.0 ∙ sym (ap (λ (f : Frame). f.table) b),
      (let n = c.board.invariant.words in omega arith),
      watches_opening key.plan.value key.mode _ _ (ap (λ (v : View). v.spent) c.requires.first.3),
    )

pub invariant_of-seat : goal.invariant_of-seat
invariant_of-seat c =
    let e = c.split_seat-other.ensures in
    let f = c.requires.first in
    let b = c.board.view_is in record {
      no_slot = ap (λ m. m.1) e.2 ∙ c.requires.place.1;
      sitting = first_sitting f.0 c.args.board.now c.split_seat-other.new.seat.table_id f.1 f.2 (e.0 ∙ c.requires.place.0) c.split_seat-other.new.seat.me.0
          (ap (λ m. m.0) e.2 ∙ f.3)
          (subst IsCheckedPlan (ap (λ (g : Frame). g.plan) b ∙ sym f.1) c.board.invariant.checked);
    }

pub returns-clause-seat : goal.returns-clause-seat
returns-clause-seat c =
    let e = c.split_seat-other.ensures in
    let f = c.requires.first in
    first_new f.0 c.args.board.now c.split_seat-other.new.seat.table_id f.1 f.2 (e.0 ∙ c.requires.place.0) c.split_seat-other.new.seat.me.0 (ap (λ m. m.0) e.2 ∙ f.3)
    (subst IsCheckedPlan (ap (λ (g : Frame). g.plan) c.board.view_is ∙ sym f.1) c.board.invariant.checked)

pub returns-clause-other : goal.returns-clause-other
returns-clause-other c =
    let e = c.split_seat-other.ensures in (e.3 ∙ c.requires.place.0, e.4)
