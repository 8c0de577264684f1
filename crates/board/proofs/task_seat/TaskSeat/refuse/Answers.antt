use Rattle.std.proofs.Common.{ℕ, sym, refl, ap, ◌∙◌, subst}
use mathlib.Core.Option.{none}
use Rattle.atomic_table.specs.Table.{Allows, step}
use Rattle.armus_base.specs.declared.event.Event.{Event}
use Rattle.armus_base.specs.Plans.{Blocks}
use Rattle.board.specs.calls.Rule.{IsKept}
use Rattle.board.specs.calls.Views.{avoids, seen, task_of}
use Rattle.board.specs.calls.Seats.{aim_at, Known}
use Rattle.board.specs.calls.Locking.{IsWithLock, MayRefuse, Refused}
use Rattle.board.proofs.Stores.{refuses}
use Rattle.board.proofs.Seated.{target_is, task_inside}
use Rattle.board.proofs.Called.{in_table, next_here, of_board, own_small}
use Rattle.board.proofs.Holding.{may_refuse_here, refuses_sitting, refuses_step}
use Rattle.board.proofs.task_seat.TaskSeat.refuse.Goals as goal

pub member_phase-phase-requires-clause-member : goal.member_phase-phase-requires-clause-member
member_phase-phase-requires-clause-member c = record { action = Blocks (aim_at c.args.p.0 c.args.off); next = c.requires.next; by_member = refl }

pub await_index-index-requires : goal.await_index-index-requires
await_index-index-requires c = own_small c.self.invariant.sitting (c.self.view_is ∙ c.member_phase-phase.ensures.seat) c.requires.made

pub store-requires : goal.store-requires
store-requires c =
    let s = c.self.view_is ∙ c.member_phase-phase.ensures.seat in
    let i = c.self.invariant.sitting in
    let o = of_board s c.board.view_is c.requires.made in
    let slots = c.board.inside.cells.shared.table_id.slots in
    let me = c.self.inside.place.me in
    let aim = aim_at c.args.p.0 c.args.off in
    let w = c.refused_number-word.result in
    let e : Event = record { p = c.args.p; n = c.target.result } in
    let held = ap (λ (k : Known). k.view.holds) s ∙ c.requires.locked in (
      o.table,
      in_table c.board.view_is c.await_index-index.ensures.inside,
      subst (λ (n : ℕ). Allows (IsKept c.board.inside.cells.shared.key) slots c.self.inside.place.id me n (λ _. w) (λ _. Refused (step slots n w 0 none) me w))
          (sym c.await_index-index.ensures.index)
          (refuses _ _ _ _ _ _ _ aim e i.task i.seat.live held (ap avoids (sym o.mode) ∙ i.seat.lock held)
          (may_refuse_here _ _ _ aim o i.task (subst (λ (k : Known). MayRefuse k aim) (sym s) c.requires.dead)) (next_here s c.requires.next)
          (target_is _ _ c.args.p.0 _ _ c.args.off s c.member_phase-phase.ensures.phase c.target.ensures) refl c.refused_number-word.ensures),
    )

pub invariant_of-self : goal.invariant_of-self
invariant_of-self c =
    let i = c.self.invariant.sitting in
    let aim = aim_at c.args.p.0 c.args.off in record {
      no_slot = c.store.ensures.2.0 ∙ c.self.invariant.no_slot;
      sitting = refuses_sitting aim i.seat (task_inside _ _ i.seat i.task)
          (c.store.ensures.2.1 aim (next_here (c.self.view_is ∙ c.member_phase-phase.ensures.seat) c.requires.next)) i;
    }

pub returns-clause-step : goal.returns-clause-step
returns-clause-step c =
    let i = c.self.invariant.sitting in
    let s = c.self.view_is ∙ c.member_phase-phase.ensures.seat in
    let aim = aim_at c.args.p.0 c.args.off in
    refuses_step aim i.seat (task_inside _ _ i.seat i.task) (c.store.ensures.2.1 aim (next_here s c.requires.next)) s c.store.ensures.0

pub returns-clause-was : goal.returns-clause-was
returns-clause-was c =
    subst (λ (k : Known). IsWithLock k.view.plan (task_of k.view) (seen k.view)) (c.self.view_is ∙ c.member_phase-phase.ensures.seat) c.store.ensures.2.2
