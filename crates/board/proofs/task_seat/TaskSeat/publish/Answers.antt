use Rattle.std.proofs.Common.{◌≡◌, ℕ, Some, sym, refl, ap, ◌∙◌, subst}
use mathlib.Core.Option.{none}
use Rattle.atomic_table.specs.Table.{Allows, step}
use Rattle.armus_base.specs.declared.event.Event.{Event}
use Rattle.armus_base.specs.Plans.{Blocks}
use Rattle.board.specs.calls.Rule.{IsKept}
use Rattle.board.specs.calls.Views.{avoids, seen, task_of}
use Rattle.board.specs.calls.Seats.{aim_at, Known, MayPublish}
use Rattle.board.specs.calls.Steps.{next_view}
use Rattle.board.specs.calls.Locking.{IsWithLock, Published}
use Rattle.board.specs.inside.Sitting.{IsSitting}
use Rattle.board.proofs.Acting.{next_view_is}
use Rattle.board.proofs.Stores.{publishes}
use Rattle.board.proofs.Seated.{blocks_sitting, makes_step, may_publish_here, target_is}
use Rattle.board.proofs.Called.{in_table, next_here, of_board, own_small}
use Rattle.board.proofs.task_seat.TaskSeat.publish.Goals as goal

pub member_phase-phase-requires-clause-member : goal.member_phase-phase-requires-clause-member
member_phase-phase-requires-clause-member c = record { action = Blocks (aim_at c.args.p.0 c.args.off); next = c.requires.next; by_member = refl }

pub await_index-index-requires : goal.await_index-index-requires
await_index-index-requires c = own_small c.self.invariant.sitting (c.self.view_is ∙ c.member_phase-phase.ensures.seat) c.requires.made

pub store-requires : goal.store-requires
store-requires c =
    let s = c.self.view_is ∙ c.member_phase-phase.ensures.seat in
    let i = c.self.invariant.sitting in
    let o = of_board s c.board.view_is c.requires.made in
    let slots = c.board.inside.cells.shared.table_id.slots in
    let me = c.self.inside.place.me in
    let aim = aim_at c.args.p.0 c.args.off in
    let w = c.event_number-word.result in
    let e : Event = record { p = c.args.p; n = c.target-n.result } in (
      o.table,
      in_table c.board.view_is c.await_index-index.ensures.inside,
      subst (λ (n : ℕ). Allows (IsKept c.board.inside.cells.shared.key) slots c.self.inside.place.id me n (λ _. w)
          (λ _. Published (step slots n w 0 none) me w))
          (sym c.await_index-index.ensures.index)
          (publishes _ _ _ _ _ _ _ aim e i.task i.seat.live
          (may_publish_here _ _ _ aim o i.task (subst (λ (k : Known). MayPublish k aim) (sym s) c.requires.avoids)) (next_here s c.requires.next)
          (target_is _ _ c.args.p.0 _ _ c.args.off s c.member_phase-phase.ensures.phase c.target-n.ensures) refl c.event_number-word.ensures),
    )

-- what the store told: the seat's view, and what the seat keeps
told :
    (c : goal.After-self-2-1) → (c.store.new.seat.me.0 ≡ next_view c.self.inside.place.me.0) ×
    IsSitting c.self.inside.task.0 0 (Some (record { p = c.args.p; n = c.target-n.result }))
    (record { table = c.store.new.seat.table_id; view = c.store.new.seat.me.0 })
told c =
    let s = c.self.view_is ∙ c.member_phase-phase.ensures.seat in
    let aim = aim_at c.args.p.0 c.args.off in
    let next = next_here s c.requires.next in
    let is = c.store.ensures.2.1 aim next ∙ next_view_is c.self.inside.place.me.0 (Blocks aim) next in (
      is,
      blocks_sitting aim _ c.self.invariant.sitting next (target_is _ _ c.args.p.0 _ _ c.args.off s c.member_phase-phase.ensures.phase c.target-n.ensures)
          refl is,
    )

pub invariant_of-self : goal.invariant_of-self
invariant_of-self c = record { no_slot = c.store.ensures.2.0 ∙ c.self.invariant.no_slot; sitting = (told c).1 }

pub returns-clause-event : goal.returns-clause-event
returns-clause-event c = sym (told c).1.event

pub returns-clause-step : goal.returns-clause-step
returns-clause-step c =
    let s = c.self.view_is ∙ c.member_phase-phase.ensures.seat in
    makes_step (Blocks (aim_at c.args.p.0 c.args.off)) s c.self.invariant.sitting (next_here s c.requires.next) (told c).0 c.store.ensures.0

pub returns-clause-was : goal.returns-clause-was
returns-clause-was c =
    λ avoiding.
    let s = c.self.view_is ∙ c.member_phase-phase.ensures.seat in
    subst (λ (k : Known). IsWithLock k.view.plan (task_of k.view) (seen k.view)) s (c.store.ensures.2.2 (ap (λ (k : Known). avoids k.view.mode) s ∙ avoiding))
