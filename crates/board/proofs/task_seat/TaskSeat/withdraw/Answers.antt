use Rattle.std.proofs.Common.{ℕ, length, sym, ap, ◌∙◌, subst}
use mathlib.Core.Option.{none}
use Rattle.atomic_table.specs.Table.{Allows, step}
use Rattle.armus_base.specs.Plans.{Passes}
use Rattle.board.specs.calls.Rule.{IsKept}
use Rattle.board.specs.calls.Views.{seen}
use Rattle.board.specs.calls.Seats.{Frame, Known, event_of}
use Rattle.board.specs.calls.Steps.{Withdrawn}
use Rattle.board.proofs.Stores.{passes}
use Rattle.board.proofs.Seated.{event_is, makes_step, passes_sitting}
use Rattle.board.proofs.Called.{in_table, is_free, of_board, own_small}
use Rattle.board.proofs.task_seat.TaskSeat.withdraw.Goals as goal

pub await_index-index-requires : goal.await_index-index-requires
await_index-index-requires c = own_small c.self.invariant.sitting c.self.view_is c.requires.made

pub store-requires : goal.store-requires
store-requires c =
    let b = c.board.view_is in
    let s = c.self.view_is in
    let o = of_board s b c.requires.made in
    let slots = c.board.inside.cells.shared.table_id.slots in
    let me = c.self.inside.place.me in
    let e = event_is c.args.self.now c.requires.event in (
      o.table,
      in_table b c.await_index-index.ensures.inside,
      subst (λ (n : ℕ). Allows (IsKept c.board.inside.cells.shared.key) slots c.self.inside.place.id me n (λ _. 0)
          (λ _. Withdrawn (step slots n 0 0 none) me 0))
          (sym c.await_index-index.ensures.index)
          (passes _ _ _ _ _ _ e.0 (is_free c.self.invariant.sitting s c.requires.unlocked) o.plan
          (ap event_of s ∙ e.1) (ap (λ (k : Known). (seen k.view).scanned) s ∙ c.requires.scanned ∙ ap (λ (f : Frame). length f.plan.parents) (sym b))),
    )

pub invariant_of-self : goal.invariant_of-self
invariant_of-self c =
    let e = event_is c.args.self.now c.requires.event in
    let told = c.store.ensures.2.1 e.0 (ap event_of c.self.view_is ∙ e.1) in
    record {
      no_slot = c.store.ensures.2.0 ∙ c.self.invariant.no_slot;
      sitting = passes_sitting e.0.p.0 c.self.invariant.sitting told.1 told.0;
    }

pub returns-clause-step : goal.returns-clause-step
returns-clause-step c = λ e is.
    let told = c.store.ensures.2.1 e (ap event_of c.self.view_is ∙ is) in
    makes_step (Passes e.p.0) c.self.view_is c.self.invariant.sitting told.1 told.0 c.store.ensures.0

pub returns-clause-event : goal.returns-clause-event
returns-clause-event c =
    let e = event_is c.args.self.now c.requires.event in
    let told = c.store.ensures.2.1 e.0 (ap event_of c.self.view_is ∙ e.1) in
    sym (passes_sitting {table' = c.store.new.seat.table_id} e.0.p.0 c.self.invariant.sitting told.1 told.0).event
