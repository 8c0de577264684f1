use Rattle.std.proofs.Common.{◌+◌, ℕ, eqb, sym, ap, ◌∙◌, subst, arith}
use mathlib.Core.Option.{none}
use prog.Atomic.{either}
use Rattle.atomic_table.specs.Table.{Allows, step}
use Rattle.board.specs.calls.Rule.{IsKept}
use Rattle.board.specs.calls.Views.{avoids}
use Rattle.board.specs.calls.Seats.{Known}
use Rattle.board.specs.calls.Locking.{Tried}
use Rattle.board.proofs.Locking.{tries}
use Rattle.board.proofs.Called.{next_here, of_board}
use Rattle.board.proofs.task_seat.TaskSeat.try_lock.Goals as goal

pub compare_exchange-found-requires : goal.compare_exchange-found-requires
compare_exchange-found-requires c =
    let s = c.self.view_is in
    let i = c.self.invariant.sitting in
    let o = of_board s c.board.view_is c.requires.made in
    let key = c.board.inside.cells.shared.key in
    let slots = c.board.inside.cells.shared.table_id.slots in
    let id = c.self.inside.place.id in
    let me = c.self.inside.place.me in (
      o.table,
      (let w = c.board.invariant.words in omega arith),
      subst (λ (n : ℕ). Allows (IsKept key) slots id me 0 (λ m. either (eqb m 0) (n + 1) m) (Tried (step slots 0 0 (n + 1) none) me)) (sym c.from-mine.ensures)
          (tries key.plan.value key.mode slots id me c.self.inside.task.0 i.task i.seat.live (ap (λ (k : Known). k.view.holds) s ∙ c.requires.unlocked)
          (ap avoids (sym o.mode) ∙ ap (λ (k : Known). avoids k.view.mode) s ∙ c.requires.avoids) o.plan c.requires.next.0
          (next_here s c.requires.next.1)),
    )
