use Rattle.std.proofs.Common.{ℕ, ◌<◌, length, sym, ap, ◌∙◌, subst}
use mathlib.Core.Option.{none}
use Rattle.atomic_table.specs.Table.{Allows, step}
use Rattle.armus_base.specs.Plans.{Plan}
use Rattle.board.specs.calls.Rule.{IsKept}
use Rattle.board.specs.calls.Seats.{IsOf, Known}
use Rattle.board.specs.calls.Steps.{Recalled, own_phase}
use Rattle.board.proofs.Loading.{recalls}
use Rattle.board.proofs.Seated.{own_index}
use Rattle.board.proofs.Called.{of_board, own_small, phase_word}
use Rattle.board.proofs.task_seat.TaskSeat.phase.Goals as goal

pub phase_index-index-requires : goal.phase_index-index-requires
phase_index-index-requires c = (own_small c.self.invariant.sitting c.self.view_is c.requires.made, c.requires.phaser)

pub load-word-requires : goal.load-word-requires
load-word-requires c =
    let i = c.self.invariant.sitting in
    let o = of_board c.self.view_is c.board.view_is c.requires.made in
    let e = c.phase_index-index.ensures in
    let w = phase_word c.self.inside.task.0 c.args.p.0 c.board.view_is c.requires.phaser e.inside e.index in
    let slots = c.board.inside.cells.shared.table_id.slots in
    let me = c.self.inside.place.me in (
      o.table,
      w.inside,
      subst (λ (n : ℕ). Allows (IsKept c.board.inside.cells.shared.key) slots c.self.inside.place.id me n (λ n. n) (Recalled (step slots n 0 0 none) me))
          (sym w.is)
          (recalls _ _ _ _ _ _ _ i.task i.seat.live o.plan w.few),
    )

pub phase_of-requires : goal.phase_of-requires
phase_of-requires c =
    let of = subst (λ k. IsOf k c.args.board.now) (sym c.self.view_is) c.requires.made in
    let few = subst (λ (q : Plan). c.args.p.0 < length q.makers) (sym of.plan) c.requires.phaser in
    (c.load-word.ensures.2.2 c.args.p.0 few (own_index _ _ _ _ _ of c.self.invariant.sitting.task c.phase_index-index.ensures.index)).1

pub returns : goal.returns
returns c =
    let of = subst (λ k. IsOf k c.args.board.now) (sym c.self.view_is) c.requires.made in
    let few = subst (λ (q : Plan). c.args.p.0 < length q.makers) (sym of.plan) c.requires.phaser in
    let told = c.load-word.ensures.2.2 c.args.p.0 few (own_index _ _ _ _ _ of c.self.invariant.sitting.task c.phase_index-index.ensures.index) in
    record {
      seat = (λ j. record { table = c.load-word.ensures.0 j; view = c.load-word.ensures.2.0 j }) ∙ c.self.view_is;
      phase = c.phase_of.ensures (own_phase c.self.inside.place.me.0 c.args.p.0) told.0 ∙ ap (λ (k : Known). own_phase k.view c.args.p.0) c.self.view_is;
    }
