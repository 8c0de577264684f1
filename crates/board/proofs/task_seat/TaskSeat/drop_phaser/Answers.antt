use Rattle.std.proofs.Common.{refl, sym, ◌∙◌, subst}
use Rattle.armus_base.specs.Plans.{Drops}
use Rattle.board.specs.calls.Views.{own_place}
use Rattle.board.specs.calls.Seats.{Known, MayDrop, by_code, refused}
use Rattle.board.specs.calls.Steps.{own_phase}
use Rattle.board.proofs.Stores.{drop_view, drops, drops_refused}
use Rattle.board.proofs.Seated.{acts_sitting, drop_done, makes_step, seat_next, some_is, stays_sitting, steps, task_inside}
use Rattle.board.proofs.Called.{is_free, of_board, own_small, phase_word}
use Rattle.board.proofs.task_seat.TaskSeat.drop_phaser.Goals as goal

pub phase_index-index-requires : goal.phase_index-index-requires
phase_index-index-requires c = (own_small c.self.invariant.sitting c.self.view_is c.requires.made, c.requires.phaser)

pub store-requires : goal.store-requires
store-requires c =
    let s = c.self.view_is in
    let i = c.self.invariant.sitting in
    let o = of_board s c.board.view_is c.requires.made in
    let me = c.self.inside.place.me in
    let p = c.args.p.0 in
    let free = is_free i s c.requires.unlocked in
    let small = own_small i refl o in
    let e = c.phase_index-index.ensures in
    let w = phase_word c.self.inside.task.0 p c.board.view_is c.requires.phaser e.inside e.index in
    let may : MayDrop (record { table = c.self.inside.place.table_id; view = me.0 }) p = subst (λ (k : Known). MayDrop k p) (sym s) c.requires.next in (
      o.table,
      w.inside,
      (elim may [
        | by_code next ↦ drops _ _ _ _ _ _ _ _ free next small w.few w.is
        | refused dropped member least ↦
            let d = some_is (own_place me.0).dropped dropped in
            let m = some_is (own_phase me.0 p) member in
            drops_refused _ _ _ _ _ _ _ d.0 m.0 _ free d.1 m.1 least small w.few w.is
      ]),
    )

pub invariant_of-self : goal.invariant_of-self
invariant_of-self c =
    let i = c.self.invariant.sitting in
    let me = c.self.inside.place.me in
    let p = c.args.p.0 in
    let may : MayDrop (record { table = c.self.inside.place.table_id; view = me.0 }) p = subst (λ (k : Known). MayDrop k p) (sym c.self.view_is)
    c.requires.next in record {
      no_slot = c.store.ensures.2.1 ∙ c.self.invariant.no_slot;
      sitting = elim may [
        | by_code next ↦ acts_sitting (Drops p) i next (λ q e. cc) (λ q e. cc) (λ q e. cc) c.store.ensures.2.0
        | refused dropped member least ↦
            let d = some_is (own_place me.0).dropped dropped in
            stays_sitting (Drops p) i (drop_done (own_place me.0).done d.0 (own_place me.0).dropped p d.1) refl
            (c.store.ensures.2.0 ∙ sym (drop_view me.0 p d.0 d.1))
            (seat_next _ _ _ _ i.seat c.store.ensures.2.0)
      ];
    }

pub returns : goal.returns
returns c =
    let i = c.self.invariant.sitting in
    let me = c.self.inside.place.me in
    let p = c.args.p.0 in
    let may : MayDrop (record { table = c.self.inside.place.table_id; view = me.0 }) p = subst (λ (k : Known). MayDrop k p) (sym c.self.view_is)
    c.requires.next in record {
      step = elim may [
        | by_code next ↦ makes_step (Drops p) c.self.view_is i next c.store.ensures.2.0 c.store.ensures.0
        | refused dropped member least ↦
            let d = some_is (own_place me.0).dropped dropped in
            steps (Drops p) c.self.view_is (task_inside _ _ i.seat i.task) (c.store.ensures.2.0 ∙ sym (drop_view me.0 p d.0 d.1)) c.store.ensures.0
            (seat_next _ _ _ _ i.seat c.store.ensures.2.0)
      ];
    }
