use Rattle.std.proofs.Common.{sym, ap, ◌∙◌, subst, subst₂, arith}
use Rattle.board.specs.declared.view.View.{View}
use Rattle.board.specs.calls.Views.{seen}
use Rattle.board.specs.calls.Seats.{IsOf, IsSeat, Known}
use Rattle.board.proofs.Forking.{copies}
use Rattle.board.proofs.view_seat.ViewSeat.split.Goals as goal

pub split_seat-place-requires : goal.split_seat-place-requires
split_seat-place-requires c =
    let o = subst₂ IsOf (sym c.self.view_is) (sym c.board.view_is) c.requires.made in
    let key = c.board.inside.cells.shared.key in (
      o.table,
      (let n = c.board.invariant.words in omega arith),
      copies key.plan.value key.mode _ _ c.self.invariant.alone c.self.invariant.seat.live,
    )

pub returns-clause-other : goal.returns-clause-other
returns-clause-other c =
    let e = c.split_seat-place.ensures in
    let of = subst (λ k. IsOf k c.args.board.now) (sym c.self.view_is) c.requires.made in
    let v = ap (λ m. m.0) e.4 in record {
      of_board = record { table = e.3 ∙ of.table; plan = ap (λ (u : View). u.plan) v ∙ of.plan; mode = ap (λ (u : View). u.mode) v ∙ of.mode };
      own_is = ap (λ (u : View). u.own) v ∙ c.self.invariant.alone;
      seen_is = ap seen v ∙ ap (λ (k : Known). seen k.view) c.self.view_is;
      free = ap (λ (u : View). u.holds) v ∙ c.self.invariant.free;
      loads = ap (λ (u : View). u.loads) v;
      kept = subst (λ (u : View). IsSeat (record { table = c.split_seat-place.result.table_id; view = u })) (sym v)
          (record {
            live = c.self.invariant.seat.live;
            checked = c.self.invariant.seat.checked;
            count = c.self.invariant.seat.count;
            few = c.self.invariant.seat.few;
            own = c.self.invariant.seat.own;
            lock = c.self.invariant.seat.lock;
          });
    }
