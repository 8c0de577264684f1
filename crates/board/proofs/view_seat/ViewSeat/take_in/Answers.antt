use Rattle.std.proofs.Common.{◌≡◌, length, sym, ap, ◌∙◌, subst, subst₂, arith}
use Rattle.board.specs.declared.view.View.{View}
use Rattle.board.specs.calls.Seats.{Frame, IsOf, Known, TakesIn}
use Rattle.board.specs.calls.Steps.{both}
use Rattle.board.proofs.Ending.{both_spent, counts, takes_in}
use Rattle.board.proofs.Taking.{now_is, taken, taken_seat}
use Rattle.board.proofs.Seated.{some_is}
use Rattle.board.proofs.view_seat.ViewSeat.take_in.Goals as goal

pub join_seat-requires : goal.join_seat-requires
join_seat-requires c =
    let b = c.board.view_is in
    let o = subst₂ IsOf (sym c.self.view_is) (sym b) c.requires.made in
    let key = c.board.inside.cells.shared.key in
    let other = c.into_place-other.ensures in
    let w : c.into_place-other.result.me.0 ≡ c.args.seat.view = ap (λ m. m.0) other.place.1 in
    let t = some_is c.args.seat.view.own other.seat.1 in (
      o.table,
      other.place.0 ∙ c.requires.seat_made.table ∙ sym (ap (λ (f : Frame). f.table) b),
      ap (λ m. m.1) other.place.1,
      (let n = c.board.invariant.words in omega arith),
      takes_in key.plan.value key.mode _ _ _ _ t.0 c.self.invariant.alone c.self.invariant.seat.live (ap (λ (u : View). u.own) w ∙ t.1)
          (ap (λ (u : View). u.spent) w ∙ other.seat.0.live),
    )

pub load-requires : goal.load-requires
load-requires c =
    let o = subst₂ IsOf (sym c.self.view_is) (sym c.board.view_is) c.requires.made in
    let key = c.board.inside.cells.shared.key in
    let e = c.join_seat.ensures in (
      e.0 ∙ o.table,
      (let n = c.board.invariant.words in omega arith),
      counts key.plan.value key.mode _ _ _ (ap (λ m. m.0.spent) e.2 ∙ both_spent c.self.inside.place.me.0 c.into_place-other.result.me.0 ∙ c.self.invariant.seat.live),
    )

pub returns : goal.returns
returns c =
    let o = subst (λ k. IsOf k c.args.board.now) (sym c.self.view_is) c.requires.made in
    let other = c.into_place-other.ensures in
    let w : c.into_place-other.result.me.0 ≡ c.args.seat.view = ap (λ m. m.0) other.place.1 in
    let x : c.load.new.seat.me.0 ≡ both c.self.inside.place.me.0 c.args.seat.view = c.load.ensures.2.0 ∙ ap (λ m. m.0) c.join_seat.ensures.2 ∙
    ap (both c.self.inside.place.me.0) w in
    let told = subst (λ (u : View). length u.sight.places ≡ length u.plan.parents) (sym c.load.ensures.2.0) c.load.ensures.2.2 in record {
      taken = subst (λ (k : Known). TakesIn c.args.seat k (record { table = c.load.new.seat.table_id; view = c.load.new.seat.me.0 })) c.self.view_is
          (taken c.self.inside.place.table_id c.self.inside.place.me.0 c.args.seat.view c.load.new.seat.me.0 c.self.invariant.alone c.self.invariant.seat
          (o.plan ∙ sym c.requires.seat_made.plan) other.seat.0.count x told
          c.load.new.seat.table_id c.args.seat.table (c.load.ensures.0 ∙ c.join_seat.ensures.0));
    }

pub invariant_of-self : goal.invariant_of-self
invariant_of-self c =
    let o = subst (λ k. IsOf k c.args.board.now) (sym c.self.view_is) c.requires.made in
    let other = c.into_place-other.ensures in
    let w : c.into_place-other.result.me.0 ≡ c.args.seat.view = ap (λ m. m.0) other.place.1 in
    let x : c.load.new.seat.me.0 ≡ both c.self.inside.place.me.0 c.args.seat.view = c.load.ensures.2.0 ∙ ap (λ m. m.0) c.join_seat.ensures.2 ∙
    ap (both c.self.inside.place.me.0) w in
    let told = subst (λ (u : View). length u.sight.places ≡ length u.plan.parents) (sym c.load.ensures.2.0) c.load.ensures.2.2 in
    let is = now_is c.self.inside.place.table_id c.self.inside.place.me.0 c.args.seat.view c.load.new.seat.me.0 c.self.invariant.alone c.self.invariant.seat
    (o.plan ∙ sym c.requires.seat_made.plan) other.seat.0.count x told in record {
      no_slot = c.load.ensures.2.1 ∙ ap (λ m. m.1) c.join_seat.ensures.2 ∙ c.self.invariant.no_slot;
      alone = ap (λ (u : View). u.own) is ∙ c.self.invariant.alone;
      free = ap (λ (u : View). u.holds) is ∙ c.self.invariant.free;
      seat = taken_seat c.self.inside.place.table_id c.self.inside.place.me.0 c.args.seat.view c.load.new.seat.me.0 c.self.invariant.alone c.self.invariant.seat
          (o.plan ∙ sym c.requires.seat_made.plan) other.seat.0.count x told c.load.new.seat.table_id;
    }
