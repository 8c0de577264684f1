use Rattle.std.proofs.Common.{◌≡◌, ◌∙◌, List, false, true, ap, length, rules, subst, sym}
use Rattle.armus_base.specs.calls.Boards.{IsLawful}
use Rattle.armus_base.specs.calls.Seats.{SeenBy}
use Rattle.armus_base.specs.Plans.{Plan}
use Rattle.pl_core.specs.declared.place.Place.{Place as KeptPlace}
use Rattle.pl_core.specs.calls.Worlds.{places_at}
use Rattle.board.specs.declared.mode.Mode.{Mode}
use Rattle.board.specs.calls.Views.{avoids}
use Rattle.task_runner.proofs.avoided.avoid_by.Goals as goal

pub leave-requires-clause-unknown : goal.leave-requires-clause-unknown
leave-requires-clause-unknown g c = λ u. ap (λ (s : SeenBy). s.exact u) c.in_ok-board.ensures.viewer.seen_is

pub leave-requires-clause-ends : goal.leave-requires-clause-ends
leave-requires-clause-ends g c = (false, c.in_ok-go.ensures.ends)

pub avoided_end_from-requires-clause-one_each : goal.avoided_end_from-requires-clause-one_each
avoided_end_from-requires-clause-one_each g c κs within =
    let same : c.go.new.self.plan.now ≡ c.args.plan.now = search rules in
    ap length c.as_slice.ensures.items ∙ c.in_ok-places.ensures.one_each ∙ ap (λ (q : Plan). length q.parents) same

pub avoided_end_from-requires-clause-lawful : goal.avoided_end_from-requires-clause-lawful
avoided_end_from-requires-clause-lawful g c κs within =
    let plan = c.go.new.self.plan.now in
    let same : plan ≡ c.args.plan.now = search rules in
    let places : List KeptPlace = c.in_ok-places.places in
    let lawful = c.in_ok-places.ensures.lawful in (
      lawful.0,
      subst (λ (xs : List KeptPlace). IsLawful true c.args.plan.now (places_at c.args.plan.now xs) lawful.0) (sym c.as_slice.ensures.items)
          (subst (λ (q : Plan). IsLawful true q (places_at q places) lawful.0) same
          (subst (λ (m : Mode). IsLawful (avoids m) plan (places_at plan places) lawful.0) c.in_ok-board.ensures.board.1 lawful.1)),
    )
