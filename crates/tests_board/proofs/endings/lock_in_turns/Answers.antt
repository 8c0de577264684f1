use Rattle.std.proofs.Common.{◌∙◌, ap}
use Rattle.board.specs.calls.Seats.{Known}
use Rattle.board.specs.calls.Views.{next_action}
use Rattle.tests_board.proofs.endings.lock_in_turns.Goals as goal

pub takes_turns-requires-clause-root : goal.takes_turns-requires-clause-root
takes_turns-requires-clause-root c =
    ((_, ap (λ (k : Known). next_action k.view) c.into_seat.ensures.0 ∙ c.in-Some.ensures.next.0), c.into_seat.ensures.1)

pub takes_turns-requires-clause-child : goal.takes_turns-requires-clause-child
takes_turns-requires-clause-child c =
    ((_, ap (λ (k : Known). next_action k.view) c.into_seat-2.ensures.0 ∙ c.in-Some-awaits.ensures.next.0), c.into_seat-2.ensures.1)
