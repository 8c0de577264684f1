use Rattle.std.proofs.Common.{None, Some, Ok, ap, ◌∙◌}
use Rattle.board.specs.calls.Seats.{aim_at}
use Rattle.avoider.proofs.Decided.{free_refused}
use Rattle.avoider.proofs.concluding.conclude.Goals as goal

pub publish-event-requires-clause-avoids : goal.publish-event-requires-clause-avoids
publish-event-requires-clause-avoids c = c.requires.may None (c.in-Ok-None.is ∙ ap (λ o. Ok o) c.in-Ok-None.field-0-is)

pub refuse-requires-clause-dead : goal.refuse-requires-clause-dead
refuse-requires-clause-dead c = c.requires.may (Some c.in-Ok-Some.cycle) (c.in-Ok-Some.is ∙ ap (λ o. Ok o) c.in-Ok-Some.field-0-is)

pub drop_all-requires-clause-refused : goal.drop_all-requires-clause-refused
drop_all-requires-clause-refused c =
    free_refused (aim_at c.args.p.0 c.args.off) c.args.seat.now c.refuse.new.self c.unlock-in-Ok-Some.new.self c.requires.next c.refuse.ensures.step
    c.unlock-in-Ok-Some.ensures.freed
