use Rattle.std.proofs.Common.{sym, ap, ◌∙◌, arith}
use Rattle.armus_base.specs.calls.Seats.{FoundRefused, FoundWaiting}
use Rattle.board.proofs.Reading.{of_refused, of_waits}
use Rattle.board.proofs.numbers.seen_of.Goals as goal

pub event_of-requires-else-word-lt-REFUSED : goal.event_of-requires-else-word-lt-REFUSED
event_of-requires-else-word-lt-REFUSED c =
    let n = c.if-word-lt-REFUSED.false in
    let w = of_refused c.requires.0 c.args.word c.requires.1 c.requires.2 c.if-word-eq0.false (omega arith) in
    (w.0, w.2, w.3, w.4)

pub event_of-requires : goal.event_of-requires
event_of-requires c =
    let w = of_waits c.requires.0 c.args.word c.requires.1 c.requires.2 c.if-word-eq0.false c.if-word-lt-REFUSED.true in
    (w.0, w.2, w.3, w.4)

pub returns-then-word-lt-REFUSED : goal.returns-then-word-lt-REFUSED
returns-then-word-lt-REFUSED c = λ f r is.
    let w = of_waits f c.args.word r is c.if-word-eq0.false c.if-word-lt-REFUSED.true in
    ap FoundWaiting (c.event_of.ensures w.0 w.2 w.3 w.4) ∙ sym w.1

pub returns-else-word-lt-REFUSED : goal.returns-else-word-lt-REFUSED
returns-else-word-lt-REFUSED c = λ f r is.
    let n = c.if-word-lt-REFUSED.false in
    let w = of_refused f c.args.word r is c.if-word-eq0.false (omega arith) in
    ap FoundRefused (c.event_of-else-word-lt-REFUSED.ensures w.0 w.2 w.3 w.4) ∙ sym w.1
