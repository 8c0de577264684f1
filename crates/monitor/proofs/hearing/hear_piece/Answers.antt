use Rattle.std.proofs.Common.{rules, ◌≡◌, ◌<◌, ◌≤◌, ◌+◌, ◌++◌, [], length, refl, sym, subst, take, ap, ◌∙◌, arith}
use Rattle.std.specs.Prelude.{get_or}
use Rattle.std.proofs.lemmas.Grind.{get_or_default_zero}
use Rattle.std.proofs.lemmas.List.{take_all}
use Rattle.monitor.specs.Transfers.{bytes_written}
use Rattle.monitor.specs.inside.Listening.{HearsBytes}
use Rattle.monitor.proofs.Logs.{passes_more, writes_more}
use Rattle.monitor.proofs.Pieces.{one_more_byte, quiet_more, stops_before, stops_in_byte}
use Rattle.monitor.proofs.hearing.hear_piece.Goals as goal

pub loop-at-preserved : goal.loop-at-preserved
loop-at-preserved g c =
    let log = c.loop-at.invariant.1 in
    let i = c.loop-at.at + c.in-Ok.count in
    let piece = c.args.piece.now in
    let quiet = quiet_more c.args.listener.now c.loop-at.listener c.hear_quiet.new.self piece c.loop-at.at c.in-Ok.count log.0 log.3 c.in-Ok.ensures.heard in
    let heard = c.in_default.ensures in
    let wrote = c.in_default-write_called.ensures.ok in
    let within : i < length piece = search rules in (
      c.in_default-write_called.ensures.done,
      (
        wrote.0 ++ log.0,
        passes_more _ _ _ log.0 wrote.0 log.1 wrote.1,
        writes_more wrote.0 log.0 wrote.2 log.2,
        one_more_byte c.args.listener.now c.hear_quiet.new.self c.hear_byte.new.self piece i (get_or piece i 0) log.0 wrote.0 heard.0 within
            (sym (get_or_default_zero piece i (get_or piece i 0) within)) quiet heard.2 (wrote.3 ∙ heard.1 ∙ ap (λ l. l ++ heard.0) c.loop-at.invariant.0),
      ),
      c.in_default-write_called.ensures.cause.fine ∙ c.loop-at.invariant.2,
      c.in_default-write_called.ensures.other ∙ c.loop-at.invariant.3,
      omega (arith, within),
    )

pub returns-in-Err-clause-err : goal.returns-in-Err-clause-err
returns-in-Err-clause-err g c =
    let log = c.loop-at.invariant.1 in
    (log.0, [], log.1, log.2, stops_before c.args.listener.now c.loop-at.listener c.args.piece.now c.loop-at.at log.0 log.3, λ e. refl)

pub returns-in-Err-hear_byte-clause-err : goal.returns-in-Err-hear_byte-clause-err
returns-in-Err-hear_byte-clause-err g c =
    let log = c.loop-at.invariant.1 in
    (log.0, [], log.1, log.2, stops_before c.args.listener.now c.loop-at.listener c.args.piece.now c.loop-at.at log.0 log.3, λ e. refl)

pub returns-then-at-piece-clause-heard : goal.returns-then-at-piece-clause-heard
returns-then-at-piece-clause-heard g c =
    let log = c.loop-at.invariant.1 in
    let i = c.loop-at.at + c.in-Ok.count in
    let piece = c.args.piece.now in
    let quiet = quiet_more c.args.listener.now c.loop-at.listener c.hear_quiet.new.self piece c.loop-at.at c.in-Ok.count log.0 log.3 c.in-Ok.ensures.heard in
    let past : length piece ≤ i = omega (arith, c.if-at-piece.true) in
    (log.0, log.1, log.2, subst (λ bytes. HearsBytes c.args.listener.now bytes (bytes_written log.0) c.hear_quiet.new.self) (take_all i piece past) quiet)

pub returns-clause-heard : goal.returns-clause-heard
returns-clause-heard g c =
    let log = c.loop-at.invariant.1 in
    let all : take c.loop-at.at c.args.piece.now ≡ c.args.piece.now = take_all c.loop-at.at c.args.piece.now (search rules) in
    (log.0, log.1, log.2, subst (λ bytes. HearsBytes c.args.listener.now bytes (bytes_written log.0) c.loop-at.listener) all log.3)

pub returns-in-Err-write_called-clause-err : goal.returns-in-Err-write_called-clause-err
returns-in-Err-write_called-clause-err g c =
    let log = c.loop-at.invariant.1 in
    let i = c.loop-at.at + c.in-Ok.count in
    let piece = c.args.piece.now in
    let quiet = quiet_more c.args.listener.now c.loop-at.listener c.hear_quiet.new.self piece c.loop-at.at c.in-Ok.count log.0 log.3 c.in-Ok.ensures.heard in
    let heard = c.in_default.ensures in
    let wrote = c.in-Err-write_called.ensures.err in
    let within : i < length piece = search rules in (
      wrote.0 ++ log.0,
      wrote.1,
      passes_more _ _ _ log.0 wrote.0 log.1 wrote.2,
      writes_more wrote.0 log.0 wrote.3 log.2,
      stops_in_byte c.args.listener.now c.hear_quiet.new.self c.hear_byte.new.self piece i (get_or piece i 0) log.0 wrote.0 wrote.1 heard.0 within
          (sym (get_or_default_zero piece i (get_or piece i 0) within)) quiet heard.2 (wrote.4 ∙ heard.1 ∙ ap (λ l. l ++ heard.0) c.loop-at.invariant.0),
      λ e. absurd (cc),
    )
