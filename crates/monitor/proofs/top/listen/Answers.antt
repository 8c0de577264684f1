use Rattle.std.proofs.Common.{rules, ◌≡◌, ◌∷◌, ◌++◌, [], refl, sym, ◌∙◌, subst, take, length, arith, ◌<◌}
use Rattle.std.proofs.lemmas.List.{length-take-le}
use Rattle.monitor.specs.MonitorCalls.{EndsMonitored, SaysEnd}
use Rattle.monitor.specs.Transfers.{PassesThrough, WereRead}
use Rattle.monitor.proofs.Calls.{ends_at_end, ends_at_fault, ends_uncounted, ends_unread, goes_on_behind, prompt_piece, stopped_early}
use Rattle.monitor.proofs.Logs.{passes_more, passes_nothing}
use Rattle.monitor.proofs.ReadWhole.{fault_says_no_end, leaves_nothing, says_no_end, stop_says_no_end}
use Rattle.monitor.proofs.top.listen.Goals as goal

pub loop-init : goal.loop-init
loop-init g c = (c.requires.out, ([], passes_nothing _, λ options so_far. so_far), refl, refl)

pub returns-in-Err-clause-ends : goal.returns-in-Err-clause-ends
returns-in-Err-clause-ends g c =
    let log = c.loop.invariant.1 in (
      log.0,
      passes_more _ _ _ log.0 [] log.1 c.in-Err.ensures.passes,
      λ options begins.
          let so_far = log.2 options begins in
          (so_far.prompt, ends_unread options log.0 c.loop.listener so_far),
    )

pub returns-in-Ok-eq0-clause-ends : goal.returns-in-Ok-eq0-clause-ends
returns-in-Ok-eq0-clause-ends g c =
    let log = c.loop.invariant.1 in
    let writes = c.end_trace.ensures.ends in
    let none : c.in-Ok-eq0.field-0 ≡ 0 = search rules in
    let ended : PassesThrough (g.P.Port.view c.loop.port) (g.P.Port.view c.read.new.self) (WereRead [] ∷ []) =
    subst (λ n. PassesThrough (g.P.Port.view c.loop.port) (g.P.Port.view c.read.new.self) (WereRead (take n c.read.new.buf) ∷ [])) none c.in-Ok-eq0.ensures.passes
    in (
      writes.0 ++ WereRead [] ∷ log.0,
      passes_more _ _ _ (WereRead [] ∷ log.0) writes.0 (passes_more _ _ _ log.0 (WereRead [] ∷ []) log.1 ended) writes.1,
      λ options begins.
          let so_far = log.2 options begins in
          (prompt_piece options log.0 writes.0 [] c.loop.listener so_far writes.2, ends_at_end options log.0 writes.0 c.loop.listener _ so_far writes.2 writes.3),
    )

pub returns-in-Err-hear_piece-clause-ends : goal.returns-in-Err-hear_piece-clause-ends
returns-in-Err-hear_piece-clause-ends g c =
    let log = c.loop.invariant.1 in
    let writes = c.in-Err-hear_piece.ensures.err in
    let piece = take c.in-Ok.count c.read.new.buf in (
      writes.0 ++ WereRead piece ∷ log.0,
      passes_more _ _ _ (WereRead piece ∷ log.0) writes.0 (passes_more _ _ _ log.0 (WereRead piece ∷ []) log.1 c.in-Ok.ensures.passes) writes.2,
      λ options begins.
          let so_far = log.2 options begins in (
            prompt_piece options log.0 writes.0 piece c.loop.listener so_far writes.3,
            subst (EndsMonitored options (writes.0 ++ WereRead piece ∷ log.0)) (sym c.status_of_fault.ensures) (stopped_early options log.0 writes.0 piece writes.1 c.loop.listener c.in-Err-hear_piece.fault so_far writes.3 writes.4 writes.5),
          ),
    )

pub returns-then-is_stopped-clause-ends : goal.returns-then-is_stopped-clause-ends
returns-then-is_stopped-clause-ends g c =
    let log = c.loop.invariant.1 in
    let writes = c.in_default.ensures.heard in
    let piece = take c.in-Ok.count c.read.new.buf in (
      writes.0 ++ WereRead piece ∷ log.0,
      passes_more _ _ _ (WereRead piece ∷ log.0) writes.0 (passes_more _ _ _ log.0 (WereRead piece ∷ []) log.1 c.in-Ok.ensures.passes) writes.1,
      λ options begins.
          let so_far = log.2 options begins in (
            prompt_piece options log.0 writes.0 piece c.loop.listener so_far writes.2,
            ends_at_fault options log.0 writes.0 piece c.loop.listener c.hear_piece.new.listener so_far writes.2 writes.3 (search rules),
          ),
    )

pub loop-preserved : goal.loop-preserved
loop-preserved g c =
    let log = c.loop.invariant.1 in
    let writes = c.in_default.ensures.heard in
    let piece = take c.in-Ok.count c.read.new.buf in
    let positive : 0 < c.in-Ok.count = search rules in
    let long : length piece ≡ c.in-Ok.count = length-take-le c.in-Ok.count c.read.new.buf (search rules) in
    let some : 0 < length piece = omega arith in (
      c.in_default.ensures.done,
      (
        writes.0 ++ WereRead piece ∷ log.0,
        passes_more _ _ _ (WereRead piece ∷ log.0) writes.0 (passes_more _ _ _ log.0 (WereRead piece ∷ []) log.1 c.in-Ok.ensures.passes) writes.1,
        λ options begins. goes_on_behind options log.0 writes.0 piece c.loop.listener c.hear_piece.new.listener some (log.2 options begins) writes.2 writes.3 (search rules),
      ),
      c.in_default.ensures.other ∙ c.in-Ok.ensures.cause.fine ∙ c.loop.invariant.2,
      c.in_default.ensures.fine ∙ c.in-Ok.ensures.other ∙ c.loop.invariant.3,
    )

pub returns-clause-ends : goal.returns-clause-ends
returns-clause-ends g c =
    let log = c.loop.invariant.1 in (
      log.0,
      log.1,
      λ options begins.
          let so_far = log.2 options begins in
          (so_far.prompt, ends_uncounted options log.0 c.loop.listener so_far),
    )

pub returns-in-Err-clause-whole : goal.returns-in-Err-clause-whole
returns-in-Err-clause-whole g c = λ options begins says. absurd (says_no_end options 4 (omega arith) says)

pub returns-in-Ok-eq0-clause-whole : goal.returns-in-Ok-eq0-clause-whole
returns-in-Ok-eq0-clause-whole g c =
    let log = c.loop.invariant.1 in
    let writes = c.end_trace.ensures.ends in
    λ options begins says. leaves_nothing _ _ _ (WereRead (take c.in-Ok-eq0.field-0 c.read.new.buf) ∷ log.0) writes.0 (passes_more _ _ _ log.0 _ log.1 c.in-Ok-eq0.ensures.passes) (c.in-Ok-eq0.ensures.end (search rules)) writes.1

pub returns-in-Err-hear_piece-clause-whole : goal.returns-in-Err-hear_piece-clause-whole
returns-in-Err-hear_piece-clause-whole g c =
    λ options begins says. absurd (fault_says_no_end options c.in-Err-hear_piece.fault (subst (SaysEnd options) c.status_of_fault.ensures says))

pub returns-then-is_stopped-clause-whole : goal.returns-then-is_stopped-clause-whole
returns-then-is_stopped-clause-whole g c =
    let log = c.loop.invariant.1 in
    let writes = c.in_default.ensures.heard in
    let piece = take c.in-Ok.count c.read.new.buf in
    λ options begins says. absurd (stop_says_no_end options log.0 writes.0 piece c.loop.listener c.hear_piece.new.listener (log.2 options begins) writes.2 writes.3 (search rules) says)

pub returns-clause-whole : goal.returns-clause-whole
returns-clause-whole g c = λ options begins says. absurd (says_no_end options 6 (omega arith) says)
