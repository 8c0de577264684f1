use Rattle.std.proofs.Common.{◌≡◌, ◌-◌, ◌≤◌, ◌++◌, ◌∷◌, [], length, arith, take, drop, ap, sym, ◌∙◌, length-drop}
use Rattle.std.proofs.lemmas.List.{take-append-drop, take_rest}
use lib.Seq.{take-add}
use Rattle.monitor.specs.Transfers.{WereWritten}
use Rattle.monitor.proofs.Logs.{passes_more}
use Rattle.monitor.proofs.writing.write_all.Goals as goal

pub loop-at-preserved : goal.loop-at-preserved
loop-at-preserved g c =
    let text = c.args.text.now in
    let at = c.loop-at.at in
    let rest : take (length text - at) (drop at text) ≡ drop at text = take_rest text at in
    let within : c.in-Ok.count ≤ length (drop at text) = rw rest at c.in-Ok.ensures.bound.0 in
    let grows = rw rest at c.in-Ok.ensures.passes in
    let log = c.loop-at.invariant.1 in (
      omega (arith, within, length-drop at text),
      (
        WereWritten (take c.in-Ok.count (drop at text)) ∷ log.0,
        passes_more _ _ _ log.0 (WereWritten (take c.in-Ok.count (drop at text)) ∷ []) log.1 grows,
        log.2,
        ap (λ l. l ++ take c.in-Ok.count (drop at text)) log.3 ∙ sym (take-add at c.in-Ok.count text),
      ),
      c.in-Ok.ensures.cause.fine ∙ c.loop-at.invariant.2,
      c.in-Ok.ensures.other ∙ c.loop-at.invariant.3,
    )

pub returns-in-Err-clause-err : goal.returns-in-Err-clause-err
returns-in-Err-clause-err g c =
    let text = c.args.text.now in
    let at = c.loop-at.at in
    let log = c.loop-at.invariant.1 in (
      log.0,
      drop at text,
      passes_more _ _ _ log.0 [] log.1 c.in-Err.ensures.passes,
      log.2,
      ap (λ l. l ++ drop at text) log.3 ∙ take-append-drop at text,
    )
