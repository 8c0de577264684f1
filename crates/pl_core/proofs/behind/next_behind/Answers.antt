use Rattle.std.proofs.Common.{◌<◌, None, arith, get_or, length}
use Rattle.std.proofs.lemmas.Option.{slice_get-get_or}
use Rattle.pl_core.specs.declared.cell.Cell.{Cell}
use Rattle.pl_core.proofs.NextBehind.{found_behind, none_behind, none_more}
use Rattle.pl_core.proofs.behind.next_behind.Goals as goal

pub loop-at-preserved : goal.loop-at-preserved
loop-at-preserved c =
    let inv = c.loop-at.invariant in
    record {
      later = omega (arith, inv.later);
      none = none_more c.args.cells.now c.args.n c.place_from-first.result c.loop-at.at inv.none c.if-is_behind.ensures;
    }

pub returns-then-is_behind : goal.returns-then-is_behind
returns-then-is_behind c =
    let cs = c.args.cells.now in
    let none : Cell = record { task = 0; phase = None } in
    let inv = c.loop-at.invariant in
    let inside : c.loop-at.at < length cs = omega (arith, c.loop-at-test.true) in
    found_behind cs c.requires c.args.n c.args.from c.place_from-first.result c.place_from-first.ensures c.loop-at.at (get_or cs c.loop-at.at none) inv.later
    (slice_get-get_or cs c.loop-at.at none inside) inv.none c.if-is_behind.ensures

pub returns : goal.returns
returns c =
    none_behind c.args.cells.now c.requires c.args.n c.args.from c.place_from-first.result c.place_from-first.ensures
    (λ k on lt. c.loop-at.invariant.none k on (omega (arith, c.loop-at-test.false, c.loop-at.auto.at-end)))
