use Rattle.std.proofs.Common.{◌≡◌, ◌++◌, [], ◌∷◌, subst, sym, append_assoc, length, rules}
use Rattle.schedule.specs.Lines.{IsCut, a_line}
use Rattle.schedule.proofs.Cuts.{cut_at_end}
use Rattle.armus_top.proofs.generating.last_line.Goals as goal

pub loop-line-init : goal.loop-line-init
loop-line-init c = ([], λ more cut. a_line c.args.bytes.now c.first_line.result.0.now c.first_line.result.1.now more c.first_line.ensures.cut cut)

pub loop-line-preserved : goal.loop-line-preserved
loop-line-preserved c =
    let (before, cuts) = c.loop-line.invariant in
    let next = c.first_line-in-loop-line.result.0.now in
    let rest = c.first_line-in-loop-line.result.1.now in (
      before ++ c.loop-line.line.now ∷ [],
      λ more cut. subst (IsCut c.args.bytes.now) (sym (append_assoc before (c.loop-line.line.now ∷ []) (next ∷ more)))
          (cuts (next ∷ more) (a_line c.loop-line.rest.now next rest more c.first_line-in-loop-line.ensures.cut cut)),
    )

pub returns : goal.returns
returns c =
    let (before, cuts) = c.loop-line.invariant in
    let ended : length c.loop-line.rest.now ≡ 0 = search rules in
    record { last = (before, cuts [] (cut_at_end c.loop-line.rest.now ended)) }
