use Rattle.std.proofs.Common.{◌∙◌, ap, subst, sym}
use Rattle.std.proofs.lemmas.List.Elements.{All-push}
use Rattle.adaptive.specs.declared.columns.Column.{Column}
use Rattle.adaptive.specs.inside.Remaining.{AreFronts}
use Rattle.adaptive.specs.inside.Standings.{IsFront}
use Rattle.adaptive.proofs.Fronts.{first_is_front}
use Rattle.adaptive.proofs.columns.columns_of.Goals.{then-is_first+in_ok-push, else-is_first}
use Rattle.adaptive.proofs.columns.columns_of.Goals as goal

pub loop-i-preserved : goal.loop-i-preserved
loop-i-preserved c = λ remains.
    let xs = c.args.standings.now in
    elim c.if-is_first.branch [
      | then-is_first+in_ok-push w ↦
          subst (λ cs. AreFronts xs remains cs) (sym (ap (λ v. v.items) w.columns-is ∙ w.in_ok-push.ensures.items))
          (All-push (λ (column : Column). IsFront xs remains column.p.0 column.front) c.loop-i.columns.items _ (c.loop-i.invariant remains)
          (first_is_front xs remains c.loop-i.i _ c.requires c.loop-i-test.true (c.is_first.ensures w.if-is_first.true)))
      | else-is_first w ↦ subst (λ cs. AreFronts xs remains cs) (sym (ap (λ v. v.items) w.columns-is)) (c.loop-i.invariant remains)
    ]
