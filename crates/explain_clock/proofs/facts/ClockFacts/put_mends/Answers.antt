use Rattle.std.proofs.Common.{◌∙◌, ◌++◌, ap, sym}
use Rattle.std.proofs.lemmas.Result.{on_ok_weaker}
use Rattle.explain_clock.specs.ClockMends.{mend_by}
use Rattle.explain_clock.proofs.Mends.{empty_words, mends_here, mends_on, some_words}
use Rattle.explain_clock.proofs.facts.ClockFacts.put_mends.Goals as goal

pub loop-i-preserved : goal.loop-i-preserved
loop-i-preserved c = record {
  nothing = c.loop-i.invariant.nothing;
  left = mends_on c.args.self.now c.args.first c.args.circle.now c.loop-i.i _ c.behind-v.result c.in_ok-mend.mend.items c.loop-i-test.true c.behind-v.ensures
      (c.in_ok-mend.ensures ∙ ap (mend_by c.args.self.now c.behind-v.result.0) c.end.ensures)
      (empty_words c.in_ok-mend.mend (sym c.is_empty.ensures ∙ c.if-not-is_empty.false)) c.loop-i.invariant.left;
}

pub returns-then-not-is_empty : goal.returns-then-not-is_empty
returns-then-not-is_empty c =
    on_ok_weaker c.put_kept.result
    (λ e. e ∙ ap (λ o. o ++ c.in_ok-mend.mend.items) c.loop-i.invariant.nothing
    ∙ ap (λ w. c.args.out.now.items ++ w)
    (mends_here c.args.self.now c.args.first c.args.circle.now c.loop-i.i _ c.behind-v.result c.in_ok-mend.mend.items c.loop-i-test.true c.behind-v.ensures
    (c.in_ok-mend.ensures ∙ ap (mend_by c.args.self.now c.behind-v.result.0) c.end.ensures)
    (some_words c.in_ok-mend.mend (sym c.is_empty.ensures ∙ c.if-not-is_empty.true)) c.loop-i.invariant.left))
    c.put_kept.ensures
