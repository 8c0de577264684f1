use Rattle.std.proofs.Common.{◌∙◌, ap, arith, below_more, length, sym}
use Rattle.std.proofs.lemmas.Bool.{false≢true}
use Rattle.pl_core.specs.calls.Stands.{IsEnabled}
use Rattle.tests_board.proofs.finals.final_state.Goals as goal

pub loop-t-preserved : goal.loop-t-preserved
loop-t-preserved c =
    below_more (λ u. IsEnabled c.args.world.now u → ⊥) c.loop-t.t c.loop-t.invariant
    (λ enabled. false≢true (sym c.if-enabled.false ∙ c.enabled.ensures.enabled.1 enabled))

pub finish-requires : goal.finish-requires
finish-requires c =
    record {
      quiet = λ t l.
          let test = c.loop-t-test.false in
          let counted = c.tasks-t-end.ensures.counted in
          let plan = ap (λ p. length p.parents) c.plan.ensures.plan in
          c.loop-t.invariant t (omega arith);
    }
