use Rattle.std.proofs.Common.{◌∙◌, sym, inl, inr}
use Rattle.std.proofs.lemmas.Bool.{false≢true, not-false, not-true}
use Rattle.task_runner.proofs.Resting.{among_any, any_among, any_named, named_any, named_cases, named_left, named_right}
use Rattle.task_runner.proofs.rest.is_new.Goals as goal

pub returns-then-not-is_among-clause-old : goal.returns-then-not-is_among-clause-old
returns-then-not-is_among-clause-old c = λ _.
    inl (λ i. false≢true (sym c.if-not-is_among.true ∙ c.is_among.ensures.1 (among_any c.args.dead.now c.args.t i)))

pub returns-then-is_named-clause-old : goal.returns-then-is_named-clause-old
returns-then-is_named-clause-old c = λ _.
    inr (named_left c.args.told.now c.args.rest.now c.args.t (any_named c.args.told.now c.args.t (c.is_named.ensures.0 c.if-is_named.true)))

pub returns-clause-new : goal.returns-clause-new
returns-clause-new c = λ is. (
  any_among c.args.dead.now c.args.t (c.is_among.ensures.0 c.if-not-is_among.false),
  λ named. elim (named_cases c.args.told.now c.args.rest.now c.args.t named) [
    | inl old ↦ false≢true (sym c.if-is_named.false ∙ c.is_named.ensures.1 (named_any c.args.told.now c.args.t old))
    | inr new ↦ false≢true (sym (not-true c.is_named-2.result is) ∙ c.is_named-2.ensures.1 (named_any c.args.rest.now c.args.t new))
  ],
)

pub returns-clause-old : goal.returns-clause-old
returns-clause-old c = λ is.
    inr (named_right c.args.told.now c.args.rest.now c.args.t (any_named c.args.rest.now c.args.t (c.is_named-2.ensures.0 (not-false c.is_named-2.result is))))
