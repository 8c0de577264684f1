use Rattle.std.proofs.Common.{[], ◌∷◌, ◌++◌, ◌≡◌, ◌∙◌, ◌+◌, arith, ap, subst, sym}
use Rattle.pl_plan.specs.inside.Steps.{step_at}
use Rattle.explain_check.specs.inside.Told.{index_behind, enters}
use Rattle.explain_check.proofs.LoopsAround.{Nears, inside_within, nears_end, nears_inside, nears_outside, nears_start, outside_further}
use Rattle.explain_check.proofs.around.turns_told.Goals as goal

pub loop-at-init : goal.loop-at-init
loop-at-init c =
    subst (λ ts. Nears c.args.steps.now c.args.last_turns.now c.args.t.0 c.args.n c.args.range.0 c.args.range.1 c.args.range.0 c.args.range.1 ts) (sym c.new-turns.ensures.empty)
    (nears_start c.args.steps.now c.args.last_turns.now c.args.t.0 c.args.n c.args.range.0 c.args.range.1 c.requires.within c.requires.list)

pub step_of-step-requires : goal.step_of-step-requires
step_of-step-requires c = omega (arith, c.loop-at-test.true, c.loop-at.invariant.within)

pub enters-requires : goal.enters-requires
enters-requires c = omega (arith, c.loop-at-test.true, c.loop-at.invariant.within, c.requires.few)

pub behind-at-requires : goal.behind-at-requires
behind-at-requires c = omega (arith, c.loop-at-test.true, c.loop-at.invariant.within, c.requires.few)

pub loop-at-smaller-in-Some : goal.loop-at-smaller-in-Some
loop-at-smaller-in-Some c =
    let is = ap (λ z. enters z c.loop-at.at c.args.n) (sym c.step_of-step.ensures) ∙ sym c.enters.ensures ∙ c.in-Some.is in
    let l = inside_within c.args.steps.now c.args.last_turns.now c.args.t.0 c.args.n c.args.range.0 c.args.range.1 c.loop-at.at c.loop-at.to c.loop-at.turns c.loop-at.invariant
    c.loop-at-test.true c.in-Some.end is in
    omega (arith, l, c.loop-at-test.true)

pub loop-at-preserved-in-Some : goal.loop-at-preserved-in-Some
loop-at-preserved-in-Some c =
    let is = ap (λ z. enters z c.loop-at.at c.args.n) (sym c.step_of-step.ensures) ∙ sym c.enters.ensures ∙ c.in-Some.is in
    subst (λ ts. Nears c.args.steps.now c.args.last_turns.now c.args.t.0 c.args.n c.args.range.0 c.args.range.1 (c.loop-at.at + 1) c.in-Some.end ts)
    (sym (c.in_ok-push.ensures.ok ∙ ap (λ x. c.loop-at.turns ++ x ∷ []) c.turn_told.ensures))
    (nears_inside c.args.steps.now c.args.last_turns.now c.args.t.0 c.args.n c.args.range.0 c.args.range.1 c.loop-at.at c.loop-at.to c.loop-at.turns c.loop-at.invariant
    c.loop-at-test.true c.in-Some.end is)

pub loop-at-smaller : goal.loop-at-smaller
loop-at-smaller c =
    let is = ap (λ z. enters z c.loop-at.at c.args.n) (sym c.step_of-step.ensures) ∙ sym c.enters.ensures ∙ c.in_default.is in
    let next : c.behind-at.result ≡ index_behind (step_at c.args.steps.now c.loop-at.at) c.loop-at.at = c.behind-at.ensures ∙ ap (λ z. index_behind z c.loop-at.at) c.step_of-step.ensures in
    let l = outside_further c.args.steps.now c.args.last_turns.now c.args.t.0 c.args.n c.args.range.0 c.args.range.1 c.loop-at.at c.loop-at.to c.loop-at.turns c.loop-at.invariant
    c.loop-at-test.true is in
    omega (arith, l, next, c.loop-at-test.true)

pub loop-at-preserved : goal.loop-at-preserved
loop-at-preserved c =
    let is = ap (λ z. enters z c.loop-at.at c.args.n) (sym c.step_of-step.ensures) ∙ sym c.enters.ensures ∙ c.in_default.is in
    let next : c.behind-at.result ≡ index_behind (step_at c.args.steps.now c.loop-at.at) c.loop-at.at = c.behind-at.ensures ∙ ap (λ z. index_behind z c.loop-at.at) c.step_of-step.ensures in
    subst (λ i. Nears c.args.steps.now c.args.last_turns.now c.args.t.0 c.args.n c.args.range.0 c.args.range.1 i c.loop-at.to c.loop-at.turns) (sym next)
    (nears_outside c.args.steps.now c.args.last_turns.now c.args.t.0 c.args.n c.args.range.0 c.args.range.1 c.loop-at.at c.loop-at.to c.loop-at.turns c.loop-at.invariant
    c.loop-at-test.true is)

pub returns : goal.returns
returns c =
    nears_end c.args.steps.now c.args.last_turns.now c.args.t.0 c.args.n c.args.range.0 c.args.range.1 c.loop-at.at c.loop-at.to c.loop-at.turns c.loop-at.invariant
    (omega (arith, c.loop-at-test.false))
