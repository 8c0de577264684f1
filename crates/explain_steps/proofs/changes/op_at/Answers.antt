use Rattle.std.proofs.Common.{◌≡◌, ◌∙◌, add-one, ap, arith, drop, sym}
use Rattle.std.specs.Prelude.{slice_get}
use Rattle.armus_base.specs.Plans.{code_of}
use Rattle.pl_core.proofs.KeptCursors.{first_left, gone_on, one_less_left}
use Rattle.explain_steps.proofs.changes.op_at.Goals as goal

pub loop-preserved : goal.loop-preserved
loop-preserved c =
    let code = code_of c.args.plan.now c.args.t.0 in
    gone_on c.next.result c.loop.cursor c.next.new.self c.next.ensures.some c.next.ensures.none
    ∙ ap (drop 1) c.loop.invariant
    ∙ one_less_left code c.loop.counter
    ∙ ap (λ n. drop n code) (sym (add-one c.loop.counter))

pub returns : goal.returns
returns c =
    let code = code_of c.args.plan.now c.args.t.0 in
    let all : c.loop.counter ≡ c.args.i = omega (arith, c.loop-test.false, c.loop.auto.counter-end) in
    c.peek.ensures.next ∙ ap (λ ops. slice_get ops 0) c.loop.invariant ∙ first_left code c.loop.counter ∙ ap (slice_get code) all
