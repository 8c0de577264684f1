use Rattle.std.proofs.Common.{◌≡◌, ◌∙◌, List, ap, subst, sym}
use Rattle.armus_base.specs.declared.status.Status.{Status}
use Rattle.armus_base.specs.declared.ids.TaskId.{TaskId}
use Rattle.explain_clock.specs.ClockCircles.{IsClockCircle}
use Rattle.explain_clock.specs.ClockExplanations.{clock_lines, some_activity_waits}
use Rattle.explain_clock.specs.ClockFacts.{ClockFacts}
use Rattle.explain_clock.proofs.explaining.explain_waits.Goals as goal

pub returns : goal.returns
returns c = λ f is.
    let circle = c.in_ok-circle.circle in
    let known : c.new-facts.result ≡ f = c.new-facts.ensures ∙ sym is in
    let own : IsClockCircle c.args.run.end.now.blocked circle = subst (λ (ss : List Status). IsClockCircle ss circle) c.as_slice.ensures.items c.in_ok-circle.ensures.circle in (
      (
        circle,
        subst (λ (g : ClockFacts). IsClockCircle g.blocked circle) (sym is) own,
        c.in_ok-explanation.ensures.lines
            ∙ ap (λ (ts : List TaskId). clock_lines c.new-facts.result c.args.run.plan.now ts) c.as_slice-2.ensures.items
            ∙ ap (λ (g : ClockFacts). clock_lines g c.args.run.plan.now circle) known,
      ),
      c.in_ok-explanation.ensures.waits ∙ ap (λ (g : ClockFacts). some_activity_waits g.ends) known,
    )
