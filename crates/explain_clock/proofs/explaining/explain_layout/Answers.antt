use Rattle.std.proofs.Common.{◌∙◌, ap, sym}
use Rattle.explain_clock.specs.ClockFacts.{ClockFacts, ClockTextValue}
use Rattle.explain_clock.proofs.explaining.explain_layout.Goals as goal

pub returns : goal.returns
returns c = λ f is.
    c.in_ok-explanation.ensures f (is
    ∙ ap (λ (t : ClockTextValue). (let g : ClockFacts = record { of_text = t; ends = c.args.run.end.now.ends; blocked = c.args.run.end.now.blocked; waits = c.args.run.waits.items } in g))
    (sym c.new-of_text.ensures))
