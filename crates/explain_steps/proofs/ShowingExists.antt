-- The steps of a run of a text's plan are shown by a list of lines.
use Rattle.explain_facts.proofs.LayoutExists.{layout_exists}
use Rattle.explain_steps.specs.calls.Laws.{ShowingExists}
use Rattle.explain_steps.specs.StepWords.{shown_step_line}
use Rattle.explain_steps.proofs.Showing.{some_shown}

pub showing_exists : ShowingExists
showing_exists text p plan h reads =
    let (layout, of_text, is_layout) = layout_exists text p reads in
    let (lines, shows) = some_shown (λ q. shown_step_line layout p) plan h in
    (lines, record { reads = reads; layout = layout; of_text = of_text; is_layout = is_layout; shows = shows })
