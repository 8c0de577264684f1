-- The steps of a run of a text's plan are shown by one list of lines.
use Rattle.std.proofs.Common.{◌≡◌, ◌∙◌, subst, sym}
use Rattle.pl_syntax.specs.declared.tree.Program.{Program}
use Rattle.pl_syntax.proofs.Unique.{one_tree}
use Rattle.explain_facts.specs.Accounts.{IsLayout, Layout}
use Rattle.explain_facts.proofs.OneAccount.{one_layout}
use Rattle.explain_steps.specs.calls.Laws.{OneShowing}
use Rattle.explain_steps.specs.ShownSteps.{ShowSteps}
use Rattle.explain_steps.specs.StepWords.{shown_step_line}
use Rattle.explain_steps.proofs.Showing.{one_shown}

pub one_showing : OneShowing
one_showing text p q plan h lines other a b =
    let programs : q ≡ p = one_tree text q p b.reads a.reads in
    let layout_b : IsLayout p b.layout = subst (λ (r : Program). IsLayout r b.layout) programs b.is_layout in
    let layouts : b.layout ≡ a.layout = one_layout p b.layout a.layout layout_b a.is_layout (b.of_text ∙ sym a.of_text) in
    let of_p : ShowSteps (λ r. shown_step_line b.layout p) plan h other =
    subst (λ (r : Program). ShowSteps (λ s. shown_step_line b.layout r) plan h other) programs b.shows in
    let of_a : ShowSteps (λ r. shown_step_line a.layout p) plan h other =
    subst (λ (l : Layout). ShowSteps (λ r. shown_step_line l p) plan h other) layouts of_p in
    one_shown (λ r. shown_step_line a.layout p) plan h lines other a.shows of_a
