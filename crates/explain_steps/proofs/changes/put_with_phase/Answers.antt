use Rattle.std.proofs.Common.{◌∙◌, ◌++◌, ap, codes, decimal, sym}
use Rattle.explain_steps.specs.StepWords.{with_phase_words}
use Rattle.explain_steps.proofs.Pieces.{two_pieces}
use Rattle.explain_steps.proofs.changes.put_with_phase.Goals as goal

pub returns-in_ok-put_number-in-Some : goal.returns-in_ok-put_number-in-Some
returns-in_ok-put_number-in-Some c =
    two_pieces c.args.out.now.items c.put_words.new.out.items c.put_number.new.out.items (codes " with phase ") (decimal c.in-Some.n)
    c.in_ok-put_words-in-Some.ensures c.in_ok-put_number-in-Some.ensures
    ∙ ap (λ ph. c.args.out.now.items ++ with_phase_words ph) (sym c.in-Some.is)
