use Rattle.std.proofs.Common.{◌≡◌, ◌++◌, List, ℕ, sym, subst, ap, ◌∙◌}
use Rattle.pl_syntax.specs.Grammar.{IsText}
use Rattle.pl_syntax.specs.Printed.{header_text, printed_at, printed_of}
use Rattle.pl_syntax.proofs.RoundTrip.{prints_text}
use Rattle.pl_syntax.proofs.printer.print.Goals as goal

pub returns-clause-again : goal.returns-clause-again
returns-clause-again c =
    let p = c.args.program.now in
    let e : c.put_body.new.out.items ≡ printed_of p =
    c.in_ok-put_body.ensures.text
    ∙ ap (λ (t : List ℕ). t ++ printed_at 0 p.body) (c.in_ok-put_header.ensures ∙ ap (λ (t : List ℕ). t ++ header_text p.two) c.in_ok-out.ensures.items) in
    subst (λ (t : List ℕ). IsText t p) (sym (c.from_vec.ensures.items ∙ e))
    (prints_text p (record { tree = c.in_ok-put_body.ensures.form; here = c.requires.offsets }) c.requires.shallow)
