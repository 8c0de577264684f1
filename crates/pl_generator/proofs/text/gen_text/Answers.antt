use Rattle.std.proofs.Common.{rules, ◌≡◌, ◌≤◌, ℕ, List, ◌++◌, length, sym, ◌∙◌, subst}
use Rattle.std.specs.Prelude.{decimal}
use Rattle.std.specs.List.{flat_map}
use Rattle.pl_generator.specs.declared.text.TheConstants.{MAKES_PHASERS, MAKES_WORKERS, MAX_GENERATED_BYTES}
use Rattle.pl_syntax.specs.Printed.{line}
use Rattle.pl_generator.specs.Generated.{lines_after_loop, generated_text}
use Rattle.pl_generator.proofs.LaidOut.{laid_out, text_short}
use Rattle.pl_generator.proofs.text.gen_text.Goals as goal

written : (c : goal.After-drop-number-2) → c.from_vec.result ≡ generated_text c.args.n
written c =
    let pieces : c.from_vec.result ≡ MAKES_PHASERS.now ++ decimal c.args.n ++ MAKES_WORKERS.now ++ flat_map line (lines_after_loop c.args.n) = search rules in
    pieces ∙ laid_out c.args.n

pub returns : goal.returns
returns c = record { text = written c; short = subst (λ (text : List ℕ). length text ≤ MAX_GENERATED_BYTES) (sym (written c)) (text_short c.args.n c.ranges.n.fits) }
