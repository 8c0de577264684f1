-- The forks of the starts that are kept are those of the program.
use Rattle.std.proofs.Common.{◌≡◌, ℕ, ◌-◌, ◌<◌, Option, Some, None, Ok, List, length, get_or, map, sym, ap, ◌∙◌, arith}
use Rattle.std.proofs.lemmas.List.{ext_get_or, get_or-map, length-map}
use Rattle.armus_base.specs.Limits.{max_tasks}
use Rattle.pl_syntax.specs.declared.tree.Program.{Program}
use Rattle.pl_plan.specs.declared.step.FlatStep.{FlatStep}
use Rattle.pl_plan.specs.Forks.{fork_of, fork_statements, starts_in, starts_of}
use Rattle.pl_plan.specs.Unfolding.{Start, UnfoldingState, opening_state, unfold_tasks}
use Rattle.pl_plan.specs.inside.Checker.{Checker, CheckerStart}
use Rattle.pl_plan.specs.inside.KeptForks.{kept_fork}
use Rattle.pl_plan.specs.inside.Shows.{MaybeStartShows, ShowsState}

-- the starts at the end of an unfolding are the program's
pub starts_found : (program : Program) (end : UnfoldingState) → unfold_tasks program.two max_tasks 0 (opening_state program.body) ≡ Ok end → starts_of program ≡ end.starts
unfolding starts_of
starts_found program end e = ap starts_in e

same_fork : (names : ℕ → List ℕ) (slots : List ℕ) (steps : List FlatStep) (start : Option Start) (kept : Option CheckerStart) → MaybeStartShows names slots steps start kept →
    kept_fork kept ≡ fork_of start
same_fork names slots steps None None h = cc
same_fork names slots steps (Some start) (Some kept) h = ap Some (let e : kept.first ≡ start.first - 1 = omega (arith, h.first) in e)
same_fork names slots steps None (Some kept) h = absurd h
same_fork names slots steps (Some start) None h = absurd h

pub forks_found : (names : ℕ → List ℕ) (k : Checker) (program : Program)
    (w : (s : UnfoldingState) × (unfold_tasks program.two max_tasks 0 (opening_state program.body) ≡ Ok s) × ShowsState names k s) →
    (kept : List (Option CheckerStart)) → kept ≡ k.starts → map kept_fork kept ≡ fork_statements program
forks_found names k program w kept is =
    let starts : List (Option Start) = w.0.starts in
    let many : length starts ≡ length k.starts = w.2.starts_many in
    let same : map kept_fork k.starts ≡ map fork_of starts =
    ext_get_or None (map kept_fork k.starts) (map fork_of starts) (length-map k.starts kept_fork ∙ sym many ∙ sym (length-map starts fork_of)) (λ i l.
    let below : i < length k.starts = omega (arith, l, length-map k.starts kept_fork) in
    let there : i < length starts = omega (arith, below, many) in
    get_or-map kept_fork k.starts i None None below
    ∙ same_fork names k.bindings.slots k.steps (get_or starts i None) (get_or k.starts i None) (w.2.starts i)
    ∙ sym (get_or-map fork_of starts i None None there)) in
    ap (map kept_fork) is ∙ same ∙ ap (map fork_of) (sym (starts_found program w.0 w.1))
