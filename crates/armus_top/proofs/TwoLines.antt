-- A report has at least two lines.
use Rattle.std.proofs.Common.{◌≡◌, ◌∙◌, ◌<◌, ◌+◌, ◌++◌, [], ◌∷◌, ℕ, List, length, sym, subst, ap, refl, arith, append_assoc, codes}
use Rattle.std.specs.Prelude.{decimal, IfOk, Result, Ok, Err}
use Rattle.armus_base.specs.declared.errors.NoMemory.{NoMemory}
use Rattle.std.proofs.lemmas.List.{append_cancel_right}
use Rattle.armus_base.specs.declared.ending.Final.{Final}
use Rattle.adaptive.specs.declared.analysis.Wanted.{Wanted}
use Rattle.report.specs.Counts.{counts_of}
use Rattle.report.specs.Lines.{counts_line, graph_name, task_lines}
use Rattle.report.specs.Reports.{IsReport}
use Rattle.adaptive.specs.declared.analysis.Used.{Used}
use Rattle.schedule.specs.Lines.{HasNoEnd, IsCut, IsFirstLine, a_line, ended, unended}
use Rattle.schedule.proofs.OneSchedule.{no_end_inside}
use Rattle.program_io.specs.Texts.{Text}
use Rattle.pl_syntax.specs.Printed.{line}
use Rattle.armus_top.specs.Generated.{IsFirstAndLast}
use Rattle.armus_top.specs.inside.TwoLines.{HasTwoLines}

-- what is put together of a line, more bytes and a line has two lines
joined : (a b y g : Text) → line a ++ b ++ y ++ line g ≡ line (a ++ 10 ∷ (b ++ y ++ g))
joined a b y g = simp append_assoc refl

of_parts : (a b y g text : Text) → text ≡ line a ++ b ++ y ++ line g → HasTwoLines text
of_parts a b y g text e = (a, b ++ y ++ g, e ∙ joined a b y g)

counts_words : ℕ → ℕ → ℕ → ℕ → ℕ → ℕ → Text
counts_words tasks done dead held refused unforked =
    codes "tasks " ++ decimal tasks ++ codes " done " ++ decimal done ++ codes " dead " ++ decimal dead ++ codes " held " ++ decimal held
    ++ codes " refused "
    ++ decimal refused
    ++ codes " unforked "
    ++ decimal unforked

graph_words : Used → ℕ → Text
graph_words used edges = codes "graph " ++ graph_name used ++ codes " " ++ decimal edges

pub report_has_two : (end : Final) (wanted : Wanted) (text : Text) → IsReport end wanted text → HasTwoLines text
unfolding counts_words graph_words
report_has_two end wanted text r =
    let (used, edges, is_used, is_count, graph_is) = r.graph in
    let n = counts_of r.standings in
    of_parts (counts_words n.tasks n.done n.dead n.held n.refused n.unforked) (task_lines r.standings) r.cycle_text (graph_words used edges) text
    (r.lines ∙ ap (λ t. counts_line (counts_of r.standings) ++ task_lines r.standings ++ r.cycle_text ++ t) graph_is)

-- more stands behind the first of two lines
pub more_lines : (text first rest : Text) → HasTwoLines text → IsFirstLine text first rest → 0 < length rest
more_lines text first [] (front, back, e) (ended free is) =
    let same : first ++ 10 ∷ [] ≡ (front ++ 10 ∷ back) ++ 10 ∷ [] = sym is ∙ e in
    absurd (no_end_inside front back (subst HasNoEnd (append_cancel_right first (front ++ 10 ∷ back) (10 ∷ []) same) free))
more_lines text first (x ∷ xs) two (ended free is) = omega arith
more_lines text first rest (front, back, e) (unended free some is nothing) =
    absurd (no_end_inside (front ++ 10 ∷ back) [] (subst HasNoEnd (sym is ∙ e) free))

-- the first and the last line of the text, one behind the other
pub both_lines : (text first more last : Text) (result : Result Text NoMemory) → IsFirstLine text first more → (before : List Text) × IsCut more (before ++ last ∷ [])
    → IfOk result (λ shown. shown ≡ line first ++ line last) → IfOk result (IsFirstAndLast text)
both_lines text first more last (Ok shown) here (before, cut) is =
    record { first = first; between = before; last = last; cut = a_line text first more (before ++ last ∷ []) here cut; text_is = is }
both_lines text first more last (Err e) here cut is = tt
