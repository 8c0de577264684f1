-- Rows in which several are marked.
use Rattle.std.proofs.Common.{◌≡◌, ℕ, ◌+◌, ◌<◌, true, Bool, List, [], ◌∷◌, ◌++◌, take, length, get_or, ap, sym, ◌∙◌, refl}
use Rattle.std.proofs.lemmas.List.{take_more}
use Rattle.armus_base.specs.declared.ids.PhaserId.{PhaserId}
use Rattle.pl_plan.specs.calls.MemberRows.{marked}
use Rattle.clock_pl.specs.inside.ClockChecker.{marked_all}

pub marked_all_push : (ps : List PhaserId) (p : PhaserId) (row : List Bool) → marked_all (ps ++ p ∷ []) row ≡ marked p.0 true (marked_all ps row)
marked_all_push [] p row = refl
marked_all_push (q ∷ ps) p row = marked_all_push ps p (marked q.0 true row)

pub marked_more : (on : List PhaserId) (i : ℕ) (row new : List Bool) (d : PhaserId) → i < length on → row ≡ marked_all (take i on) [] →
    new ≡ marked (get_or on i d).0 true row → new ≡ marked_all (take (i + 1) on) []
marked_more on i row new d lt h e =
    e ∙ ap (marked (get_or on i d).0 true) h ∙ sym (marked_all_push (take i on) (get_or on i d) []) ∙ ap (λ xs. marked_all xs []) (sym (take_more on i d lt))
