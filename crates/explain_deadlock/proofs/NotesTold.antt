-- The notes, told one after the other.
use Rattle.std.proofs.Common.{◌≡◌, ◌∙◌, ◌+◌, ◌++◌, ◌<◌, ℕ, suc, Bool, false, List, ap, append_assoc, arith, length}
use Rattle.std.specs.Prelude.{slice_index_or}
use Rattle.std.proofs.lemmas.List.{get_or_default}
use Rattle.armus_base.specs.Plans.{Plan}
use Rattle.explain_facts.specs.PhaserUses.{is_used_so}
use Rattle.explain_facts.specs.declared.uses.PhaserUse.TheVariants.{Awaits, Registers}
use Rattle.explain_tasks.specs.Facts.{FactsValue}
use Rattle.explain_deadlock.specs.Notes.{note_by, notes_below}

-- a mark, as it is read from a list that is long enough
pub mark_read : (marks : List Bool) (q : ℕ) (mark is : Bool) → q < length marks → mark ≡ slice_index_or marks q mark → slice_index_or marks q false ≡ is → mark ≡ is
mark_read marks q mark is inside read known = read ∙ get_or_default marks q mark false inside ∙ known

-- one note more
pub notes_more : (f : FactsValue) (plan : Plan) (q : ℕ) (out now next : List ℕ) (a b : Bool) → now ≡ out ++ notes_below f plan q → next ≡ now ++ note_by f plan q a b
    → a ≡ is_used_so Awaits plan q → b ≡ is_used_so Registers plan q → next ≡ out ++ notes_below f plan (q + 1)
notes_more f plan q out now next a b so is awaited registered =
    let one : suc q ≡ q + 1 = omega arith in
    is
    ∙ ap (λ z. z ++ note_by f plan q a b) so
    ∙ append_assoc out (notes_below f plan q) (note_by f plan q a b)
    ∙ ap (λ x. out ++ (notes_below f plan q ++ note_by f plan q x b)) awaited
    ∙ ap (λ x. out ++ (notes_below f plan q ++ note_by f plan q (is_used_so Awaits plan q) x)) registered
    ∙ ap (λ n. out ++ notes_below f plan n) one
