-- The phases of all tasks, as rows: before any op, and behind a write.
use mathlib.Core.Path.{fun_ext}
use Rattle.std.proofs.Common.{◌≡◌, ◌∙◌, ◌+◌, ◌++◌, ◌<◌, ℕ, zero, suc, List, [], ◌∷◌, Option, Some, None, Vec, ap, arith, get_or-set_other, get_or-set_same, inl, inr, length, length-append, refl, replicate, set, slice_index_or, subst, sym}
use Rattle.std.specs.Global.{Global}
use Rattle.std.specs.Prelude.{◌==◌, ◌&&◌, if◌then◌else◌, slice_get}
use Rattle.std.proofs.lemmas.Bool.{cases_eq, eq-eqb, ne_eqb}
use Rattle.std.proofs.lemmas.List.{length-replicate, length-set}
use Rattle.std.proofs.lemmas.Option.{slice_get_within}
use Rattle.armus_base.specs.States.{Phases, with_phase}
use Rattle.armus_base.proofs.Lists.{slice_get-set_other, slice_get-set_same, some_at}
use Rattle.explain_facts.specs.declared.phase_rows.PhaseRows.{PhaseRows}
use Rattle.explain_facts.specs.inside.PhaseRows.{HaveRowCells, phases_in_rows, phases_of_rows, row_phases}

-- ---- a write

with_here : (f : ℕ → Phases) (t q : ℕ) (v : Option ℕ) (u r : ℕ) → u ≡ t → r ≡ q → with_phase f t q v u r ≡ v
with_here f t q v u r a b =
    ap (λ x. if x && (r == q) then v else f u r) (eq-eqb u t a) ∙ ap (λ x. if x then v else f u r) (eq-eqb r q b)

with_column : (f : ℕ → Phases) (t q : ℕ) (v : Option ℕ) (u r : ℕ) → u ≡ t → (r ≡ q → ⊥) → with_phase f t q v u r ≡ f u r
with_column f t q v u r a b =
    ap (λ x. if x && (r == q) then v else f u r) (eq-eqb u t a) ∙ ap (λ x. if x then v else f u r) (ne_eqb r q b)

with_row : (f : ℕ → Phases) (t q : ℕ) (v : Option ℕ) (u r : ℕ) → (u ≡ t → ⊥) → with_phase f t q v u r ≡ f u r
with_row f t q v u r a = ap (λ x. if x && (r == q) then v else f u r) (ne_eqb u t a)

module _ (rows : List (Vec (Option ℕ) Global)) (t q : ℕ) (v : Option ℕ) (row row' : Vec (Option ℕ) Global) (read : slice_get rows t ≡ Some row)
    (within : q < length row.items) (written : row'.items ≡ set row.items q v) where
  there : slice_get (set rows t row') t ≡ Some row'
  there = slice_get-set_same rows t row' (slice_get_within rows t row read)

  own : (u r : ℕ) → u ≡ t → phases_of_rows (set rows t row') u r ≡ slice_index_or (set row.items q v) r None
  own u r same = ap (λ w. row_phases (slice_get (set rows t row') w) r) same ∙ ap (λ o. row_phases o r) there ∙ ap (λ xs. slice_index_or xs r None) written

  before : (u r : ℕ) → u ≡ t → phases_of_rows rows u r ≡ slice_index_or row.items r None
  before u r same = ap (λ w. row_phases (slice_get rows w) r) same ∙ ap (λ o. row_phases o r) read

  pub phases_set : phases_of_rows (set rows t row') ≡ with_phase (phases_of_rows rows) t q v
  phases_set =
      fun_ext (λ u. fun_ext (λ r. elim (cases_eq u t) [
        | inl a ↦ elim (cases_eq r q) [
          | inl b ↦
              own u r a ∙ ap (λ k. slice_index_or (set row.items q v) k None) b ∙ get_or-set_same row.items q v None within
              ∙ sym (with_here (phases_of_rows rows) t q v u r a b)
          | inr b ↦
              own u r a ∙ get_or-set_other row.items q r v None b ∙ sym (before u r a)
              ∙ sym (with_column (phases_of_rows rows) t q v u r a b)
        ]
        | inr a ↦ ap (λ o. row_phases o r) (slice_get-set_other rows t u row' a) ∙ sym (with_row (phases_of_rows rows) t q v u r a)
      ]))

  pub cells_stay : (u r : ℕ) → (old : Vec (Option ℕ) Global) × (slice_get rows u ≡ Some old) × (r < length old.items) →
      (new : Vec (Option ℕ) Global) × (slice_get (set rows t row') u ≡ Some new) × (r < length new.items)
  cells_stay u r (old, is, l) = elim (cases_eq u t) [
    | inl a ↦
        let same : row ≡ old = (let at : slice_get rows t ≡ Some old = subst (λ w. slice_get rows w ≡ Some old) a is in cc) in
        let fit : r < length row.items = subst (λ (w : Vec (Option ℕ) Global). r < length w.items) (sym same) l in
        let long = ap length written ∙ length-set row.items q v in
        (row', subst (λ w. slice_get (set rows t row') w ≡ Some row') (sym a) there, omega (arith, fit, long))
    | inr a ↦ (old, slice_get-set_other rows t u row' a ∙ is, l)
  ]

-- ---- before any op

none_at : (n q : ℕ) → slice_index_or {A = Option ℕ} (replicate n None) q None ≡ None
none_at zero q = refl
none_at (suc n) zero = refl
none_at (suc n) (suc q) = none_at n q

-- so many rows, of tasks that are members of nothing
pub record AreEmptyRows (tasks phasers : ℕ) (rows : List (Vec (Option ℕ) Global)) : Type 0 where
  pub one_each : length rows ≡ tasks
  pub empty : (t : ℕ) (row : Vec (Option ℕ) Global) → slice_get rows t ≡ Some row → row.items ≡ replicate phasers None

pub no_rows : (phasers : ℕ) → AreEmptyRows 0 phasers []
no_rows phasers = record { one_each = refl; empty = λ t row e. absurd (cc) }

last_or_before : (rows : List (Vec (Option ℕ) Global)) (last : Vec (Option ℕ) Global) (phasers t : ℕ) (row : Vec (Option ℕ) Global) →
    ((u : ℕ) (r : Vec (Option ℕ) Global) → slice_get rows u ≡ Some r → r.items ≡ replicate phasers None) → last.items ≡ replicate phasers None →
    slice_get (rows ++ last ∷ []) t ≡ Some row → row.items ≡ replicate phasers None
last_or_before [] last phasers zero row all is e = (let same : last ≡ row = cc in ap (λ (w : Vec (Option ℕ) Global). w.items) (sym same) ∙ is)
last_or_before [] last phasers (suc t) row all is e = absurd (cc)
last_or_before (r ∷ rows) last phasers zero row all is e = all 0 row e
last_or_before (r ∷ rows) last phasers (suc t) row all is e = last_or_before rows last phasers t row (λ u w f. all (suc u) w f) is e

pub one_row_more : (tasks phasers : ℕ) (rows : List (Vec (Option ℕ) Global)) (row : Vec (Option ℕ) Global) → AreEmptyRows tasks phasers rows →
    row.items ≡ replicate phasers None → AreEmptyRows (tasks + 1) phasers (rows ++ row ∷ [])
one_row_more tasks phasers rows row are is = record {
  one_each = omega (arith, length-append rows (row ∷ []), are.one_each);
  empty = λ t r e. last_or_before rows row phasers t r are.empty is e;
}

module _ (tasks phasers : ℕ) (p : PhaseRows) (are : AreEmptyRows tasks phasers p.rows.items) where
  no_phase : (t q : ℕ) (o : Option (Vec (Option ℕ) Global)) → slice_get p.rows.items t ≡ o → row_phases o q ≡ None
  no_phase t q None e = refl
  no_phase t q (Some row) e = ap (λ xs. slice_index_or xs q None) (are.empty t row e) ∙ none_at phasers q

  pub nobody_is_member : phases_in_rows p ≡ (λ _ _. None)
  nobody_is_member = fun_ext (λ t. fun_ext (λ q. no_phase t q (slice_get p.rows.items t) refl))

  pub cells_are_there : HaveRowCells tasks phasers p
  cells_are_there t q below within =
      let (row, is) = some_at p.rows.items t (omega (arith, below, are.one_each)) in
      let long = ap length (are.empty t row is) ∙ length-replicate phasers None in
      (row, is, omega (arith, long, within))
