-- The table of phases: what is read of it, and what a change of one row leaves.
use mathlib.Core.Path.{fun_ext}
use Rattle.std.proofs.Common.{◌≡◌, ◌≢◌, ℕ, ◌<◌, ◌≤◌, List, Option, Some, None, length, set, sym, ◌∙◌, ap, subst, refl, inl, inr}
use Rattle.std.specs.Prelude.{slice_get}
use Rattle.std.proofs.lemmas.Bool.{cases_eq}
use Rattle.std.proofs.lemmas.Option.{slice_get_past}
use Rattle.armus_base.specs.States.{with_phase}
use Rattle.armus_base.proofs.Steps.{with_phase_same, with_phase_other}
use Rattle.pl_core.specs.declared.members.Members.{Members}
use Rattle.pl_core.specs.declared.phase_table.MemberTable.{MemberTable}
use Rattle.pl_core.specs.inside.Cells.{StandsIn, phase_among}
use Rattle.pl_core.specs.inside.PhaseTables.{HasCell, cells_at, cells_from, phases_in}
use Rattle.pl_core.proofs.Cells.{stands_with_phase}
use Rattle.pl_core.proofs.NewMembers.{cells_set_other, cells_set_same}

-- what the table says is what the row says
pub phase_is : (table : MemberTable) (t p : ℕ) → phases_in table t p ≡ phase_among (cells_at table.rows.items p) t
unfolding phases_in
phase_is table t p = refl

pub row_says : (table : MemberTable) (t p : ℕ) (row : Members) → slice_get table.rows.items p ≡ Some row → phases_in table t p ≡ phase_among row.cells.items t
row_says table t p row read = phase_is table t p ∙ ap (λ o. phase_among (cells_from o) t) read

-- who has a phase has a cell
pub has_cell : (table : MemberTable) (t p n : ℕ) → phases_in table t p ≡ Some n → HasCell table t p
has_cell table t p n e = stands_with_phase (cells_at table.rows.items p) t n (sym (phase_is table t p) ∙ e)

-- behind the last phaser nobody is a member
pub past_rows : (table : MemberTable) (t p : ℕ) → length table.rows.items ≤ p → phases_in table t p ≡ None
past_rows table t p l = phase_is table t p ∙ ap (λ o. phase_among (cells_from o) t) (slice_get_past table.rows.items p l)

pub nobody_in : (table : MemberTable) → ((p t : ℕ) → phase_among (cells_at table.rows.items p) t ≡ None) → phases_in table ≡ (λ _ _. None)
nobody_in table empty = fun_ext (λ t. fun_ext (λ p. phase_is table t p ∙ empty p t))

-- one task's phase on one phaser is another, and all else is as before
pub row_changed :
    (old new : MemberTable) (t p : ℕ) (phase : Option ℕ) (row more : Members) → new.rows.items ≡ set old.rows.items p more → p < length old.rows.items →
    slice_get old.rows.items p ≡ Some row → phase_among more.cells.items t ≡ phase →
    ((u : ℕ) → u ≢ t → phase_among more.cells.items u ≡ phase_among row.cells.items u) → phases_in new ≡ with_phase (phases_in old) t p phase
row_changed old new t p phase row more rows inside read here others =
    fun_ext (λ u. fun_ext (λ q. elim (cases_eq q p) [
      | inl same ↦
          subst (λ v. phases_in new u v ≡ with_phase (phases_in old) t p phase u v) (sym same)
          (elim (cases_eq u t) [
            | inl mine ↦
                subst (λ v. phases_in new v p ≡ with_phase (phases_in old) t p phase v p) (sym mine)
                (now t ∙ here ∙ sym (with_phase_same (phases_in old) t p phase))
            | inr other ↦
                now u ∙ others u other ∙ sym (row_says old u p row read) ∙ sym (with_phase_other (phases_in old) t p phase u p (λ e. absurd (other e)))
          ])
      | inr away ↦
          phase_is new u q
          ∙ ap (λ rs. phase_among (cells_at rs q) u) rows
          ∙ ap (λ cs. phase_among cs u) (cells_set_other old.rows.items p q more away)
          ∙ sym (phase_is old u q)
          ∙ sym (with_phase_other (phases_in old) t p phase u q (λ e. away))
    ]))
  where
    now : (u : ℕ) → phases_in new u p ≡ phase_among more.cells.items u
    now u =
        phase_is new u p
        ∙ ap (λ rs. phase_among (cells_at rs p) u) rows
        ∙ ap (λ cs. phase_among cs u) (cells_set_same old.rows.items p more inside)

-- no cell is lost
pub row_keeps :
    (old new : List Members) (p : ℕ) (row more : Members) → new ≡ set old p more → p < length old → slice_get old p ≡ Some row →
    ((u : ℕ) → StandsIn row.cells.items u → StandsIn more.cells.items u) → (t q : ℕ) → StandsIn (cells_at old q) t → StandsIn (cells_at new q) t
row_keeps old new p row more rows inside read keeps t q h =
    subst (λ rs. StandsIn (cells_at rs q) t) (sym rows)
    (elim (cases_eq q p) [
      | inl same ↦
          subst (λ v. StandsIn (cells_at (set old p more) v) t) (sym same)
          (subst (λ cs. StandsIn cs t) (sym (cells_set_same old p more inside))
          (keeps t (subst (λ cs. StandsIn cs t) (ap cells_from read) (subst (λ v. StandsIn (cells_at old v) t) same h))))
      | inr other ↦ subst (λ cs. StandsIn cs t) (sym (cells_set_other old p q more other)) h
    ])
