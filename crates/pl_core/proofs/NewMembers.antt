-- Members before any op: cells come, and nobody has a phase.
use Rattle.std.proofs.Common.{◌≡◌, ◌≢◌, ℕ, suc, ◌<◌, ◌≤◌, List, [], ◌∷◌, ◌++◌, ◌⊎◌, Some, None, length, set, arith, sym, ◌∙◌, ap, subst, refl, inl, inr}
use Rattle.std.specs.Prelude.{slice_get}
use Rattle.std.proofs.lemmas.Bool.{cases_eq}
use Rattle.std.proofs.lemmas.List.{length-set}
use Rattle.armus_base.proofs.Lists.{slice_get-set_same, slice_get-set_other}
use Rattle.pl_core.specs.declared.cell.Cell.{Cell}
use Rattle.pl_core.specs.declared.members.Members.{Members}
use Rattle.pl_core.specs.inside.Admitting.{Admits, AreNew}
use Rattle.pl_core.specs.inside.Cells.{AreBelow, StandsIn, phase_among}
use Rattle.pl_core.specs.inside.PhaseTables.{cells_at, cells_from}

pub cells_set_same : (rows : List Members) (p : ℕ) (row : Members) → p < length rows → cells_at (set rows p row) p ≡ row.cells.items
cells_set_same rows p row l = ap cells_from (slice_get-set_same rows p row l)

pub cells_set_other : (rows : List Members) (p q : ℕ) (row : Members) → q ≢ p → cells_at (set rows p row) q ≡ cells_at rows q
cells_set_other rows p q row n = ap cells_from (slice_get-set_other rows p q row n)

pub below_later : (n m : ℕ) (cs : List Cell) → AreBelow n cs → n ≤ m → AreBelow m cs
below_later n m cs below l k c e = (let low = below k c e in omega arith)

pub new_later : (phasers n m : ℕ) (rows : List Members) → AreNew phasers n rows → n ≤ m → AreNew phasers m rows
new_later phasers n m rows kept l =
    record { sized = kept.sized; below = λ p. below_later n m (cells_at rows p) (kept.below p) l; empty = kept.empty }

pub new_set :
    (phasers n : ℕ) (rows : List Members) (p : ℕ) (row : Members) → AreNew phasers n rows → p < length rows → AreBelow n row.cells.items →
    ((t : ℕ) → phase_among row.cells.items t ≡ None) → AreNew phasers n (set rows p row)
new_set phasers n rows p row kept inside below empty =
    record {
      sized = length-set rows p row ∙ kept.sized;
      below = λ q. elim (cases_eq q p) [
        | inl same ↦
            subst (λ v. AreBelow n (cells_at (set rows p row) v)) (sym same) (subst (AreBelow n) (sym (cells_set_same rows p row inside)) below)
        | inr other ↦ subst (AreBelow n) (sym (cells_set_other rows p q row other)) (kept.below q)
      ];
      empty = λ q t. elim (cases_eq q p) [
        | inl same ↦
            subst (λ v. phase_among (cells_at (set rows p row) v) t ≡ None) (sym same) (ap (λ cs. phase_among cs t) (cells_set_same rows p row inside) ∙ empty t)
        | inr other ↦ ap (λ cs. phase_among cs t) (cells_set_other rows p q row other) ∙ kept.empty q t
      ];
    }

-- a cell more for one phaser
pub admits_one :
    (rows : List Members) (p t : ℕ) (old row : Members) → slice_get rows p ≡ Some old → p < length rows → StandsIn row.cells.items t →
    ((u : ℕ) → StandsIn old.cells.items u → StandsIn row.cells.items u) → Admits rows (set rows p row) t (λ q. q ≡ p)
admits_one rows p t old row read inside there keeps =
    record {
      keeps = λ u q h. elim (cases_eq q p) [
        | inl same ↦
            subst (λ v. StandsIn (cells_at (set rows p row) v) u) (sym same)
            (subst (λ cs. StandsIn cs u) (sym (cells_set_same rows p row inside))
            (keeps u (subst (λ cs. StandsIn cs u) (ap cells_from read) (subst (λ v. StandsIn (cells_at rows v) u) same h))))
        | inr other ↦ subst (λ cs. StandsIn cs u) (sym (cells_set_other rows p q row other)) h
      ];
      there = λ q l same.
          subst (λ v. StandsIn (cells_at (set rows p row) v) t) (sym same) (subst (λ cs. StandsIn cs t) (sym (cells_set_same rows p row inside)) there);
    }

pub admits_then :
    (a b d : List Members) (t : ℕ) (M N K : ℕ → Type 0) → length b ≡ length a → Admits a b t M → Admits b d t N → ((p : ℕ) → K p → M p ⊎ N p) → Admits a d t K
admits_then a b d t M N K sized first next either =
    record {
      keeps = λ u p h. next.keeps u p (first.keeps u p h);
      there = λ p l k. elim (either p k) [
        | inl m ↦ next.keeps t p (first.there p l m)
        | inr n ↦ next.there p (omega arith) n
      ];
    }

-- phaser p is among the first k
abbrev pub IsAmongFirst : List ℕ → ℕ → ℕ → Type 0
IsAmongFirst noted k p = (j : ℕ) × (j < k) × (slice_get noted j ≡ Some p)

pub one_more_phaser : (noted : List ℕ) (k q : ℕ) → slice_get noted k ≡ Some q → (p : ℕ) → IsAmongFirst noted (suc k) p → IsAmongFirst noted k p ⊎ (p ≡ q)
one_more_phaser noted k q read p (j, l, e) =
    elim (cases_eq j k) [
      | inl same ↦ inr (let at : slice_get noted k ≡ Some p = subst (λ v. slice_get noted v ≡ Some p) same e in let both : Some p ≡ Some q = sym at ∙ read in cc)
      | inr other ↦ inl (j, omega (arith, other), e)
    ]

length-one_more : {A : Type 0} (xs : List A) (x : A) → length (xs ++ x ∷ []) ≡ suc (length xs)
length-one_more [] x = refl
length-one_more (y ∷ ys) x = ap suc (length-one_more ys x)
