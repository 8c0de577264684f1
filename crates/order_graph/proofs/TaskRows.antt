-- Tasks by their numbers.
use Rattle.std.proofs.Common.{◌≡◌, true, false, ap, inl, inr}
use Rattle.std.proofs.Common.{not}
use Rattle.std.proofs.Math.Dec.{eqb}
use Rattle.std.proofs.lemmas.Bool.{cases_Bool, eqb-true, eq-eqb}
use Rattle.armus_base.specs.declared.ids.TaskId.{TaskId}
use Rattle.dep_state.proofs.DeadSets.{same_task}

-- two tasks whose numbers differ
pub not_same : (t u : TaskId) → eqb t.0 u.0 ≡ false → t ≡ u → ⊥
not_same t u off e = let on : eqb t.0 u.0 ≡ true = eq-eqb t.0 u.0 (ap (λ x. x.0) e) in absurd cc

pub same_if : (t u : TaskId) → not (eqb t.0 u.0) ≡ false → t ≡ u
same_if t u e = elim (cases_Bool (eqb t.0 u.0)) [ inl on ↦ same_task t u (eqb-true t.0 u.0 on) | inr off ↦ let h : not (eqb t.0 u.0) ≡ true = ap not off in absurd cc ]
