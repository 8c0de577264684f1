-- After so many of its actions a task is at some op of its code.
use Rattle.std.proofs.Common.{◌≡◌, ℕ, suc, ◌+◌, ◌-◌, ◌<◌, ◌≤◌, List, [], ◌∷◌, ap, inl, inr, arith}
use Rattle.std.proofs.lemmas.Bool.{cases_lt}
use Rattle.armus_base.specs.declared.op.Op.{Op}
use Rattle.armus_base.specs.declared.op.Op.TheVariants as op
use Rattle.pl_core.specs.Tasks.{IsAtOp, actions_before}

at_later :
    (o : Op) (ops : List Op) (k w m : ℕ) → ((n : ℕ) → actions_before (o ∷ ops) (suc n) ≡ w + actions_before ops n) → w ≤ k → IsAtOp ops (k - w) m →
    IsAtOp (o ∷ ops) k (suc m)
at_later o ops k w m counts le at = record {
  within = let h = at.within in omega arith;
  from = let h = at.from in let c = counts m in omega arith;
  below = λ lt.
      let h = at.below (omega arith) in
      let c = counts (m + 1) in
      let same : suc m + 1 ≡ suc (m + 1) = omega arith in
      let e = ap (actions_before (o ∷ ops)) same in
      omega arith;
}

at_first : (o : Op) (ops : List Op) (k w : ℕ) → actions_before (o ∷ ops) 1 ≡ w → k < w → IsAtOp (o ∷ ops) k 0
at_first o ops k w counts lt = record { within = omega arith; from = omega arith; below = λ some. omega (arith, counts, lt) }

at_op_by :
    (o : Op) (ops : List Op) (k w : ℕ) → ((n : ℕ) → actions_before (o ∷ ops) (suc n) ≡ w + actions_before ops n) →
    ((j : ℕ) → (n : ℕ) × IsAtOp ops j n) → (n : ℕ) × IsAtOp (o ∷ ops) k n
at_op_by o ops k w counts more =
    elim (cases_lt k w) [
      | inl l ↦ (0, at_first o ops k w (let c = counts 0 in omega arith) l)
      | inr l ↦ let (m, at) = more (k - w) in (suc m, at_later o ops k w m counts l at)
    ]

pub at_some_op : (ops : List Op) (k : ℕ) → (n : ℕ) × IsAtOp ops k n
at_some_op [] k = (0, record { within = omega arith; from = omega arith; below = λ lt. absurd (omega arith) })
at_some_op (op.Make p ∷ ops) k = at_op_by (op.Make p) ops k 1 (λ n. omega arith) (at_some_op ops)
at_some_op (op.Reg c p ∷ ops) k = at_op_by (op.Reg c p) ops k 1 (λ n. omega arith) (at_some_op ops)
at_some_op (op.Fork c ∷ ops) k = at_op_by (op.Fork c) ops k 1 (λ n. omega arith) (at_some_op ops)
at_some_op (op.Adv p ∷ ops) k = at_op_by (op.Adv p) ops k 1 (λ n. omega arith) (at_some_op ops)
at_some_op (op.Drop p ∷ ops) k = at_op_by (op.Drop p) ops k 1 (λ n. omega arith) (at_some_op ops)
at_some_op (op.Await p off ∷ ops) k = at_op_by (op.Await p off) ops k 2 (λ n. omega arith) (at_some_op ops)
