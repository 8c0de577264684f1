-- What the first ops of a code have left, op by op; and at which op of its code a task stands.
use Rattle.std.proofs.Common.{◌≡◌, ℕ, ◌+◌, ◌<◌, ◌≤◌, Bool, true, false, subst, cond, if◌then◌else◌, List, [], ◌∷◌, ◌++◌, length, take, drop, arith, refl, sym, ap, ◌∙◌, inl, inr}
use Rattle.std.specs.Prelude.{◌==◌, ◌&&◌, ◌||◌, count_by, get_or, not, reverse, slice_index_or}
use Rattle.std.proofs.lemmas.Bool.{cases_eq, eq-eqb, ne_eqb}
use Rattle.std.proofs.lemmas.List.{drop_more, length-drop, reverse-append, take_more}
use Rattle.std.proofs.lemmas.List.Sums.{sum_by-append}
use Rattle.armus_base.specs.declared.op.Op.{Op}
use Rattle.armus_base.specs.declared.op.Op.TheVariants as op
use Rattle.explain_clock.specs.ClockFacts.{is_pending, is_signalled}
use Rattle.explain_clock.specs.inside.Passing.{pending_by}
use Rattle.pl_plan.specs.calls.MemberRows.{marked}
use Rattle.pl_plan.proofs.MemberRows.{marked_other, marked_same}
use Rattle.clock_source_map.specs.ClockOps.{is_await}

count_by-append : (xs ys : List Op) → count_by is_await (xs ++ ys) ≡ count_by is_await xs + count_by is_await ys
count_by-append xs ys = sum_by-append (λ x. cond (is_await x) 1 0) xs ys

-- the first i of these ops are gone through, and those are left
pub record Passing (ops : List Op) (i waits : ℕ) (pending : List Bool) (left : List Op) : Type 0 where
  pub few : waits ≤ i
  pub left_is : left ≡ drop i ops
  pub waits_are : waits ≡ count_by is_await (take i ops)
  pub pending_is : (p : ℕ) → slice_index_or pending p false ≡ is_pending (take i ops) p

pub passing_first : (ops left : List Op) (pending : List Bool) → left ≡ ops → pending ≡ [] → Passing ops 0 0 pending left
passing_first ops left pending e none = record {
  few = omega arith;
  left_is = e;
  waits_are = refl;
  pending_is = λ p. ap (λ row. slice_index_or row p false) none;
}

-- ---- what is pending

-- a signal on q is one on p where they are one
signals_here : (p q : ℕ) (row : List Bool) (was : Bool) → slice_index_or row p false ≡ was → slice_index_or (marked q true row) p false ≡ (q == p || was)
signals_here p q row was is =
    elim (cases_eq q p) [
      | inl same ↦ subst (λ r. slice_index_or (marked q true row) r false ≡ (q == r || was)) same
          (marked_same q true row ∙ sym (ap (λ b. b || was) (eq-eqb q q refl)))
      | inr other ↦ marked_other q p true row (λ e. other (sym e)) ∙ is ∙ sym (ap (λ b. b || was) (ne_eqb q p other))
    ]

-- and so where it is no longer pending
ends_here : (p q : ℕ) (row : List Bool) (was : Bool) → slice_index_or row p false ≡ was → slice_index_or (marked q false row) p false ≡ (not (q == p) && was)
ends_here p q row was is =
    elim (cases_eq q p) [
      | inl same ↦ subst (λ r. slice_index_or (marked q false row) r false ≡ (not (q == r) && was)) same
          (marked_same q false row ∙ sym (ap (λ b. not b && was) (eq-eqb q q refl)))
      | inr other ↦ marked_other q p false row (λ e. other (sym e)) ∙ is ∙ sym (ap (λ b. not b && was) (ne_eqb q p other))
    ]

by_last : (p : ℕ) (row : List Bool) (x : Op) (before : List Op) → slice_index_or row p false ≡ is_signalled p before
    → slice_index_or (pending_by x row) p false ≡ is_signalled p (x ∷ before)
by_last p row (op.Make q) before is = is
by_last p row (op.Reg c q) before is = is
by_last p row (op.Fork c) before is = is
by_last p row (op.Adv q) before is = signals_here p q.0 row (is_signalled p before) is
by_last p row (op.Drop q) before is = ends_here p q.0 row (is_signalled p before) is
by_last p row (op.Await q off) before is = ends_here p q.0 row (is_signalled p before) is

one_more : (x : Op) → count_by is_await (x ∷ []) ≡ (if is_await x then 1 else 0)
one_more (op.Make p) = refl
one_more (op.Reg c p) = refl
one_more (op.Fork c) = refl
one_more (op.Adv p) = refl
one_more (op.Drop p) = refl
one_more (op.Await p off) = refl

at_most_one : (x : Op) → (if is_await x then 1 else 0) ≤ 1
at_most_one (op.Make p) = omega arith
at_most_one (op.Reg c p) = omega arith
at_most_one (op.Fork c) = omega arith
at_most_one (op.Adv p) = omega arith
at_most_one (op.Drop p) = omega arith
at_most_one (op.Await p off) = omega arith

heads : (x y : Op) (xs ys : List Op) → x ∷ xs ≡ y ∷ ys → x ≡ y
heads x y xs ys e = cc

tails : (x y : Op) (xs ys : List Op) → x ∷ xs ≡ y ∷ ys → xs ≡ ys
tails x y xs ys e = cc

module _ (ops : List Op) (i waits : ℕ) (pending : List Bool) (left : List Op) (h : Passing ops i waits pending left) (within : i < length ops) where
  -- there is an op
  pub passing_some : left ≡ [] → ⊥
  passing_some none = let some = sym none ∙ h.left_is in let many = ap length some ∙ length-drop i ops in omega (arith, within)

  -- one op more
  pub passing_next : (x : Op) (rest : List Op) (count more : ℕ) (next : List Bool) → left ≡ x ∷ rest → count ≡ (if is_await x then 1 else 0) → more ≡ waits + count →
      next ≡ pending_by x pending → Passing ops (i + 1) more next rest
  passing_next x rest count more next is many sum marks =
      let splits : x ∷ rest ≡ get_or ops i x ∷ drop (i + 1) ops = sym is ∙ h.left_is ∙ drop_more ops i x within in
      let here : get_or ops i x ≡ x = sym (heads x (get_or ops i x) rest (drop (i + 1) ops) splits) in
      let taken : take (i + 1) ops ≡ take i ops ++ x ∷ [] = take_more ops i x within ∙ ap (λ z. take i ops ++ z ∷ []) here in
      record {
        few = (let f = h.few in let one = at_most_one x in omega (arith, many, sum));
        left_is = tails x (get_or ops i x) rest (drop (i + 1) ops) splits;
        waits_are = (let counted = ap (count_by is_await) taken ∙ count_by-append (take i ops) (x ∷ []) in let own = one_more x in omega (arith, counted, own, many, sum, h.waits_are));
        pending_is = λ p.
            ap (λ row. slice_index_or row p false) marks
            ∙ by_last p pending x (reverse (take i ops)) (h.pending_is p)
            ∙ sym (ap (λ (z : List Op). is_signalled p (reverse z)) taken ∙ ap (is_signalled p) (reverse-append (take i ops) (x ∷ [])));
      }
