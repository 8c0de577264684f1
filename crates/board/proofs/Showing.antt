-- No two words stand in one place, and what a store makes the words show.
use Rattle.std.proofs.Common.{◌≡◌, ◌≢◌, ℕ, suc, ◌+◌, ◌*◌, ◌/◌, ◌<◌, ◌≤◌, List, Option, None, length, get_or, set, replicate, sym, ap, ◌∙◌, arith, length-set, get_or-set_same, get_or-set_other, mul-le-mul_right, suc-mul, inl, inr}
use Rattle.std.proofs.lemmas.Bool.{cases_eq}
use Rattle.std.proofs.lemmas.Nat.{div-mul-add}
use Rattle.std.proofs.lemmas.List.{length-replicate, get_or-replicate}
use Rattle.armus_base.specs.Plans.{Plan}
use Rattle.armus_base.specs.States.{State, opening}
use Rattle.board.specs.calls.Words.{IsShown, await_index, await_number, found_in, phase_index, phase_number, word_count}

pub rows_apart : (w t p u q : ℕ) → p < w → q < w → t * w + p ≡ u * w + q → (t ≡ u) × (p ≡ q)
rows_apart w t p u q a b e =
    let rows : t ≡ u = sym (div-mul-add t w p a) ∙ ap (λ (n : ℕ). n / w) e ∙ div-mul-add u w q b in
    let m : t * w ≡ u * w = ap (λ (n : ℕ). n * w) rows in (rows, omega arith)

-- two phase words in one place are one
pub phases_apart :
    (plan : Plan) (t p u q : ℕ) → t < length plan.parents → u < length plan.parents → phase_index plan t p ≡ phase_index plan u q → (t ≡ u) × (p ≡ q)
phases_apart plan t p u q a b e = let r = rows_apart (length plan.parents) p t q u a b (omega arith) in (r.1, r.0)

pub phase_within : (plan : Plan) (t p : ℕ) → t < length plan.parents → p < length plan.makers → phase_index plan t p < word_count plan
phase_within plan t p a b =
    let w : ℕ = length plan.parents in
    let n : ℕ = length plan.makers in
    let m : suc p * w ≤ n * w = mul-le-mul_right w b in omega (arith, suc-mul p w)

-- one phase changes
pub shows_phase :
    (plan : Plan) (s s' : State) (lock : Option ℕ) (words : List ℕ) (t p : ℕ) (x : Option ℕ) → IsShown plan s lock words →
    t < length plan.parents → p < length plan.makers → s'.phases t p ≡ x → ((u q : ℕ) → (u ≡ t → q ≢ p) → s'.phases u q ≡ s.phases u q) →
    ((u : ℕ) → found_in s' u ≡ found_in s u) → IsShown plan s' lock (set words (phase_index plan t p) (phase_number x))
shows_phase plan s s' lock words t p x sh a b here others same =
    record {
      count = length-set words at n ∙ sh.count;
      holder = get_or-set_other words at 0 n 0 (λ e. omega arith) ∙ sh.holder;
      awaits = λ u lt.
          get_or-set_other words at (await_index u) n 0 (λ e. omega arith) ∙ sh.awaits u lt ∙ ap await_number (sym (same u));
      phases = λ u q lu lq. elim (cases_eq u t) [
        | inl ut ↦ elim (cases_eq q p) [
          | inl qp ↦
              ap (λ i. get_or (set words at n) i 0) (ap (λ v. phase_index plan v q) ut ∙ ap (phase_index plan t) qp)
              ∙ get_or-set_same words at n 0 (let w = sh.count in let h = phase_within plan t p a b in omega arith)
              ∙ ap phase_number (sym here ∙ ap (s'.phases t) (sym qp) ∙ ap (λ v. s'.phases v q) (sym ut))
          | inr ne ↦
              get_or-set_other words at (phase_index plan u q) n 0 (λ e. ne (phases_apart plan u q t p lu a e).1)
              ∙ sh.phases u q lu lq ∙ ap phase_number (sym (others u q (λ _. ne)))
        ]
        | inr ne ↦
            get_or-set_other words at (phase_index plan u q) n 0 (λ e. ne (phases_apart plan u q t p lu a e).0)
            ∙ sh.phases u q lu lq ∙ ap phase_number (sym (others u q (λ e. absurd (ne e))))
      ];
    }
  where
    at : ℕ
    at = phase_index plan t p

    n : ℕ
    n = phase_number x

-- what one task awaits changes
pub shows_await :
    (plan : Plan) (s s' : State) (lock : Option ℕ) (words : List ℕ) (t : ℕ) → IsShown plan s lock words → t < length plan.parents →
    ((u p : ℕ) → s'.phases u p ≡ s.phases u p) → ((u : ℕ) → u ≢ t → found_in s' u ≡ found_in s u) →
    IsShown plan s' lock (set words (await_index t) (await_number (found_in s' t)))
shows_await plan s s' lock words t sh a same others =
    record {
      count = length-set words (await_index t) n ∙ sh.count;
      holder = get_or-set_other words (await_index t) 0 n 0 (λ e. omega arith) ∙ sh.holder;
      awaits = λ u lt. elim (cases_eq u t) [
        | inl e ↦
            ap (λ v. get_or (set words (await_index t) n) (await_index v) 0) e
            ∙ get_or-set_same words (await_index t) n 0 (let w = sh.count in omega arith)
            ∙ ap (λ v. await_number (found_in s' v)) (sym e)
        | inr ne ↦
            get_or-set_other words (await_index t) (await_index u) n 0 (λ e. ne (omega arith)) ∙ sh.awaits u lt ∙ ap await_number (sym (others u ne))
      ];
      phases = λ u p lu lp.
          get_or-set_other words (await_index t) (phase_index plan u p) n 0 (λ e. omega arith) ∙ sh.phases u p lu lp ∙ ap phase_number (sym (same u p));
    }
  where
    n : ℕ
    n = await_number (found_in s' t)

-- nothing that the words say changes
pub shows_same :
    (plan : Plan) (s s' : State) (lock : Option ℕ) (words : List ℕ) → IsShown plan s lock words → ((u p : ℕ) → s'.phases u p ≡ s.phases u p) →
    ((u : ℕ) → found_in s' u ≡ found_in s u) → IsShown plan s' lock words
shows_same plan s s' lock words sh same others =
    record {
      count = sh.count;
      holder = sh.holder;
      awaits = λ u lt. sh.awaits u lt ∙ ap await_number (sym (others u));
      phases = λ u p lu lp. sh.phases u p lu lp ∙ ap phase_number (sym (same u p));
    }

-- the words of the opening
pub shows_opening : (plan : Plan) → IsShown plan opening None (replicate (word_count plan) 0)
shows_opening plan =
    record {
      count = length-replicate {A = ℕ} (word_count plan) 0;
      holder = get_or-replicate (word_count plan) 0 0 0 (omega arith);
      awaits = λ t lt. get_or-replicate (word_count plan) (await_index t) 0 0 (omega arith);
      phases = λ t p lt lp. get_or-replicate (word_count plan) (phase_index plan t p) 0 0 (phase_within plan t p lt lp);
    }
