-- The first ops on phasers, found op by op.
use Rattle.std.proofs.Common.{◌≡◌, ℕ, zero, suc, ◌+◌, ◌<◌, Option, Some, None, List, [], ◌∷◌, drop, length, replicate, refl, sym, ap, ◌∙◌, arith}
use Rattle.std.specs.Prelude.{IfNone, IfSome, option_map, slice_index_or}
use Rattle.std.proofs.lemmas.List.{get_or-replicate, length-replicate}
use Rattle.armus_base.specs.declared.op.Op.{Op}
use Rattle.armus_base.specs.Finals.{given_below}
use Rattle.armus_base.proofs.Below.{given_below_same}
use Rattle.explain_facts.specs.Accounts.{does_to, done_or, first_on}
use Rattle.explain_facts.specs.declared.account.Doing.{Doing}
use Rattle.explain_facts.specs.declared.account.NextOp.{NextOp}
use Rattle.explain_facts.specs.inside.Firsts.{AreFirsts, AreFirstsBefore, known_or}

-- nothing is found yet
pub firsts_start : (ops : List Op) (i n : ℕ) (firsts : List (Option (Doing × ℕ))) → firsts ≡ replicate n None → AreFirstsBefore ops i n ops i firsts
firsts_start ops i n firsts is = record {
  sized = ap length is ∙ length-replicate n None;
  each = λ q lt. ap (λ xs. known_or (slice_index_or xs q None) (first_on q i ops)) is ∙ ap (λ x. known_or x (first_on q i ops)) (get_or-replicate n q None None lt);
}

-- one op more
kept_or : (kept : Option (Doing × ℕ)) (does : Option Doing) (at : ℕ) (behind : Option (Doing × ℕ)) →
    known_or (known_or kept (option_map (λ d. (d, at)) does)) behind ≡ known_or kept (done_or does at behind)
kept_or None None at behind = refl
kept_or None (Some d) at behind = refl
kept_or (Some x) None at behind = refl
kept_or (Some x) (Some d) at behind = refl

pub firsts_next :
    (ops : List Op) (i n : ℕ) (o : Op) (left left' : List Op) (at : ℕ) (firsts firsts' : List (Option (Doing × ℕ))) →
    AreFirstsBefore ops i n left at firsts → left ≡ o ∷ left' → length firsts' ≡ length firsts →
    ((q : ℕ) → q < length firsts → slice_index_or firsts' q None ≡ known_or (slice_index_or firsts q None) (option_map (λ d. (d, at)) (does_to q o))) →
    AreFirstsBefore ops i n left' (at + 1) firsts'
firsts_next ops i n o left left' at firsts firsts' are is sized noted = record {
  sized = sized ∙ are.sized;
  each = λ q lt.
      let one : at + 1 ≡ suc at = omega arith in
      ap (λ k. known_or (slice_index_or firsts' q None) (first_on q k left')) one
      ∙ ap (λ x. known_or x (first_on q (suc at) left')) (noted q (omega (arith, lt, are.sized)))
      ∙ kept_or (slice_index_or firsts q None) (does_to q o) at (first_on q (suc at) left')
      ∙ ap (λ xs. known_or (slice_index_or firsts q None) (first_on q at xs)) (sym is)
      ∙ are.each q lt;
}

-- and none is left
kept_is : (kept : Option (Doing × ℕ)) → known_or kept None ≡ kept
kept_is None = refl
kept_is (Some x) = refl

pub firsts_end :
    (ops : List Op) (i n : ℕ) (left : List Op) (at : ℕ) (firsts : List (Option (Doing × ℕ))) → AreFirstsBefore ops i n left at firsts → left ≡ [] →
    AreFirsts ops i n firsts
firsts_end ops i n left at firsts are none = record {
  sized = are.sized;
  each = λ q lt. sym (kept_is (slice_index_or firsts q None)) ∙ ap (λ xs. known_or (slice_index_or firsts q None) (first_on q at xs)) (sym none) ∙ are.each q lt;
}

-- what comes next is by them
pub nexts_are :
    (g : ℕ → Option (Doing × ℕ) → Option NextOp) (ops : List Op) (i n m : ℕ) (firsts : List (Option (Doing × ℕ))) → AreFirsts ops i n firsts → n ≡ m →
    given_below (λ q. g q (slice_index_or firsts q None)) (length firsts) ≡ given_below (λ q. g q (first_on q i ops)) m
nexts_are g ops i n m firsts are same =
    ap (given_below (λ q. g q (slice_index_or firsts q None))) (are.sized ∙ same)
    ∙ given_below_same (λ q. g q (slice_index_or firsts q None)) (λ q. g q (first_on q i ops)) m (λ q lt. ap (g q) (are.each q (omega (arith, lt, same))))

-- ---- ops that are left out

tail_of_drop : (k : ℕ) (xs : List Op) (x : Op) (ys : List Op) → x ∷ ys ≡ drop k xs → ys ≡ drop (suc k) xs
tail_of_drop zero [] x ys is = absurd (cc)
tail_of_drop zero (z ∷ zs) x ys is = cc
tail_of_drop (suc k) [] x ys is = absurd (cc)
tail_of_drop (suc k) (z ∷ zs) x ys is = tail_of_drop k zs x ys is

none_of_drop : (k : ℕ) (xs : List Op) → [] ≡ drop k xs → [] ≡ drop (suc k) xs
none_of_drop zero [] is = refl
none_of_drop zero (z ∷ zs) is = absurd (cc)
none_of_drop (suc k) [] is = refl
none_of_drop (suc k) (z ∷ zs) is = none_of_drop k zs is

-- one op more is taken, if there is one
pub skipped :
    (xs old new : List Op) (k : ℕ) (r : Option Op) → old ≡ drop k xs → IfSome r (λ op. old ≡ op ∷ new) → IfNone r ((old ≡ []) × (new ≡ [])) → new ≡ drop (k + 1) xs
skipped xs old new k (Some op) is some none =
    tail_of_drop k xs op new (sym some ∙ is) ∙ ap (λ m. drop m xs) (let e : suc k ≡ k + 1 = omega arith in e)
skipped xs old new k None is some none =
    none.1 ∙ none_of_drop k xs (sym none.0 ∙ is) ∙ ap (λ m. drop m xs) (let e : suc k ≡ k + 1 = omega arith in e)
