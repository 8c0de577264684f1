-- How bytes are cut into a first word and what stands behind it.
use Rattle.std.proofs.Common.{◌≡◌, ◌<◌, ◌+◌, ℕ, zero, suc, Bool, true, false, ◌&&◌, not, Some, None, Option, List, [], ◌∷◌, ◌++◌, length, take, drop, get_or, refl, sym, ◌∙◌, ap, inl, inr, ◌⊎◌, arith, append-nil, append_assoc, length-append}
use Rattle.std.specs.Prelude.{if◌then◌else◌, nat_le, nat_lt, ◌==◌, slice_index}
use Rattle.std.specs.List.{after_first, list_all, position_or_len}
use Rattle.std.proofs.lemmas.Bool.{and_from, and_parts, cases_lt, cond-true, cond-false, eqb-true, leb-true, le-ltb, lt-ltb, ne_eqb, not_from_false, not-true}
use Rattle.std.proofs.lemmas.List.{take_all, take_at, drop_at}
use Rattle.std.proofs.lemmas.List.Sums.{passes_at_first, position_or_len_is, split_at_first}
use Rattle.trace_lines.specs.Grammar.{is_word, is_phaser_name, is_participant_name}
use Rattle.trace_lines.specs.inside.Reading.{behind_word, word_before_space, is_space}

-- what stands behind a word, with its space
abbrev pub tail : Option (List ℕ) → List ℕ
tail None = []
tail (Some rest) = 32 ∷ rest

-- a test that chose
pub chosen : {A : Type 0} (b : Bool) (x y z : A) → (if b then x else y) ≡ z → ((b ≡ true) × (x ≡ z)) ⊎ ((b ≡ false) × (y ≡ z))
chosen true x y z e = inl (refl, e)
chosen false x y z e = inr (refl, e)

-- bytes are their first word and what stands behind it
pub cut : (bytes : List ℕ) → bytes ≡ word_before_space bytes ++ tail (behind_word bytes)
cut bytes = elim (cases_lt (position_or_len is_space bytes) (length bytes)) [
  | inl within ↦
      split_at_first is_space bytes 0 within
      ∙ ap (λ b. word_before_space bytes ++ b ∷ after_first is_space bytes) (eqb-true (get_or bytes (position_or_len is_space bytes) 0) 32 (passes_at_first is_space bytes 0 within))
      ∙ ap (λ o. word_before_space bytes ++ tail o) (sym (cond-true (nat_lt (position_or_len is_space bytes) (length bytes)) (Some (after_first is_space bytes)) None (lt-ltb (position_or_len is_space bytes) (length bytes) within)))
  | inr past ↦
      sym (take_all (position_or_len is_space bytes) bytes past)
      ∙ sym (append-nil (word_before_space bytes))
      ∙ ap (λ o. word_before_space bytes ++ tail o) (sym (cond-false (nat_lt (position_or_len is_space bytes) (length bytes)) (Some (after_first is_space bytes)) None (le-ltb (position_or_len is_space bytes) (length bytes) past)))
]

-- no space
abbrev pub has_no_space : List ℕ → Bool
has_no_space w = list_all (λ b. not (b == 32)) w

pub no_space_at : (w : List ℕ) → has_no_space w ≡ true → (k : ℕ) → k < length w → is_space (get_or w k 0) ≡ false
no_space_at [] none k within = absurd (omega arith)
no_space_at (b ∷ w) none zero within = not-true (b == 32) (and_parts (not (b == 32)) (has_no_space w) none).0
no_space_at (b ∷ w) none (suc k) within = no_space_at w (and_parts (not (b == 32)) (has_no_space w) none).1 k (omega arith)

-- where the first space of a word with more behind it stands
first_space : (w rest : List ℕ) → has_no_space w ≡ true → position_or_len is_space (w ++ 32 ∷ rest) ≡ length w
first_space [] rest none = position_or_len_is is_space (32 ∷ rest) 0 0 (omega arith) (λ k within. absurd (omega arith)) (λ within. refl)
first_space (b ∷ w) rest none =
    let parts = and_parts (not (b == 32)) (has_no_space w) none in
    let e : position_or_len is_space (w ++ 32 ∷ rest) ≡ length w = first_space w rest parts.1 in
    let f : position_or_len is_space ((b ∷ w) ++ 32 ∷ rest) ≡ 1 + position_or_len is_space (w ++ 32 ∷ rest) =
    cond-true (not (b == 32)) (1 + position_or_len is_space (w ++ 32 ∷ rest)) 0 parts.0 in
    omega arith

no_space : (w : List ℕ) → has_no_space w ≡ true → position_or_len is_space w ≡ length w
no_space w none = position_or_len_is is_space w (length w) 0 (omega arith) (no_space_at w none) (λ within. absurd (omega arith))

-- a word and what stands behind it are cut there
pub word_first : (w : List ℕ) (end : Option (List ℕ)) → has_no_space w ≡ true → word_before_space (w ++ tail end) ≡ w
word_first w None none = ap word_before_space (append-nil w) ∙ ap (λ n. take n w) (no_space w none) ∙ take_all (length w) w (omega arith)
word_first w (Some rest) none = ap (λ n. take n (w ++ 32 ∷ rest)) (first_space w rest none) ∙ take_at w (32 ∷ rest) (length w) refl

pub word_behind : (w : List ℕ) (end : Option (List ℕ)) → has_no_space w ≡ true → behind_word (w ++ tail end) ≡ end
word_behind w None none =
    ap behind_word (append-nil w)
    ∙ cond-false (nat_lt (position_or_len is_space w) (length w)) (Some (after_first is_space w)) None
    (le-ltb (position_or_len is_space w) (length w) (let n = no_space w none in omega arith))
word_behind w (Some rest) none =
    cond-true (nat_lt (position_or_len is_space (w ++ 32 ∷ rest)) (length (w ++ 32 ∷ rest))) (Some (after_first is_space (w ++ 32 ∷ rest))) None
    (lt-ltb (position_or_len is_space (w ++ 32 ∷ rest)) (length (w ++ 32 ∷ rest)) (let n = first_space w rest none in let l = length-append w (32 ∷ rest) in omega arith))
    ∙ ap Some (ap (λ n. drop (n + 1) (w ++ 32 ∷ rest)) (first_space w rest none) ∙ drop_behind w rest)
  where
    drop_behind : (l : List ℕ) (more : List ℕ) → drop (length l + 1) (l ++ 32 ∷ more) ≡ more
    drop_behind l more = ap (λ k. drop (length l + 1) k) (sym (append_assoc l (32 ∷ []) more)) ∙ drop_at (l ++ 32 ∷ []) more (length l + 1) (length-append l (32 ∷ []))

-- a word has no space
word_bytes : (w : List ℕ) → list_all (λ b. nat_le 33 b && nat_le b 126) w ≡ true → has_no_space w ≡ true
word_bytes [] all = refl
word_bytes (b ∷ w) all =
    let parts = and_parts (nat_le 33 b && nat_le b 126) (list_all (λ b. nat_le 33 b && nat_le b 126) w) all in
    let low = leb-true 33 b (and_parts (nat_le 33 b) (nat_le b 126) parts.0).0 in
    and_from (not (b == 32)) (has_no_space w) (not_from_false (b == 32) (ne_eqb b 32 (λ e. omega arith))) (word_bytes w parts.1)

pub word_is_whole : (w : List ℕ) → is_word w ≡ true → has_no_space w ≡ true
word_is_whole w is = word_bytes w (and_parts (nat_le 1 (length w) && nat_le (length w) 64) (list_all (λ b. nat_le 33 b && nat_le b 126) w) is).1

pub phaser_is_whole : (p : List ℕ) → is_phaser_name p ≡ true → has_no_space p ≡ true
phaser_is_whole p is = word_is_whole p (and_parts (is_word p) (not (slice_index p 0 == 64)) is).0

pub name_is_whole : (t : List ℕ) → is_participant_name t ≡ true → has_no_space t ≡ true
name_is_whole t is = word_is_whole t (and_parts (is_word t) (not (slice_index t 0 == 64)) (and_parts (is_word t && not (slice_index t 0 == 64)) (not (slice_index t 0 == 35)) is).0).0
