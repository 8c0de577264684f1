-- Where the lines of a text begin, and what stays the same within a line.
use Rattle.std.proofs.Common.{◌≡◌, ℕ, zero, suc, ◌+◌, ◌<◌, ◌≤◌, ◌++◌, ◌∷◌, [], List, Bool, true, false, length, take, drop, get_or, not, cond, sym, ap, refl, inl, inr, ◌⊎◌, ◌∙◌, arith}
use Rattle.std.proofs.lemmas.Bool.{cases_lt}
use Rattle.std.specs.Prelude.{count_by, reverse}
use Rattle.std.specs.List.{prefix_len, take_while}
use Rattle.std.proofs.lemmas.List.{append_assoc, drop_more, get_or-drop, length-drop, length-take, reverse-append, take_all, take_more}
use Rattle.std.proofs.lemmas.List.Sums.{count_by_more_no, count_by_more_yes, prefix_len-le-length, prefix_len_passes, prefix_len_stops, take_while-cons}
use Rattle.source_map.specs.TextPlaces.{is_line_feed, line_at, line_before, line_from}
use Rattle.source_map.specs.inside.Rows.{begin_of}

-- no byte of a line but the last of a text is a line feed
abbrev is_inside : ℕ → Bool
is_inside b = not (is_line_feed b)

-- the bytes of the line before the next byte
before_next :
    (text : List ℕ) (at : ℕ) → at < length text →
    line_before text (at + 1) ≡ cond (is_inside (get_or text at 0)) (get_or text at 0 ∷ line_before text at) []
before_next text at lt =
    ap (λ xs. take_while is_inside (reverse xs)) (take_more text at 0 lt)
    ∙ (ap (take_while is_inside) (reverse-append (take at text) (get_or text at 0 ∷ []))
    ∙ take_while-cons is_inside (get_or text at 0) (reverse (take at text)))

-- and those from a byte on
from_here :
    (text : List ℕ) (at : ℕ) → at < length text →
    line_from text at ≡ cond (is_inside (get_or text at 0)) (get_or text at 0 ∷ line_from text (at + 1)) []
from_here text at lt =
    ap (take_while is_inside) (drop_more text at 0 lt) ∙ take_while-cons is_inside (get_or text at 0) (drop (at + 1) text)

-- ---- within a line

-- byte o stands in the line of byte b, n bytes further
pub record IsFurther (text : List ℕ) (b n : ℕ) : Type 0 where
  pub lines : count_by is_line_feed (take (b + n) text) ≡ count_by is_line_feed (take b text)
  pub before : length (line_before text (b + n)) ≡ length (line_before text b) + n
  pub own : line_at text (b + n) ≡ line_at text b

one_further : (text : List ℕ) (at : ℕ) → at < length text → is_line_feed (get_or text at 0) ≡ false → IsFurther text at 1
one_further text at lt is =
    let b = get_or text at 0 in
    let before : line_before text (at + 1) ≡ b ∷ line_before text at = before_next text at lt ∙ ap (λ f. cond (not f) (b ∷ line_before text at) []) is in
    let from : line_from text at ≡ b ∷ line_from text (at + 1) = from_here text at lt ∙ ap (λ f. cond (not f) (b ∷ line_from text (at + 1)) []) is in
    record {
      lines = count_by_more_no is_line_feed text at 0 lt is;
      before = (let e = ap length before in omega arith);
      own =
          ap (λ xs. reverse xs ++ line_from text (at + 1)) before
          ∙ (ap (λ xs. xs ++ line_from text (at + 1)) (reverse-append (b ∷ []) (line_before text at) ∙ refl)
          ∙ (append_assoc (reverse (line_before text at)) (b ∷ []) (line_from text (at + 1)) ∙ sym (ap (λ xs. reverse (line_before text at) ++ xs) from)));
    }

-- the number of bytes of a line from a byte on that stand before its line feed
pub line_within : (text : List ℕ) (b : ℕ) → b ≤ length text → b + length (line_from text b) ≤ length text
line_within text b le =
    let p = prefix_len-le-length is_inside (drop b text) in
    let d = length-drop b text in
    let t = length-take (prefix_len is_inside (drop b text)) (drop b text) in
    omega arith

length_from : (text : List ℕ) (b : ℕ) → length (line_from text b) ≡ prefix_len is_inside (drop b text)
length_from text b =
    let p = prefix_len-le-length is_inside (drop b text) in
    let t = length-take (prefix_len is_inside (drop b text)) (drop b text) in
    omega arith

-- a byte of the line is no line feed
no_feed : (text : List ℕ) (b n : ℕ) → n < length (line_from text b) → is_line_feed (get_or text (b + n) 0) ≡ false
no_feed text b n lt =
    let e = length_from text b in
    let passes : is_inside (get_or (drop b text) n 0) ≡ true = prefix_len_passes is_inside (drop b text) n 0 (omega arith) in
    negated (is_line_feed (get_or text (b + n) 0)) (ap is_inside (sym (get_or-drop b text n 0)) ∙ passes)
  where
    negated : (f : Bool) → not f ≡ true → f ≡ false
    negated false e = refl
    negated true e = sym e

-- so each byte of it is further in the same line
pub further : (text : List ℕ) (b n : ℕ) → b ≤ length text → n ≤ length (line_from text b) → IsFurther text b n
further text b zero le within = record { lines = same; before = same_length; own = same_line }
  where
    at : b + 0 ≡ b
    at = omega arith

    same : count_by is_line_feed (take (b + 0) text) ≡ count_by is_line_feed (take b text)
    same = ap (λ k. count_by is_line_feed (take k text)) at

    same_length : length (line_before text (b + 0)) ≡ length (line_before text b) + 0
    same_length = let e = ap (λ k. length (line_before text k)) at in omega arith

    same_line : line_at text (b + 0) ≡ line_at text b
    same_line = ap (line_at text) at
further text b (suc n) le within =
    let was = further text b n le (omega arith) in
    let inside = line_within text b le in
    let one = one_further text (b + n) (omega arith) (no_feed text b n (omega arith)) in
    let at : b + suc n ≡ b + n + 1 = omega arith in
    record {
      lines = ap (λ k. count_by is_line_feed (take k text)) at ∙ (one.lines ∙ was.lines);
      before = (let e = ap (λ k. length (line_before text k)) at in let o = one.before in let w = was.before in omega arith);
      own = ap (line_at text) at ∙ (one.own ∙ was.own);
    }

-- ---- where lines begin

-- line i begins at byte b
pub record IsBegin (text : List ℕ) (i b : ℕ) : Type 0 where
  pub inside : b ≤ length text
  pub lines : count_by is_line_feed (take b text) ≡ i
  pub first : line_before text b ≡ []

-- behind a line stands the end of the text, or a line feed
pub line_ends :
    (text : List ℕ) (b : ℕ) → b ≤ length text →
    (b + length (line_from text b) ≡ length text)
    ⊎ ((b + length (line_from text b) < length text) × (is_line_feed (get_or text (b + length (line_from text b)) 0) ≡ true))
line_ends text b le = elim (cases_lt (b + length (line_from text b)) (length text)) [
  | inl lt ↦ inr (lt, feed lt)
  | inr ge ↦ inl (let w = line_within text b le in omega arith)
]
  where
    negated : (f : Bool) → not f ≡ false → f ≡ true
    negated true e = refl
    negated false e = sym e

    feed : b + length (line_from text b) < length text → is_line_feed (get_or text (b + length (line_from text b)) 0) ≡ true
    feed lt =
        let e = length_from text b in
        let d = length-drop b text in
        let stops : is_inside (get_or (drop b text) (prefix_len is_inside (drop b text)) 0) ≡ false = prefix_len_stops is_inside (drop b text) 0 (omega arith) in
        negated _ (ap is_inside (ap (λ k. get_or text (b + k) 0) e ∙ sym (get_or-drop b text (prefix_len is_inside (drop b text)) 0)) ∙ stops)

-- behind a line feed the next line begins
pub next_begins : (text : List ℕ) (i b : ℕ) → IsBegin text i b → b + length (line_from text b) < length text → IsBegin text (suc i) (b + length (line_from text b) + 1)
next_begins text i b begin lt =
    let e = b + length (line_from text b) in
    let same = further text b (length (line_from text b)) begin.inside (omega arith) in
    let feed : is_line_feed (get_or text e 0) ≡ true = (elim (line_ends text b begin.inside) [ inl is ↦ absurd (omega (arith, is, lt)) | inr r ↦ r.1 ]) in
    record {
      inside = (omega arith);
      lines = (let more = count_by_more_yes is_line_feed text e 0 lt feed in let s = same.lines in let l = begin.lines in omega arith);
      first = before_next text e lt ∙ ap (λ f. cond (not f) (get_or text e 0 ∷ line_before text e) []) feed;
    }

-- each line begins where the table says
pub begins : (text : List ℕ) (i : ℕ) → i ≤ count_by is_line_feed text → IsBegin text i (begin_of text i)
begins text zero le = record { inside = omega arith; lines = refl; first = refl }
begins text (suc i) le =
    let was = begins text i (omega arith) in
    let b = begin_of text i in
    next_begins text i b was (elim (line_ends text b was.inside) [
      | inl is ↦ absurd (last b (length (line_from text b)) is (further text b (length (line_from text b)) was.inside (omega arith)).lines was.lines)
      | inr r ↦ r.0
    ])
  where
    last : (b n : ℕ) → b + n ≡ length text → count_by is_line_feed (take (b + n) text) ≡ count_by is_line_feed (take b text) → count_by is_line_feed (take b text) ≡ i → ⊥
    last b n is same own =
        let all : count_by is_line_feed (take (b + n) text) ≡ count_by is_line_feed text = ap (count_by is_line_feed) (take_all (b + n) text (omega (arith, is))) in
        omega (arith, le, same, own, all)

-- no line begins before one with a lower number
pub begins_ascend : (text : List ℕ) (i j : ℕ) → i ≤ j → begin_of text i ≤ begin_of text j
begins_ascend text i zero le = ap_le (let z : i ≡ 0 = omega arith in z)
  where
    ap_le : i ≡ 0 → begin_of text i ≤ 0
    ap_le e = let f = ap (begin_of text) e in omega arith
begins_ascend text i (suc j) le = elim (cases_lt i (suc j)) [
  | inl lt ↦ (let before = begins_ascend text i j (omega arith) in omega arith)
  | inr ge ↦ (let e : i ≡ suc j = omega arith in let f = ap (begin_of text) e in omega arith)
]
