-- How many lines of an explanation are shown at most.
use Rattle.std.proofs.Common.{◌≡◌, ◌∙◌, ◌⊎◌, ℕ, suc, ◌+◌, ◌-◌, ◌<◌, ◌≤◌, ◌^◌, ◌%◌, Bool, true, false, List, [], ◌∷◌, ◌++◌, cond, if◌then◌else◌, length, take, drop, arith, ap, inl, inr, refl, subst, sym, zero}
use Rattle.std.specs.Prelude.{◌==◌, ◌&&◌, codes, decimal, eqb, nat_lt}
use Rattle.std.specs.List.{starts_with}
use Rattle.std.proofs.lemmas.Bool.{and_parts, cases_lt, false≢true, lt-ltb, ltb-true}
use Rattle.std.proofs.lemmas.Fmt.{decimal_by_steps}
use Rattle.std.proofs.lemmas.List.{length-drop, length-take, nil_from_length}
use Rattle.std.proofs.lemmas.List.Sums.{sum_by-append}
use Rattle.source_map.specs.TextPlaces.{is_line_feed}
use Rattle.program_io.specs.Texts.{Text}
use Rattle.explain.specs.Shortened.{are_few_paragraphs, displayed_byte, displayed_bytes, displayed_up_to, ends_paragraph, is_hint, last_line_begin, last_passing, left_out_line, line_total, narrowed_from, paragraph_bytes, room_behind, shortened, shortened_long, shortened_to, summary}
use Rattle.explain.specs.ShownShort.{IsShownBrief, IsShownShort}
use Rattle.explain.proofs.Fronts.{ended_by, one_line}

both_lines : (xs ys : Text) → line_total (xs ++ ys) ≡ line_total xs + line_total ys
both_lines xs ys = sum_by-append (λ b. cond (is_line_feed b) 1 0) xs ys

-- ---- lines that are cut

line_feed_is : (byte : ℕ) → byte == 10 ≡ true → line_total (byte ∷ []) ≡ 1
line_feed_is byte is = one_line byte ∙ ap (λ b. if b then 1 else 0) is

byte_lines : (room byte : ℕ) → line_total (displayed_byte room byte) ≡ ended_by byte
byte_lines zero byte = by (byte == 10) refl
  where
    by : (b : Bool) → byte == 10 ≡ b → line_total (if b then byte ∷ [] else []) ≡ (if b then 1 else 0)
    by true is = line_feed_is byte is
    by false is = refl
byte_lines (suc zero) byte = by (byte == 10) refl
  where
    by : (b : Bool) → byte == 10 ≡ b → line_total (if b then byte ∷ [] else codes "..") ≡ (if b then 1 else 0)
    by true is = line_feed_is byte is
    by false is = refl
byte_lines (suc (suc room)) byte = one_line byte

-- a line that is cut is one line still
narrowed_lines : (room : ℕ) (text : Text) → line_total (narrowed_from room text) ≡ line_total text
narrowed_lines room [] = refl
narrowed_lines room (byte ∷ rest) =
    both_lines (displayed_byte room byte) (narrowed_from (room_behind room byte) rest)
    ∙ (λ i. byte_lines room byte i + narrowed_lines (room_behind room byte) rest i)
    ∙ ap (λ n. n + line_total rest) (sym (one_line byte))
    ∙ sym (both_lines (byte ∷ []) rest)

-- ---- the first paragraphs

last_passes : (test : ℕ → Bool) (n : ℕ) → (test (last_passing test n) ≡ true) ⊎ (last_passing test n ≡ 0)
last_passes test zero = inr refl
last_passes test (suc n) = by (test (suc n)) refl (last_passes test n)
  where
    by : (b : Bool) → test (suc n) ≡ b → (test (last_passing test n) ≡ true) ⊎ (last_passing test n ≡ 0)
        → (test (if b then suc n else last_passing test n) ≡ true) ⊎ ((if b then suc n else last_passing test n) ≡ 0)
    by true is rest = inl is
    by false is rest = rest

front_few : (room : ℕ) (text : Text) (k : ℕ) → 1 ≤ room → (are_few_paragraphs room text k ≡ true) ⊎ (k ≡ 0) → suc (line_total (take k text)) ≤ room
front_few room text k some (inl is) =
    let few : nat_lt (line_total (take k text)) room ≡ true = (and_parts (ends_paragraph text k) (nat_lt (line_total (take k text)) room) is).1 in
    let below = ltb-true (line_total (take k text)) room few in
    omega (arith, below)
front_few room text k some (inr none) = subst (λ n. suc (line_total (take n text)) ≤ room) (sym none) (omega (arith, some))

digits_end_nothing : (n : ℕ) → n < 2 ^ 64 → line_total (decimal n) ≡ 0
digits_end_nothing n small = decimal_by_steps (λ m ds. line_total ds ≡ 0) one more n small
  where
    digit : (d : ℕ) → line_total ((48 + d) ∷ []) ≡ 0
    digit d = by (48 + d == 10) refl
      where
        by : (b : Bool) → 48 + d == 10 ≡ b → line_total ((48 + d) ∷ []) ≡ 0
        by true is = absurd (grind (arith, is))
        by false is = one_line (48 + d) ∙ ap (λ b. if b then 1 else 0) is

    one : (m : ℕ) → m < 10 → line_total ((48 + m) ∷ []) ≡ 0
    one m below = digit m

    more : (m : ℕ) (ds : List ℕ) → 10 ≤ m → line_total ds ≡ 0 → line_total (ds ++ (48 + m % 10) ∷ []) ≡ 0
    more m ds some none = both_lines ds ((48 + m % 10) ∷ []) ∙ (λ i. none i + digit (m % 10) i)

left_line : (n : ℕ) → n < 2 ^ 64 → line_total (left_out_line n) ≡ 1
left_line n small =
    both_lines (codes "and " ++ decimal n ++ codes " more lines: --all shows them") (10 ∷ [])
    ∙ ap (λ k. k + 1) (both_lines (codes "and " ++ decimal n) (codes " more lines: --all shows them")
    ∙ ap (λ k. k + 0) (both_lines (codes "and ") (decimal n) ∙ ap (λ k. 0 + k) (digits_end_nothing n small)))

at_most_bytes : (text : Text) → line_total text ≤ length text
at_most_bytes [] = omega arith
at_most_bytes (byte ∷ rest) = (let own = one_line byte in let all = both_lines (byte ∷ []) rest in let left = at_most_bytes rest in by (byte == 10) own all left)
  where
    by : (b : Bool) → line_total (byte ∷ []) ≡ (if b then 1 else 0) → line_total (byte ∷ rest) ≡ line_total (byte ∷ []) + line_total rest → line_total rest ≤ length rest
        → line_total (byte ∷ rest) ≤ suc (length rest)
    by true own all left = omega arith
    by false own all left = omega arith

-- ---- the hint

-- what stands behind the paragraphs is one line at most
hint_is_short : (whole : Text) → line_total (drop (paragraph_bytes whole) whole) ≤ 1
hint_is_short whole = by (is_hint (drop (last_line_begin whole) whole) && nat_lt 0 (last_line_begin whole)) refl
  where
    by : (b : Bool) → is_hint (drop (last_line_begin whole) whole) && nat_lt 0 (last_line_begin whole) ≡ b
        → line_total (drop (if b then last_line_begin whole else length whole) whole) ≤ 1
    by true is =
        let hint = (and_parts (is_hint (drop (last_line_begin whole) whole)) (nat_lt 0 (last_line_begin whole)) is).0 in
        let few = (and_parts (starts_with eqb (drop (last_line_begin whole) whole) (codes "hint: ")) (nat_lt (line_total (drop (last_line_begin whole) whole)) 2) hint).1 in
        let below = ltb-true (line_total (drop (last_line_begin whole) whole)) 2 few in
        omega (arith, below)
    by false is =
        let none : drop (length whole) whole ≡ [] = nil_from_length (drop (length whole) whole) (let e = length-drop (length whole) whole in omega (arith, e)) in
        subst (λ (text : Text). line_total text ≤ 1) (sym none) (omega arith)

with_hint_few : (paragraphs hint : Text) → length paragraphs < 2 ^ 64 → line_total hint ≤ 1 → line_total (shortened_to paragraphs hint) ≤ 60
with_hint_few paragraphs hint small one =
    let room = 60 - line_total hint in
    let k = displayed_bytes room paragraphs in
    let front = front_few room paragraphs k (omega (arith, one)) (last_passes (are_few_paragraphs room paragraphs) (length paragraphs)) in
    let bytes = at_most_bytes (drop k paragraphs) in
    let sized = length-drop k paragraphs in
    let left = left_line (line_total (drop k paragraphs)) (omega (arith, bytes, sized, small)) in
    let shown = both_lines (take k paragraphs) (left_out_line (line_total (drop k paragraphs))) in
    let all = both_lines (displayed_up_to k paragraphs) hint in
    omega (arith, one, front, left, shown, all)

shortened_few : (whole : Text) → length whole < 2 ^ 64 → line_total (shortened whole) ≤ 60
shortened_few whole small = by (nat_lt 60 (line_total whole)) refl
  where
    by : (b : Bool) → nat_lt 60 (line_total whole) ≡ b
        → line_total (if b then shortened_long whole else whole) ≤ 60
    by true is =
        let sized = length-take (paragraph_bytes whole) whole in
        with_hint_few (take (paragraph_bytes whole) whole) (drop (paragraph_bytes whole) whole) (omega (arith, sized, small)) (hint_is_short whole)
    by false is =
        elim (cases_lt 60 (line_total whole)) [
          | inl many ↦ absurd (false≢true (sym is ∙ lt-ltb 60 (line_total whole) many))
          | inr few ↦ omega (arith, few)
        ]

pub shown_short : IsShownShort
shown_short heads whole small = (let lines = narrowed_lines 500 (shortened whole) in let few = shortened_few whole small in omega (arith, lines, few))

pub shown_brief : IsShownBrief
shown_brief heads whole =
    let paragraphs = take (paragraph_bytes whole) whole in
    let hint = drop (paragraph_bytes whole) whole in
    let k = displayed_bytes (suc heads) paragraphs in
    let lines = narrowed_lines 500 (summary heads whole) in
    let both = both_lines (take k paragraphs) hint in
    let front = front_few (suc heads) paragraphs k (omega arith) (last_passes (are_few_paragraphs (suc heads) paragraphs) (length paragraphs)) in
    let one = hint_is_short whole in
    omega (arith, lines, both, front, one)
