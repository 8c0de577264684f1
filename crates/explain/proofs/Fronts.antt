-- The first paragraphs of an explanation, byte by byte, and its lines cut to so many bytes.
use Rattle.std.proofs.Common.{◌≡◌, ◌∙◌, ℕ, suc, ◌+◌, ◌<◌, ◌≤◌, Bool, true, false, [], ◌∷◌, ◌++◌, cond, if◌then◌else◌, length, take, drop, append_assoc, append-nil, arith, ap, refl, sym, zero}
use Rattle.std.specs.Prelude.{◌==◌, ◌&&◌, get_or, nat_lt}
use Rattle.std.proofs.lemmas.List.{drop_more, length-drop, nil_from_length, take_more}
use Rattle.std.proofs.lemmas.List.Sums.{sum_by-append}
use Rattle.source_map.specs.TextPlaces.{is_line_feed}
use Rattle.program_io.specs.Texts.{Text}
use Rattle.explain.specs.Shortened.{are_few_paragraphs, begins_line, displayed_byte, ends_paragraph, last_passing, line_total, narrowed_from, room_behind}

-- the greatest number that passes a test is in range
pub last_within : (test : ℕ → Bool) (n : ℕ) → last_passing test n ≤ n
last_within test zero = omega arith
last_within test (suc n) = by (test (suc n)) (last_within test n)
  where
    by : (b : Bool) → last_passing test n ≤ n → (if b then suc n else last_passing test n) ≤ suc n
    by true rest = omega arith
    by false rest = omega arith

-- how many lines a byte ends
abbrev pub ended_by : ℕ → ℕ
ended_by byte = if byte == 10 then 1 else 0

pub one_line : (byte : ℕ) → line_total (byte ∷ []) ≡ ended_by byte
one_line byte = by (byte == 10)
  where
    by : (b : Bool) → 0 + cond b 1 0 ≡ (if b then 1 else 0)
    by true = refl
    by false = refl

at_most_one : (byte : ℕ) → ended_by byte ≤ 1
at_most_one byte = by (byte == 10)
  where
    by : (b : Bool) → (if b then 1 else 0) ≤ 1
    by true = omega arith
    by false = omega arith

-- the lines of one byte more
pub lines_more : (text : Text) (k : ℕ) → k < length text → line_total (take (k + 1) text) ≡ line_total (take k text) + ended_by (get_or text k 0)
lines_more text k within =
    ap line_total (take_more text k 0 within)
    ∙ sum_by-append (λ b. cond (is_line_feed b) 1 0) (take k text) (get_or text k 0 ∷ [])
    ∙ ap (λ n. line_total (take k text) + n) (one_line (get_or text k 0))

-- with the bytes up to this one so many lines have ended, and so many bytes of these are shown, where so many lines have no room
pub record AreFronts (room : ℕ) (text : Text) (index lines shown : ℕ) : Type 0 where
  pub lines_are : lines ≡ line_total (take index text)
  pub shown_are : shown ≡ last_passing (are_few_paragraphs room text) index
  pub few : lines ≤ index

pub fronts_first : (room : ℕ) (text : Text) → AreFronts room text 0 0 0
fronts_first room text = record { lines_are = refl; shown_are = refl; few = omega arith }

pub fronts_more : (room : ℕ) (text : Text) (index lines more shown next : ℕ) → index < length text → AreFronts room text index lines shown
    → more ≡ lines + ended_by (get_or text index 0) → next ≡ (if ends_paragraph text (suc index) && nat_lt more room then suc index else shown)
    → AreFronts room text (index + 1) more next
fronts_more room text index lines more shown next within so counted is =
    let total : more ≡ line_total (take (index + 1) text) =
    counted ∙ ap (λ n. n + ended_by (get_or text index 0)) so.lines_are ∙ sym (lines_more text index within) in
    let same : suc index ≡ index + 1 = omega arith in
    let here : more ≡ line_total (take (suc index) text) = total ∙ ap (λ k. line_total (take k text)) (sym same) in
    record {
      lines_are = total;
      shown_are = is
          ∙ ap (λ n. if ends_paragraph text (suc index) && nat_lt n room then suc index else shown) here
          ∙ ap (λ n. if are_few_paragraphs room text (suc index) then suc index else n) so.shown_are
          ∙ ap (last_passing (are_few_paragraphs room text)) same;
      few = (let e = so.few in let o = at_most_one (get_or text index 0) in omega (arith, counted, e, o));
    }

pub fronts_all : (room : ℕ) (text : Text) (index lines shown : ℕ) → AreFronts room text index lines shown → index ≡ length text
    → (shown ≡ last_passing (are_few_paragraphs room text) (length text)) × (shown ≤ length text)
fronts_all room text index lines shown so all =
    let is : shown ≡ last_passing (are_few_paragraphs room text) (length text) = so.shown_are ∙ ap (last_passing (are_few_paragraphs room text)) all in
    (is, let e = last_within (are_few_paragraphs room text) (length text) in omega (arith, e, is))

-- ---- the last line

-- of the bytes up to this one the last line begins here
abbrev pub BeginsSoFar : Text → ℕ → ℕ → Type 0
BeginsSoFar text index begin = begin ≡ last_passing (begins_line text) index

pub begins_more : (text : Text) (index begin next : ℕ) → BeginsSoFar text index begin → next ≡ (if begins_line text (suc index) then suc index else begin)
    → BeginsSoFar text (index + 1) next
begins_more text index begin next so is =
    let same : suc index ≡ index + 1 = omega arith in
    is ∙ ap (λ n. if begins_line text (suc index) then suc index else n) so ∙ ap (last_passing (begins_line text)) same

-- ---- lines that are cut

-- what is written and what is left from here on are together what is shown of all
abbrev pub IsNarrowedSoFar : Text → ℕ → Text → ℕ → Type 0
IsNarrowedSoFar text index out room = out ++ narrowed_from room (drop index text) ≡ narrowed_from 500 text

pub narrowed_more : (text : Text) (index room : ℕ) (out next : Text) → index < length text → IsNarrowedSoFar text index out room
    → next ≡ out ++ displayed_byte room (get_or text index 0) → IsNarrowedSoFar text (index + 1) next (room_behind room (get_or text index 0))
narrowed_more text index room out next within so is =
    let byte = get_or text index 0 in
    ap (λ z. z ++ narrowed_from (room_behind room (get_or text index 0)) (drop (index + 1) text)) is
    ∙ append_assoc out (displayed_byte room (get_or text index 0)) (narrowed_from (room_behind room (get_or text index 0)) (drop (index + 1) text))
    ∙ ap (λ rest. out ++ narrowed_from room rest) (sym (drop_more text index 0 within))
    ∙ so

pub narrowed_all : (text : Text) (index room : ℕ) (out : Text) → length text ≤ index → IsNarrowedSoFar text index out room → out ≡ narrowed_from 500 text
narrowed_all text index room out past so =
    sym (append-nil out)
    ∙ ap (λ rest. out ++ narrowed_from room rest) (sym (nil_from_length (drop index text) (let e = length-drop index text in omega (arith, e))))
    ∙ so
