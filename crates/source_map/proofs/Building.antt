-- The table grows line by line.
use Rattle.std.proofs.Common.{◌≡◌, ℕ, suc, cond, ◌+◌, ◌<◌, ◌≤◌, ◌++◌, ◌∷◌, [], List, Option, length, sym, ap, ◌∙◌, arith, length-append}
use Rattle.std.specs.Prelude.{count_by}
use Rattle.std.proofs.lemmas.List.{take_all}
use Rattle.std.proofs.lemmas.List.Sums.{sum_by-take-le}
use Rattle.armus_base.specs.Finals.{list_below}
use Rattle.source_map.specs.declared.named.Span.{Span}
use Rattle.source_map.specs.declared.places.TextLine.{TextLine}
use Rattle.source_map.specs.NamedPlaces.{moved_span, named_in}
use Rattle.source_map.specs.TextPlaces.{is_line_feed, line_from}
use Rattle.source_map.specs.inside.Rows.{begin_of, line_count, line_row, line_rows}
use Rattle.source_map.proofs.Lines.{IsBegin, begins, further, next_begins}

-- the first lines of a text are kept, and the next one begins at this byte
pub record AreKept (text : List ℕ) (rows : List TextLine) (begin : ℕ) : Type 0 where
  pub rows_are : rows ≡ list_below (line_row text) (length rows)
  pub begin_is : begin ≡ begin_of text (length rows)
  pub few : length rows ≤ count_by is_line_feed text
  pub inside : begin ≤ length text

-- one line more
pub with_line :
    (text : List ℕ) (rows : List TextLine) (begin : ℕ) (named : Option Span) (line : List ℕ) (more : List TextLine) → AreKept text rows begin →
    line ≡ line_from text begin → named ≡ moved_span begin (named_in line) → more ≡ rows ++ record { begin = begin; named = named } ∷ [] →
    more ≡ list_below (line_row text) (suc (length rows))
with_line text rows begin named line more kept line_is named_is more_is =
    let b = begin_of text (length rows) in
    let line_here : line ≡ line_from text b = line_is ∙ ap (line_from text) kept.begin_is in
    let named_here : named ≡ moved_span b (named_in (line_from text b)) =
    named_is ∙ (ap (λ v. moved_span v (named_in line)) kept.begin_is ∙ ap (λ v. moved_span b (named_in v)) line_here) in
    more_is ∙ (ap (λ v. rows ++ record { begin = v; named = named } ∷ []) kept.begin_is
    ∙ (ap (λ v. rows ++ record { begin = b; named = v } ∷ []) named_here ∙ ap (λ v. v ++ line_row text (length rows) ∷ []) kept.rows_are))

-- how many there are then
one_more : (rows more : List TextLine) (row : TextLine) → more ≡ rows ++ row ∷ [] → length more ≡ suc (length rows)
one_more rows more row is = let e = ap length is in let a = length-append rows (row ∷ []) in omega arith

-- at the end of the text all lines are kept
pub is_whole :
    (text : List ℕ) (rows : List TextLine) (begin : ℕ) (named : Option Span) (line : List ℕ) (more : List TextLine) → AreKept text rows begin →
    line ≡ line_from text begin → named ≡ moved_span begin (named_in line) → more ≡ rows ++ record { begin = begin; named = named } ∷ [] →
    begin + length line ≡ length text → more ≡ line_rows text
is_whole text rows begin named line more kept line_is named_is more_is end =
    with_line text rows begin named line more kept line_is named_is more_is ∙ ap (list_below (line_row text)) all
  where
    b : ℕ
    b = begin_of text (length rows)

    all : suc (length rows) ≡ line_count text
    all =
        let begin_there = begins text (length rows) kept.few in
        let same = (further text b (length (line_from text b)) begin_there.inside (omega arith)).lines in
        let length_is = ap length (line_is ∙ ap (line_from text) kept.begin_is) in
        let whole = ap (count_by is_line_feed) (take_all (b + length (line_from text b)) text (let e = kept.begin_is in omega arith)) in
        let lines = begin_there.lines in
        omega (arith, same, whole, lines)

-- before it, the next line begins behind a line feed
pub goes_on :
    (text : List ℕ) (rows : List TextLine) (begin : ℕ) (named : Option Span) (line : List ℕ) (more : List TextLine) → AreKept text rows begin →
    line ≡ line_from text begin → named ≡ moved_span begin (named_in line) → more ≡ rows ++ record { begin = begin; named = named } ∷ [] →
    begin + length line < length text → AreKept text more (begin + length line + 1)
goes_on text rows begin named line more kept line_is named_is more_is lt = record {
  rows_are = with_line text rows begin named line more kept line_is named_is more_is ∙ ap (list_below (line_row text)) (sym many);
  begin_is = (let f = ap (begin_of text) many in omega (arith, f, begin_same, length_is));
  few = (let l = next.lines in let m = sum_by-take-le (λ x. cond (is_line_feed x) 1 0) text (b + length (line_from text b) + 1) in omega (arith, l, m, many));
  inside = omega (arith, lt);
}
  where
    b : ℕ
    b = begin_of text (length rows)

    many : length more ≡ suc (length rows)
    many = one_more rows more (record { begin = begin; named = named }) more_is

    begin_same : begin ≡ b
    begin_same = kept.begin_is

    length_is : length line ≡ length (line_from text b)
    length_is = ap length (line_is ∙ ap (line_from text) kept.begin_is)

    next : IsBegin text (suc (length rows)) (b + length (line_from text b) + 1)
    next = next_begins text (length rows) b (begins text (length rows) kept.few) (omega (arith, lt, begin_same, length_is))
