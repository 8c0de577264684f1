-- The line of a byte, by the table.
use Rattle.std.proofs.Common.{◌≡◌, ℕ, zero, suc, ◌+◌, ◌-◌, ◌<◌, ◌≤◌, ◌++◌, List, true, false, length, take, drop, get_or, min, leb, not, cond, sym, ap, subst, inl, inr, ◌∙◌, arith}
use Rattle.std.proofs.lemmas.Bool.{cases_lt, leb-false, leb-true}
use Rattle.std.specs.Prelude.{count_by, reverse}
use Rattle.std.specs.List.{take_while}
use Rattle.std.specs.List.Sorted.{IsNonDecreasingBy, IsPartitionPoint}
use Rattle.std.proofs.lemmas.List.{drop_all, length-take, take_all}
use Rattle.std.proofs.lemmas.List.Sums.{count_by-le-length, sum_by-take-le}
use Rattle.std.proofs.lemmas.Option.{get_or_from_slice_get}
use Rattle.armus_base.proofs.Below.{length-list_below, list_below-at}
use Rattle.source_map.specs.declared.place.TextPlace.{TextPlace}
use Rattle.source_map.specs.declared.places.TextLine.{TextLine}
use Rattle.source_map.specs.NamedPlaces.{moved_span, named_in}
use Rattle.source_map.specs.TextPlaces.{is_line_feed, line_at, line_before, line_begin, line_from, place_by, text_place}
use Rattle.source_map.specs.inside.Rows.{begin_of, line_count, line_row, line_rows}
use Rattle.source_map.proofs.Lines.{begins, begins_ascend, further, line_ends, line_within, next_begins}

-- a row of the table
pub row_is : (text : List ℕ) (i : ℕ) (d : TextLine) → i < line_count text → get_or (line_rows text) i d ≡ line_row text i
row_is text i d lt = get_or_from_slice_get (line_rows text) i (line_row text i) d (list_below-at (line_row text) (line_count text) i lt)

-- the rows do not fall
pub rows_ascend : (text : List ℕ) → IsNonDecreasingBy (λ (l : TextLine). l.begin) (line_rows text)
rows_ascend text = λ i j d le lt.
    let all = length-list_below (line_row text) (line_count text) in
    let at_i = ap (λ (l : TextLine). l.begin) (row_is text i d (omega arith)) in
    let at_j = ap (λ (l : TextLine). l.begin) (row_is text j d (omega arith)) in
    let up = begins_ascend text i j (omega arith) in
    omega arith

-- the byte stands in line k - 1
pub record StandsIn (text : List ℕ) (o k : ℕ) : Type 0 where
  pub some : 1 ≤ k
  pub few : k ≤ line_count text
  pub behind : begin_of text (k - 1) ≤ o
  pub inside : o ≤ begin_of text (k - 1) + length (line_from text (begin_of text (k - 1)))

-- no byte of a text stands behind its last line
within_last :
    (text : List ℕ) (i o : ℕ) → o ≤ length text → i ≡ count_by is_line_feed text → o ≤ begin_of text i + length (line_from text (begin_of text i))
within_last text i o le is =
    let begin = begins text i (omega (arith, is)) in
    elim (line_ends text (begin_of text i) begin.inside) [
      | inl end ↦ omega (arith, end, le)
      | inr r ↦
          (let next = next_begins text i (begin_of text i) begin r.0 in
          let most = sum_by-take-le (λ b. cond (is_line_feed b) 1 0) text (begin_of text i + length (line_from text (begin_of text i)) + 1) in
          let lines = next.lines in absurd (omega (arith, lines, most, is)))
    ]

-- where the table is parted by a byte, the line before is that of the byte
pub stands_in :
    (text : List ℕ) (o k : ℕ) → o ≤ length text → k ≤ length (line_rows text) →
    IsPartitionPoint (λ (l : TextLine). leb l.begin o ≡ true) (λ (l : TextLine). leb l.begin o ≡ false) (line_rows text) k → StandsIn text o k
stands_in text o zero le few point = absurd never
  where
    d : TextLine
    d = line_row text 0

    never : ⊥
    never =
        let all = length-list_below (line_row text) (line_count text) in
        let at = row_is text 0 d (omega arith) in
        let behind = leb-false (get_or (line_rows text) 0 d).begin o (point.1 0 d (omega arith) (omega arith)) in
        let first = ap (λ (l : TextLine). l.begin) at in
        omega arith
stands_in text o (suc i) le few point = record { some = omega arith; few = omega (arith, few, all); behind = behind; inside = inside }
  where
    d : TextLine
    d = line_row text 0

    all : length (line_rows text) ≡ line_count text
    all = length-list_below (line_row text) (line_count text)

    same : suc i - 1 ≡ i
    same = omega arith

    behind : begin_of text (suc i - 1) ≤ o
    behind =
        let yes = leb-true (get_or (line_rows text) i d).begin o (point.0 i d (omega arith) (omega arith)) in
        let at = ap (λ (l : TextLine). l.begin) (row_is text i d (omega (arith, few, all))) in
        let e = ap (begin_of text) same in
        omega arith

    next : i + 1 < line_count text → o < begin_of text (i + 1)
    next lt =
        let no = leb-false (get_or (line_rows text) (i + 1) d).begin o (point.1 (i + 1) d (omega arith) (omega (arith, lt, all))) in
        let at = ap (λ (l : TextLine). l.begin) (row_is text (i + 1) d lt) in
        omega arith

    in_line : (k : ℕ) → k ≡ i → o ≤ begin_of text k + length (line_from text (begin_of text k))
    in_line k e = elim (cases_lt (i + 1) (line_count text)) [
      | inl lt ↦
          (let n = next lt in
          let f : begin_of text (i + 1) ≡ begin_of text (suc k) = ap (begin_of text) (let g : i + 1 ≡ suc k = omega (arith, e) in g) in
          omega arith)
      | inr ge ↦ within_last text k o le (omega (arith, e, ge, few, all))
    ]

    inside : o ≤ begin_of text (suc i - 1) + length (line_from text (begin_of text (suc i - 1)))
    inside = in_line (suc i - 1) same

-- the place of a byte in line i
pub placed :
    (text : List ℕ) (i o : ℕ) → i ≤ count_by is_line_feed text → begin_of text i ≤ o → o ≤ begin_of text i + length (line_from text (begin_of text i)) →
    text_place text o ≡ place_by (line_row text i).named (i + 1) (o - begin_of text i + 1)
placed text i o le behind inside =
    let b = begin_of text i in
    let begin = begins text i le in
    let on = further text b (o - b) begin.inside (omega arith) in
    let at : b + (o - b) ≡ o = omega arith in
    let n = o - b in
    let before : length (line_before text o) ≡ n =
    (let e = ap (λ k. length (line_before text k)) at in let w = on.before in let f = ap length begin.first in omega arith) in
    let own : line_at text o ≡ line_from text b = sym (ap (line_at text) at) ∙ (on.own ∙ ap (λ xs. reverse xs ++ line_from text b) begin.first) in
    let lines : count_by is_line_feed (take o text) + 1 ≡ i + 1 =
    (let e = ap (λ k. count_by is_line_feed (take k text)) at in let w = on.lines in let l = begin.lines in omega arith) in
    let start : line_begin text o ≡ b = (let l = length-take o text in let w = line_within text b begin.inside in omega arith) in
    parts (line_begin text o) b (line_at text o) (line_from text b) (count_by is_line_feed (take o text) + 1) (i + 1) (length (line_before text o) + 1) (n + 1)
    start own lines (omega (arith, before))
  where
    parts :
        (start start' : ℕ) (own own' : List ℕ) (line line' column column' : ℕ) → start ≡ start' → own ≡ own' → line ≡ line' → column ≡ column' →
        place_by (moved_span start (named_in own)) line column ≡ place_by (moved_span start' (named_in own')) line' column'
    parts start start' own own' line line' column column' a b c d =
        ap (λ v. place_by (moved_span v (named_in own)) line column) a
        ∙ (ap (λ v. place_by (moved_span start' (named_in v)) line column) b
        ∙ (ap (λ v. place_by (moved_span start' (named_in own')) v column) c
        ∙ ap (λ v. place_by (moved_span start' (named_in own')) line' v) d))

-- the place between what stands before it and what stands behind
abbrev place_between : List ℕ → List ℕ → TextPlace
place_between ahead rest =
    let before = take_while (λ b. not (is_line_feed b)) (reverse ahead) in
    place_by (moved_span (length ahead - length before) (named_in (reverse before ++ take_while (λ b. not (is_line_feed b)) rest)))
    (count_by is_line_feed ahead + 1) (length before + 1)

-- behind the end of a text is its end
pub place_at_end : (text : List ℕ) (offset : ℕ) → text_place text (min offset (length text)) ≡ text_place text offset
place_at_end text offset = elim (cases_lt offset (length text)) [
  | inl l ↦ ap (text_place text) (let m : min offset (length text) ≡ offset = omega arith in m)
  | inr l ↦
      (let m : length text ≤ min offset (length text) = omega arith in
      ap (λ xs. place_between xs (drop (min offset (length text)) text)) (take_all (min offset (length text)) text m ∙ sym (take_all offset text l))
      ∙ ap (place_between (take offset text)) (drop_all (min offset (length text)) text m ∙ sym (drop_all offset text l)))
]

-- the same by the table as it is kept
pub parted :
    (text : List ℕ) (rows : List TextLine) (o offset k : ℕ) → rows ≡ line_rows text → o ≡ min offset (length text) → k ≤ length rows →
    IsPartitionPoint (λ (l : TextLine). leb l.begin o ≡ true) (λ (l : TextLine). leb l.begin o ≡ false) rows k → StandsIn text o k
parted text rows o offset k is least few point =
    stands_in text o k (omega (arith, least)) (let e = ap length is in omega (arith, few, e))
    (subst (λ xs. IsPartitionPoint (λ (l : TextLine). leb l.begin o ≡ true) (λ (l : TextLine). leb l.begin o ≡ false) xs k) is point)

-- the row before, by the table as it is kept
pub row_before :
    (text : List ℕ) (rows : List TextLine) (o k : ℕ) (d : TextLine) → rows ≡ line_rows text → StandsIn text o k → get_or rows (k - 1) d ≡ line_row text (k - 1)
row_before text rows o k d is stands =
    ap (λ xs. get_or xs (k - 1) d) is ∙ row_is text (k - 1) d (let f = stands.few in let s = stands.some in omega arith)

-- the place of a byte that stands in line k - 1
pub placed_in :
    (text : List ℕ) (o k : ℕ) → StandsIn text o k → text_place text o ≡ place_by (line_row text (k - 1)).named (k - 1 + 1) (o - begin_of text (k - 1) + 1)
placed_in text o k stands =
    placed text (k - 1) o (let f = stands.few in let s = stands.some in omega arith) stands.behind stands.inside

-- there are no more lines than bytes and one
pub lines_fit : (text : List ℕ) (o k : ℕ) → StandsIn text o k → k - 1 ≤ length text
lines_fit text o k stands = (let f = stands.few in let c = count_by-le-length is_line_feed text in omega arith)
