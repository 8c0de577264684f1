-- A line names just the place that is found in it.
use Rattle.std.proofs.Common.{◌≡◌, ℕ, ◌+◌, ◌-◌, ◌≤◌, ◌==◌, ◌++◌, ◌∷◌, [], List, Option, Some, None, Bool, true, false, nat_le, length, take, drop, if◌then◌else◌, sym, ap, refl, inl, inr, ◌∙◌, arith, append_assoc, length-append, codes, option_map, unwrap_or}
use Rattle.std.proofs.lemmas.Bool.{and_from, and_parts, both_ways, eqb-true, false_from_ne_true, le-leb, leb-true, or_cases}
use Rattle.std.proofs.Math.Seq.{drop-append_seam, drop-append-add}
use Rattle.std.specs.List.{list_all, prefix_len}
use Rattle.std.proofs.lemmas.List.{drop-drop, length-take, take-append-drop}
use Rattle.std.proofs.lemmas.List.Sums.{prefix_len-le-length}
use Rattle.source_map.specs.declared.named.Span.{Span}
use Rattle.source_map.specs.calls.NamedPlaces.{NamesPlace}
use Rattle.source_map.specs.NamedPlaces.{comment_of, is_gap, is_gap_and_name, is_place_byte, is_trailing, max_place_bytes, moved_span, name_behind, name_in_comment, named_in, span_if}
use Rattle.source_map.proofs.Comments.{IsAhead, IsComment, comment_splits}
use Rattle.source_map.proofs.Prefixes.{Stops, prefix_is, prefix_passes}

-- ---- bytes

gap_is_no_place : (b : ℕ) → is_gap b ≡ true → is_place_byte b ≡ false
gap_is_no_place b is = elim (or_cases (b == 32) (b == 9) is) [
  | inl e ↦ ap is_place_byte (eqb-true b 32 e)
  | inr e ↦ ap is_place_byte (eqb-true b 9 e)
]

trailing_is_no_place : (b : ℕ) → is_trailing b ≡ true → is_place_byte b ≡ false
trailing_is_no_place b is = elim (or_cases (is_gap b) (b == 13) is) [
  | inl e ↦ gap_is_no_place b e
  | inr e ↦ ap is_place_byte (eqb-true b 13 e)
]

place_is_no_gap : (b : ℕ) → is_place_byte b ≡ true → is_gap b ≡ false
place_is_no_gap b is = false_from_ne_true (is_gap b) (λ e. both_ways (is_place_byte b) (gap_is_no_place b e) is)

-- a gap stops at a name
gap_stops : (name behind : List ℕ) → 1 ≤ length name → list_all is_place_byte name ≡ true → Stops is_gap (name ++ behind)
gap_stops [] behind some all = absurd (omega arith)
gap_stops (x ∷ xs) behind some all = place_is_no_gap x (and_parts (is_place_byte x) (list_all is_place_byte xs) all).0

-- and a name at what trails
name_stops : (behind : List ℕ) → list_all is_trailing behind ≡ true → Stops is_place_byte behind
name_stops [] all = tt
name_stops (x ∷ xs) all = trailing_is_no_place x (and_parts (is_trailing x) (list_all is_trailing xs) all).0

-- ---- from the line to what is found

-- lists that are as long ahead of the same whole are the same
same_rest : (xs ys us vs : List ℕ) → xs ++ us ≡ ys ++ vs → length xs ≡ length ys → us ≡ vs
same_rest xs ys us vs is long =
    sym (drop-append_seam xs us) ∙ (ap (drop (length xs)) is ∙ (ap (λ n. drop n (ys ++ vs)) long ∙ drop-append_seam ys vs))

-- the comment of a line is what its first `//` begins
comment_is :
    (line before rest : List ℕ) → line ≡ before ++ 47 ∷ 47 ∷ rest → ((ahead more : List ℕ) → line ≡ ahead ++ 47 ∷ 47 ∷ more → length before ≤ length ahead) →
    (comment_of line ≡ 47 ∷ 47 ∷ rest)
comment_is line before rest is first = by (comment_splits line)
  where
    by : (ahead : List ℕ) × IsAhead line ahead (comment_of line) × IsComment (comment_of line) → comment_of line ≡ 47 ∷ 47 ∷ rest
    by (ahead, splits, inl none) =
        let a = splits.first before rest is in
        let l : length line ≡ length (ahead ++ comment_of line) = ap length splits.splits in
        let m : length line ≡ length (before ++ 47 ∷ 47 ∷ rest) = ap length is in
        let e : length (ahead ++ comment_of line) ≡ length (ahead ++ []) = ap (λ xs. length (ahead ++ xs)) none in
        let f = length-append ahead [] in let g = length-append before (47 ∷ 47 ∷ rest) in
        absurd (omega arith)
    by (ahead, splits, inr (more, begun)) =
        let a = splits.first before rest is in
        let b = first ahead more (splits.splits ∙ ap (λ xs. ahead ++ xs) begun) in
        same_rest ahead before (comment_of line) (47 ∷ 47 ∷ rest) (sym splits.splits ∙ is) (omega arith)

-- the name that stands behind the sign
name_is :
    (gap name behind : List ℕ) → 1 ≤ length gap → list_all is_gap gap ≡ true → 1 ≤ length name → length name ≤ max_place_bytes →
    list_all is_place_byte name ≡ true → list_all is_trailing behind ≡ true →
    name_behind (gap ++ (name ++ behind)) ≡ Some (record { from = length gap; to = length gap + length name })
name_is gap name behind some gaps one short named trails =
    let text = gap ++ (name ++ behind) in
    let g : prefix_len is_gap text ≡ length gap = prefix_is is_gap gap (name ++ behind) gaps (gap_stops name behind one named) in
    let rest : drop (length gap) text ≡ name ++ behind = drop-append_seam gap (name ++ behind) in
    let n : prefix_len is_place_byte (drop (prefix_len is_gap text) text) ≡ length name =
    ap (λ k. prefix_len is_place_byte (drop k text)) g ∙ (ap (prefix_len is_place_byte) rest ∙ prefix_is is_place_byte name behind named (name_stops behind trails)) in
    let tail : drop (length gap + length name) text ≡ behind = drop-append-add gap (name ++ behind) (length name) ∙ drop-append_seam name behind in
    let test : is_gap_and_name text (length gap) (length name) ≡ true =
    and_from _ _ (le-leb 1 (length gap) some) (and_from _ _ (le-leb 1 (length name) one)
    (and_from _ _ (le-leb (length name) max_place_bytes short) (ap (list_all is_trailing) tail ∙ trails))) in
    ap (λ k. span_if (is_gap_and_name text k (prefix_len is_place_byte (drop k text))) k (k + prefix_len is_place_byte (drop k text))) g
    ∙ (ap (λ k. span_if (is_gap_and_name text (length gap) k) (length gap) (length gap + k)) (ap (λ k. prefix_len is_place_byte (drop k text)) (sym g) ∙ n)
    ∙ ap (λ b. span_if b (length gap) (length gap + length name)) test)

-- the parts of a line that names a place, from left to right
flat : (before gap name behind : List ℕ) → before ++ codes "//@" ++ gap ++ name ++ behind ≡ before ++ 47 ∷ 47 ∷ 64 ∷ (gap ++ (name ++ behind))
flat before gap name behind = simp append_assoc refl

-- what a line names is found in it
pub is_found : (line : List ℕ) (from to : ℕ) → NamesPlace line from to → named_in line ≡ Some (record { from = from; to = to })
is_found line from to names =
    let rest = names.gap ++ (names.name ++ names.behind) in
    let splits : line ≡ names.before ++ 47 ∷ 47 ∷ 64 ∷ rest = names.splits ∙ flat names.before names.gap names.name names.behind in
    let comment : comment_of line ≡ 47 ∷ 47 ∷ 64 ∷ rest =
    comment_is line names.before (64 ∷ rest) splits (λ ahead more e. names.first ahead more (e ∙ sym (append_assoc ahead (47 ∷ 47 ∷ []) more))) in
    let name = name_is names.gap names.name names.behind names.gapped.0 names.gapped.1 names.named.0 names.named.1 names.named.2 names.trails in
    let ahead : length line - length (comment_of line) ≡ length names.before =
    (let l = ap length splits in let c = ap length comment in let a = length-append names.before (47 ∷ 47 ∷ 64 ∷ rest) in omega arith) in
    ap (λ k. moved_span k (name_in_comment (comment_of line))) ahead
    ∙ (ap (λ xs. moved_span (length names.before) (name_in_comment xs)) comment
    ∙ (ap (λ v. moved_span (length names.before) (moved_span 3 v)) name ∙ same_span _ _ _ _
    (let f = names.from_is in omega arith) (let f = names.from_is in let t = names.to_is in omega arith)))
  where
    same_span : (a b c d : ℕ) → a ≡ c → b ≡ d → let s : Option Span = Some (record { from = a; to = b }) in let t : Option Span = Some (record { from = c; to = d }) in s ≡ t
    same_span a b c d e f = cc

-- ---- from what is found to the line

-- spans that are the same have the same ends
same_ends :
    (a b c d : ℕ) → let s : Option Span = Some (record { from = a; to = b }) in let t : Option Span = Some (record { from = c; to = d }) in
    s ≡ t → (a ≡ c) × (b ≡ d)
same_ends a b c d is = (
  ap (λ (o : Option Span). unwrap_or (option_map (λ (s : Span). s.from) o) 0) is,
  ap (λ (o : Option Span). unwrap_or (option_map (λ (s : Span). s.to) o) 0) is,
)

-- a name that is found behind the sign
record IsBehind (text : List ℕ) (from to : ℕ) : Type 0 where
  gap : List ℕ
  name : List ℕ
  behind : List ℕ
  splits : text ≡ gap ++ (name ++ behind)
  gapped : (1 ≤ length gap) × (list_all is_gap gap ≡ true)
  named : (1 ≤ length name) × (length name ≤ max_place_bytes) × (list_all is_place_byte name ≡ true)
  trails : list_all is_trailing behind ≡ true
  from_is : from ≡ length gap
  to_is : to ≡ length gap + length name

found_behind : (text : List ℕ) (from to : ℕ) → name_behind text ≡ Some (record { from = from; to = to }) → IsBehind text from to
found_behind text from to is = by (is_gap_and_name text (prefix_len is_gap text) (prefix_len is_place_byte (drop (prefix_len is_gap text) text))) refl is
  where
    g : ℕ
    g = prefix_len is_gap text

    n : ℕ
    n = prefix_len is_place_byte (drop g text)

    by : (b : Bool) → is_gap_and_name text g n ≡ b → span_if b g (g + n) ≡ Some (record { from = from; to = to }) → IsBehind text from to
    by false test e = absurd cc
    by true test e =
        let (some, more) = and_parts (nat_le 1 g) _ test in
        let (one, most) = and_parts (nat_le 1 n) _ more in
        let (short, trails) = and_parts (nat_le n max_place_bytes) _ most in
        let (f, t) = same_ends g (g + n) from to e in
        let rest = drop g text in
        let lg : length (take g text) ≡ g = (let p = prefix_len-le-length is_gap text in let l = length-take g text in omega arith) in
        let ln : length (take n rest) ≡ n = (let p = prefix_len-le-length is_place_byte rest in let l = length-take n rest in omega arith) in
        record {
          gap = take g text;
          name = take n rest;
          behind = drop n rest;
          splits = sym (take-append-drop g text) ∙ ap (λ xs. take g text ++ xs) (sym (take-append-drop n rest));
          gapped = ((let s = leb-true 1 g some in omega arith), prefix_passes is_gap text);
          named = ((let s = leb-true 1 n one in omega arith), (let s = leb-true n max_place_bytes short in omega arith), prefix_passes is_place_byte rest);
          trails = ap (list_all is_trailing) (drop-drop n g text) ∙ trails;
          from_is = omega arith;
          to_is = omega arith;
        }

-- a span that was moved
moved_back :
    (n from to : ℕ) (o : Option Span) → moved_span n o ≡ Some (record { from = from; to = to }) →
    (a b : ℕ) × (o ≡ Some (record { from = a; to = b })) × (n + a ≡ from) × (n + b ≡ to)
moved_back n from to None is = absurd cc
moved_back n from to (Some s) is = let (f, t) = same_ends (n + s.from) (n + s.to) from to is in (s.from, s.to, refl, f, t)

-- a comment in which a name is found has the sign
signed :
    (rest : List ℕ) (a b : ℕ) → name_in_comment (47 ∷ 47 ∷ rest) ≡ Some (record { from = a; to = b }) →
    (text : List ℕ) × (rest ≡ 64 ∷ text) × (moved_span 3 (name_behind text) ≡ Some (record { from = a; to = b }))
signed [] a b is = absurd cc
signed (x ∷ text) a b is = by (x == 64) refl is
  where
    by :
        (test : Bool) → (x == 64) ≡ test → (if test then moved_span 3 (name_behind text) else None) ≡ Some (record { from = a; to = b }) →
        (text' : List ℕ) × (x ∷ text ≡ 64 ∷ text') × (moved_span 3 (name_behind text') ≡ Some (record { from = a; to = b }))
    by false e i = absurd cc
    by true e i = (text, (let f : x ≡ 64 = eqb-true x 64 e in ap (λ v. v ∷ text) f), i)

-- what is found in a line is named by it
pub found_is : (line : List ℕ) (from to : ℕ) → named_in line ≡ Some (record { from = from; to = to }) → NamesPlace line from to
found_is line from to is = by (comment_splits line)
  where
    by : (before : List ℕ) × IsAhead line before (comment_of line) × IsComment (comment_of line) → NamesPlace line from to
    by (before, ahead, inl none) =
        let e : named_in line ≡ None = ap (λ xs. moved_span (length line - length xs) (name_in_comment xs)) none in absurd cc
    by (before, ahead, inr (rest, begun)) =
        let m = length line - length (comment_of line) in
        let (a, b, found, af, bt) = moved_back m from to (name_in_comment (comment_of line)) is in
        let (text, sign, more) = signed rest a b (ap name_in_comment (sym begun) ∙ found) in
        let (c, d, name, ca, db) = moved_back 3 a b (name_behind text) more in
        let behind = found_behind text c d name in
        let splits : line ≡ before ++ 47 ∷ 47 ∷ 64 ∷ text = ahead.splits ∙ ap (λ xs. before ++ xs) (begun ∙ ap (λ xs. 47 ∷ 47 ∷ xs) sign) in
        let l : m ≡ length before = (let e = ap length ahead.splits in let g = length-append before (comment_of line) in omega arith) in
        record {
          before = before;
          gap = behind.gap;
          name = behind.name;
          behind = behind.behind;
          splits = splits ∙ (ap (λ xs. before ++ 47 ∷ 47 ∷ 64 ∷ xs) behind.splits ∙ sym (flat before behind.gap behind.name behind.behind));
          first = λ ahead' rest' e. ahead.first ahead' rest' (e ∙ append_assoc ahead' (47 ∷ 47 ∷ []) rest');
          gapped = behind.gapped;
          named = behind.named;
          trails = behind.trails;
          from_is = (let f = behind.from_is in omega arith);
          to_is = (let f = behind.from_is in let t = behind.to_is in omega arith);
        }

-- a line names one place at most
pub one_place : (line : List ℕ) (from to from' to' : ℕ) → NamesPlace line from to → NamesPlace line from' to' → (from ≡ from') × (to ≡ to')
one_place line from to from' to' one other = same_ends from to from' to' (sym (is_found line from to one) ∙ is_found line from' to' other)
