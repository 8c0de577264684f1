-- What is written of a text consists of characters that are shown, and a text that does is written as it is.
use Rattle.std.proofs.Common.{◌≡◌, ◌-◌, ◌∙◌, ◌≤◌, ◌<◌, ◌+◌, ◌&&◌, ◌||◌, ℕ, suc, zero, Bool, true, false, [], ◌∷◌, ◌++◌, Option, Some, None, if◌then◌else◌, append-nil, append_assoc, arith, ap, cond, drop, get_or, length, lt-ltb, ltb-true, map, nat_lt, refl, slice_get, subst, sym, take, take_all}
use Rattle.std.specs.Str.{continuation_len}
use Rattle.std.proofs.lemmas.List.{drop_more, length-drop, nil_from_length}
use Rattle.program_io.specs.Texts.{Text}
use Rattle.program_io.specs.Legible.{IsLegible, LegibleIsWritten, LegibleStays, begins_character, character, is_continued, is_further, is_second, legible, legible_behind, may_begin, nothing, told_name}
use Rattle.program_io.specs.inside.LegibleBytes.{behind_byte, legible_byte, told_byte}

-- ---- the bytes of one character

both : (a b : Bool) → (a && b) ≡ true → (a ≡ true) × (b ≡ true)
both true b e = (refl, e)
both false b e = absurd (cc)

true_is_not : false ≡ true → ⊥
true_is_not e = absurd (cc)

joined : (a b : Bool) → a ≡ true → b ≡ true → (a && b) ≡ true
joined true b e f = f
joined false b e f = absurd (cc)

-- what is asked of a byte, if it is there, is so of more bytes too
kept : (x : Bool) (test : Option ℕ → Bool) → test None ≡ false → (more rest : Text) (i : ℕ) → (x || test (slice_get more i)) ≡ true
    → (x || test (slice_get (more ++ rest) i)) ≡ true
kept true test none more rest i e = refl
kept false test none [] rest i e = (let both : true ≡ false = sym e ∙ none in absurd (cc))
kept false test none (m ∷ more) rest zero e = e
kept false test none (m ∷ more) rest (suc i) e = kept false test none more rest i e

-- a character goes on with these bytes, whatever stands behind them
continued_longer : (first : ℕ) (more rest : Text) → is_continued first more ≡ true → is_continued first (more ++ rest) ≡ true
continued_longer first more rest e =
    let second_of = λ (bytes : Text). nat_lt first 128 || is_second first (slice_get bytes 0) in
    let third_of = λ (bytes : Text). nat_lt first 224 || is_further (slice_get bytes 1) in
    let fourth_of = λ (bytes : Text). nat_lt first 240 || is_further (slice_get bytes 2) in
    let (front, fourth) = both (second_of more && third_of more) (fourth_of more) e in
    let (second, third) = both (second_of more) (third_of more) front in
    joined (second_of (more ++ rest) && third_of (more ++ rest)) (fourth_of (more ++ rest))
    (joined (second_of (more ++ rest)) (third_of (more ++ rest)) (kept (nat_lt first 128) (is_second first) refl more rest 0 second)
    (kept (nat_lt first 224) is_further refl more rest 1 third))
    (kept (nat_lt first 240) is_further refl more rest 2 fourth)

begins_longer : (first : ℕ) (more rest : Text) → begins_character first more ≡ true → begins_character first (more ++ rest) ≡ true
begins_longer first more rest e =
    let (may, on) = both (may_begin first) (is_continued first more) e in
    joined (may_begin first) (is_continued first (more ++ rest)) may (continued_longer first more rest on)

-- so many further bytes, by whether the first one is below 128, 224, 240
abbrev further : Bool → Bool → Bool → ℕ
further x y z = cond x 0 (cond y 1 (cond z 2 3))

-- the further bytes are there, and they are enough
enough : (first : ℕ) (x y z : Bool) → (x ≡ true → y ≡ true) → (y ≡ true → z ≡ true) → (rest : Text)
    → ((x || is_second first (slice_get rest 0)) && (y || is_further (slice_get rest 1)) && (z || is_further (slice_get rest 2))) ≡ true
    → (further x y z ≤ length rest)
    × (((x || is_second first (slice_get (take (further x y z) rest) 0))
    && (y || is_further (slice_get (take (further x y z) rest) 1)) && (z || is_further (slice_get (take (further x y z) rest) 2))) ≡ true)
enough first true true true xy yz rest e = (omega arith, refl)
enough first true true false xy yz rest e = (let no = yz refl in absurd (cc))
enough first true false z xy yz rest e = (let no = xy refl in absurd (cc))
enough first false true true xy yz [] e = absurd (cc)
enough first false true true xy yz (s ∷ rest) e = (omega arith, e)
enough first false true false xy yz rest e = (let no = yz refl in absurd (cc))
enough first false false true xy yz [] e = absurd (cc)
enough first false false true xy yz (s ∷ []) e =
    absurd (let (a, b) = both (is_second first (Some s) && false) true e in let (c, d) = both (is_second first (Some s)) false a in true_is_not d)
enough first false false true xy yz (s ∷ u ∷ rest) e = (omega arith, e)
enough first false false false xy yz [] e = absurd (cc)
enough first false false false xy yz (s ∷ []) e = absurd (let (a, b) = both (is_second first (Some s) && false) false e in true_is_not b)
enough first false false false xy yz (s ∷ u ∷ []) e =
    absurd (let (a, b) = both (is_second first (Some s) && is_further (Some u)) false e in true_is_not b)
enough first false false false xy yz (s ∷ u ∷ v ∷ rest) e = (omega arith, e)

below_more : (n a b : ℕ) → a ≤ b → nat_lt n a ≡ true → nat_lt n b ≡ true
below_more n a b le e = (let lt = ltb-true n a e in lt-ltb n b (omega (arith, lt, le)))

-- ---- what is written

length-of-take : (n : ℕ) (bytes : Text) → n ≤ length bytes → length (take n bytes) ≡ n
length-of-take zero bytes le = refl
length-of-take (suc n) [] le = absurd (omega (arith, le))
length-of-take (suc n) (b ∷ bytes) le = ap suc (length-of-take n bytes (omega (arith, le)))

-- the bytes that go on a character are written as they are
passes : (n : ℕ) (rest : Text) → n ≤ length rest → legible_behind n rest ≡ take n rest ++ legible (drop n rest)
passes zero rest le = refl
passes (suc n) [] le = absurd (omega (arith, le))
passes (suc n) (b ∷ rest) le = ap (λ bytes. b ∷ bytes) (passes n rest (omega (arith, le)))

shorter : (n k : ℕ) (rest : Text) → length rest ≤ k → length (drop n rest) ≤ k
shorter n k rest le = (let e = length-drop n rest in omega (arith, e, le))

-- the first byte of a text and what is written of what is behind its character
module _ (b : ℕ) (rest : Text) (k : ℕ) (few : length rest ≤ k) (others : (text : Text) → length text ≤ k → IsLegible (legible text)) where
  begins_so : (c : Bool) → begins_character b rest ≡ c
      → IsLegible (if c then b ∷ legible_behind (continuation_len b) rest else 63 ∷ legible_behind 0 rest)
  begins_so true e =
      let (may, on) = both (may_begin b) (is_continued b rest) e in
      let (long, ends) = enough b (nat_lt b 128) (nat_lt b 224) (nat_lt b 240) (below_more b 128 224 (omega arith)) (below_more b 224 240 (omega arith)) rest on in
      subst (λ t. IsLegible (b ∷ t)) (sym (passes (continuation_len b) rest long))
      (character {front = b ∷ take (continuation_len b) rest} {rest = legible (drop (continuation_len b) rest)}
      (b, take (continuation_len b) rest, refl, joined (may_begin b) (is_continued b (take (continuation_len b) rest)) may ends, length-of-take (continuation_len b) rest long)
      (others (drop (continuation_len b) rest) (shorter (continuation_len b) k rest few)))
  begins_so false e = character {front = 63 ∷ []} {rest = legible rest} (63, [], refl, refl, refl) (others rest few)

within : (k : ℕ) (text : Text) → length text ≤ k → IsLegible (legible text)
within k [] le = nothing
within zero (b ∷ rest) le = absurd (omega (arith, le))
within (suc k) (b ∷ rest) le = begins_so b rest k (omega (arith, le)) (within k) (begins_character b rest) refl

pub legible_written : LegibleIsWritten
legible_written text = within (length text) text (omega arith)

-- what goes on with all its bytes is written as it is
passes_all : (more rest : Text) → legible_behind (length more) (more ++ rest) ≡ more ++ legible rest
passes_all [] rest = refl
passes_all (b ∷ more) rest = ap (λ bytes. b ∷ bytes) (passes_all more rest)

stays_front : (first : ℕ) (more rest : Text) → begins_character first more ≡ true → length more ≡ continuation_len first
    → legible (first ∷ (more ++ rest)) ≡ first ∷ (more ++ legible rest)
stays_front first more rest begins long =
    ap (λ c. if c then first ∷ legible_behind (continuation_len first) (more ++ rest) else 63 ∷ legible_behind 0 (more ++ rest)) (begins_longer first more rest begins)
    ∙ ap (λ n. first ∷ legible_behind n (more ++ rest)) (sym long)
    ∙ ap (λ bytes. first ∷ bytes) (passes_all more rest)

pub legible_stays : LegibleStays
legible_stays _ nothing = refl
legible_stays _ (character {front} {rest} (first, more, is, begins, long) stays) =
    subst (λ f. legible (f ++ rest) ≡ f ++ rest) (sym is)
    (stays_front first more rest begins long ∙ ap (λ bytes. first ∷ (more ++ bytes)) (legible_stays rest stays))

-- ---- byte by byte

-- a byte, and what is left behind it
one_byte : (left byte : ℕ) (rest : Text) → legible_behind left (byte ∷ rest) ≡ legible_byte left byte rest ∷ legible_behind (behind_byte left byte rest) rest
one_byte zero byte rest = by (begins_character byte rest)
  where
    by : (c : Bool) → (if c then byte ∷ legible_behind (continuation_len byte) rest else 63 ∷ legible_behind 0 rest)
        ≡ (if c then byte else 63) ∷ legible_behind (if c then continuation_len byte else 0) rest
    by true = refl
    by false = refl
one_byte (suc n) byte rest = refl

-- what is written and what is left from here on are together what is written of all
abbrev pub IsLegibleSoFar : Text → ℕ → Text → ℕ → Type 0
IsLegibleSoFar text index out left = out ++ legible_behind left (drop index text) ≡ legible text

-- the bytes behind one, as a slice has them
pub behind_is : (text : Text) (n : ℕ) → take (length text - n) (drop n text) ≡ drop n text
behind_is text n = take_all (length text - n) (drop n text) (let e = length-drop n text in omega (arith, e))

pub legible_more : (text : Text) (index left : ℕ) (out next : Text) (after : ℕ) → index < length text → IsLegibleSoFar text index out left
    → (slice : Text) → slice ≡ drop (index + 1) text → next ≡ out ++ legible_byte left (get_or text index 0) slice ∷ []
    → after ≡ behind_byte left (get_or text index 0) slice → IsLegibleSoFar text (index + 1) next after
legible_more text index left out next after inside so slice is next_is after_is =
    let byte = get_or text index 0 in
    let rest = drop (index + 1) text in
    let here : legible_behind left (drop index text) ≡ legible_byte left byte rest ∷ legible_behind (behind_byte left byte rest) rest =
    ap (legible_behind left) (drop_more text index 0 inside) ∙ one_byte left byte rest in
    ap (λ z. z ++ legible_behind after rest) (next_is ∙ ap (λ r. out ++ legible_byte left byte r ∷ []) is)
    ∙ ap (λ n. (out ++ legible_byte left byte rest ∷ []) ++ legible_behind n rest) (after_is ∙ ap (behind_byte left byte) is)
    ∙ append_assoc out (legible_byte left byte rest ∷ []) (legible_behind (behind_byte left byte rest) rest)
    ∙ ap (λ z. out ++ z) (sym here)
    ∙ so

pub legible_all : (text : Text) (index left : ℕ) (out : Text) → length text ≤ index → IsLegibleSoFar text index out left → out ≡ legible text
legible_all text index left out past so =
    sym (append-nil out)
    ∙ ap (λ rest. out ++ legible_behind left rest) (sym (nil_from_length (drop index text) (let e = length-drop index text in omega (arith, e))))
    ∙ so

-- ---- the name of a file

-- what is told and what is left from here on are together what is told of the whole name
abbrev pub IsToldSoFar : Text → ℕ → Text → Type 0
IsToldSoFar name index told = told ++ map told_byte (drop index name) ≡ told_name name

pub told_more : (name : Text) (index : ℕ) (told next : Text) → index < length name → IsToldSoFar name index told
    → next ≡ told ++ told_byte (get_or name index 0) ∷ [] → IsToldSoFar name (index + 1) next
told_more name index told next inside so next_is =
    ap (λ z. z ++ map told_byte (drop (index + 1) name)) next_is
    ∙ append_assoc told (told_byte (get_or name index 0) ∷ []) (map told_byte (drop (index + 1) name))
    ∙ ap (λ rest. told ++ map told_byte rest) (sym (drop_more name index 0 inside))
    ∙ so

pub told_all : (name : Text) (index : ℕ) (told : Text) → length name ≤ index → IsToldSoFar name index told → told ≡ told_name name
told_all name index told past so =
    sym (append-nil told)
    ∙ ap (λ rest. told ++ map told_byte rest) (sym (nil_from_length (drop index name) (let e = length-drop index name in omega (arith, e))))
    ∙ so
