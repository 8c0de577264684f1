-- Bytes are cut into lines in one way, a line says one thing, and an input has one text and one schedule.
use Rattle.std.proofs.Common.{◌≡◌, ◌≢◌, ◌∙◌, ℕ, suc, List, [], ◌∷◌, ◌++◌, arith, sym, subst, ap, refl, codes}
use Rattle.std.proofs.lemmas.Fmt.{decimal_injective}
use Rattle.std.proofs.lemmas.List.{append_cancel_left, append_cancel_right}
use Rattle.schedule.specs.declared.lines.Line.{Line}
use Rattle.schedule.specs.declared.lines.Line.TheVariants.{Step, Pass, Load, Unreadable}
use Rattle.schedule.specs.Lines.{AllSay, HasNoEnd, IsCut, IsFirstLine, Says, a_line, ended, more, no_line, none, unended}
use Rattle.schedule.specs.Split.{IsSplit, at_mark, mark, more_text, no_text}
use Rattle.schedule.specs.calls.Laws.{OneReading, OneSplit}

head_is : {x y : ℕ} {xs ys : List ℕ} → x ∷ xs ≡ y ∷ ys → x ≡ y
head_is e = cc

tail_is : {x y : ℕ} {xs ys : List ℕ} → x ∷ xs ≡ y ∷ ys → xs ≡ ys
tail_is e = cc

-- ---- the first line

no_end_first : (x : ℕ) (xs : List ℕ) → HasNoEnd (x ∷ xs) → x ≢ 10
no_end_first x xs free = free 0 x (omega arith)

no_end_later : (x : ℕ) (xs : List ℕ) → HasNoEnd (x ∷ xs) → HasNoEnd xs
no_end_later x xs free = λ k d l. free (suc k) d (omega arith)

pub no_end_inside : (line rest : List ℕ) → HasNoEnd (line ++ 10 ∷ rest) → ⊥
no_end_inside [] rest free = no_end_first 10 rest free refl
no_end_inside (x ∷ xs) rest free = no_end_inside xs rest (no_end_later x (xs ++ 10 ∷ rest) free)

-- the two lines are one, with one rest
record SameLine (line other rest behind : List ℕ) : Type 0 where
  line_is : line ≡ other
  rest_is : rest ≡ behind

both_ended : (line other rest behind : List ℕ) → HasNoEnd line → HasNoEnd other → line ++ 10 ∷ rest ≡ other ++ 10 ∷ behind → SameLine line other rest behind
both_ended [] [] rest behind p q e = record { line_is = refl; rest_is = tail_is e }
both_ended [] (y ∷ ys) rest behind p q e = absurd (no_end_first y ys q (sym (head_is e)))
both_ended (x ∷ xs) [] rest behind p q e = absurd (no_end_first x xs p (head_is e))
both_ended (x ∷ xs) (y ∷ ys) rest behind p q e =
    let later = both_ended xs ys rest behind (no_end_later x xs p) (no_end_later y ys q) (tail_is e) in
    let first : x ≡ y = head_is e in
    let same : xs ≡ ys = later.line_is in
    record { line_is = cc; rest_is = later.rest_is }

one_line : (bytes line other rest behind : List ℕ) → IsFirstLine bytes line rest → IsFirstLine bytes other behind → SameLine line other rest behind
one_line bytes line other rest behind (ended p e) (ended q f) = both_ended line other rest behind p q (sym e ∙ f)
one_line bytes line other rest behind (ended p e) (unended q some f nothing) = absurd (no_end_inside line rest (subst HasNoEnd (sym f ∙ e) q))
one_line bytes line other rest behind (unended p some e nothing) (ended q f) = absurd (no_end_inside other behind (subst HasNoEnd (sym e ∙ f) p))
one_line bytes line other rest behind (unended p some e nothing) (unended q filled f nil) = record { line_is = sym e ∙ f; rest_is = nothing ∙ sym nil }

-- no bytes have no first line
no_bytes : (line rest : List ℕ) → IsFirstLine [] line rest → ⊥
no_bytes [] rest (ended p e) = absurd (cc)
no_bytes (x ∷ xs) rest (ended p e) = absurd (cc)
no_bytes line rest (unended p some e nothing) = some (sym e)

-- ---- all lines

pub one_cut : (bytes : List ℕ) (lines others : List (List ℕ)) → IsCut bytes lines → IsCut bytes others → lines ≡ others
one_cut _ _ _ no_line no_line = refl
one_cut _ _ _ no_line (a_line _ line rest lines first cut) = absurd (no_bytes line rest first)
one_cut _ _ _ (a_line _ line rest lines first cut) no_line = absurd (no_bytes line rest first)
one_cut _ _ _ (a_line bytes line rest lines first cut) (a_line _ other behind others second cuts) =
    let here = one_line bytes line other rest behind first second in
    let later : lines ≡ others = one_cut rest lines others cut (subst (λ r. IsCut r others) (sym here.rest_is) cuts) in
    let same : line ≡ other = here.line_is in cc

one_saying : (bytes : List ℕ) (a b : Line) → Says bytes a → Says bytes b → a ≡ b
one_saying bytes (Step n) (Step m) p q = ap Step (decimal_injective n m (omega (arith, p.0)) (omega (arith, q.0)) (append_cancel_left (codes "t ") _ _ (sym p.1 ∙ q.1)))
one_saying bytes (Step n) Pass p q = absurd (let e : 116 ≡ 112 = head_is (sym p.1 ∙ q) in omega arith)
one_saying bytes (Step n) Load p q = absurd (let e : 116 ≡ 108 = head_is (sym p.1 ∙ q) in omega arith)
one_saying bytes Pass (Step m) p q = absurd (let e : 112 ≡ 116 = head_is (sym p ∙ q.1) in omega arith)
one_saying bytes Pass Pass p q = refl
one_saying bytes Pass Load p q = absurd (let e : 112 ≡ 108 = head_is (sym p ∙ q) in omega arith)
one_saying bytes Load (Step m) p q = absurd (let e : 108 ≡ 116 = head_is (sym p ∙ q.1) in omega arith)
one_saying bytes Load Pass p q = absurd (let e : 108 ≡ 112 = head_is (sym p ∙ q) in omega arith)
one_saying bytes Load Load p q = refl
one_saying bytes (Step n) Unreadable p q = absurd (q (Step n) p)
one_saying bytes Pass Unreadable p q = absurd (q Pass p)
one_saying bytes Load Unreadable p q = absurd (q Load p)
one_saying bytes Unreadable (Step m) p q = absurd (p (Step m) q)
one_saying bytes Unreadable Pass p q = absurd (p Pass q)
one_saying bytes Unreadable Load p q = absurd (p Load q)
one_saying bytes Unreadable Unreadable p q = refl

all_say_one : (texts : List (List ℕ)) (lines others : List Line) → AllSay texts lines → AllSay texts others → lines ≡ others
all_say_one _ _ _ none none = refl
all_say_one _ _ _ (more bytes line rest lines says all) (more _ other _ others tells every) =
    let first : line ≡ other = one_saying bytes line other says tells in
    let later : lines ≡ others = all_say_one rest lines others all every in cc

pub one_reading : OneReading
one_reading bytes lines others p q =
    let same : p.texts ≡ q.texts = one_cut bytes p.texts q.texts p.cut q.cut in
    all_say_one p.texts lines others p.say (subst (λ t. AllSay t others) (sym same) q.say)

-- ---- the split

pub one_split : OneSplit
one_split input text schedule other rest p q = go input text schedule other rest p q
  where
    go : (input text schedule other rest : List ℕ) → IsSplit input text schedule → IsSplit input other rest → (text ≡ other) × (schedule ≡ rest)
    go _ _ _ _ _ no_text no_text = (refl, refl)
    go _ _ _ _ _ no_text (at_mark _ rest first) = absurd (no_bytes mark rest first)
    go _ _ _ _ _ no_text (more_text _ line behind front text rest first unlike same split) = absurd (no_bytes line behind first)
    go _ _ _ _ _ (at_mark _ schedule first) no_text = absurd (no_bytes mark schedule first)
    go _ _ _ _ _ (at_mark input schedule first) (at_mark _ rest second) = (refl, (one_line input mark mark schedule rest first second).rest_is)
    go _ _ _ _ _ (at_mark input schedule first) (more_text _ line behind front text rest second unlike same split) =
        absurd (unlike (sym (one_line input mark line schedule behind first second).line_is))
    go _ _ _ _ _ (more_text _ line behind front text schedule first unlike same split) no_text = absurd (no_bytes line behind first)
    go _ _ _ _ _ (more_text input line behind front text schedule first unlike same split) (at_mark _ rest second) =
        absurd (unlike (one_line input line mark behind rest first second).line_is)
    go _ _ _ _ _ (more_text input line behind front text schedule first unlike same split) (more_text _ line' behind' front' text' rest second unlike' same' split') =
        let here = one_line input line line' behind behind' first second in
        let fronts : front ≡ front' = append_cancel_right front front' behind (sym same ∙ same' ∙ ap (λ b. front' ++ b) (sym here.rest_is)) in
        let later = go behind text schedule text' rest split (subst (λ b. IsSplit b text' rest) (sym here.rest_is) split') in
        let texts : text ≡ text' = later.0 in
        (cc, later.1)
