-- The printed form of a program is a text of it.
use Rattle.std.proofs.Common.{◌≡◌, ℕ, zero, suc, ◌+◌, ◌-◌, ◌*◌, ◌<◌, ◌≤◌, ◌==◌, ◌/◌, ◌%◌, ◌^◌, get_or, Bool, true, false, cond, List, [], ◌∷◌, ◌++◌, length, take, drop, replicate, codes, decimal, Some, None, Result, Ok, refl, sym, ap, subst, ◌∙◌, append_assoc, arith, nat_le, inl, inr}
use Rattle.std.specs.List.{list_any, list_all, prefix_len}
use Rattle.std.proofs.lemmas.Bool.Decides.{nat_tests}
use Rattle.std.proofs.lemmas.Bool.{and_from, and_parts, cases_Bool}
use Rattle.std.proofs.lemmas.List.{append-nil, take_at, drop_at, length-append}
use Rattle.std.proofs.lemmas.List.Folds.{list_all-append}
use Rattle.std.proofs.lemmas.Fmt.{decimal_by_steps, decimal_digit, decimal_nonempty, first_decimal, length-decimal-le}
use Rattle.pl_syntax.specs.declared.scan.Language.{Language}
use Rattle.pl_syntax.specs.declared.scan.Language.TheVariants.{Phasers}
use Rattle.pl_syntax.specs.declared.scan.Scan.{Scan}
use Rattle.pl_syntax.specs.declared.limits.TheConstants.{MAX_NAME_BYTES, MAX_DIGITS, MAX_NUMBER, MAX_OPEN_BRACES}
use Rattle.armus_base.specs.declared.offset.Offset.{Offset}
use Rattle.armus_base.specs.declared.offset.Offset.TheVariants.{Ahead, Back, Here}
use Rattle.pl_syntax.specs.declared.tree.Program.{Program}
use Rattle.pl_syntax.specs.declared.token.Keyword.TheVariants as k
use Rattle.pl_syntax.specs.declared.token.Sign.TheVariants.{Equals, OpenParen, CloseParen, Semicolon, OpenBrace, CloseBrace, Plus, Minus}
use Rattle.pl_syntax.specs.calls.Words.{IsName, IsNameIn}
use Rattle.pl_syntax.specs.Words.{keyword_in, keyword_of, is_word_byte, is_name_byte, is_lower, is_digit, value_from, has_no_leading_zero, is_number, number_of}
use Rattle.pl_syntax.specs.Tokens.{Token, the_end, sign, word, name, number, front, Leads, after_gap, is_blank, token_here, placed, word_token, letters_token, name_token, sign_token, sign_of, digits_token}
use Rattle.pl_syntax.specs.Tree.{Tree, done, plain, fork, loop, Plain, new_task, new_phaser, reg, dereg, adv, await, skip, height}
use Rattle.pl_syntax.specs.calls.Tree.{AllHere, PlainIsHere}
use Rattle.pl_syntax.specs.Grammar.{tokens, plain_tokens, sentence, IsText}
use Rattle.pl_syntax.specs.Printed.{header_text, plain_text, printed_at, printed_of}
use Rattle.pl_syntax.specs.calls.Printed.{IsWritable, PlainIsWritable, TreeIsWritable}

-- ---- blanks

gap_spaces : (n : ℕ) (t : List ℕ) → after_gap (replicate n 32 ++ t) ≡ after_gap t
gap_spaces zero t = refl
gap_spaces (suc n) t = gap_spaces n t

spaces : (scan : Scan) (n : ℕ) (t : List ℕ) → front scan (replicate n 32 ++ t) ≡ front scan t
unfolding front
spaces scan n t = ap (token_here scan) (gap_spaces n t)

-- ---- names

name_word : (b : ℕ) → is_name_byte b ≡ true → is_word_byte b ≡ true
name_word b e = grind (arith, nat_tests)

words_of_names : (x : List ℕ) → list_all is_name_byte x ≡ true → list_all is_word_byte x ≡ true
words_of_names [] e = refl
words_of_names (b ∷ bs) e =
    let h = and_parts (is_name_byte b) (list_all is_name_byte bs) e in
    and_from (is_word_byte b) (list_all is_word_byte bs) (name_word b h.0) (words_of_names bs h.1)

word_prefix : (x : List ℕ) (c : ℕ) (r : List ℕ) → list_all is_word_byte x ≡ true → is_word_byte c ≡ false → prefix_len is_word_byte (x ++ c ∷ r) ≡ length x
word_prefix [] c r e f = rw f refl
word_prefix (b ∷ bs) c r e f =
    let h = and_parts (is_word_byte b) (list_all is_word_byte bs) e in
    let n : ℕ = prefix_len is_word_byte (bs ++ c ∷ r) in
    let i : n ≡ length bs = word_prefix bs c r h.1 f in
    let one : cond (is_word_byte b) (1 + n) 0 ≡ 1 + n = ap (λ v. cond v (1 + n) 0) h.0 in
    one ∙ (omega arith)

Found : Token → Result Token ℕ
Found t = Ok t

-- a word that stands before another byte
word_here : (scan : Scan) (b : ℕ) (bs : List ℕ) (c : ℕ) (r : List ℕ) (t : Token) → list_all is_word_byte (b ∷ bs) ≡ true → is_word_byte c ≡ false → word_token scan.language (b ∷ bs) ≡ Found t
    → token_here scan (b ∷ (bs ++ c ∷ r)) ≡ Ok (t, c ∷ r)
unfolding Found
word_here scan b bs c r t all ends is =
    let w : List ℕ = b ∷ (bs ++ c ∷ r) in
    let n : ℕ = prefix_len is_word_byte w in
    let at : ℕ = scan.total - length w in
    let h = and_parts (is_word_byte b) (list_all is_word_byte bs) all in
    let len : length (b ∷ bs) ≡ n = sym (word_prefix (b ∷ bs) c r all ends) in
    ap (λ v. cond v (placed at (word_token scan.language (take n w)) (drop n w)) (placed at (sign_token (sign_of scan.offsets b)) (bs ++ c ∷ r))) h.0
    ∙ ap (λ (u : List ℕ). placed at (word_token scan.language u) (drop n w)) (take_at (b ∷ bs) (c ∷ r) n len)
    ∙ ap (λ (u : List ℕ). placed at (word_token scan.language (b ∷ bs)) u) (drop_at (b ∷ bs) (c ∷ r) n len)
    ∙ ap (λ (u : Result Token ℕ). placed at u (c ∷ r)) is

no_gap : (b : ℕ) (t : List ℕ) → 48 ≤ b → after_gap (b ∷ t) ≡ b ∷ t
no_gap b t le =
    let p : is_blank b ≡ false = grind (arith, nat_tests) in
    let q : (b == 47) ≡ false = grind (arith, nat_tests) in
    rw (p, q) refl

name_is_word : (l : Language) (b : ℕ) (bs : List ℕ) → IsNameIn l (b ∷ bs) → 97 ≤ b → word_token l (b ∷ bs) ≡ Found (name (b ∷ bs))
unfolding Found
name_is_word l b bs h le =
    let d : is_digit b ≡ false = grind (arith, nat_tests) in
    let s : nat_le (length (b ∷ bs)) MAX_NAME_BYTES ≡ true = (let q = h.short in grind (arith, nat_tests)) in
    let letters : letters_token (b ∷ bs) (keyword_in l (b ∷ bs)) ≡ name_token (b ∷ bs) = ap (letters_token (b ∷ bs)) h.free in
    let named : name_token (b ∷ bs) ≡ Ok (name (b ∷ bs)) = rw (h.form, s) refl in
    rw d (letters ∙ named)

name_front : (scan : Scan) (x : List ℕ) (c : ℕ) (r : List ℕ) → IsNameIn scan.language x → is_word_byte c ≡ false → front scan (x ++ c ∷ r) ≡ Ok (name x, c ∷ r)
unfolding front
name_front scan [] c r h ends = absurd (let q = h.form in cc)
name_front scan (b ∷ bs) c r h ends =
    let p = and_parts (is_lower b) (list_all is_name_byte (b ∷ bs)) h.form in
    let low : 97 ≤ b = (let q = p.0 in grind (arith, nat_tests)) in
    ap (token_here scan) (no_gap b (bs ++ c ∷ r) (omega arith)) ∙ word_here scan b bs c r (name (b ∷ bs)) (words_of_names (b ∷ bs) p.1) ends (name_is_word scan.language b bs h low)

-- ---- numbers

value_more : (m : ℕ) (ds : List ℕ) (d : ℕ) → value_from m (ds ++ d ∷ []) ≡ 10 * value_from m ds + (d - 48)
value_more m [] d = refl
value_more m (c ∷ cs) d = value_more (10 * m + (c - 48)) cs d

-- digits that are read as this number
record IsNumeral (n : ℕ) (ds : List ℕ) : Type 0 where
  digits : list_all is_digit ds ≡ true
  value : value_from 0 ds ≡ n
  some : 0 < length ds

one_digit : (n : ℕ) → n < 10 → IsNumeral n ((48 + n) ∷ [])
one_digit n h = record { digits = grind (arith, nat_tests); value = omega arith; some = omega arith }

more_digits : (n : ℕ) (ds : List ℕ) → 10 ≤ n → IsNumeral (n / 10) ds → IsNumeral n (ds ++ ((48 + n % 10) ∷ []))
more_digits n ds h i = record {
  digits = list_all-append is_digit ds ((48 + n % 10) ∷ []) ∙
      and_from (list_all is_digit ds) (list_all is_digit ((48 + n % 10) ∷ [])) i.digits (let p : n % 10 < 10 = omega arith in grind (arith, nat_tests));
  value = (let v = value_more 0 ds (48 + n % 10) in let w = i.value in omega arith);
  some = (let l = length-append ds ((48 + n % 10) ∷ []) in omega arith);
}

numeral : (n : ℕ) → n < 2 ^ 64 → IsNumeral n (decimal n)
numeral n h = decimal_by_steps IsNumeral one_digit more_digits n h

digit_word : (b : ℕ) → is_digit b ≡ true → is_word_byte b ≡ true
digit_word b e = grind (arith, nat_tests)

words_of_digits : (x : List ℕ) → list_all is_digit x ≡ true → list_all is_word_byte x ≡ true
words_of_digits [] e = refl
words_of_digits (b ∷ bs) e =
    let h = and_parts (is_digit b) (list_all is_digit bs) e in
    and_from (is_word_byte b) (list_all is_word_byte bs) (digit_word b h.0) (words_of_digits bs h.1)

-- no 0 leads, or it stands alone
leads_well : (n : ℕ) (w : List ℕ) → n ≤ MAX_NUMBER → decimal n ≡ w → has_no_leading_zero w ≡ true
leads_well zero w h e = rw (sym e ∙ decimal_digit 0 (omega arith)) refl
leads_well (suc n) [] h e = absurd (let q = decimal_nonempty (suc n) (omega arith) in let l = ap (λ (x : List ℕ). length x) e in omega arith)
leads_well (suc n) (b ∷ bs) h e =
    let f = first_decimal (suc n) (omega arith) (omega arith) in
    let g = ap (λ (x : List ℕ). get_or x 0 0) e in
    let p : (b == 48) ≡ false = grind (arith, nat_tests) in
    rw p refl

number_word : (l : Language) (n : ℕ) (b : ℕ) (bs : List ℕ) → n ≤ MAX_NUMBER → decimal n ≡ b ∷ bs → IsNumeral n (b ∷ bs) → word_token l (b ∷ bs) ≡ Found (number n)
unfolding Found
number_word l n b bs h e i =
    let d = and_parts (is_digit b) (list_all is_digit bs) i.digits in
    let short : length (b ∷ bs) ≤ MAX_DIGITS = subst (λ (x : List ℕ). length x ≤ MAX_DIGITS) e (length-decimal-le MAX_DIGITS n (omega arith) (omega arith) (omega arith)) in
    let s : nat_le (length (b ∷ bs)) MAX_DIGITS ≡ true = grind (arith, nat_tests) in
    let v : nat_le (value_from 0 (b ∷ bs)) MAX_NUMBER ≡ true = (let q = i.value in grind (arith, nat_tests)) in
    let good : is_number (b ∷ bs) ≡ true =
    and_from (list_all is_digit (b ∷ bs)) _ i.digits (and_from (has_no_leading_zero (b ∷ bs)) _ (leads_well n (b ∷ bs) h e)
    (and_from (nat_le (length (b ∷ bs)) MAX_DIGITS) (nat_le (value_from 0 (b ∷ bs)) MAX_NUMBER) s v)) in
    let some : number_of (b ∷ bs) ≡ Some n = ap (λ v. cond v (Some (value_from 0 (b ∷ bs))) None) good ∙ ap (λ (m : ℕ). Some m) i.value in
    let any : list_any is_digit (take 1 (b ∷ bs)) ≡ true = rw d.0 refl in
    ap (λ v. cond v (digits_token (number_of (b ∷ bs))) (letters_token (b ∷ bs) (keyword_in l (b ∷ bs)))) any ∙ ap digits_token some

number_front : (scan : Scan) (n c : ℕ) (r : List ℕ) → n ≤ MAX_NUMBER → is_word_byte c ≡ false → front scan (decimal n ++ c ∷ r) ≡ Ok (number n, c ∷ r)
unfolding front
number_front scan n c r h ends = by_cases (decimal n) refl (numeral n (omega arith))
  where
    by_cases : (w : List ℕ) → decimal n ≡ w → IsNumeral n w → token_here scan (after_gap (w ++ c ∷ r)) ≡ Ok (number n, c ∷ r)
    by_cases [] e i = absurd (let q = i.some in omega arith)
    by_cases (b ∷ bs) e i =
        let d = and_parts (is_digit b) (list_all is_digit bs) i.digits in
        let low : 48 ≤ b = (let q = d.0 in grind (arith, nat_tests)) in
        ap (token_here scan) (no_gap b (bs ++ c ∷ r) low) ∙ word_here scan b bs c r (number n) (words_of_digits (b ∷ bs) i.digits) ends (number_word scan.language n b bs h e i)

-- the line of an await, and what follows it
regroup : (n : ℕ) (x off t : List ℕ) → replicate n 32 ++ ((codes "await(" ++ x ++ off ++ codes ");") ++ 10 ∷ t) ≡ replicate n 32 ++
    (codes "await(" ++ (x ++ (off ++ (41 ∷ 59 ∷ 10 ∷ t))))
regroup n x off t = simp append_assoc

-- ---- lines

module _ (total : ℕ) (offsets : Bool) where
  -- a text of PL is read
  abbrev scan : Scan
  scan = record { total = total; offsets = offsets; language = Phasers }

  -- a line's end before tokens
  IsSome : List Token → Type 0
  IsSome [] = ⊥
  IsSome (t ∷ ts) = Unit {0}

  some_sign : (us : List Token) → IsSome (sign CloseBrace ∷ us)
  unfolding IsSome
  some_sign us = tt

  some_end : IsSome (the_end ∷ [])
  unfolding IsSome
  some_end = tt

  new_line : (t : List ℕ) (us : List Token) (end : List ℕ) → IsSome us → Leads scan t us end → Leads scan (10 ∷ t) us end
  unfolding IsSome front
  new_line t [] end n h = absurd n
  new_line t (u ∷ us) end n h = h

  some_plain : (c : Plain) (us : List Token) → IsSome (plain_tokens c us)
  unfolding IsSome
  some_plain (new_task x) us = tt
  some_plain (new_phaser x) us = tt
  some_plain (reg x y) us = tt
  some_plain (dereg x) us = tt
  some_plain (adv x) us = tt
  some_plain (await x off) us = tt
  some_plain skip us = tt

  some_tree : (p : Tree) (us : List Token) → IsSome us → IsSome (tokens p us)
  unfolding IsSome
  some_tree done us n = n
  some_tree (plain c p) us n = some_plain c (tokens p us)
  some_tree (fork x b p) us n = tt
  some_tree (loop m b p) us n = tt

  indented : (n : ℕ) (t : List ℕ) (u : Token) (mid : List ℕ) → front scan t ≡ Ok (u, mid) → front scan (replicate n 32 ++ t) ≡ Ok (u, mid)
  indented n t u mid e = spaces scan n t ∙ e

  named_line : (n : ℕ) (kw : List ℕ) (w : Token) (x : List ℕ) (t : List ℕ) (us : List Token) (end : List ℕ) →
      ((r : List ℕ) → front scan (kw ++ r) ≡ Ok (w, 40 ∷ r)) → IsName x → Leads scan t us end
      → Leads scan (replicate n 32 ++ (kw ++ (x ++ (41 ∷ 59 ∷ t)))) (w ∷ sign OpenParen ∷ name x ∷ sign CloseParen ∷ sign Semicolon ∷ us) end
  unfolding front
  named_line n kw w x t us end f i h =
      let a : List ℕ = x ++ (41 ∷ 59 ∷ t) in
      (40 ∷ a, indented n _ w _ (f a), (a, refl, (41 ∷ 59 ∷ t, name_front scan x 41 (59 ∷ t) i refl, (59 ∷ t, refl, (t, refl, h)))))

  far_line : (n : ℕ) (x : List ℕ) (c m : ℕ) (w : Token) (t : List ℕ) (us : List Token) (end : List ℕ) → ((r : List ℕ) → front scan (32 ∷ c ∷ r) ≡ Ok (w, r)) →
      IsName x → m ≤ MAX_NUMBER
      → Leads scan t us end
      → Leads scan (replicate n 32 ++ (codes "await(" ++ (x ++ (32 ∷ c ∷ 32 ∷ (decimal m ++ (41 ∷ 59 ∷ t))))))
      (word k.Await ∷ sign OpenParen ∷ name x ∷ w ∷ number m ∷ sign CloseParen ∷ sign Semicolon ∷ us) end
  unfolding front keyword_of
  far_line n x c m w t us end f i small h =
      let b : List ℕ = 32 ∷ (decimal m ++ (41 ∷ 59 ∷ t)) in
      let a : List ℕ = x ++ (32 ∷ c ∷ b) in (
        40 ∷ a,
        indented n _ (word k.Await) (40 ∷ a) refl,
        (
          a,
          refl,
          (32 ∷ c ∷ b, name_front scan x 32 (c ∷ b) i refl, (b, f b, (41 ∷ 59 ∷ t, number_front scan m 41 (59 ∷ t) small refl, (59 ∷ t, refl, (t, refl, h))))),
        ),
      )

  -- only where + and - are signs does an await look back or ahead
  looks : (off : Offset) → (scan.offsets ≡ false → off ≡ Here) → (off ≡ Here → ⊥) → scan.offsets ≡ true
  looks off here not_here = elim (cases_Bool scan.offsets) [ inl e ↦ e | inr e ↦ absurd (not_here (here e)) ]

  reg_line : (n : ℕ) (x y : List ℕ) (t : List ℕ) (us : List Token) (end : List ℕ) → IsName x → IsName y → Leads scan t us end
      → Leads scan (replicate n 32 ++ (codes "reg(" ++ (x ++ (44 ∷ 32 ∷ (y ++ (41 ∷ 59 ∷ t)))))) (plain_tokens (reg x y) us) end
  unfolding front keyword_of
  reg_line n x y t us end i j h =
      let b : List ℕ = y ++ (41 ∷ 59 ∷ t) in
      let a : List ℕ = x ++ (44 ∷ 32 ∷ b) in (
        40 ∷ a,
        indented n _ (word k.Reg) (40 ∷ a) refl,
        (
          a,
          refl,
          (
            44 ∷ 32 ∷ b,
            name_front scan x 44 (32 ∷ b) i refl,
            (
              32 ∷ b,
              refl,
              (41 ∷ 59 ∷ t, name_front scan y 41 (59 ∷ t) j refl, (59 ∷ t, refl, (t, refl, h))),
            ),
          ),
        ),
      )

  drawn_line : (n : ℕ) (x : List ℕ) (kw : List ℕ) (w : Token) (t : List ℕ) (us : List Token) (end : List ℕ) →
      ((r : List ℕ) → front scan (kw ++ r) ≡ Ok (w, 40 ∷ r)) → IsName x → Leads scan t us end
      → Leads scan (replicate n 32 ++ (x ++ (32 ∷ 61 ∷ (kw ++ (41 ∷ 59 ∷ t))))) (name x ∷ sign Equals ∷ w ∷ sign OpenParen ∷ sign CloseParen ∷ sign Semicolon ∷ us) end
  unfolding front
  drawn_line n x kw w t us end f i h =
      let a : List ℕ = kw ++ (41 ∷ 59 ∷ t) in (
        32 ∷ 61 ∷ a,
        indented n _ (name x) (32 ∷ 61 ∷ a) (name_front scan x 32 (61 ∷ a) i refl),
        (a, refl, (40 ∷ 41 ∷ 59 ∷ t, f (41 ∷ 59 ∷ t), (41 ∷ 59 ∷ t, refl, (59 ∷ t, refl, (t, refl, h))))),
      )

  put : (a b : List ℕ) (us : List Token) (end : List ℕ) → a ≡ b → Leads scan b us end → Leads scan a us end
  put a b us end e h = subst (λ (t : List ℕ). Leads scan t us end) (sym e) h

  -- the line of a statement without a body
  plain_line : (n : ℕ) (c : Plain) (t : List ℕ) (us : List Token) (end : List ℕ) → PlainIsWritable c → (scan.offsets ≡ false → PlainIsHere c) →
      Leads scan (10 ∷ t) us end →
      Leads scan (replicate n 32 ++ (plain_text c ++ 10 ∷ t)) (plain_tokens c us) end
  unfolding front keyword_of
  plain_line n (new_task x) t us end w g l =
      put (replicate n 32 ++ (plain_text (new_task x) ++ 10 ∷ t)) (replicate n 32 ++ (x ++ (32 ∷ 61 ∷ (codes " newTid(" ++ (41 ∷ 59 ∷ 10 ∷ t)))))
      (plain_tokens (new_task x) us) end
      (simp append_assoc) (drawn_line n x (codes " newTid(") (word k.NewTid) (10 ∷ t) us end (λ r. refl) w l)
  plain_line n (new_phaser x) t us end w g l =
      put (replicate n 32 ++ (plain_text (new_phaser x) ++ 10 ∷ t)) (replicate n 32 ++ (x ++ (32 ∷ 61 ∷ (codes " newPhaser(" ++ (41 ∷ 59 ∷ 10 ∷ t)))))
      (plain_tokens (new_phaser x) us) end
      (simp append_assoc) (drawn_line n x (codes " newPhaser(") (word k.NewPhaser) (10 ∷ t) us end (λ r. refl) w l)
  plain_line n (reg x y) t us end w g l =
      put (replicate n 32 ++ (plain_text (reg x y) ++ 10 ∷ t)) (replicate n 32 ++ (codes "reg(" ++ (x ++ (44 ∷ 32 ∷ (y ++ (41 ∷ 59 ∷ 10 ∷ t))))))
      (plain_tokens (reg x y) us) end
      (simp append_assoc) (reg_line n x y (10 ∷ t) us end w.0 w.1 l)
  plain_line n (dereg x) t us end w g l =
      put (replicate n 32 ++ (plain_text (dereg x) ++ 10 ∷ t)) (replicate n 32 ++ (codes "dereg(" ++ (x ++ (41 ∷ 59 ∷ 10 ∷ t)))) (plain_tokens (dereg x) us) end
      (simp append_assoc) (named_line n (codes "dereg(") (word k.Dereg) x (10 ∷ t) us end (λ r. refl) w l)
  plain_line n (adv x) t us end w g l =
      put (replicate n 32 ++ (plain_text (adv x) ++ 10 ∷ t)) (replicate n 32 ++ (codes "adv(" ++ (x ++ (41 ∷ 59 ∷ 10 ∷ t)))) (plain_tokens (adv x) us) end
      (simp append_assoc) (named_line n (codes "adv(") (word k.Adv) x (10 ∷ t) us end (λ r. refl) w l)
  plain_line n (await x Here) t us end w g l =
      put (replicate n 32 ++ (plain_text (await x Here) ++ 10 ∷ t)) (replicate n 32 ++ (codes "await(" ++ (x ++ (41 ∷ 59 ∷ 10 ∷ t))))
      (plain_tokens (await x Here) us) end
      (simp append_assoc) (named_line n (codes "await(") (word k.Await) x (10 ∷ t) us end (λ r. refl) w.0 l)
  plain_line n (await x (Back m)) t us end w g l =
      put (replicate n 32 ++ (plain_text (await x (Back m)) ++ 10 ∷ t))
      (replicate n 32 ++ (codes "await(" ++ (x ++ (32 ∷ 45 ∷ 32 ∷ (decimal m ++ (41 ∷ 59 ∷ 10 ∷ t))))))
      (plain_tokens (await x (Back m)) us) end
      (regroup n x (codes " - " ++ decimal m) t) (far_line n x 45 m (sign Minus) (10 ∷ t) us end (λ r. rw (looks (Back m) g (λ e. absurd cc)) refl) w.0 w.1 l)
  plain_line n (await x (Ahead m)) t us end w g l =
      put (replicate n 32 ++ (plain_text (await x (Ahead m)) ++ 10 ∷ t))
      (replicate n 32 ++ (codes "await(" ++ (x ++ (32 ∷ 43 ∷ 32 ∷ (decimal m ++ (41 ∷ 59 ∷ 10 ∷ t))))))
      (plain_tokens (await x (Ahead m)) us) end
      (regroup n x (codes " + " ++ decimal m) t) (far_line n x 43 m (sign Plus) (10 ∷ t) us end (λ r. rw (looks (Ahead m) g (λ e. absurd cc)) refl) w.0 w.1 l)
  plain_line n skip t us end w g l = (59 ∷ 10 ∷ t, indented n _ (word k.Skip) (59 ∷ 10 ∷ t) refl, (10 ∷ t, refl, l))

  fork_line : (n : ℕ) (x : List ℕ) (t : List ℕ) (us : List Token) (end : List ℕ) → IsName x → Leads scan t us end
      → Leads scan (replicate n 32 ++ (codes "fork(" ++ (x ++ (41 ∷ 32 ∷ 123 ∷ t)))) (word k.Fork ∷ sign OpenParen ∷ name x ∷ sign CloseParen ∷ sign OpenBrace ∷ us) end
  unfolding front keyword_of
  fork_line n x t us end i h =
      let b : List ℕ = 32 ∷ 123 ∷ t in
      let a : List ℕ = x ++ (41 ∷ b) in
      (40 ∷ a, indented n _ (word k.Fork) (40 ∷ a) refl, (a, refl, (41 ∷ b, name_front scan x 41 b i refl, (b, refl, (t, refl, h)))))

  loop_line : (n m : ℕ) (t : List ℕ) (us : List Token) (end : List ℕ) → m ≤ MAX_NUMBER → Leads scan t us end
      → Leads scan (replicate n 32 ++ (codes "loop " ++ (decimal m ++ (32 ∷ 123 ∷ t)))) (word k.Loop ∷ number m ∷ sign OpenBrace ∷ us) end
  unfolding front keyword_of
  loop_line n m t us end i h =
      let a : List ℕ = decimal m ++ (32 ∷ 123 ∷ t) in
      (32 ∷ a, indented n _ (word k.Loop) (32 ∷ a) refl, (32 ∷ 123 ∷ t, number_front scan m 32 (123 ∷ t) i refl, (t, refl, h)))

  -- the line that ends a body, and what follows it
  closing : ℕ → List ℕ → List ℕ
  closing d t = replicate (2 * d) 32 ++ (125 ∷ 10 ∷ t)

  -- a body and its end
  in_braces : (b p : Tree) (d : ℕ) (rest : List ℕ) (us : List Token) (end : List ℕ) → IsSome us → Leads scan (printed_at d p ++ rest) (tokens p us) end →
      (IsSome (sign CloseBrace ∷ tokens p us) → Leads scan (closing d (printed_at d p ++ rest)) (sign CloseBrace ∷ tokens p us) end →
      Leads scan (printed_at (d + 1) b ++ closing d (printed_at d p ++ rest)) (tokens b (sign CloseBrace ∷ tokens p us)) end) →
      Leads scan (10 ∷ (printed_at (d + 1) b ++ closing d (printed_at d p ++ rest))) (tokens b (sign CloseBrace ∷ tokens p us)) end
  unfolding front closing
  in_braces b p d rest us end i after body =
      let t : List ℕ = printed_at d p ++ rest in
      let l = new_line t (tokens p us) end (some_tree p us i) after in
      new_line (printed_at (d + 1) b ++ closing d t) (tokens b (sign CloseBrace ∷ tokens p us)) end
      (some_tree b (sign CloseBrace ∷ tokens p us) (some_sign (tokens p us)))
      (body (some_sign (tokens p us)) (10 ∷ t, indented (2 * d) _ (sign CloseBrace) (10 ∷ t) refl, l))

  -- ---- trees

  reads : (p : Tree) (d : ℕ) (rest : List ℕ) (us : List Token) (end : List ℕ) → TreeIsWritable p → (scan.offsets ≡ false → AllHere p) → IsSome us →
      Leads scan rest us end → Leads scan (printed_at d p ++ rest) (tokens p us) end
  unfolding closing
  reads done d rest us end n g i h = h
  reads (plain c p) d rest us end n g i h =
      let t : List ℕ = printed_at d p ++ rest in
      put (printed_at d (plain c p) ++ rest) (replicate (2 * d) 32 ++ (plain_text c ++ 10 ∷ t)) (tokens (plain c p) us) end (simp append_assoc)
      (plain_line (2 * d) c t (tokens p us) end n.0 (λ e. (g e).0) (new_line t (tokens p us) end (some_tree p us i)
      (reads p d rest us end n.1 (λ e. (g e).1) i h)))
  reads (fork x b p) d rest us end n g i h =
      let close : List ℕ = closing d (printed_at d p ++ rest) in
      let vs : List Token = sign CloseBrace ∷ tokens p us in
      put (printed_at d (fork x b p) ++ rest) (replicate (2 * d) 32 ++ (codes "fork(" ++ (x ++ (41 ∷ 32 ∷ 123 ∷ 10 ∷ (printed_at (d + 1) b ++ close)))))
      (tokens (fork x b p) us) end (simp append_assoc)
      (fork_line (2 * d) x (10 ∷ (printed_at (d + 1) b ++ close)) (tokens b vs) end n.0
      (in_braces b p d rest us end i (reads p d rest us end n.2 (λ e. (g e).1) i h) (reads b (d + 1) close vs end n.1 (λ e. (g e).0))))
  reads (loop m b p) d rest us end n g i h =
      let close : List ℕ = closing d (printed_at d p ++ rest) in
      let vs : List Token = sign CloseBrace ∷ tokens p us in
      put (printed_at d (loop m b p) ++ rest) (replicate (2 * d) 32 ++ (codes "loop " ++ (decimal m ++ (32 ∷ 123 ∷ 10 ∷ (printed_at (d + 1) b ++ close)))))
      (tokens (loop m b p) us) end (simp append_assoc)
      (loop_line (2 * d) m (10 ∷ (printed_at (d + 1) b ++ close)) (tokens b vs) end n.0
      (in_braces b p d rest us end i (reads p d rest us end n.2 (λ e. (g e).1) i h) (reads b (d + 1) close vs end n.1 (λ e. (g e).0))))

-- the printed statements are read as themselves
statements : (total : ℕ) (offsets : Bool) (p : Tree) → TreeIsWritable p → (offsets ≡ false → AllHere p) → Leads (scan total offsets) (printed_at 0 p) (sentence p) []
unfolding front
statements total offsets p n here =
    subst (λ (t : List ℕ). Leads (scan total offsets) t (sentence p) []) (append-nil (printed_at 0 p))
    (reads total offsets p 0 [] (the_end ∷ []) [] n here (some_end total offsets) ([], refl, refl))

in_form : (two : Bool) (p : Tree) → TreeIsWritable p → (two ≡ false → AllHere p) → height p ≤ MAX_OPEN_BRACES
    → IsText (header_text two ++ printed_at 0 p) (record { two = two; body = p })
unfolding front keyword_of
in_form false p n here h = record { reads = statements (length (printed_at 0 p)) false p n here; shallow = h }
in_form true p n here h =
    let rest : List ℕ = 10 ∷ printed_at 0 p in
    let text : List ℕ = header_text true ++ printed_at 0 p in
    let total : ℕ = length text in
    record {
      reads = (
        rest,
        (32 ∷ 50 ∷ 59 ∷ rest, refl, (59 ∷ rest, refl, (rest, refl, refl))),
        new_line total true (printed_at 0 p) (sentence p) [] (some_tree total true p (the_end ∷ []) (some_end total true)) (statements total true p n here),
      );
      shallow = h;
    }

-- the printed form of a program is a text of it
pub prints_text : (p : Program) → IsWritable p → height p.body ≤ MAX_OPEN_BRACES → IsText (printed_of p) p
prints_text p n h = in_form p.two p.body n.tree n.here h
