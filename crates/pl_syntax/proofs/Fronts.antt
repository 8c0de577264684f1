-- What tokens are.
use Rattle.std.proofs.Common.{◌≡◌, ℕ, ◌≤◌, Bool, true, false, cond, List, [], ◌∷◌, length, take, drop, Option, Some, None, Result, Ok, Err, refl, sym, ap, subst, ◌∙◌, arith, nat_le, ◌<◌, ◌+◌, ◌==◌, ◌&&◌, ◌⊎◌, inl, inr}
use Rattle.std.specs.List.{list_any, prefix_len}
use Rattle.std.proofs.lemmas.Bool.Decides.{nat_tests}
use Rattle.std.specs.Prelude.{IfOk}
use Rattle.std.specs.Borrow.{Bor}
use Rattle.std.proofs.lemmas.List.{length-drop}
use Rattle.pl_syntax.specs.declared.scan.Language.{Language}
use Rattle.pl_syntax.specs.declared.scan.Scan.{Scan}
use Rattle.pl_syntax.specs.declared.limits.TheConstants.{MAX_NAME_BYTES}
use Rattle.pl_syntax.specs.declared.fault.TheConstants.{NO_TOKEN, NO_NUMBER, TOO_LONG}
use Rattle.pl_syntax.specs.inside.Reading.{ends_list}
use Rattle.pl_syntax.specs.declared.token.Token as token
use Rattle.pl_syntax.specs.declared.token.Token.TheVariants as t
use Rattle.pl_syntax.specs.declared.fault.SyntaxFault.{SyntaxFault}
use Rattle.pl_syntax.specs.declared.token.Keyword.{Keyword}
use Rattle.pl_syntax.specs.declared.token.Sign.{Sign}
use Rattle.pl_syntax.specs.calls.Words.{IsNameIn}
use Rattle.pl_syntax.specs.Words.{begins_with, keyword_in, has_name_form, number_of, is_digit, is_word_byte}
use Rattle.pl_syntax.specs.calls.Spacing.{is_a_word}
use Rattle.pl_syntax.specs.inside.Seen.{front_seen, token_of, HasForm}
use Rattle.pl_syntax.specs.Tokens.{Token, the_end, sign, word, name, number, front, token_here, after_gap, placed, word_token, letters_token, digits_token, name_token, sign_token, sign_of, after_comment, is_blank}

-- which way a test went
pub chosen : {A : Type 0} (b : Bool) (x y z : A) → cond b x y ≡ z → ((b ≡ true) × (x ≡ z)) ⊎ ((b ≡ false) × (y ≡ z))
chosen true x y z e = inl (refl, e)
chosen false x y z e = inr (refl, e)

abbrev Found : Token → Result Token ℕ
Found t = Ok t

name_of_form : (l : Language) (w v : List ℕ) → keyword_in l w ≡ None → name_token w ≡ Found (name v) → IsNameIn l v
name_of_form l w v free e =
    elim (chosen (has_name_form w) _ _ (Found (name v)) e) [
      | inr p ↦ absurd (let q : Err NO_TOKEN ≡ Found (name v) = p.1 in cc)
      | inl p ↦ elim (chosen (nat_le (length w) MAX_NAME_BYTES) _ _ (Found (name v)) p.1) [
        | inr q ↦ absurd (let r : Err TOO_LONG ≡ Found (name v) = q.1 in cc)
        | inl q ↦
            let r : Found (name w) ≡ Found (name v) = q.1 in
            let same : w ≡ v = cc in
            let short : length w ≤ MAX_NAME_BYTES = (let t = q.0 in grind (arith, nat_tests)) in
            subst (λ (x : List ℕ). IsNameIn l x) same (record { form = p.0; short = short; free = free })
      ]
    ]

name_of_letters : (l : Language) (w v : List ℕ) (o : Option Keyword) → keyword_in l w ≡ o → letters_token w o ≡ Found (name v) → IsNameIn l v
name_of_letters l w v None free e = name_of_form l w v free e
name_of_letters l w v (Some k) free e = absurd (let q : Found (word k) ≡ Found (name v) = e in cc)

no_name : (o : Option ℕ) (v : List ℕ) → digits_token o ≡ Found (name v) → ⊥
no_name None v e = let q : Err NO_NUMBER ≡ Found (name v) = e in cc
no_name (Some k) v e = let q : Found (number k) ≡ Found (name v) = e in cc

name_of_word : (l : Language) (w v : List ℕ) → word_token l w ≡ Found (name v) → IsNameIn l v
name_of_word l w v e =
    elim (chosen (list_any is_digit (take 1 w)) _ _ (Found (name v)) e) [
      | inl p ↦ absurd (no_name (number_of w) v p.1)
      | inr p ↦ name_of_letters l w v (keyword_in l w) refl p.1
    ]

-- a word that begins with no digit is a keyword or a name
pub letters_found : (Holds : Token → Bool) → ((k : Keyword) → Holds (word k) ≡ true) → ((x : List ℕ) → Holds (name x) ≡ true) →
    (w : List ℕ) (o : Option Keyword) (t : Token) → letters_token w o ≡ Found t → Holds t ≡ true
letters_found Holds of_word of_name w (Some c) t e = let q : Found (word c) ≡ Found t = e in let same : word c ≡ t = cc in ap Holds (sym same) ∙ of_word c
letters_found Holds of_word of_name w None t e =
    elim (chosen (has_name_form w) _ _ (Found t) e) [
      | inr p ↦ absurd (let q : Err NO_TOKEN ≡ Found t = p.1 in cc)
      | inl p ↦ elim (chosen (nat_le (length w) MAX_NAME_BYTES) _ _ (Found t) p.1) [
        | inr q ↦ absurd (let r : Err TOO_LONG ≡ Found t = q.1 in cc)
        | inl q ↦ (let r : Found (name w) ≡ Found t = q.1 in let same : name w ≡ t = cc in ap Holds (sym same) ∙ of_name w)
      ]
    ]

digits_word : (o : Option ℕ) (t : Token) → digits_token o ≡ Found t → is_a_word t ≡ true
digits_word None t e = absurd (let q : Err NO_NUMBER ≡ Found t = e in cc)
digits_word (Some n) t e = let q : Found (number n) ≡ Found t = e in let same : number n ≡ t = cc in ap is_a_word (sym same)

-- what a word is is a word
pub word_is_word : (l : Language) (w : List ℕ) (t : Token) → word_token l w ≡ Found t → is_a_word t ≡ true
word_is_word l w t e =
    elim (chosen (list_any is_digit (take 1 w)) _ _ (Found t) e) [
      | inl p ↦ digits_word (number_of w) t p.1
      | inr p ↦ letters_found is_a_word (λ k. refl) (λ x. refl) w (keyword_in l w) t p.1
    ]

no_sign : (o : Option Sign) (v : List ℕ) → sign_token o ≡ Found (name v) → ⊥
no_sign None v e = let q : Err NO_TOKEN ≡ Found (name v) = e in cc
no_sign (Some k) v e = let q : Found (sign k) ≡ Found (name v) = e in cc

-- ×'s parts: `cc` does not look into a tuple
pub ok_pair : {A B : Type 0} (p q : A × B) → ◌≡◌ {A = Result (A × B) SyntaxFault} (Ok p) (Ok q) → (p.0 ≡ q.0) × (p.1 ≡ q.1)
ok_pair p q e = let h : p ≡ q = cc in (ap (λ x. x.0) h, ap (λ x. x.1) h)

-- what was placed was found
pub was_found : (at : ℕ) (r : Result Token ℕ) (rest : List ℕ) (t : Token) (left : List ℕ) → placed at r rest ≡ Ok (t, left) → (r ≡ Found t) × (rest ≡ left)
was_found at (Ok x) rest t left e = let h = ok_pair (x, rest) (t, left) e in (ap Found h.0, h.1)
was_found at (Err kind) rest t left e = absurd cc

name_here : (scan : Scan) (text w rest : List ℕ) → token_here scan text ≡ Ok (name w, rest) → IsNameIn scan.language w
name_here scan [] w rest e = let h : the_end ≡ name w = (ok_pair (the_end, []) (name w, rest) e).0 in absurd cc
name_here scan (b ∷ bs) w rest e =
    elim (chosen (is_word_byte b) _ _ _ e) [
      | inl p ↦ name_of_word scan.language (take (prefix_len is_word_byte (b ∷ bs)) (b ∷ bs)) w (was_found _ _ _ (name w) rest p.1).0
      | inr p ↦ absurd (no_sign (sign_of scan.offsets b) w (was_found _ _ _ (name w) rest p.1).0)
    ]

-- a token that is a name has its form
pub name_in_front : (scan : Scan) (text w rest : List ℕ) → front scan text ≡ Ok (name w, rest) → IsNameIn scan.language w
unfolding front
name_in_front scan text w rest e = name_here scan (after_gap text) w rest e

cond_le : (b : Bool) (x y : List ℕ) (n : ℕ) → length x ≤ n → length y ≤ n → length (cond b x y) ≤ n
cond_le true x y n p q = p
cond_le false x y n p q = q

mutual
  pub gap_le : (text : List ℕ) → length (after_gap text) ≤ length text
  gap_le [] = omega arith
  gap_le (b ∷ bs) =
      let p : length (after_gap bs) ≤ length (b ∷ bs) = (let h = gap_le bs in omega arith) in
      let q : length (after_comment bs) ≤ length (b ∷ bs) = (let h = comment_le bs in omega arith) in
      cond_le (is_blank b) _ _ _ p (cond_le (b == 47 && begins_with 47 bs) _ _ _ q (omega arith))

  comment_le : (text : List ℕ) → length (after_comment text) ≤ length text
  comment_le [] = omega arith
  comment_le (b ∷ bs) =
      let p : length (after_gap bs) ≤ length (b ∷ bs) = (let h = gap_le bs in omega arith) in
      let q : length (after_comment bs) ≤ length (b ∷ bs) = (let h = comment_le bs in omega arith) in
      cond_le (b == 10) _ _ _ p q

pub progress_here : (scan : Scan) (text : List ℕ) (t : Token) (rest : List ℕ) → token_here scan text ≡ Ok (t, rest) → (t ≡ the_end → ⊥) → length rest < length text
progress_here scan [] t rest e f = absurd (f (sym (ok_pair (the_end, []) (t, rest) e).0))
progress_here scan (b ∷ bs) t rest e f =
    elim (chosen (is_word_byte b) _ _ _ e) [
      | inl p ↦
          let h : drop (prefix_len is_word_byte (b ∷ bs)) (b ∷ bs) ≡ rest = (was_found _ (word_token scan.language (take (prefix_len is_word_byte (b ∷ bs)) (b ∷ bs))) _ t rest p.1).1 in
          let k : prefix_len is_word_byte (b ∷ bs) ≡ 1 + prefix_len is_word_byte bs = rw p.0 refl in
          let l = length-drop (prefix_len is_word_byte (b ∷ bs)) (b ∷ bs) in
          let m = ap (λ (x : List ℕ). length x) h in
          omega arith
      | inr p ↦
          let h : bs ≡ rest = (was_found _ (sign_token (sign_of scan.offsets b)) bs t rest p.1).1 in
          let m = ap (λ (x : List ℕ). length x) h in
          omega arith
    ]

-- a token that is not the end takes a byte
pub further : (scan : Scan) (text : List ℕ) (t : Token) (rest : List ℕ) → front scan text ≡ Ok (t, rest) → (t ≡ the_end → ⊥) → length rest < length text
unfolding front
further scan text t rest e f =
    let h = progress_here scan (after_gap text) t rest e f in
    let g = gap_le text in
    omega arith

goes_on : (t : Token) → ends_list t ≡ false → t ≡ the_end → ⊥
goes_on t f e = let g : true ≡ false = sym (ap ends_list e) ∙ f in cc

-- so does one before which a list of statements does not end
pub progress : (scan : Scan) (text : List ℕ) (t : Token) (rest : List ℕ) → front scan text ≡ Ok (t, rest) → ends_list t ≡ false → length rest < length text
progress scan text t rest e f = further scan text t rest e (goes_on t f)

form_of : (scan : Scan) (text : List ℕ) (x : token.Token) (rest : List ℕ) → front scan text ≡ Ok (token_of x, rest) → HasForm scan.language x
form_of scan text t.End rest e = tt
form_of scan text (t.Sign s) rest e = tt
form_of scan text (t.Word k) rest e = tt
form_of scan text (t.Name w) rest e = name_in_front scan text w.now rest e
form_of scan text (t.Number k) rest e = tt

-- what was found has its form
pub form_seen : (scan : Scan) (text : List ℕ) (r : Result (token.Token × Bor (List ℕ)) SyntaxFault) → front_seen r ≡ front scan text → IfOk r (λ x. HasForm scan.language x.0)
form_seen scan text (Ok x) e = form_of scan text x.0 x.1.now (sym e)
form_seen scan text (Err f) e = tt

here_le : (scan : Scan) (text : List ℕ) (t : Token) (rest : List ℕ) → token_here scan text ≡ Ok (t, rest) → length rest ≤ length text
here_le scan [] t rest e =
    let h : [] ≡ rest = (ok_pair (the_end, []) (t, rest) e).1 in
    let m = ap (λ (x : List ℕ). length x) h in
    omega arith
here_le scan (b ∷ bs) t rest e =
    elim (chosen (is_word_byte b) _ _ _ e) [
      | inl p ↦
          let h : drop (prefix_len is_word_byte (b ∷ bs)) (b ∷ bs) ≡ rest = (was_found _ (word_token scan.language (take (prefix_len is_word_byte (b ∷ bs)) (b ∷ bs))) _ t rest p.1).1 in
          let l = length-drop (prefix_len is_word_byte (b ∷ bs)) (b ∷ bs) in
          let m = ap (λ (x : List ℕ). length x) h in
          omega arith
      | inr p ↦
          let h : bs ≡ rest = (was_found _ (sign_token (sign_of scan.offsets b)) bs t rest p.1).1 in
          let m = ap (λ (x : List ℕ). length x) h in
          omega arith
    ]

pub front_le : (scan : Scan) (text : List ℕ) (t : Token) (rest : List ℕ) → front scan text ≡ Ok (t, rest) → length rest ≤ length text
unfolding front
front_le scan text t rest e =
    let h = here_le scan (after_gap text) t rest e in
    let g = gap_le text in
    omega arith

-- ---- the end

no_end_letters : (w : List ℕ) (o : Option Keyword) → letters_token w o ≡ Found the_end → ⊥
no_end_letters w (Some k) e = let q : Found (word k) ≡ Found the_end = e in cc
no_end_letters w None e =
    elim (chosen (has_name_form w) _ _ (Found the_end) e) [
      | inr p ↦ (let q : Err NO_TOKEN ≡ Found the_end = p.1 in cc)
      | inl p ↦ elim (chosen (nat_le (length w) MAX_NAME_BYTES) _ _ (Found the_end) p.1) [
        | inr q ↦ (let r : Err TOO_LONG ≡ Found the_end = q.1 in cc)
        | inl q ↦ (let r : Found (name w) ≡ Found the_end = q.1 in cc)
      ]
    ]

no_end_digits : (o : Option ℕ) → digits_token o ≡ Found the_end → ⊥
no_end_digits None e = let q : Err NO_NUMBER ≡ Found the_end = e in cc
no_end_digits (Some k) e = let q : Found (number k) ≡ Found the_end = e in cc

no_end_word : (l : Language) (w : List ℕ) → word_token l w ≡ Found the_end → ⊥
no_end_word l w e =
    elim (chosen (list_any is_digit (take 1 w)) _ _ (Found the_end) e) [
      | inl p ↦ no_end_digits (number_of w) p.1
      | inr p ↦ no_end_letters w (keyword_in l w) p.1
    ]

no_end_sign : (o : Option Sign) → sign_token o ≡ Found the_end → ⊥
no_end_sign None e = let q : Err NO_TOKEN ≡ Found the_end = e in cc
no_end_sign (Some k) e = let q : Found (sign k) ≡ Found the_end = e in cc

end_here : (scan : Scan) (text rest : List ℕ) → token_here scan text ≡ Ok (the_end, rest) → rest ≡ []
end_here scan [] rest e = sym (ok_pair (the_end, []) (the_end, rest) e).1
end_here scan (b ∷ bs) rest e =
    elim (chosen (is_word_byte b) _ _ _ e) [
      | inl p ↦ absurd (no_end_word scan.language (take (prefix_len is_word_byte (b ∷ bs)) (b ∷ bs)) (was_found _ _ _ the_end rest p.1).0)
      | inr p ↦ absurd (no_end_sign (sign_of scan.offsets b) (was_found _ _ _ the_end rest p.1).0)
    ]

-- nothing is left behind the end
pub end_in_front : (scan : Scan) (text rest : List ℕ) → front scan text ≡ Ok (the_end, rest) → rest ≡ []
unfolding front
end_in_front scan text rest e = end_here scan (after_gap text) rest e
