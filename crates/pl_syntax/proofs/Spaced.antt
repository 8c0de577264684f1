-- The texts of a program are its tokens, spaced in any way.
use Rattle.std.proofs.Common.{◌≡◌, ℕ, suc, ◌+◌, ◌-◌, ◌==◌, ◌&&◌, ◌⊎◌, Bool, true, false, not, cond, List, [], ◌∷◌, ◌++◌, length, take, drop, Option, Some, None, Result, Ok, Err, refl, sym, ap, subst, ◌∙◌, append_assoc, arith, inl, inr}
use Rattle.std.specs.List.{list_all, prefix_len}
use Rattle.std.proofs.lemmas.Bool.{and_parts, eqb-true, false≢true}
use Rattle.std.proofs.lemmas.Bool.Decides.{nat_tests}
use Rattle.std.proofs.lemmas.List.{append-nil, drop_at, take_at, take-append-drop}
use Rattle.pl_syntax.specs.declared.scan.Language.{Language}
use Rattle.pl_syntax.specs.declared.scan.Language.TheVariants.{Phasers}
use Rattle.pl_syntax.specs.declared.scan.Scan.{Scan}
use Rattle.armus_base.specs.declared.offset.Offset.TheVariants.{Ahead, Back, Here}
use Rattle.pl_syntax.specs.declared.token.Sign.{Sign}
use Rattle.pl_syntax.specs.declared.token.Sign.TheVariants.{CloseBrace, CloseParen, Comma, Equals, Minus, OpenBrace, OpenParen, Plus, Semicolon}
use Rattle.pl_syntax.specs.Words.{begins_with, is_word_byte}
use Rattle.pl_syntax.specs.Tokens.{Token, the_end, sign, front, Leads, after_gap, after_comment, is_blank, token_here, placed, word_token, sign_token, sign_if, sign_of, word_of, after_word, kind_no_token}
use Rattle.pl_syntax.specs.Tree.{Tree, done, plain, fork, loop, Plain, new_task, new_phaser, reg, dereg, adv, await, skip}
use Rattle.pl_syntax.specs.calls.Tree.{AllHere, PlainIsHere}
use Rattle.pl_syntax.specs.Grammar.{ReadsTokens, header, scan_of, tokens, plain_tokens, sentence}
use Rattle.pl_syntax.specs.calls.Spacing.{IsGap, empty, blank, comment, left_open, IsSpelling, a_sign, a_word, IsSpaced, all_tokens, is_a_word, is_no_feed}
use Rattle.pl_syntax.specs.calls.Laws.{TextsAreSpaced}
use Rattle.pl_syntax.proofs.Fronts.{chosen, ok_pair, was_found, word_is_word}
use Rattle.pl_syntax.proofs.LineFeeds.{is_real, tokens_append}
use Rattle.pl_syntax.proofs.Leaves.{Leads-append}
use Rattle.pl_syntax.proofs.Writable.{text_is_writable}

-- ---- gaps

-- a gap before some text, or all of a last gap
abbrev Split : List ℕ → Type 0
Split text = ((gap : List ℕ) × IsGap false gap × (text ≡ gap ++ after_gap text)) ⊎ (IsGap true text × (after_gap text ≡ []))

-- the rest of a comment: it ends at a line feed before some text, or at one before a last gap, or it is left open
data Commented (text : List ℕ) : Type 0 where
  ends : (body : List ℕ) (gap : List ℕ) → list_all is_no_feed body ≡ true → IsGap false gap → text ≡ body ++ (10 ∷ (gap ++ after_comment text)) → Commented text
  ends_last : (body : List ℕ) (gap : List ℕ) → list_all is_no_feed body ≡ true → IsGap true gap → text ≡ body ++ (10 ∷ gap) → after_comment text ≡ [] → Commented text
  stays_open : list_all is_no_feed text ≡ true → after_comment text ≡ [] → Commented text

-- what begins so goes on beginning so
begins_front : (body rest text : List ℕ) → text ≡ body ++ (10 ∷ rest) → begins_with 47 text ≡ true → begins_with 47 body ≡ true
begins_front [] rest text is begins = absurd (false≢true (sym (ap (begins_with 47) is) ∙ begins))
begins_front (b ∷ body) rest text is begins = sym (ap (begins_with 47) is) ∙ begins

blank_split : (b : ℕ) (bs : List ℕ) → is_blank b ≡ true → Split bs → Split (b ∷ bs)
blank_split b bs is (inl s) =
    inl (b ∷ s.0, blank is s.1, ap (λ z. b ∷ z) s.2 ∙ ap (λ z. b ∷ (s.0 ++ z)) (sym (gap_is b bs is)))
  where
    gap_is : (b : ℕ) (bs : List ℕ) → is_blank b ≡ true → after_gap (b ∷ bs) ≡ after_gap bs
    gap_is b bs is = ap (λ v. cond v (after_gap bs) (cond (b == 47 && begins_with 47 bs) (after_comment bs) (b ∷ bs))) is
blank_split b bs is (inr s) =
    inr (blank is s.0, ap (λ v. cond v (after_gap bs) (cond (b == 47 && begins_with 47 bs) (after_comment bs) (b ∷ bs))) is ∙ s.1)

comment_split :
    (b : ℕ) (bs : List ℕ) → is_blank b ≡ false → (b == 47 && begins_with 47 bs) ≡ true → Commented bs → Split (b ∷ bs)
comment_split b bs not_blank begins rest = by rest
  where
    slash : b ≡ 47
    slash = eqb-true b 47 (and_parts (b == 47) (begins_with 47 bs) begins).0

    second : begins_with 47 bs ≡ true
    second = (and_parts (b == 47) (begins_with 47 bs) begins).1

    is : after_gap (b ∷ bs) ≡ after_comment bs
    is =
        ap (λ v. cond v (after_gap bs) (cond (b == 47 && begins_with 47 bs) (after_comment bs) (b ∷ bs))) not_blank
        ∙ ap (λ v. cond v (after_comment bs) (b ∷ bs)) begins

    by : Commented bs → Split (b ∷ bs)
    by (ends body gap free is_gap text) =
        inl (
          47 ∷ (body ++ (10 ∷ gap)),
          comment body gap (begins_front body (gap ++ after_comment bs) bs text second) free is_gap,
          ap (λ x. x ∷ bs) slash ∙ ap (λ z. 47 ∷ z) (text ∙ ap (λ z. body ++ (10 ∷ (gap ++ z))) (sym is) ∙ sym (append_assoc body (10 ∷ gap) (after_gap (b ∷ bs)))),
        )
    by (ends_last body gap free is_gap text none) =
        inr (
          subst (λ z. IsGap true z) (ap (λ z. 47 ∷ z) (sym text) ∙ ap (λ x. x ∷ bs) (sym slash)) (comment body gap (begins_front body gap bs text second) free is_gap),
          is ∙ none,
        )
    by (stays_open free none) =
        inr (subst (λ x. IsGap true (x ∷ bs)) (sym slash) (left_open bs refl second free), is ∙ none)

no_gap_split : (b : ℕ) (bs : List ℕ) → is_blank b ≡ false → (b == 47 && begins_with 47 bs) ≡ false → Split (b ∷ bs)
no_gap_split b bs not_blank begins =
    inl (
      [],
      empty,
      sym (ap (λ v. cond v (after_gap bs) (cond (b == 47 && begins_with 47 bs) (after_comment bs) (b ∷ bs))) not_blank
          ∙ ap (λ v. cond v (after_comment bs) (b ∷ bs)) begins),
    )

feed_comment : (b : ℕ) (bs : List ℕ) → (b == 10) ≡ true → Split bs → Commented (b ∷ bs)
feed_comment b bs feed split = by split
  where
    is : after_comment (b ∷ bs) ≡ after_gap bs
    is = ap (λ v. cond v (after_gap bs) (after_comment bs)) feed

    by : Split bs → Commented (b ∷ bs)
    by (inl s) = ends [] s.0 refl s.1 (ap (λ x. x ∷ bs) (eqb-true b 10 feed) ∙ ap (λ z. 10 ∷ z) s.2 ∙ ap (λ z. 10 ∷ (s.0 ++ z)) (sym is))
    by (inr s) = ends_last [] bs refl s.0 (ap (λ x. x ∷ bs) (eqb-true b 10 feed)) (is ∙ s.1)

longer_comment : (b : ℕ) (bs : List ℕ) → (b == 10) ≡ false → Commented bs → Commented (b ∷ bs)
longer_comment b bs feed rest = by rest
  where
    is : after_comment (b ∷ bs) ≡ after_comment bs
    is = ap (λ v. cond v (after_gap bs) (after_comment bs)) feed

    free_more : (body : List ℕ) → list_all is_no_feed body ≡ true → list_all is_no_feed (b ∷ body) ≡ true
    free_more body free = ap (λ v. not v && list_all is_no_feed body) feed ∙ free

    by : Commented bs → Commented (b ∷ bs)
    by (ends body gap free is_gap text) = ends (b ∷ body) gap (free_more body free) is_gap (ap (λ z. b ∷ z) text ∙ ap (λ z. b ∷ (body ++ (10 ∷ (gap ++ z)))) (sym is))
    by (ends_last body gap free is_gap text none) = ends_last (b ∷ body) gap (free_more body free) is_gap (ap (λ z. b ∷ z) text) (is ∙ none)
    by (stays_open free none) = stays_open (free_more bs free) (is ∙ none)

by_byte : (b : ℕ) (bs : List ℕ) → Split bs → Commented bs → (x y : Bool) → is_blank b ≡ x → (b == 47 && begins_with 47 bs) ≡ y → Split (b ∷ bs)
by_byte b bs split rest true y is begins = blank_split b bs is split
by_byte b bs split rest false true is begins = comment_split b bs is begins rest
by_byte b bs split rest false false is begins = no_gap_split b bs is begins

by_feed : (b : ℕ) (bs : List ℕ) → Split bs → Commented bs → (x : Bool) → (b == 10) ≡ x → Commented (b ∷ bs)
by_feed b bs split rest true feed = feed_comment b bs feed split
by_feed b bs split rest false feed = longer_comment b bs feed rest

both_split : (text : List ℕ) → Split text × Commented text
both_split [] = (inl ([], empty, refl), stays_open refl refl)
both_split (b ∷ bs) =
    let rest = both_split bs in (
      by_byte b bs rest.0 rest.1 (is_blank b) (b == 47 && begins_with 47 bs) refl refl,
      by_feed b bs rest.0 rest.1 (b == 10) refl,
    )

-- ---- and back: what is left behind a gap

no_feed : (v : Bool) → not v ≡ true → v ≡ false
no_feed true e = absurd (false≢true e)
no_feed false e = refl

behind_comment : (text rest : List ℕ) → list_all is_no_feed text ≡ true → after_comment (text ++ (10 ∷ rest)) ≡ after_gap rest
behind_comment [] rest free = refl
behind_comment (b ∷ bs) rest free =
    let a = and_parts (not (b == 10)) (list_all is_no_feed bs) free in
    ap (λ v. cond v (after_gap (bs ++ (10 ∷ rest))) (after_comment (bs ++ (10 ∷ rest)))) (no_feed (b == 10) a.0) ∙ behind_comment bs rest a.1

open_comment : (text : List ℕ) → list_all is_no_feed text ≡ true → after_comment text ≡ []
open_comment [] free = refl
open_comment (b ∷ bs) free =
    let a = and_parts (not (b == 10)) (list_all is_no_feed bs) free in
    ap (λ v. cond v (after_gap bs) (after_comment bs)) (no_feed (b == 10) a.0) ∙ open_comment bs a.1

begins_more : (text rest : List ℕ) → begins_with 47 text ≡ true → begins_with 47 (text ++ rest) ≡ true
begins_more [] rest e = absurd (false≢true e)
begins_more (b ∷ bs) rest e = e

-- a comment at the front goes
slash_gap : (bs : List ℕ) → begins_with 47 bs ≡ true → after_gap (47 ∷ bs) ≡ after_comment bs
slash_gap bs begins = ap (λ v. cond v (after_comment bs) (47 ∷ bs)) begins

-- a gap goes whole
behind_gap : (gap rest : List ℕ) → IsGap false gap → after_gap (gap ++ rest) ≡ after_gap rest
behind_gap gap rest empty = refl
behind_gap gap rest (blank {b} {gap = bs} is more) =
    ap (λ v. cond v (after_gap (bs ++ rest)) (cond (b == 47 && begins_with 47 (bs ++ rest)) (after_comment (bs ++ rest)) (b ∷ (bs ++ rest)))) is
    ∙ behind_gap bs rest more
behind_gap gap rest (comment text bs begins free more) =
    ap (λ z. after_gap (47 ∷ z)) (append_assoc text (10 ∷ bs) rest)
    ∙ slash_gap (text ++ (10 ∷ (bs ++ rest))) (begins_more text (10 ∷ (bs ++ rest)) begins)
    ∙ behind_comment text (bs ++ rest) free ∙ behind_gap bs rest more
behind_gap gap rest (left_open text at_end begins free) = absurd (false≢true at_end)

-- and nothing is left behind the last one
behind_last : (gap : List ℕ) → IsGap true gap → after_gap gap ≡ []
behind_last gap empty = refl
behind_last gap (blank {b} {gap = bs} is more) =
    ap (λ v. cond v (after_gap bs) (cond (b == 47 && begins_with 47 bs) (after_comment bs) (b ∷ bs))) is ∙ behind_last bs more
behind_last gap (comment text bs begins free more) =
    slash_gap (text ++ (10 ∷ bs)) (begins_more text (10 ∷ bs) begins) ∙ behind_comment text bs free ∙ behind_last bs more
behind_last gap (left_open text at_end begins free) = slash_gap text begins ∙ open_comment text free

last_too : (gap : List ℕ) → IsGap false gap → IsGap true gap
last_too gap empty = empty
last_too gap (blank is more) = blank is (last_too _ more)
last_too gap (comment text bs begins free more) = comment text bs begins free (last_too bs more)
last_too gap (left_open text at_end begins free) = absurd (false≢true at_end)

-- ---- words

-- no word goes on here
abbrev Stops : List ℕ → Type 0
Stops [] = Unit {0}
Stops (b ∷ bs) = is_word_byte b ≡ false

word_run : (w rest : List ℕ) → list_all is_word_byte w ≡ true → Stops rest → prefix_len is_word_byte (w ++ rest) ≡ length w
word_run [] [] all stops = refl
word_run [] (b ∷ bs) all stops = ap (λ v. cond v (1 + prefix_len is_word_byte bs) 0) stops
word_run (b ∷ bs) rest all stops =
    let a = and_parts (is_word_byte b) (list_all is_word_byte bs) all in
    ap (λ v. cond v (1 + prefix_len is_word_byte (bs ++ rest)) 0) a.0 ∙ (let more = word_run bs rest a.1 stops in omega arith)

-- a run of word bytes takes its first one
run_length : (b : ℕ) (bs : List ℕ) → is_word_byte b ≡ true → prefix_len is_word_byte (b ∷ bs) ≡ suc (prefix_len is_word_byte bs)
run_length b bs is = ap (λ v. cond v (1 + prefix_len is_word_byte bs) 0) is ∙ (omega arith)

word_cons : (b : ℕ) (bs : List ℕ) → is_word_byte b ≡ true → word_of (b ∷ bs) ≡ b ∷ word_of bs
word_cons b bs is = ap (λ n. take n (b ∷ bs)) (run_length b bs is)

rest_cons : (b : ℕ) (bs : List ℕ) → is_word_byte b ≡ true → after_word (b ∷ bs) ≡ after_word bs
rest_cons b bs is = ap (λ n. drop n (b ∷ bs)) (run_length b bs is)

no_run : (b : ℕ) (bs : List ℕ) → is_word_byte b ≡ false → after_word (b ∷ bs) ≡ b ∷ bs
no_run b bs is = ap (λ v. drop (cond v (1 + prefix_len is_word_byte bs) 0) (b ∷ bs)) is

no_word : (b : ℕ) (bs : List ℕ) → is_word_byte b ≡ false → word_of (b ∷ bs) ≡ []
no_word b bs is = ap (λ v. take (cond v (1 + prefix_len is_word_byte bs) 0) (b ∷ bs)) is

run_by : (b : ℕ) (bs : List ℕ) → Stops (after_word bs) → list_all is_word_byte (word_of bs) ≡ true → (v : Bool) → is_word_byte b ≡ v →
    Stops (after_word (b ∷ bs)) × list_all is_word_byte (word_of (b ∷ bs)) ≡ true
run_by b bs stops all true is = (
  subst Stops (sym (rest_cons b bs is)) stops,
  ap (list_all is_word_byte) (word_cons b bs is) ∙ ap (λ v. v && list_all is_word_byte (word_of bs)) is ∙ all,
)
run_by b bs stops all false is = (subst Stops (sym (no_run b bs is)) is, ap (list_all is_word_byte) (no_word b bs is))

-- a run is of word bytes, and stops
run_is : (text : List ℕ) → Stops (after_word text) × list_all is_word_byte (word_of text) ≡ true
run_is [] = (tt, refl)
run_is (b ∷ bs) = let rest = run_is bs in run_by b bs rest.0 rest.1 (is_word_byte b) refl

abbrev Found : Token → Result Token ℕ
Found t = Ok t

-- a sign's byte is of no word, no blank and no slash
abbrev IsSignByte : ℕ → Type 0
IsSignByte b = (is_word_byte b ≡ false) × (is_blank b ≡ false) × ((b == 47) ≡ false)

-- where what a byte is comes from a test of it, or from the tests that follow
by_test : (b c : ℕ) (a x : Option Sign) (s : Sign) → IsSignByte c → (x ≡ Some s → IsSignByte b) → cond (b == c) a x ≡ Some s → IsSignByte b
by_test b c a x s here more e = elim (chosen (b == c) a x (Some s) e) [ inl p ↦ subst IsSignByte (sym (eqb-true b c p.0)) here | inr p ↦ more p.1 ]

sign_byte : (b : ℕ) (s : Sign) → sign_of true b ≡ Some s → IsSignByte b
sign_byte b s =
    by_test b 61 _ _ s (refl, refl, refl) (by_test b 40 _ _ s (refl, refl, refl) (by_test b 41 _ _ s (refl, refl, refl) (by_test b 44 _ _ s (refl, refl, refl)
    (by_test b 59 _ _ s (refl, refl, refl) (by_test b 123 _ _ s (refl, refl, refl)
    (by_test b 125 _ _ s (refl, refl, refl) (by_test b 43 _ _ s (refl, refl, refl)
    (by_test b 45 _ _ s (refl, refl, refl) (λ e. absurd (let none : None ≡ Some s = e in cc))))))))))

-- where no gap begins, none goes
stays : (b : ℕ) (bs : List ℕ) → is_blank b ≡ false → (b == 47) ≡ false → after_gap (b ∷ bs) ≡ b ∷ bs
stays b bs is slash =
    ap (λ v. cond v (after_gap bs) (cond (b == 47 && begins_with 47 bs) (after_comment bs) (b ∷ bs))) is
    ∙ ap (λ v. cond (v && begins_with 47 bs) (after_comment bs) (b ∷ bs)) slash

word_no_blank : (b : ℕ) → is_word_byte b ≡ true → is_blank b ≡ false
word_no_blank b e = grind (arith, nat_tests)

word_no_slash : (b : ℕ) → is_word_byte b ≡ true → (b == 47) ≡ false
word_no_slash b e = grind (arith, nat_tests)

blank_no_word : (b : ℕ) → is_blank b ≡ true → is_word_byte b ≡ false
blank_no_word b e = grind (arith, nat_tests)

-- ---- spaced tokens are read

-- + and - are tokens in PL 2 alone
abbrev is_near : Token → Bool
is_near (sign Plus) = false
is_near (sign Minus) = false
is_near t = true

-- the tests for the signs of both languages, which come first
abbrev sign_before : ℕ → Option Sign → Option Sign
sign_before b x =
    cond (b == 61) (Some Equals) (cond (b == 40) (Some OpenParen) (cond (b == 41) (Some CloseParen) (cond (b == 44) (Some Comma)
    (cond (b == 59) (Some Semicolon) (cond (b == 123) (Some OpenBrace) (cond (b == 125) (Some CloseBrace) x))))))

-- what follows a test, or the tests, makes the difference
cond_or : (c : Bool) (a x y : Option Sign) (s : Sign) → (x ≡ Some s → y ≡ Some s) → cond c a x ≡ Some s → cond c a y ≡ Some s
cond_or true a x y s more e = e
cond_or false a x y s more e = more e

sign_or : (b : ℕ) (x y : Option Sign) (s : Sign) → (x ≡ Some s → y ≡ Some s) → sign_before b x ≡ Some s → sign_before b y ≡ Some s
sign_or b x y s more =
    cond_or (b == 61) _ _ _ s (cond_or (b == 40) _ _ _ s (cond_or (b == 41) _ _ _ s (cond_or (b == 44) _ _ _ s
    (cond_or (b == 59) _ _ _ s (cond_or (b == 123) _ _ _ s (cond_or (b == 125) _ x y s more))))))

-- the signs of a byte that follow, where + and - are signs
abbrev far_sign : Bool → ℕ → Option Sign
far_sign offsets b = cond (b == 43) (sign_if offsets Plus) (cond (b == 45) (sign_if offsets Minus) None)

-- the sign of a byte, where + and - are signs, is its sign where they are not, or it is one of these
same_sign_of : (offsets : Bool) (b : ℕ) (s : Sign) → (offsets ≡ false → is_near (sign s) ≡ true) → sign_of true b ≡ Some s → sign_of offsets b ≡ Some s
same_sign_of true b s near e = e
same_sign_of false b s near e =
    sign_or b (far_sign true b) (far_sign false b) s
    (λ e. absurd (elim (chosen (b == 43) _ _ _ e) [
      | inl p ↦ far Plus p.1 refl
      | inr p ↦ elim (chosen (b == 45) _ _ _ p.1) [ inl p ↦ far Minus p.1 refl | inr p ↦ (let none : None ≡ Some s = p.1 in cc) ]
    ])) e
  where
    far : (r : Sign) → ◌≡◌ {A = Option Sign} (Some r) (Some s) → is_near (sign r) ≡ false → ⊥
    far r same not_near = (let is : r ≡ s = cc in let q : false ≡ true = sym not_near ∙ ap (λ (x : Sign). is_near (sign x)) is ∙ near refl in cc)

spelled_here : (scan : Scan) → scan.language ≡ Phasers → (t : Token) (w rest : List ℕ) → (scan.offsets ≡ false → is_near t ≡ true) → IsSpelling t w → (is_a_word t ≡ true → Stops rest) →
    token_here scan (after_gap (w ++ rest)) ≡ Ok (t, rest)
spelled_here scan pl t w rest near (a_sign {s} {b} is) stops =
    let h = sign_byte b s is in
    let at = scan.total - length (b ∷ rest) in
    ap (token_here scan) (stays b rest h.1 h.2)
    ∙ ap (λ v. cond v (placed at (word_token scan.language (word_of (b ∷ rest))) (after_word (b ∷ rest))) (placed at (sign_token (sign_of scan.offsets b)) rest)) h.0
    ∙ ap (λ o. placed at (sign_token o) rest) (same_sign_of scan.offsets b s near is)
spelled_here scan pl t w rest near (a_word {b = b} {bs = bs} all is) stops =
    let first = (and_parts (is_word_byte b) (list_all is_word_byte bs) all).0 in
    let whole = b ∷ (bs ++ rest) in
    let at = scan.total - length whole in
    let run : length (b ∷ bs) ≡ prefix_len is_word_byte whole = sym (word_run (b ∷ bs) rest all (stops (word_is_word Phasers (b ∷ bs) t is))) in
    ap (token_here scan) (stays b (bs ++ rest) (word_no_blank b first) (word_no_slash b first))
    ∙ ap (λ v. cond v (placed at (word_token scan.language (word_of whole)) (after_word whole)) (placed at (sign_token (sign_of scan.offsets b)) (bs ++ rest))) first
    ∙ ap (λ (u : List ℕ). placed at (word_token scan.language u) (after_word whole)) (take_at (b ∷ bs) rest (prefix_len is_word_byte whole) run)
    ∙ ap (λ (u : List ℕ). placed at (word_token scan.language (b ∷ bs)) u) (drop_at (b ∷ bs) rest (prefix_len is_word_byte whole) run)
    ∙ ap (λ (l : Language). placed at (word_token l (b ∷ bs)) rest) pl
    ∙ ap (λ (u : Result Token ℕ). placed at u rest) is

spelled_front : (scan : Scan) → scan.language ≡ Phasers → (t : Token) (gap w rest : List ℕ) → (scan.offsets ≡ false → is_near t ≡ true) → IsGap false gap → IsSpelling t w → (is_a_word t ≡ true → Stops rest) →
    front scan (gap ++ (w ++ rest)) ≡ Ok (t, rest)
unfolding front
spelled_front scan pl t gap w rest near is_gap spelled stops =
    ap (token_here scan) (behind_gap gap (w ++ rest) is_gap) ∙ spelled_here scan pl t w rest near spelled stops

end_front : (scan : Scan) (text : List ℕ) → IsGap true text → front scan text ≡ Ok (the_end, [])
unfolding front
end_front scan text is_gap = ap (token_here scan) (behind_last text is_gap)

-- a gap that is not empty stops a word
gap_stops : (at_end : Bool) (gap rest : List ℕ) → IsGap at_end gap → (gap ≡ [] → Stops rest) → Stops (gap ++ rest)
gap_stops at_end gap rest empty stops = stops refl
gap_stops at_end gap rest (blank {b} is more) stops = blank_no_word b is
gap_stops at_end gap rest (comment text bs begins free more) stops = refl
gap_stops at_end gap rest (left_open text e begins free) stops = refl

sign_stops : (t : Token) (w rest : List ℕ) → IsSpelling t w → (is_a_word t ≡ true → ⊥) → Stops (w ++ rest)
sign_stops t w rest (a_sign {s} {b} is) other = (sign_byte b s is).0
sign_stops t w rest (a_word {b = b} {bs = bs} all is) other = absurd (other (word_is_word Phasers (b ∷ bs) t is))

spaced_stops : (ts : List Token) (text : List ℕ) → IsSpaced true ts text → Stops text
spaced_stops [] text h = subst Stops (append-nil text) (gap_stops true text [] h (λ e. tt))
spaced_stops (t ∷ ts) text h =
    subst Stops (sym h.3)
    (gap_stops false h.0 (h.1 ++ h.2) h.4 (λ none. sign_stops t h.1 h.2 h.5 (λ is. h.6 refl is none)))

-- what stands behind tokens
abbrev after_tokens : Bool → List Token → Bool
after_tokens behind [] = behind
after_tokens behind (t ∷ ts) = after_tokens (is_a_word t) ts

-- tokens that are spaced before others are read, and the others are spaced in what is left
spaced_part : (scan : Scan) → scan.language ≡ Phasers → (ts us : List Token) (behind : Bool) (text : List ℕ) → (scan.offsets ≡ false → list_all is_near ts ≡ true) →
    IsSpaced behind (ts ++ us) text → (mid : List ℕ) × Leads scan text ts mid × IsSpaced (after_tokens behind ts) us mid
spaced_part scan pl [] us behind text near h = (text, refl, h)
spaced_part scan pl (t ∷ ts) us behind text near h =
    let rest = spaced_part scan pl ts us (is_a_word t) h.2 (λ off. (and_parts (is_near t) (list_all is_near ts) (near off)).1) h.7 in (
      rest.0,
      (
        h.2,
        ap (front scan) h.3
            ∙ spelled_front scan pl t h.0 h.1 h.2 (λ off. (and_parts (is_near t) (list_all is_near ts) (near off)).0) h.4 h.5
            (λ is. spaced_stops (ts ++ us) h.2 (subst (λ v. IsSpaced v (ts ++ us) h.2) is h.7)),
        rest.1,
      ),
      rest.2,
    )

spaced_leads : (scan : Scan) → scan.language ≡ Phasers → (ts : List Token) (behind : Bool) (text : List ℕ) → (scan.offsets ≡ false → list_all is_near ts ≡ true) → IsSpaced behind ts text →
    Leads scan text (ts ++ the_end ∷ []) []
spaced_leads scan pl ts behind text near h =
    let all = spaced_part scan pl ts [] behind text near (subst (λ (x : List Token). IsSpaced behind x text) (sym (append-nil ts)) h) in
    Leads-append scan text ts all.0 (the_end ∷ []) [] all.1 ([], end_front scan all.0 all.2, refl)

plain_near : (s : Plain) (rest : List Token) → PlainIsHere s → list_all is_near rest ≡ true → list_all is_near (plain_tokens s rest) ≡ true
plain_near (new_task x) rest here h = h
plain_near (new_phaser x) rest here h = h
plain_near (reg x y) rest here h = h
plain_near (dereg x) rest here h = h
plain_near (adv x) rest here h = h
plain_near (await x Here) rest here h = h
plain_near (await x (Back k)) rest here h = absurd cc
plain_near (await x (Ahead k)) rest here h = absurd cc
plain_near skip rest here h = h

-- no await of PL 1 has + or -
all_near : (p : Tree) (rest : List Token) → AllHere p → list_all is_near rest ≡ true → list_all is_near (tokens p rest) ≡ true
all_near done rest here h = h
all_near (plain s more) rest here h = plain_near s (tokens more rest) here.0 (all_near more rest here.1 h)
all_near (fork x body more) rest here h = all_near body (sign CloseBrace ∷ tokens more rest) here.0 (all_near more rest here.1 h)
all_near (loop n body more) rest here h = all_near body (sign CloseBrace ∷ tokens more rest) here.0 (all_near more rest here.1 h)

-- ---- tokens that are read are spaced

Leads-split : (scan : Scan) (text : List ℕ) (ts us : List Token) (rest : List ℕ) → Leads scan text (ts ++ us) rest →
    (mid : List ℕ) × Leads scan text ts mid × Leads scan mid us rest
Leads-split scan text [] us rest h = (text, refl, h)
Leads-split scan text (t ∷ ts) us rest h = let more = Leads-split scan h.0 ts us rest h.2 in (more.0, (h.0, h.1, more.1), more.2)

plain_real : (s : Plain) (rest : List Token) → list_all is_real rest ≡ true → list_all is_real (plain_tokens s rest) ≡ true
plain_real (new_task x) rest h = h
plain_real (new_phaser x) rest h = h
plain_real (reg x y) rest h = h
plain_real (dereg x) rest h = h
plain_real (adv x) rest h = h
plain_real (await x Here) rest h = h
plain_real (await x (Back k)) rest h = h
plain_real (await x (Ahead k)) rest h = h
plain_real skip rest h = h

all_real : (p : Tree) (rest : List Token) → list_all is_real rest ≡ true → list_all is_real (tokens p rest) ≡ true
all_real done rest h = h
all_real (plain s more) rest h = plain_real s (tokens more rest) (all_real more rest h)
all_real (fork x body more) rest h = all_real body (sign CloseBrace ∷ tokens more rest) (all_real more rest h)
all_real (loop n body more) rest h = all_real body (sign CloseBrace ∷ tokens more rest) (all_real more rest h)

-- a token that is read at a byte is spelled there
record Spelled (t : Token) (text mid : List ℕ) : Type 0 where
  spelling : List ℕ
  here : text ≡ spelling ++ mid
  spelled : IsSpelling t spelling
  stops : is_a_word t ≡ true → Stops mid
  no_stop : is_a_word t ≡ true → Stops text → ⊥

-- a sign where + and - are none is one where they are
more_signs : (offsets : Bool) (b : ℕ) (s : Sign) → sign_of offsets b ≡ Some s → sign_of true b ≡ Some s
more_signs true b s e = e
more_signs false b s e =
    sign_or b (far_sign false b) (far_sign true b) s (λ e. absurd (let none : None ≡ Some s = sym (no_sign (b == 43) (b == 45)) ∙ e in cc)) e
  where
    no_sign : (c d : Bool) → ◌≡◌ {A = Option Sign} (cond c None (cond d None None)) None
    no_sign true d = refl
    no_sign false true = refl
    no_sign false false = refl

sign_spelled : (offsets : Bool) (o : Option Sign) (b : ℕ) (bs mid : List ℕ) (t : Token) → sign_of offsets b ≡ o → sign_token o ≡ Found t → bs ≡ mid → Spelled t (b ∷ bs) mid
sign_spelled offsets None b bs mid t is e rest = absurd (let q : Err kind_no_token ≡ Found t = e in cc)
sign_spelled offsets (Some s) b bs mid t is e rest =
    let q : Found (sign s) ≡ Found t = e in
    let same : sign s ≡ t = cc in
    let no : is_a_word t ≡ false = ap is_a_word (sym same) in
    record {
      spelling = b ∷ [];
      here = ap (λ z. b ∷ z) rest;
      spelled = subst (λ z. IsSpelling z (b ∷ [])) same (a_sign (more_signs offsets b s is));
      stops = λ yes. absurd (false≢true (sym no ∙ yes));
      no_stop = λ yes stops. false≢true (sym no ∙ yes);
    }

spelled_at : (scan : Scan) → scan.language ≡ Phasers → (b : ℕ) (bs mid : List ℕ) (t : Token) → token_here scan (b ∷ bs) ≡ Ok (t, mid) → Spelled t (b ∷ bs) mid
spelled_at scan pl b bs mid t e =
    let text : List ℕ = b ∷ bs in
    elim (chosen (is_word_byte b) _ _ _ e) [
      | inl p ↦
          let f = was_found _ (word_token scan.language (word_of text)) (after_word text) t mid p.1 in
          let run = run_is bs in
          record {
            spelling = b ∷ word_of bs;
            here =
                ap (λ z. b ∷ z) (sym (take-append-drop (prefix_len is_word_byte bs) bs)) ∙ ap (λ z. b ∷ (word_of bs ++ z)) (sym (rest_cons b bs p.0) ∙ f.1);
            spelled =
                a_word (ap (λ v. v && list_all is_word_byte (word_of bs)) p.0 ∙ run.1) (ap (λ (l : Language). word_token l (b ∷ word_of bs)) (sym pl) ∙ ap (word_token scan.language) (sym (word_cons b bs p.0)) ∙ f.0);
            stops = λ yes. subst Stops (sym (rest_cons b bs p.0) ∙ f.1) run.0;
            no_stop = λ yes stops. false≢true (sym stops ∙ p.0);
          }
      | inr p ↦ let f = was_found _ (sign_token (sign_of scan.offsets b)) bs t mid p.1 in sign_spelled scan.offsets (sign_of scan.offsets b) b bs mid t refl f.0 f.1
    ]

no_end_at : (scan : Scan) (b : ℕ) (bs mid : List ℕ) → token_here scan (b ∷ bs) ≡ Ok (the_end, mid) → ⊥
no_end_at scan b bs mid e =
    elim (chosen (is_word_byte b) _ _ _ e) [
      | inl p ↦ false≢true (word_is_word scan.language (word_of (b ∷ bs)) the_end (was_found _ (word_token scan.language (word_of (b ∷ bs))) (after_word (b ∷ bs)) the_end mid p.1).0)
      | inr p ↦ no_sign (sign_of scan.offsets b) (was_found _ (sign_token (sign_of scan.offsets b)) bs the_end mid p.1).0
    ]
  where
    no_sign : (o : Option Sign) → sign_token o ≡ Found the_end → ⊥
    no_sign None e = let q : Err kind_no_token ≡ Found the_end = e in cc
    no_sign (Some s) e = let q : Found (sign s) ≡ Found the_end = e in cc

-- where a token is read, its gap and its spelling
record Placed (t : Token) (text mid : List ℕ) : Type 0 where
  gap : List ℕ
  left : List ℕ
  is_gap : IsGap false gap
  there : text ≡ gap ++ left
  spelled : Spelled t left mid

placed_by : (scan : Scan) → scan.language ≡ Phasers → (text mid left : List ℕ) (t : Token) → is_real t ≡ true → Split text → after_gap text ≡ left → token_here scan left ≡ Ok (t, mid) →
    Placed t text mid
placed_by scan pl text mid [] t real split is e =
    absurd (let same : the_end ≡ t = (ok_pair (the_end, []) (t, mid) e).0 in false≢true (ap is_real same ∙ real))
placed_by scan pl text mid (b ∷ bs) t real (inr s) is e = absurd (let no = sym is ∙ s.1 in cc)
placed_by scan pl text mid (b ∷ bs) t real (inl s) is e =
    record { gap = s.0; left = b ∷ bs; is_gap = s.1; there = s.2 ∙ ap (λ z. s.0 ++ z) is; spelled = spelled_at scan pl b bs mid t e }

placed_in : (scan : Scan) → scan.language ≡ Phasers → (text mid : List ℕ) (t : Token) → is_real t ≡ true → front scan text ≡ Ok (t, mid) → Placed t text mid
unfolding front
placed_in scan pl text mid t real e = placed_by scan pl text mid (after_gap text) t real (both_split text).0 refl e

end_by : (scan : Scan) (text mid left : List ℕ) → Split text → after_gap text ≡ left → token_here scan left ≡ Ok (the_end, mid) → IsGap true text
end_by scan text mid (b ∷ bs) split is e = absurd (no_end_at scan b bs mid e)
end_by scan text mid [] (inr s) is e = s.0
end_by scan text mid [] (inl s) is e = subst (λ z. IsGap true z) (sym (s.2 ∙ ap (λ z. s.0 ++ z) is ∙ append-nil s.0)) (last_too s.0 s.1)

end_in : (scan : Scan) (text mid : List ℕ) → front scan text ≡ Ok (the_end, mid) → IsGap true text
unfolding front
end_in scan text mid e = end_by scan text mid (after_gap text) (both_split text).0 refl e

-- tokens that are read are spaced before what is left
leads_before : (scan : Scan) → scan.language ≡ Phasers → (ts us : List Token) (behind : Bool) (text mid : List ℕ) → list_all is_real ts ≡ true → (behind ≡ true → Stops text) →
    Leads scan text ts mid → ((after_tokens behind ts ≡ true → Stops mid) → IsSpaced (after_tokens behind ts) us mid) → IsSpaced behind (ts ++ us) text
leads_before scan pl [] us behind text mid real stops h rest =
    subst (λ (m : List ℕ). IsSpaced behind us m) (sym h) (rest (λ is. subst Stops h (stops is)))
leads_before scan pl (t ∷ ts) us behind text mid real stops h rest =
    let all = and_parts (is_real t) (list_all is_real ts) real in
    let at = placed_in scan pl text h.0 t all.0 h.1 in
    let sp = at.spelled in (
      at.gap,
      sp.spelling,
      h.0,
      at.there ∙ ap (λ z. at.gap ++ z) sp.here,
      at.is_gap,
      sp.spelled,
      λ word_before is none. sp.no_stop is (subst Stops (at.there ∙ ap (λ z. z ++ at.left) none) (stops word_before)),
      leads_before scan pl ts us (is_a_word t) h.0 mid all.1 sp.stops h.2 rest,
    )

-- the last ones up to the end
leads_spaced : (scan : Scan) → scan.language ≡ Phasers → (ts : List Token) (behind : Bool) (text : List ℕ) → list_all is_real ts ≡ true → (behind ≡ true → Stops text) →
    Leads scan text (ts ++ the_end ∷ []) [] → IsSpaced behind ts text
leads_spaced scan pl ts behind text real stops h =
    let parts = Leads-split scan text ts (the_end ∷ []) [] h in
    subst (λ (x : List Token). IsSpaced behind x text) (append-nil ts)
    (leads_before scan pl ts [] behind text parts.0 real stops parts.1 (λ no. end_in scan parts.0 parts.2.0 parts.2.1))

-- ---- the two forms

form_spaced : (two : Bool) (text : List ℕ) (p : Tree) → ReadsTokens two text (sentence p) [] → IsSpaced false (all_tokens (record { two = two; body = p })) text
form_spaced false text p h =
    leads_spaced (scan_of false text) refl (tokens p []) false text (all_real p [] refl) (λ e. absurd (false≢true e))
    (subst (λ ts. Leads (scan_of false text) text ts []) (tokens_append p [] (the_end ∷ [])) h)
form_spaced true text p h =
    leads_before (scan_of false text) refl header (tokens p []) false text h.0 refl (λ e. absurd (false≢true e)) h.1
    (λ stops. leads_spaced (scan_of true text) refl (tokens p []) false h.0 (all_real p [] refl) (λ e. absurd (false≢true e))
    (subst (λ ts. Leads (scan_of true text) h.0 ts []) (tokens_append p [] (the_end ∷ [])) h.2))

spaced_form : (two : Bool) (text : List ℕ) (p : Tree) → (two ≡ false → AllHere p) → IsSpaced false (all_tokens (record { two = two; body = p })) text →
    ReadsTokens two text (sentence p) []
spaced_form false text p here h =
    subst (λ ts. Leads (scan_of false text) text ts []) (sym (tokens_append p [] (the_end ∷ [])))
    (spaced_leads (scan_of false text) refl (tokens p []) false text (λ off. all_near p [] (here refl) refl) h)
spaced_form true text p here h =
    let head = spaced_part (scan_of false text) refl header (tokens p []) false text (λ off. refl) h in (
      head.0,
      head.1,
      subst (λ ts. Leads (scan_of true text) head.0 ts []) (sym (tokens_append p [] (the_end ∷ [])))
          (spaced_leads (scan_of true text) refl (tokens p []) false head.0 (λ off. absurd (false≢true (sym off))) head.2),
    )

pub texts_are_spaced : TextsAreSpaced
texts_are_spaced text p = (
  λ h. (form_spaced p.two text p.body h.reads, (text_is_writable text p h).here, h.shallow),
  λ h. record { reads = spaced_form p.two text p.body h.1 h.0; shallow = h.2 },
)
