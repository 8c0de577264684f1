-- The words that fit are those of uses and of a value that stands by itself, and the other way round.
use Rattle.std.proofs.Common.{◌≡◌, ◌∙◌, ◌++◌, ◌≤◌, List, [], ◌∷◌, Bool, true, false, ap, sym, refl, subst, arith, length, cond}
use Rattle.std.specs.Prelude.{Option, Some, None, ◌&&◌, nat_le, option_to_list, find}
use Rattle.std.specs.Option.{option_map_or}
use Rattle.std.specs.List.{list_all}
use Rattle.std.specs.Str.{bytes_eq}
use Rattle.std.proofs.lemmas.Slice.Eq.{bytes_eq-Decides}
use Rattle.std.proofs.lemmas.Grind.{common_steps}
use Rattle.std.proofs.lemmas.Bool.{and_parts, and_from}
use Rattle.command_line.proofs.Meaning.{first_is, head_is, named_is, no_option, tail_is}
use Rattle.program_io.specs.Texts.{Text}
use Rattle.command_line.specs.Words.{Use, valued, flag, AreUses, AreWords, IsValue, StandsAlone, all_words}
use Rattle.command_line.specs.Words.{dashed, first_word, has_option, has_value_alone, is_value_byte, option_of, options_of, wants_value, without}
use Rattle.command_line.specs.inside.Form.{first_named, fits, free_at, is_free, is_value, option_named, taken_off}
use Rattle.command_line.specs.declared.forms.Free.{Free}
use Rattle.command_line.specs.declared.table.FirstWord.{FirstWord}
use Rattle.command_line.specs.declared.table.OptionWord.{OptionWord}
use Rattle.command_line.specs.declared.table.OptionWord.TheVariants.{Print, Workers, Graph, Live, Kept, Sites}
use Rattle.command_line.specs.declared.table.TheConstants.{FIRST_WORDS, MAX_VALUE_BYTES, OPTION_WORDS}

same_text : (x y : Text) → bytes_eq x y ≡ true → x ≡ y
same_text x y e = (bytes_eq-Decides x y).0 e

-- ---- a value

pub value_from : (v : Text) → is_value v ≡ true → IsValue v
value_from v e =
    let some = and_parts (nat_le 1 (length v)) (nat_le (length v) MAX_VALUE_BYTES && list_all is_value_byte v) e in
    let rest = and_parts (nat_le (length v) MAX_VALUE_BYTES) (list_all is_value_byte v) some.1 in
    let first : nat_le 1 (length v) ≡ true = some.0 in
    let second : nat_le (length v) MAX_VALUE_BYTES ≡ true = rest.0 in
    record { some = grind (arith, common_steps); short = grind (arith, common_steps); plain = rest.1 }

pub value_test : (v : Text) → IsValue v → is_value v ≡ true
value_test v is =
    let some : 1 ≤ length v = is.some in
    let short : length v ≤ MAX_VALUE_BYTES = is.short in
    and_from (nat_le 1 (length v)) _ (grind (arith, common_steps))
    (and_from (nat_le (length v) MAX_VALUE_BYTES) (list_all is_value_byte v) (grind (arith, common_steps)) is.plain)

-- ---- an option word

-- what is found passes the test
here_or_later : {X : Type 0} (test : X → Bool) (y x : X) (later : Option X) (b : Bool) → test y ≡ b → (later ≡ Some x → test x ≡ true) → cond b (Some y) later ≡ Some x
    → test x ≡ true
here_or_later test y x later true is more e = let same : y ≡ x = cc in subst (λ z. test z ≡ true) same is
here_or_later test y x later false is more e = more e

found_passes : {X : Type 0} (test : X → Bool) (xs : List X) (x : X) → find test xs ≡ Some x → test x ≡ true
found_passes test [] x e = absurd (cc)
found_passes test (y ∷ ys) x e = here_or_later test y x (find test ys) (test y) refl (found_passes test ys x) e

pub named_word : (word : Text) (o : OptionWord) → option_named word ≡ Some o → word ≡ dashed o
named_word word o e = sym (same_text (dashed o) word (found_passes (λ p. bytes_eq (dashed p) word) OPTION_WORDS o e))

not_some : (word : Text) (found : Option OptionWord) → option_named word ≡ found → IsValue word → found ≡ None
not_some word (Some o) e is = absurd (no_option o word is (sym (named_word word o e)))
not_some word None e is = refl

-- a value is no option word
pub value_unnamed : (word : Text) → IsValue word → option_named word ≡ None
value_unnamed word is = not_some word (option_named word) refl is

-- ---- the free options

free_after : (free : Free) (o p : OptionWord) → is_free (taken_off free o) p ≡ without o (is_free free) p
free_after free Print Print = refl
free_after free Print p = refl
free_after free Workers Print = refl
free_after free Workers p = refl
free_after free Graph Print = refl
free_after free Graph p = refl
free_after free Live Print = refl
free_after free Live p = refl
free_after free Kept Print = refl
free_after free Kept p = refl
free_after free Sites Print = refl
free_after free Sites p = refl

free_first : (f : FirstWord) (o : OptionWord) → is_free (free_at f) o ≡ has_option o (options_of f)
free_first f Print = refl
free_first f o = refl

without_same : (o : OptionWord) (f g : OptionWord → Bool) → ((p : OptionWord) → f p ≡ g p) → (p : OptionWord) → without o f p ≡ without o g p
without_same o f g e p = rw (e p) refl

-- uses are of free options also where these are said in another way
pub uses_along : (f g : OptionWord → Bool) (us : List Use) → ((p : OptionWord) → f p ≡ g p) → AreUses f us → AreUses g us
uses_along f g [] e uses = tt
uses_along f g (u ∷ us) e uses =
    (sym (e (option_of u)) ∙ uses.0, uses.1, uses_along (without (option_of u) f) (without (option_of u) g) us (without_same (option_of u) f g e) uses.2)

-- ---- words that fit

-- what words stand for that fit
pub record Decoded (free : Free) (alone : Bool) (words : List Text) : Type 0 where
  pub uses : List Use
  pub value : Option Text
  pub words_are : words ≡ all_words uses ++ option_to_list value
  pub uses_fit : AreUses (is_free free) uses
  pub value_fits : StandsAlone alone value

-- the same, where a value comes first
abbrev pub DecodedFrom : Bool → Free → Bool → List Text → Type 0
DecodedFrom false free alone words = Decoded free alone words
DecodedFrom true free alone words = (v : Text) × IsValue v × (rest : List Text) × (words ≡ v ∷ rest) × Decoded free alone rest

with_use : (free : Free) (alone : Bool) (o : OptionWord) (rest : List Text) (waits : Bool) → wants_value o ≡ waits → is_free free o ≡ true
    → DecodedFrom waits (taken_off free o) alone rest → Decoded free alone (dashed o ∷ rest)
with_use free alone o rest false wants is more = record {
  uses = flag o ∷ more.uses;
  value = more.value;
  words_are = ap (λ t. dashed o ∷ t) more.words_are;
  uses_fit = (is, wants, uses_along (is_free (taken_off free o)) (without o (is_free free)) more.uses (free_after free o) more.uses_fit);
  value_fits = more.value_fits;
}
with_use free alone o rest true wants is (v, plain, words, words_are, more) = record {
  uses = valued o v ∷ more.uses;
  value = more.value;
  words_are = ap (λ t. dashed o ∷ t) (words_are ∙ ap (λ t. v ∷ t) more.words_are);
  uses_fit = (is, (wants, plain), uses_along (is_free (taken_off free o)) (without o (is_free free)) more.uses (free_after free o) more.uses_fit);
  value_fits = more.value_fits;
}

no_more : (rest : List Text) → nat_le (length rest) 0 ≡ true → rest ≡ []
no_more [] e = refl
no_more (x ∷ xs) e = let above : nat_le (length (x ∷ xs)) 0 ≡ true = e in absurd (grind (arith, common_steps))

alone_decoded : (free : Free) (alone : Bool) (word : Text) (rest : List Text) → (alone && (nat_le (length rest) 0 && is_value word)) ≡ true → Decoded free alone (word ∷ rest)
alone_decoded free false word rest e = absurd (cc)
alone_decoded free true word rest e =
    let parts = and_parts (nat_le (length rest) 0) (is_value word) e in
    record {
      uses = [];
      value = Some word;
      words_are = ap (λ t. word ∷ t) (no_more rest parts.0);
      uses_fit = tt;
      value_fits = value_from word parts.1;
    }

by_option : (free : Free) (alone : Bool) (word : Text) (rest : List Text) (found : Option OptionWord) → option_named word ≡ found
    → option_map_or (λ o. is_free free o && fits (wants_value o) (taken_off free o) alone rest) found (alone && (nat_le (length rest) 0 && is_value word)) ≡ true
    → ((w : Bool) (f : Free) → fits w f alone rest ≡ true → DecodedFrom w f alone rest) → Decoded free alone (word ∷ rest)
by_option free alone word rest None e h more = alone_decoded free alone word rest h
by_option free alone word rest (Some o) e h more =
    let parts = and_parts (is_free free o) (fits (wants_value o) (taken_off free o) alone rest) h in
    subst (λ w. Decoded free alone (w ∷ rest)) (sym (named_word word o e))
    (with_use free alone o rest (wants_value o) refl parts.0 (more (wants_value o) (taken_off free o) parts.1))

pub decoded : (waits : Bool) (free : Free) (alone : Bool) (words : List Text) → fits waits free alone words ≡ true → DecodedFrom waits free alone words
decoded true free alone [] h = absurd (cc)
decoded true free alone (word ∷ rest) h =
    let parts = and_parts (is_value word) (fits false free alone rest) h in
    (word, value_from word parts.0, rest, refl, decoded false free alone rest parts.1)
decoded false free true [] h = absurd (cc)
decoded false free false [] h = record { uses = []; value = None; words_are = refl; uses_fit = tt; value_fits = tt }
decoded false free alone (word ∷ rest) h =
    by_option free alone word rest (option_named word) refl h (λ w f. decoded w f alone rest)

-- ---- words of uses fit

fits_alone : (free : Free) (alone : Bool) (value : Option Text) → StandsAlone alone value → fits false free alone (option_to_list value) ≡ true
fits_alone free true (Some v) is = rw (value_unnamed v is) (value_test v is)
fits_alone free true None is = absurd is
fits_alone free false (Some v) is = absurd is
fits_alone free false None is = refl

pub uses_do_fit : (free : Free) (alone : Bool) (us : List Use) (value : Option Text) → AreUses (is_free free) us → StandsAlone alone value
    → fits false free alone (all_words us ++ option_to_list value) ≡ true
uses_do_fit free alone [] value uses is = fits_alone free alone value is
uses_do_fit free alone (valued o v ∷ us) value uses is =
    let more = uses_do_fit (taken_off free o) alone us value
    (uses_along (without o (is_free free)) (is_free (taken_off free o)) us (λ p. sym (free_after free o p)) uses.2) is in
    rw (named_is o, uses.0, uses.1.0, value_test v uses.1.1) more
uses_do_fit free alone (flag o ∷ us) value uses is =
    let more = uses_do_fit (taken_off free o) alone us value
    (uses_along (without o (is_free free)) (is_free (taken_off free o)) us (λ p. sym (free_after free o p)) uses.2) is in
    rw (named_is o, uses.0, uses.1) more

-- ---- the first word

pub first_named_word : (word : Text) (f : FirstWord) → first_named word ≡ Some f → word ≡ first_word f
first_named_word word f e = sym (same_text (first_word f) word (found_passes (λ g. bytes_eq (first_word g) word) FIRST_WORDS f e))

-- the words have the form of the command that the first word names
pub form_from : (word : Text) (rest : List Text) (f : FirstWord) → first_named word ≡ Some f → fits false (free_at f) (has_value_alone f) rest ≡ true
    → (uses : List Use) × (alone : Option Text) × AreWords (word ∷ rest) f uses alone
form_from word rest f named holds =
    let d = decoded false (free_at f) (has_value_alone f) rest holds in
    let spelled = first_named_word word f named in (
      d.uses,
      d.value,
      record {
        words_are = ap (λ w. w ∷ rest) spelled ∙ ap (λ t. first_word f ∷ t) d.words_are;
        uses_fit = uses_along (is_free (free_at f)) _ d.uses (free_first f) d.uses_fit;
        alone_fits = d.value_fits;
      },
    )

-- words of that form pass the test
pub form_fits : (word : Text) (rest : List Text) (f : FirstWord) (uses : List Use) (alone : Option Text) → AreWords (word ∷ rest) f uses alone
    → (first_named word ≡ Some f) × (fits false (free_at f) (has_value_alone f) rest ≡ true)
form_fits word rest f uses alone form =
    let spelled : word ≡ first_word f = head_is form.words_are in
    let rest_is : rest ≡ all_words uses ++ option_to_list alone = tail_is form.words_are in (
      ap first_named spelled ∙ first_is f,
      ap (fits false (free_at f) (has_value_alone f)) rest_is
          ∙ uses_do_fit (free_at f) (has_value_alone f) uses alone
          (uses_along _ (is_free (free_at f)) uses (λ p. sym (free_first f p)) form.uses_fit) form.alone_fits,
    )
