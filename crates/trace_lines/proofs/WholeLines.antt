-- Whole lines are read as they are spelled.
use Rattle.std.proofs.Common.{◌≡◌, ◌≢◌, ℕ, true, false, ◌&&◌, ◌||◌, not, Some, None, Option, List, [], ◌∷◌, ◌++◌, length, drop, refl, sym, ◌∙◌, ap, subst, inl, inr, ◌⊎◌, arith, append-nil, append_assoc}
use Rattle.std.specs.Prelude.{All, bytes_eq, codes, option_map, nat_lt, ◌==◌, flat_map, slice_index}
use Rattle.std.specs.List.{list_all, list_any, onto_first}
use Rattle.std.proofs.lemmas.Bool.{and_from, and_parts, cases_Bool, cond-false, eqb-true, ltb-false, not-true, not-false, not_from_false, or_cases}
use Rattle.std.proofs.lemmas.List.Elements.{All-from_get_or}
use Rattle.std.proofs.lemmas.List.Splits.{slice_split-cons_no, slice_split-cons_yes, slice_split_at, slice_split_none}
use Rattle.std.proofs.lemmas.Slice.Eq.{bytes_eq-Decides}
use Rattle.std.proofs.lemmas.Option.{same_Some}
use Rattle.monitor_laws.specs.Lines.{Announcement, Joins, Arrives, Leaves, Waits, Goes, Ends, Stands, TraceLine, SaysNothing, AsksReport, AsksList, AreGone, Announces, PlaysAny, PlaysOneOf}
use Rattle.trace_lines.specs.Grammar.{HasNoTwice, IsLine, IsOneWord, SpellsLine, SpellsPlace, SpellsSaid, is_participant_name, most_line_bytes}
use Rattle.trace_lines.specs.inside.Reading.{Part, announced, any_line, are_names, behind_word, word_before_space, gone_line, is_one_word_verb, is_space, kept_place, trace_line_at, named_line, place_part, placed_said, played_by, said_part, says_nothing, verb_line, worded_line, spaced_words}
use Rattle.trace_lines.proofs.Cuts.{chosen, cut, has_no_space, name_is_whole, no_space_at, tail, word_first}
use Rattle.trace_lines.proofs.Exact.{place_again, place_read, said_again, said_read}

-- the names behind `of`, each behind a space
abbrev pub spaced : List (List ℕ) → List ℕ
spaced names = flat_map (λ t. 32 ∷ t) names

onto_spaced : (x : ℕ) (xs : List ℕ) (parts : List (List ℕ)) → spaced parts ≡ 32 ∷ xs → spaced (onto_first x parts) ≡ 32 ∷ x ∷ xs
onto_spaced x xs [] e = absurd (cc)
onto_spaced x xs (part ∷ parts) e = let f : part ++ spaced parts ≡ xs = ap (drop 1) e in ap (λ l. 32 ∷ x ∷ l) f

words_read : (bytes : List ℕ) → spaced (spaced_words bytes) ≡ 32 ∷ bytes
words_read [] = refl
words_read (x ∷ xs) = by_test (words_read xs) (cases_Bool (is_space x))
  where
    by_test : spaced (spaced_words xs) ≡ 32 ∷ xs → ((is_space x ≡ true) ⊎ (is_space x ≡ false)) → spaced (spaced_words (x ∷ xs)) ≡ 32 ∷ x ∷ xs
    by_test rest (inl yes_space) = ap spaced (slice_split-cons_yes is_space x xs yes_space) ∙ ap (λ l. 32 ∷ l) rest ∙ ap (λ b. 32 ∷ b ∷ xs) (sym (eqb-true x 32 yes_space))
    by_test rest (inr no_space) = ap spaced (slice_split-cons_no is_space x xs no_space) ∙ onto_spaced x xs (spaced_words xs) rest

no_space_all : (w : List ℕ) → has_no_space w ≡ true → All (λ b. is_space b ≡ false) w
no_space_all w none = All-from_get_or (λ b. is_space b ≡ false) w 0 (no_space_at w none)

pub words_again : (t : List ℕ) (names : List (List ℕ)) → list_all is_participant_name (t ∷ names) ≡ true → spaced_words (t ++ spaced names) ≡ t ∷ names
words_again t [] all =
    let whole = name_is_whole t (and_parts (is_participant_name t) (list_all is_participant_name []) all).0 in
    ap spaced_words (append-nil t) ∙ slice_split_none is_space t (no_space_all t whole)
words_again t (u ∷ names) all =
    let parts = and_parts (is_participant_name t) (list_all is_participant_name (u ∷ names)) all in
    slice_split_at is_space t 32 (u ++ spaced names) (no_space_all t (name_is_whole t parts.0)) refl ∙ ap (λ l. t ∷ l) (words_again u names parts.1)

names_are : (names : List (List ℕ)) → are_names names ≡ true → (list_all is_participant_name names ≡ true) × HasNoTwice names
names_are [] are = (refl, tt)
names_are (t ∷ names) are =
    let parts = and_parts (is_participant_name t && not (list_any (bytes_eq t) names)) (are_names names) are in
    let own = and_parts (is_participant_name t) (not (list_any (bytes_eq t) names)) parts.0 in
    let rest = names_are names parts.1 in
    (and_from (is_participant_name t) (list_all is_participant_name names) own.0 rest.0, (not-true (list_any (bytes_eq t) names) own.1, rest.1))

pub names_from : (names : List (List ℕ)) → list_all is_participant_name names ≡ true → HasNoTwice names → are_names names ≡ true
names_from [] all once = refl
names_from (t ∷ names) all once =
    let parts = and_parts (is_participant_name t) (list_all is_participant_name names) all in
    and_from (is_participant_name t && not (list_any (bytes_eq t) names)) (are_names names)
    (and_from (is_participant_name t) (not (list_any (bytes_eq t) names)) parts.0 (not_from_false (list_any (bytes_eq t) names) once.0)) (names_from names parts.1 once.1)

-- an announcement
record IsAnnounced (t text : List ℕ) (l : TraceLine) : Type 0 where
  what : Announcement
  place : Option (List ℕ)
  said : List ℕ
  at : List ℕ
  is : l ≡ Announces t what place
  spells : SpellsSaid said what
  places : SpellsPlace at place
  text_is : text ≡ said ++ at
  stands : what ≡ Stands → place ≢ None

placed_read : (t said : List ℕ) (what : Announcement) (rest : Option (List ℕ)) (text : List ℕ) (l : TraceLine) → SpellsSaid said what → text ≡ said ++ tail rest → placed_said t what (place_part rest) ≡ Some l → IsAnnounced t text l
placed_read t said what rest text l spells is e = by_place (place_part rest) refl e
  where
    by_place : (o : Option (Option (List ℕ))) → place_part rest ≡ o → placed_said t what o ≡ Some l → IsAnnounced t text l
    by_place None place f = absurd (cc)
    by_place (Some None) place f =
        elim (chosen (says_nothing what) None (Some (Announces t what None)) (Some l) f) [
          | inl nothing ↦ absurd (let g = nothing.1 in cc)
          | inr something ↦
              record {
                what = what;
                place = None;
                said = said;
                at = tail rest;
                is = sym (same_Some (Announces t what None) l something.1);
                spells = spells;
                places = place_read rest None place;
                text_is = is;
                stands = λ e. absurd (let g = ap says_nothing e in let h = something.0 in cc);
              }
        ]
    by_place (Some (Some raw)) place f =
        record {
          what = what;
          place = Some (kept_place raw);
          said = said;
          at = tail rest;
          is = sym (same_Some (Announces t what (Some (kept_place raw))) l f);
          spells = spells;
          places = place_read rest (Some raw) place;
          text_is = is;
          stands = λ e none. absurd (cc);
        }

announced_read : (t verb : List ℕ) (rest : Option (List ℕ)) (l : TraceLine) → announced t (said_part verb rest) ≡ Some l → IsAnnounced t (verb ++ tail rest) l
announced_read t verb rest l e = by_part (said_part verb rest) refl e
  where
    by_part : (o : Part Announcement) → said_part verb rest ≡ o → announced t o ≡ Some l → IsAnnounced t (verb ++ tail rest) l
    by_part None is f = absurd (cc)
    by_part (Some part) is f = let r = said_read verb rest part is in placed_read t r.0 part.0 part.1 (verb ++ tail rest) l r.1 r.2 f

says_nothing_is : (what : Announcement) → says_nothing what ≡ true → what ≡ Stands
says_nothing_is Stands e = refl
says_nothing_is (Joins p n) e = absurd (cc)
says_nothing_is (Arrives p) e = absurd (cc)
says_nothing_is (Leaves p) e = absurd (cc)
says_nothing_is (Waits p n) e = absurd (cc)
says_nothing_is Goes e = absurd (cc)
says_nothing_is Ends e = absurd (cc)

placed_again : (t : List ℕ) (what : Announcement) (raw place : Option (List ℕ)) → option_map kept_place raw ≡ place → (what ≡ Stands → place ≢ None) → placed_said t what (Some raw) ≡ Some (Announces t what place)
placed_again t what None place is stands =
    cond-false (says_nothing what) None (Some (Announces t what None)) (elim (cases_Bool (says_nothing what)) [ inl nothing ↦ absurd (stands (says_nothing_is what nothing) (sym is)) | inr off ↦ off ])
    ∙ ap (λ p. Some (Announces t what p)) is
placed_again t what (Some raw) place is stands = ap (λ p. Some (Announces t what p)) is

pub announced_again : (t said at : List ℕ) (what : Announcement) (place : Option (List ℕ)) → SpellsSaid said what → SpellsPlace at place → (what ≡ Stands → place ≢ None) → announced t (said_part (word_before_space (said ++ at)) (behind_word (said ++ at))) ≡ Some (Announces t what place)
announced_again t said at what place spells places stands =
    let p = place_again at place places in
    ap (λ k. announced t (said_part (word_before_space (said ++ k)) (behind_word (said ++ k)))) p.2
    ∙ ap (announced t) (said_again what said p.0 spells)
    ∙ ap (placed_said t what) p.3
    ∙ placed_again t what p.1 place p.4 stands

-- a name, and what stands behind its space
is_name : (t word : List ℕ) → bytes_eq t word ≡ true → t ≡ word
is_name t word e = (bytes_eq-Decides t word).0 e

-- what may not stand behind `gone`
record MayFollow (t verb : List ℕ) (rest : Option (List ℕ)) : Type 0 where
  any : rest ≡ None → t ≢ codes "gone"
  one : (what : Announcement) (said at : List ℕ) (place : Option (List ℕ)) → SpellsSaid said what → SpellsPlace at place → verb ++ tail rest ≡ said ++ at → t ≡ codes "gone" → IsOneWord what → ⊥

verb_read : (t verb : List ℕ) (rest : Option (List ℕ)) (l : TraceLine) → is_participant_name t ≡ true → MayFollow t verb rest → verb_line t verb rest ≡ Some l → SpellsLine (t ++ 32 ∷ (verb ++ tail rest)) l
verb_read t verb rest l name may e =
    elim (chosen (bytes_eq verb (codes "any")) (any_line t rest) _ (Some l) e) [
      | inl on ↦ any rest refl (is_name verb (codes "any") on.0) on.1
      | inr no_any ↦ elim (chosen (bytes_eq verb (codes "of")) (played_by t rest) (announced t (said_part verb rest)) (Some l) no_any.1) [
        | inl on ↦ played rest (is_name verb (codes "of") on.0) on.1
        | inr no_of ↦ said (announced_read t verb rest l no_of.1)
      ]
    ]
  where
    any : (o : Option (List ℕ)) → rest ≡ o → verb ≡ codes "any" → any_line t o ≡ Some l → SpellsLine (t ++ 32 ∷ (verb ++ tail o)) l
    any None none is f = subst (SpellsLine (t ++ 32 ∷ (verb ++ []))) (same_Some (PlaysAny t) l f) (name, may.any none, ap (λ v. t ++ 32 ∷ (v ++ [])) is)
    any (Some more) some is f = absurd (cc)

    played : (o : Option (List ℕ)) → verb ≡ codes "of" → played_by t o ≡ Some l → SpellsLine (t ++ 32 ∷ (verb ++ tail o)) l
    played None is f = absurd (cc)
    played (Some names) is f =
        elim (chosen (are_names (spaced_words names)) (Some (PlaysOneOf t (spaced_words names))) None (Some l) f) [
          | inl on ↦
              (let are = names_are (spaced_words names) on.0 in
              subst (SpellsLine (t ++ 32 ∷ (verb ++ 32 ∷ names))) (same_Some (PlaysOneOf t (spaced_words names)) l on.1) (
                name,
                (λ none. absurd (let w = words_read names in let v = ap spaced none in cc)),
                are.0,
                are.1,
                ap (λ v. t ++ 32 ∷ (v ++ 32 ∷ names)) is ∙ sym (append_assoc t (codes " of") (32 ∷ names)) ∙ ap (λ k. t ++ codes " of" ++ k) (sym (words_read names)),
              ))
          | inr off ↦ absurd (let g = off.1 in cc)
        ]

    said : IsAnnounced t (verb ++ tail rest) l → SpellsLine (t ++ 32 ∷ (verb ++ tail rest)) l
    said a =
        subst (SpellsLine (t ++ 32 ∷ (verb ++ tail rest))) (sym a.is) (
          name,
          a.said,
          a.at,
          a.spells,
          a.places,
          ap (λ k. t ++ 32 ∷ k) a.text_is ∙ sym (append_assoc t (32 ∷ a.said) a.at),
          (λ gone one. may.one a.what a.said a.at a.place a.spells a.places a.text_is gone one),
          a.stands,
        )

one_word_is : (what : Announcement) (said : List ℕ) → SpellsSaid said what → IsOneWord what → (is_one_word_verb said ≡ true) × (has_no_space said ≡ true)
one_word_is (Joins p n) said spells one = absurd one
one_word_is (Arrives p) said spells one = absurd one
one_word_is (Leaves p) said spells one = absurd one
one_word_is (Waits p n) said spells one = absurd one
one_word_is Goes said spells one = (ap is_one_word_verb spells, ap has_no_space spells)
one_word_is Ends said spells one = (ap is_one_word_verb spells, ap has_no_space spells)
one_word_is Stands said spells one = (ap is_one_word_verb spells, ap has_no_space spells)

gone_read : (bytes : List ℕ) (o : Option (List ℕ)) (l : TraceLine) → behind_word bytes ≡ o → is_participant_name (codes "gone") ≡ true → gone_line bytes o ≡ Some l → SpellsLine (codes "gone" ++ 32 ∷ bytes) l
gone_read bytes None l is name e =
    elim (chosen (is_participant_name bytes) (Some (AreGone bytes)) None (Some l) e) [
      | inl on ↦ subst (SpellsLine (codes "gone" ++ 32 ∷ bytes)) (same_Some (AreGone bytes) l on.1) (on.0, refl)
      | inr off ↦ absurd (let f = off.1 in cc)
    ]
gone_read bytes (Some rest) l is name e =
    elim (chosen (is_one_word_verb (word_before_space bytes)) None (verb_line (codes "gone") (word_before_space bytes) (Some rest)) (Some l) e) [
      | inl one ↦ absurd (let f = one.1 in cc)
      | inr more ↦
          subst (λ k. SpellsLine (codes "gone" ++ 32 ∷ k) l) (sym whole)
          (verb_read (codes "gone") (word_before_space bytes) (Some rest) l name
          (record { any = λ none. absurd (cc); one = λ what said at place spells places text gone one. not_one what said at place spells places text one more.0 }) more.1)
    ]
  where
    whole : bytes ≡ word_before_space bytes ++ tail (Some rest)
    whole = cut bytes ∙ ap (λ o. word_before_space bytes ++ tail o) is

    not_one : (what : Announcement) (said at : List ℕ) (place : Option (List ℕ)) → SpellsSaid said what → SpellsPlace at place → word_before_space bytes ++ tail (Some rest) ≡ said ++ at → IsOneWord what → is_one_word_verb (word_before_space bytes) ≡ false → ⊥
    not_one what said at place spells places text one off =
        let w = one_word_is what said spells one in
        let p = place_again at place places in
        let same : word_before_space bytes ≡ said = ap word_before_space (whole ∙ text ∙ ap (λ k. said ++ k) p.2) ∙ word_first said p.0 w.1 in
        let f = ap is_one_word_verb same in let g = w.0 in cc

named_read : (t bytes : List ℕ) (l : TraceLine) → named_line t bytes ≡ Some l → SpellsLine (t ++ 32 ∷ bytes) l
named_read t bytes l e =
    elim (chosen (not (is_participant_name t)) None _ (Some l) e) [
      | inl none ↦ absurd (let f = none.1 in cc)
      | inr named ↦
          (let name : is_participant_name t ≡ true = not-false (is_participant_name t) named.0 in
          elim (chosen (bytes_eq t (codes "gone")) (gone_line bytes (behind_word bytes)) (verb_line t (word_before_space bytes) (behind_word bytes)) (Some l) named.1) [
            | inl gone ↦
                (let is = is_name t (codes "gone") gone.0 in
                subst (λ k. SpellsLine (k ++ 32 ∷ bytes) l) (sym is) (gone_read bytes (behind_word bytes) l refl (ap is_participant_name (sym is) ∙ name) gone.1))
            | inr other ↦
                subst (λ k. SpellsLine (t ++ 32 ∷ k) l) (sym (cut bytes))
                (verb_read t (word_before_space bytes) (behind_word bytes) l name
                (record { any = λ none is. not_gone is other.0; one = λ what said at place spells places text is one. not_gone is other.0 }) other.1)
          ])
    ]
  where
    not_gone : t ≡ codes "gone" → bytes_eq t (codes "gone") ≡ false → ⊥
    not_gone is off = let f = (bytes_eq-Decides t (codes "gone")).1 is in cc

worded_read : (bytes : List ℕ) (o : Option (List ℕ)) (l : TraceLine) → behind_word bytes ≡ o → worded_line bytes o ≡ Some l → SpellsLine bytes l
worded_read bytes None l is e =
    elim (chosen (bytes_eq bytes (codes "report")) (Some AsksReport) _ (Some l) e) [
      | inl report ↦ subst (SpellsLine bytes) (same_Some AsksReport l report.1) (is_name bytes (codes "report") report.0)
      | inr other ↦ elim (chosen (bytes_eq bytes (codes "list")) (Some AsksList) None (Some l) other.1) [
        | inl list ↦ subst (SpellsLine bytes) (same_Some AsksList l list.1) (is_name bytes (codes "list") list.0)
        | inr none ↦ absurd (let f = none.1 in cc)
      ]
    ]
worded_read bytes (Some rest) l is e = subst (λ k. SpellsLine k l) (sym (cut bytes ∙ ap (λ o. word_before_space bytes ++ tail o) is)) (named_read (word_before_space bytes) rest l e)

pub line_read : (bytes : List ℕ) (l : TraceLine) → trace_line_at bytes ≡ Some l → IsLine bytes l
line_read bytes l e =
    elim (chosen (nat_lt most_line_bytes (length bytes)) None _ (Some l) e) [
      | inl long ↦ absurd (let f = long.1 in cc)
      | inr short ↦ (
        ltb-false most_line_bytes (length bytes) short.0,
        elim (chosen (length bytes == 0 || slice_index bytes 0 == 35) (Some SaysNothing) (worded_line bytes (behind_word bytes)) (Some l) short.1) [
          | inl nothing ↦ subst (SpellsLine bytes) (same_Some SaysNothing l nothing.1) (silent bytes nothing.0)
          | inr something ↦ worded_read bytes (behind_word bytes) l refl something.1
        ],
      )
    ]
  where
    silent : (k : List ℕ) → (length k == 0 || slice_index k 0 == 35) ≡ true → SpellsLine k SaysNothing
    silent [] e = inl refl
    silent (b ∷ rest) e = elim (or_cases (length (b ∷ rest) == 0) (b == 35) e) [
      | inl zero_long ↦ absurd (let z = eqb-true (length (b ∷ rest)) 0 zero_long in omega arith)
      | inr hash ↦ inr (rest, ap (λ x. x ∷ rest) (eqb-true b 35 hash))
    ]
