-- What a line spells is read.
use Rattle.std.proofs.Common.{◌≡◌, ◌≢◌, ◌≤◌, ℕ, true, false, ◌&&◌, ◌||◌, not, Some, None, Option, List, [], ◌∷◌, ◌++◌, length, refl, sym, ◌∙◌, ap, subst, inl, inr, ◌⊎◌, arith, append-nil, append_assoc}
use Rattle.std.specs.Prelude.{bytes_eq, codes, decimal, if◌then◌else◌, nat_lt, ◌==◌, slice_index, IfSome, IfNone}
use Rattle.std.specs.List.{list_all}
use Rattle.std.specs.Option.{option_map}
use Rattle.std.proofs.lemmas.Bool.{and_parts, cases_Bool, cond-true, cond-false, le-ltb, ne_eqb, not-true, not_from_true, or_from, or_right}
use Rattle.std.proofs.lemmas.Slice.Eq.{bytes_eq-Decides}
use Rattle.std.proofs.lemmas.Option.{same_Some}
use Rattle.monitor_laws.specs.Lines.{Announcement, Joins, Arrives, Leaves, Waits, Goes, Ends, Stands, TraceLine, SaysNothing, AsksReport, AsksList, AreGone, Announces, PlaysAny, PlaysOneOf}
use Rattle.trace_lines.specs.Grammar.{IsLine, IsOneWord, SpellsPlace, SpellsSaid, is_participant_name, is_word, most_line_bytes}
use Rattle.trace_lines.specs.inside.Reading.{announced, any_line, are_names, behind_word, word_before_space, gone_line, is_one_word_verb, kept_place, place_part, trace_line_at, named_line, played_by, said_part, verb_line, worded_line}
use Rattle.trace_lines.proofs.Cuts.{name_is_whole, tail, word_behind, word_first}
use Rattle.trace_lines.proofs.Exact.{place_again, said_again}
use Rattle.trace_lines.proofs.WholeLines.{announced_again, line_read, names_from, spaced, words_again}

-- a verb that says something is neither `any` nor `of`
verb_is_said : (t verb : List ℕ) (rest : Option (List ℕ)) (part : Announcement × Option (List ℕ)) → said_part verb rest ≡ Some part → verb_line t verb rest ≡ announced t (said_part verb rest)
verb_is_said t verb rest part said =
    cond-false (bytes_eq verb (codes "any")) (any_line t rest) _ (not_word (codes "any") refl)
    ∙ cond-false (bytes_eq verb (codes "of")) (played_by t rest) (announced t (said_part verb rest)) (not_word (codes "of") refl)
  where
    not_word : (word : List ℕ) → said_part word rest ≡ None → bytes_eq verb word ≡ false
    not_word word none = elim (cases_Bool (bytes_eq verb word)) [
      | inl on ↦ absurd (let is : verb ≡ word = (bytes_eq-Decides verb word).0 on in let f = ap (λ v. said_part v rest) is in cc)
      | inr off ↦ off
    ]

-- one that is not said by one word has more behind its verb, and another verb
more_behind : (what : Announcement) (said : List ℕ) (end : Option (List ℕ)) → SpellsSaid said what → (IsOneWord what → ⊥) → (rest : List ℕ) × (behind_word (said ++ tail end) ≡ Some rest) × (is_one_word_verb (word_before_space (said ++ tail end)) ≡ false)
more_behind (Joins p n) said end spells more =
    let text : said ++ tail end ≡ codes "join" ++ tail (Some (p ++ (32 ∷ decimal n ++ tail end))) =
    ap (λ l. l ++ tail end) spells.2 ∙ append_assoc (codes "join" ++ 32 ∷ p) (32 ∷ decimal n) (tail end) ∙ append_assoc (codes "join") (32 ∷ p) (32 ∷ decimal n ++ tail end) in (
      p ++ (32 ∷ decimal n ++ tail end),
      ap behind_word text ∙ word_behind (codes "join") (Some (p ++ (32 ∷ decimal n ++ tail end))) refl,
      ap is_one_word_verb (ap word_before_space text ∙ word_first (codes "join") (Some (p ++ (32 ∷ decimal n ++ tail end))) refl),
    )
more_behind (Waits p n) said end spells more =
    let text : said ++ tail end ≡ codes "wait" ++ tail (Some (p ++ (32 ∷ decimal n ++ tail end))) =
    ap (λ l. l ++ tail end) spells.2 ∙ append_assoc (codes "wait" ++ 32 ∷ p) (32 ∷ decimal n) (tail end) ∙ append_assoc (codes "wait") (32 ∷ p) (32 ∷ decimal n ++ tail end) in (
      p ++ (32 ∷ decimal n ++ tail end),
      ap behind_word text ∙ word_behind (codes "wait") (Some (p ++ (32 ∷ decimal n ++ tail end))) refl,
      ap is_one_word_verb (ap word_before_space text ∙ word_first (codes "wait") (Some (p ++ (32 ∷ decimal n ++ tail end))) refl),
    )
more_behind (Arrives p) said end spells more =
    let text : said ++ tail end ≡ codes "arrive" ++ tail (Some (p ++ tail end)) = ap (λ l. l ++ tail end) spells.1 ∙ append_assoc (codes "arrive") (32 ∷ p) (tail end) in
    (p ++ tail end, ap behind_word text ∙ word_behind (codes "arrive") (Some (p ++ tail end)) refl, ap is_one_word_verb (ap word_before_space text ∙ word_first (codes "arrive") (Some (p ++ tail end)) refl))
more_behind (Leaves p) said end spells more =
    let text : said ++ tail end ≡ codes "leave" ++ tail (Some (p ++ tail end)) = ap (λ l. l ++ tail end) spells.1 ∙ append_assoc (codes "leave") (32 ∷ p) (tail end) in
    (p ++ tail end, ap behind_word text ∙ word_behind (codes "leave") (Some (p ++ tail end)) refl, ap is_one_word_verb (ap word_before_space text ∙ word_first (codes "leave") (Some (p ++ tail end)) refl))
more_behind Goes said end spells more = absurd (more tt)
more_behind Ends said end spells more = absurd (more tt)
more_behind Stands said end spells more = absurd (more tt)

-- a line that begins with a name
named : (t bytes : List ℕ) → is_participant_name t ≡ true → bytes_eq t (codes "gone") ≡ false → named_line t bytes ≡ verb_line t (word_before_space bytes) (behind_word bytes)
named t bytes name other =
    cond-false (not (is_participant_name t)) None _ (not_from_true (is_participant_name t) name)
    ∙ cond-false (bytes_eq t (codes "gone")) (gone_line bytes (behind_word bytes)) (verb_line t (word_before_space bytes) (behind_word bytes)) other

-- behind `gone` with more behind a verb
gone_on : (bytes rest : List ℕ) → behind_word bytes ≡ Some rest → is_one_word_verb (word_before_space bytes) ≡ false → named_line (codes "gone") bytes ≡ verb_line (codes "gone") (word_before_space bytes) (behind_word bytes)
gone_on bytes rest is off =
    ap (gone_line bytes) is
    ∙ cond-false (is_one_word_verb (word_before_space bytes)) None (verb_line (codes "gone") (word_before_space bytes) (Some rest)) off
    ∙ ap (verb_line (codes "gone") (word_before_space bytes)) (sym is)

said_line : (t said at : List ℕ) (what : Announcement) (place : Option (List ℕ)) → is_participant_name t ≡ true → SpellsSaid said what → SpellsPlace at place → (t ≡ codes "gone" → IsOneWord what → ⊥) → (what ≡ Stands → place ≢ None) → named_line t (said ++ at) ≡ Some (Announces t what place)
said_line t said at what place name spells places more stands =
    by_name (cases_Bool (bytes_eq t (codes "gone")))
    ∙ verb_is_said t (word_before_space (said ++ at)) (behind_word (said ++ at)) (what, p.0) (ap (λ k. said_part (word_before_space (said ++ k)) (behind_word (said ++ k))) p.2 ∙ said_again what said p.0 spells)
    ∙ announced_again t said at what place spells places stands
  where
    p : (end : Option (List ℕ)) × (raw : Option (List ℕ)) × (at ≡ tail end) × (place_part end ≡ Some raw) × (option_map kept_place raw ≡ place)
    p = place_again at place places

    by_name : ((bytes_eq t (codes "gone") ≡ true) ⊎ (bytes_eq t (codes "gone") ≡ false)) → named_line t (said ++ at) ≡ verb_line t (word_before_space (said ++ at)) (behind_word (said ++ at))
    by_name (inl gone) =
        let is : t ≡ codes "gone" = (bytes_eq-Decides t (codes "gone")).0 gone in
        let m = more_behind what said p.0 spells (more is) in
        subst (λ x. named_line x (said ++ at) ≡ verb_line x (word_before_space (said ++ at)) (behind_word (said ++ at))) (sym is)
        (gone_on (said ++ at) m.0 (ap (λ k. behind_word (said ++ k)) p.2 ∙ m.1) (ap (λ k. is_one_word_verb (word_before_space (said ++ k))) p.2 ∙ m.2))
    by_name (inr other) = named t (said ++ at) name other

gone_again : (x : List ℕ) → is_participant_name x ≡ true → named_line (codes "gone") x ≡ Some (AreGone x)
gone_again x name =
    ap (gone_line x) (ap behind_word (sym (append-nil x)) ∙ word_behind x None (name_is_whole x name)) ∙ cond-true (is_participant_name x) (Some (AreGone x)) None name

any_again : (w : List ℕ) → is_participant_name w ≡ true → w ≢ codes "gone" → named_line w (codes "any") ≡ Some (PlaysAny w)
any_again w name other =
    named w (codes "any") name (elim (cases_Bool (bytes_eq w (codes "gone"))) [ inl gone ↦ absurd (other ((bytes_eq-Decides w (codes "gone")).0 gone)) | inr off ↦ off ])
    ∙ ap (λ v. verb_line w v (behind_word (codes "any"))) (word_first (codes "any") None refl) ∙ ap (verb_line w (codes "any")) (word_behind (codes "any") None refl)

played_again : (w u : List ℕ) (names : List (List ℕ)) → is_participant_name w ≡ true → list_all is_participant_name (u ∷ names) ≡ true → are_names (u ∷ names) ≡ true → named_line w (codes "of" ++ spaced (u ∷ names)) ≡ Some (PlaysOneOf w (u ∷ names))
played_again w u names name all are =
    by_name (cases_Bool (bytes_eq w (codes "gone")))
    ∙ ap (λ v. verb_line w v (behind_word text)) first ∙ ap (verb_line w (codes "of")) behind
    ∙ ap (λ ws. if are_names ws then Some (PlaysOneOf w ws) else None) (words_again u names all)
    ∙ cond-true (are_names (u ∷ names)) (Some (PlaysOneOf w (u ∷ names))) None are
  where
    text : List ℕ
    text = codes "of" ++ spaced (u ∷ names)

    first : word_before_space (codes "of" ++ spaced (u ∷ names)) ≡ codes "of"
    first = word_first (codes "of") (Some (u ++ spaced names)) refl

    behind : behind_word (codes "of" ++ spaced (u ∷ names)) ≡ Some (u ++ spaced names)
    behind = word_behind (codes "of") (Some (u ++ spaced names)) refl

    by_name : ((bytes_eq w (codes "gone") ≡ true) ⊎ (bytes_eq w (codes "gone") ≡ false)) → named_line w (codes "of" ++ spaced (u ∷ names)) ≡ verb_line w (word_before_space (codes "of" ++ spaced (u ∷ names))) (behind_word (codes "of" ++ spaced (u ∷ names)))
    by_name (inl gone) =
        let is : w ≡ codes "gone" = (bytes_eq-Decides w (codes "gone")).0 gone in
        subst (λ x. named_line x (codes "of" ++ spaced (u ∷ names)) ≡ verb_line x (word_before_space (codes "of" ++ spaced (u ∷ names))) (behind_word (codes "of" ++ spaced (u ∷ names)))) (sym is)
        (gone_on (codes "of" ++ spaced (u ∷ names)) (u ++ spaced names) behind (ap is_one_word_verb first))
    by_name (inr other) = named w (codes "of" ++ spaced (u ∷ names)) name other

-- a name does not begin a line that says nothing
not_silent : (t more : List ℕ) → is_participant_name t ≡ true → (length (t ++ more) == 0 || slice_index (t ++ more) 0 == 35) ≡ false
not_silent [] more name = absurd (cc)
not_silent (b ∷ t) more name =
    or_from (length (b ∷ (t ++ more)) == 0) (b == 35) (ne_eqb (length (b ∷ (t ++ more))) 0 (λ e. omega arith))
    (not-true (b == 35) (and_parts (is_word (b ∷ t) && not (b == 64)) (not (b == 35)) name).1)

from_name : (bytes t text : List ℕ) (l : TraceLine) → length bytes ≤ most_line_bytes → is_participant_name t ≡ true → bytes ≡ t ++ 32 ∷ text → named_line t text ≡ Some l → trace_line_at bytes ≡ Some l
from_name bytes t text l short name is read =
    cond-false (nat_lt most_line_bytes (length bytes)) None _ (le-ltb most_line_bytes (length bytes) short)
    ∙ cond-false (length bytes == 0 || slice_index bytes 0 == 35) (Some SaysNothing) (worded_line bytes (behind_word bytes)) (ap (λ k. length k == 0 || slice_index k 0 == 35) is ∙ not_silent t (32 ∷ text) name)
    ∙ ap (λ k. worded_line k (behind_word k)) is
    ∙ ap (worded_line (t ++ 32 ∷ text)) (word_behind t (Some text) (name_is_whole t name))
    ∙ ap (λ w. named_line w text) (word_first t (Some text) (name_is_whole t name))
    ∙ read

pub line_again : (bytes : List ℕ) (l : TraceLine) → IsLine bytes l → trace_line_at bytes ≡ Some l
line_again bytes SaysNothing (short, spells) = elim spells [ inl none ↦ ap trace_line_at none | inr hash ↦ silent hash.0 hash.1 ]
  where
    silent : (rest : List ℕ) → bytes ≡ 35 ∷ rest → trace_line_at bytes ≡ Some SaysNothing
    silent rest is =
        cond-false (nat_lt most_line_bytes (length bytes)) None _ (le-ltb most_line_bytes (length bytes) short)
        ∙ cond-true (length bytes == 0 || slice_index bytes 0 == 35) (Some SaysNothing) (worded_line bytes (behind_word bytes))
        (or_right (length bytes == 0) (slice_index bytes 0 == 35) (ap (λ k. slice_index k 0 == 35) is))
line_again bytes AsksReport (short, spells) = ap trace_line_at spells
line_again bytes AsksList (short, spells) = ap trace_line_at spells
line_again bytes (AreGone x) (short, (name, is)) = from_name bytes (codes "gone") x (AreGone x) short refl is (gone_again x name)
line_again bytes (Announces t what place) (short, (name, said, at, spells, places, is, more, stands)) =
    from_name bytes t (said ++ at) (Announces t what place) short name (is ∙ append_assoc t (32 ∷ said) at) (said_line t said at what place name spells places more stands)
line_again bytes (PlaysAny w) (short, (name, other, is)) = from_name bytes w (codes "any") (PlaysAny w) short name is (any_again w name other)
line_again bytes (PlaysOneOf w []) (short, (name, some, all, once, is)) = absurd (some refl)
line_again bytes (PlaysOneOf w (u ∷ names)) (short, (name, some, all, once, is)) =
    from_name bytes w (codes "of" ++ spaced (u ∷ names)) (PlaysOneOf w (u ∷ names)) short name (is ∙ append_assoc w (codes " of") (spaced (u ∷ names)))
    (played_again w u names name all (names_from (u ∷ names) all once))

-- what is read by a value, and that nothing is
pub read_is : (bytes : List ℕ) (o : Option TraceLine) → o ≡ trace_line_at bytes → IfSome o (λ l. IsLine bytes l) × IfNone o ((l : TraceLine) → IsLine bytes l → ⊥)
read_is bytes None e = (tt, λ l is. absurd (let f = e ∙ line_again bytes l is in cc))
read_is bytes (Some l) e = (line_read bytes l (sym e), tt)

pub one_line : (bytes : List ℕ) (l m : TraceLine) → IsLine bytes l → IsLine bytes m → l ≡ m
one_line bytes l m is too = same_Some l m (sym (line_again bytes l is) ∙ line_again bytes m too)
