-- What is read of a line is what it spells, and what a line spells is read.
use Rattle.std.proofs.Common.{◌≡◌, ◌<◌, ◌≤◌, ◌^◌, ℕ, zero, suc, true, ◌&&◌, ◌||◌, not, Some, None, Option, List, [], ◌∷◌, ◌++◌, length, drop, get_or, refl, sym, ◌∙◌, ap, subst, inl, inr, arith, append_assoc}
use Rattle.std.specs.Prelude.{bytes_eq, codes, option_map, if◌then◌else◌, nat_le, nat_lt, ◌==◌, decimal, slice_index}
use Rattle.std.specs.Str.Parse.{AllDigits, digits_value}
use Rattle.std.proofs.lemmas.Bool.{and_from, and_parts, cond-true, eqb-true, eq-eqb, leb-true, le-leb, ltb-true, ne_eqb, not_from_false, not-true, or_cases, or_left, or_right}
use Rattle.std.proofs.lemmas.Slice.Eq.{bytes_eq-Decides}
use Rattle.std.proofs.lemmas.Option.{same_Some}
use Rattle.std.proofs.lemmas.Str.Parse.{digit_from_value}
use Rattle.std.proofs.lemmas.Fmt.{decimal-digits_value, digits_decimal, digits_value-decimal, length-decimal-le, decimal_nonempty, first_decimal, decimal_digit}
use Rattle.monitor_laws.specs.Lines.{Announcement, Joins, Arrives, Leaves, Waits, Goes, Ends, Stands}
use Rattle.monitor_laws.specs.Faults.{last_phase}
use Rattle.trace_lines.specs.Grammar.{SpellsPlace, SpellsSaid, is_phaser_name}
use Rattle.trace_lines.specs.inside.Reading.{Part, are_digits, behind_word, word_before_space, is_phase_number, is_place, kept_place, may_be_number, phase_number_at, number_before, number_part, joined_number, phase_behind, phase_part, phaser_part, place_part, said_with, said_part}
use Rattle.trace_lines.proofs.Cuts.{chosen, cut, has_no_space, phaser_is_whole, tail, word_behind, word_first}
use Rattle.trace_lines.proofs.Numbers.{all_digits, digits_of, number_is, own, some_of}

-- a part: the text is it and what stands behind
phaser_read : (rest : Option (List ℕ)) (part : List ℕ × Option (List ℕ)) → phaser_part rest ≡ Some part → (is_phaser_name part.0 ≡ true) × (tail rest ≡ 32 ∷ part.0 ++ tail part.1)
phaser_read None part e = absurd (cc)
phaser_read (Some bytes) part e =
    elim (chosen (is_phaser_name (word_before_space bytes)) (Some (word_before_space bytes, behind_word bytes)) None (Some part) e) [
      | inl on ↦ (let f : (word_before_space bytes, behind_word bytes) ≡ part = same_Some (word_before_space bytes, behind_word bytes) part on.1 in (
        ap (λ (x : List ℕ × Option (List ℕ)). is_phaser_name x.0) (sym f) ∙ on.0,
        ap (λ l. 32 ∷ l) (cut bytes ∙ ap (λ (x : List ℕ × Option (List ℕ)). x.0 ++ tail x.1) f),
      ))
      | inr off ↦ absurd (let f = off.1 in cc)
    ]

phaser_again : (p : List ℕ) (end : Option (List ℕ)) → is_phaser_name p ≡ true → phaser_part (Some (p ++ tail end)) ≡ Some (p, end)
phaser_again p end is =
    let w = word_first p end (phaser_is_whole p is) in
    let b = word_behind p end (phaser_is_whole p is) in
    ap (λ x. if is_phaser_name x then Some (x, behind_word (p ++ tail end)) else None) w
    ∙ ap (λ o. if is_phaser_name p then Some (p, o) else None) b
    ∙ cond-true (is_phaser_name p) (Some (p, end)) None is

-- numbers
no_zero_first : (w : List ℕ) → may_be_number w ≡ true → get_or w 0 0 ≡ 48 → length w ≡ 1
no_zero_first w may zero_first =
    let three = (and_parts (nat_le 1 (length w) && nat_le (length w) 10 && (length w == 1 || not (slice_index w 0 == 48))) (are_digits w) may).0 in
    elim (or_cases (length w == 1) (not (slice_index w 0 == 48)) (and_parts (nat_le 1 (length w) && nat_le (length w) 10) (length w == 1 || not (slice_index w 0 == 48)) three).1) [
      | inl one ↦ eqb-true (length w) 1 one
      | inr other ↦ absurd (let z = eq-eqb (get_or w 0 0) 48 zero_first in let n = not-true (slice_index w 0 == 48) other in cc)
    ]

number_read : (w : List ℕ) (n : ℕ) → phase_number_at w ≡ Some n → (n ≤ last_phase) × (w ≡ decimal n)
number_read w n e =
    elim (chosen (is_phase_number w) (Some (digits_value 10 w)) None (Some n) e) [
      | inl on ↦
          (let parts = and_parts (may_be_number w) (nat_lt (digits_value 10 w) (2 ^ 32)) on.0 in
          let small = ltb-true (digits_value 10 w) (2 ^ 32) parts.1 in
          let is : digits_value 10 w ≡ n = same_Some (digits_value 10 w) n on.1 in
          let text = decimal-digits_value own w (all_digits w (digits_of w parts.0)) (some_of w parts.0) (no_zero_first w parts.0) (omega arith) in
          (omega arith, sym (ap decimal (sym is) ∙ text)))
      | inr off ↦ absurd (let f = off.1 in cc)
    ]

digits_are : (w : List ℕ) → AllDigits 10 w → are_digits w ≡ true
digits_are [] all = refl
digits_are (b ∷ w) all =
    let r = digit_from_value b all.0 in
    and_from (nat_le 48 b && nat_le b 57) (are_digits w) (and_from (nat_le 48 b) (nat_le b 57) (le-leb 48 b r.0) (le-leb b 57 r.1)) (digits_are w all.1)

no_leading : (n : ℕ) → n < 2 ^ 64 → (length (decimal n) == 1 || not (slice_index (decimal n) 0 == 48)) ≡ true
no_leading zero small = or_left (length (decimal 0) == 1) (not (slice_index (decimal 0) 0 == 48)) (eq-eqb (length (decimal 0)) 1 (ap length (decimal_digit 0 (omega arith))))
no_leading (suc m) small =
    or_right (length (decimal (suc m)) == 1) (not (slice_index (decimal (suc m)) 0 == 48))
    (not_from_false (slice_index (decimal (suc m)) 0 == 48) (ne_eqb (get_or (decimal (suc m)) 0 0) 48 (λ e. omega (arith, first_decimal (suc m) (omega arith) small))))

decimal_may_be : (n : ℕ) → n < 2 ^ 32 → may_be_number (decimal n) ≡ true
decimal_may_be n small =
    let fits : n < 2 ^ 64 = omega arith in
    let some = decimal_nonempty n fits in
    let few = length-decimal-le 10 n (omega arith) (omega arith) fits in
    and_from (nat_le 1 (length (decimal n)) && nat_le (length (decimal n)) 10 && (length (decimal n) == 1 || not (slice_index (decimal n) 0 == 48))) (are_digits (decimal n))
    (and_from (nat_le 1 (length (decimal n)) && nat_le (length (decimal n)) 10) (length (decimal n) == 1 || not (slice_index (decimal n) 0 == 48))
    (and_from (nat_le 1 (length (decimal n))) (nat_le (length (decimal n)) 10) (le-leb 1 (length (decimal n)) some) (le-leb (length (decimal n)) 10 few)) (no_leading n fits))
    (digits_are (decimal n) (digits_decimal own n fits))

number_again : (n : ℕ) → n ≤ last_phase → phase_number_at (decimal n) ≡ Some n
number_again n most =
    let fits : n < 2 ^ 64 = omega arith in
    let value = digits_value-decimal own n fits in
    number_is (decimal n) (decimal_may_be n (omega arith)) (omega arith) ∙ ap Some value

digits_whole : (w : List ℕ) → are_digits w ≡ true → has_no_space w ≡ true
digits_whole [] are = refl
digits_whole (b ∷ w) are =
    let parts = and_parts (nat_le 48 b && nat_le b 57) (are_digits w) are in
    let low = leb-true 48 b (and_parts (nat_le 48 b) (nat_le b 57) parts.0).0 in
    and_from (not (b == 32)) (has_no_space w) (not_from_false (b == 32) (ne_eqb b 32 (λ e. omega arith))) (digits_whole w parts.1)

decimal_whole : (n : ℕ) → n ≤ last_phase → has_no_space (decimal n) ≡ true
decimal_whole n most = digits_whole (decimal n) (digits_of (decimal n) (decimal_may_be n (omega arith)))

number_part_read : (rest : Option (List ℕ)) (part : ℕ × Option (List ℕ)) → number_part rest ≡ Some part → (part.0 ≤ last_phase) × (tail rest ≡ 32 ∷ decimal part.0 ++ tail part.1)
number_part_read None part e = absurd (cc)
number_part_read (Some bytes) part e = by_number (phase_number_at (word_before_space bytes)) refl e
  where
    by_number : (o : Option ℕ) → phase_number_at (word_before_space bytes) ≡ o → number_before (behind_word bytes) o ≡ Some part → (part.0 ≤ last_phase) × (32 ∷ bytes ≡ 32 ∷ decimal part.0 ++ tail part.1)
    by_number None is f = absurd (cc)
    by_number (Some n) is f =
        let r = number_read (word_before_space bytes) n is in
        let g : (n, behind_word bytes) ≡ part = same_Some (n, behind_word bytes) part f in (
          subst (λ (x : ℕ × Option (List ℕ)). x.0 ≤ last_phase) g r.0,
          ap (λ l. 32 ∷ l) (cut bytes ∙ ap (λ l. l ++ tail (behind_word bytes)) r.1 ∙ ap (λ (x : ℕ × Option (List ℕ)). decimal x.0 ++ tail x.1) g),
        )

number_part_again : (n : ℕ) (end : Option (List ℕ)) → n ≤ last_phase → number_part (Some (decimal n ++ tail end)) ≡ Some (n, end)
number_part_again n end most =
    ap (λ w. number_before (behind_word (decimal n ++ tail end)) (phase_number_at w)) (word_first (decimal n) end (decimal_whole n most))
    ∙ ap (λ o. number_before o (phase_number_at (decimal n))) (word_behind (decimal n) end (decimal_whole n most))
    ∙ ap (number_before end) (number_again n most)

-- a phaser and a phase
phase_read :
    (rest : Option (List ℕ)) (part : (List ℕ × ℕ) × Option (List ℕ)) → phase_part rest ≡ Some part →
    (is_phaser_name part.0.0 ≡ true) × (part.0.1 ≤ last_phase) × (tail rest ≡ 32 ∷ part.0.0 ++ 32 ∷ decimal part.0.1 ++ tail part.1)
phase_read rest part e = by_phaser (phaser_part rest) refl e
  where
    by_number :
        (p : List ℕ × Option (List ℕ)) → phaser_part rest ≡ Some p → (o : Part ℕ) → number_part p.1 ≡ o → joined_number p.0 o ≡ Some part →
        (is_phaser_name part.0.0 ≡ true) × (part.0.1 ≤ last_phase) × (tail rest ≡ 32 ∷ part.0.0 ++ 32 ∷ decimal part.0.1 ++ tail part.1)
    by_number p is None number f = absurd (cc)
    by_number p is (Some n) number f =
        let one = phaser_read rest p is in
        let two = number_part_read p.1 n number in
        let g : ((p.0, n.0), n.1) ≡ part = same_Some ((p.0, n.0), n.1) part f in (
          subst (λ (x : (List ℕ × ℕ) × Option (List ℕ)). is_phaser_name x.0.0 ≡ true) g one.0,
          subst (λ (x : (List ℕ × ℕ) × Option (List ℕ)). x.0.1 ≤ last_phase) g two.0,
          one.1 ∙ ap (λ l. 32 ∷ p.0 ++ l) two.1 ∙ grouped p.0 (decimal n.0) (tail n.1) ∙ ap (λ (x : (List ℕ × ℕ) × Option (List ℕ)). 32 ∷ x.0.0 ++ 32 ∷ decimal x.0.1 ++ tail x.1) g,
        )
      where
        grouped : (a b c : List ℕ) → 32 ∷ a ++ (32 ∷ b ++ c) ≡ 32 ∷ a ++ 32 ∷ b ++ c
        grouped a b c = sym (append_assoc (32 ∷ a) (32 ∷ b) c)

    by_phaser :
        (o : Part (List ℕ)) → phaser_part rest ≡ o → phase_behind o ≡ Some part →
        (is_phaser_name part.0.0 ≡ true) × (part.0.1 ≤ last_phase) × (tail rest ≡ 32 ∷ part.0.0 ++ 32 ∷ decimal part.0.1 ++ tail part.1)
    by_phaser None is f = absurd (cc)
    by_phaser (Some p) is f = by_number p is (number_part p.1) refl f

phase_again : (p : List ℕ) (n : ℕ) (end : Option (List ℕ)) → is_phaser_name p ≡ true → n ≤ last_phase → phase_part (Some (p ++ 32 ∷ (decimal n ++ tail end))) ≡ Some ((p, n), end)
phase_again p n end is most =
    ap phase_behind (phaser_again p (Some (decimal n ++ tail end)) is) ∙ ap (joined_number p) (number_part_again n end most)

-- what is said
from_said : {A : Type 0} (what : A → Announcement) (o : Part A) (part : Announcement × Option (List ℕ)) → said_with what o ≡ Some part → (a : A × Option (List ℕ)) × (o ≡ Some a) × ((what a.0, a.1) ≡ part)
from_said what None part e = absurd (cc)
from_said what (Some a) part e = (a, refl, same_Some (what a.0, a.1) part e)

-- a text that spells what is said, and what stands behind it
abbrev pub IsSaid : List ℕ → Option (List ℕ) → Announcement × Option (List ℕ) → Type 0
IsSaid verb rest part = (said : List ℕ) × SpellsSaid said part.0 × (verb ++ tail rest ≡ said ++ tail part.1)

is_verb : (verb word : List ℕ) → bytes_eq verb word ≡ true → verb ≡ word
is_verb verb word e = (bytes_eq-Decides verb word).0 e

pub said_read : (verb : List ℕ) (rest : Option (List ℕ)) (part : Announcement × Option (List ℕ)) → said_part verb rest ≡ Some part → IsSaid verb rest part
said_read verb rest part e =
    elim (chosen (bytes_eq verb (codes "join")) _ _ (Some part) e) [
      | inl on ↦ with_phase (codes "join") Joins (is_verb verb (codes "join") on.0) (λ p n is most. (is, most, refl)) on.1
      | inr no_join ↦ elim (chosen (bytes_eq verb (codes "wait")) _ _ (Some part) no_join.1) [
        | inl on ↦ with_phase (codes "wait") Waits (is_verb verb (codes "wait") on.0) (λ p n is most. (is, most, refl)) on.1
        | inr no_wait ↦ elim (chosen (bytes_eq verb (codes "arrive")) _ _ (Some part) no_wait.1) [
          | inl on ↦ with_phaser (codes "arrive") Arrives (is_verb verb (codes "arrive") on.0) (λ p is. (is, refl)) on.1
          | inr no_arrive ↦ elim (chosen (bytes_eq verb (codes "leave")) _ _ (Some part) no_arrive.1) [
            | inl on ↦ with_phaser (codes "leave") Leaves (is_verb verb (codes "leave") on.0) (λ p is. (is, refl)) on.1
            | inr no_leave ↦ elim (chosen (bytes_eq verb (codes "go")) _ _ (Some part) no_leave.1) [
              | inl on ↦ alone (codes "go") Goes (is_verb verb (codes "go") on.0) refl on.1
              | inr no_go ↦ elim (chosen (bytes_eq verb (codes "end")) _ _ (Some part) no_go.1) [
                | inl on ↦ alone (codes "end") Ends (is_verb verb (codes "end") on.0) refl on.1
                | inr no_end ↦ elim (chosen (bytes_eq verb (codes "at")) _ _ (Some part) no_end.1) [
                  | inl on ↦ alone (codes "at") Stands (is_verb verb (codes "at") on.0) refl on.1
                  | inr off ↦ absurd (let f = off.1 in cc)
                ]
              ]
            ]
          ]
        ]
      ]
    ]
  where
    with_phase : (word : List ℕ) (what : List ℕ → ℕ → Announcement) → verb ≡ word → ((p : List ℕ) (n : ℕ) → is_phaser_name p ≡ true → n ≤ last_phase → SpellsSaid (word ++ 32 ∷ p ++ 32 ∷ decimal n) (what p n)) → said_with (λ m. what m.0 m.1) (phase_part rest) ≡ Some part → IsSaid verb rest part
    with_phase word what is spells f =
        let a = from_said (λ (m : List ℕ × ℕ). what m.0 m.1) (phase_part rest) part f in
        let r = phase_read rest a.0 a.1 in
        subst (IsSaid verb rest) a.2 (
          word ++ 32 ∷ a.0.0.0 ++ 32 ∷ decimal a.0.0.1,
          spells a.0.0.0 a.0.0.1 r.0 r.1,
          ap (λ v. v ++ tail rest) is ∙ ap (λ l. word ++ l) r.2
              ∙ ap (λ l. word ++ l) (append_assoc (32 ∷ a.0.0.0) (32 ∷ decimal a.0.0.1) (tail a.0.1))
              ∙ sym (append_assoc word (32 ∷ a.0.0.0) (32 ∷ decimal a.0.0.1 ++ tail a.0.1))
              ∙ sym (append_assoc (word ++ 32 ∷ a.0.0.0) (32 ∷ decimal a.0.0.1) (tail a.0.1)),
        )

    with_phaser : (word : List ℕ) (what : List ℕ → Announcement) → verb ≡ word → ((p : List ℕ) → is_phaser_name p ≡ true → SpellsSaid (word ++ 32 ∷ p) (what p)) → said_with what (phaser_part rest) ≡ Some part → IsSaid verb rest part
    with_phaser word what is spells f =
        let a = from_said what (phaser_part rest) part f in
        let r = phaser_read rest a.0 a.1 in
        subst (IsSaid verb rest) a.2
        (word ++ 32 ∷ a.0.0, spells a.0.0 r.0, ap (λ v. v ++ tail rest) is ∙ ap (λ l. word ++ l) r.1 ∙ sym (append_assoc word (32 ∷ a.0.0) (tail a.0.1)))

    alone : (word : List ℕ) (what : Announcement) → verb ≡ word → SpellsSaid word what → Some (what, rest) ≡ Some part → IsSaid verb rest part
    alone word what is spells f = subst (IsSaid verb rest) (same_Some (what, rest) part f) (word, spells, ap (λ v. v ++ tail rest) is)

pub said_again : (what : Announcement) (said : List ℕ) (end : Option (List ℕ)) → SpellsSaid said what → said_part (word_before_space (said ++ tail end)) (behind_word (said ++ tail end)) ≡ Some (what, end)
said_again (Joins p n) said end spells = with_phase (codes "join") Joins refl spells.2 (λ rest. refl) (phase_again p n end spells.0 spells.1)
  where
    with_phase : (word : List ℕ) (make : List ℕ → ℕ → Announcement) → has_no_space word ≡ true → said ≡ word ++ 32 ∷ p ++ 32 ∷ decimal n → ((rest : Option (List ℕ)) → said_part word rest ≡ said_with (λ m. make m.0 m.1) (phase_part rest)) → phase_part (Some (p ++ 32 ∷ (decimal n ++ tail end))) ≡ Some ((p, n), end) → said_part (word_before_space (said ++ tail end)) (behind_word (said ++ tail end)) ≡ Some (make p n, end)
    with_phase word make whole is verb again =
        let text : said ++ tail end ≡ word ++ tail (Some (p ++ 32 ∷ (decimal n ++ tail end))) =
        ap (λ l. l ++ tail end) is ∙ append_assoc (word ++ 32 ∷ p) (32 ∷ decimal n) (tail end) ∙ append_assoc word (32 ∷ p) (32 ∷ decimal n ++ tail end) in
        ap (λ l. said_part (word_before_space l) (behind_word l)) text
        ∙ ap (λ w. said_part w (behind_word (word ++ tail (Some (p ++ 32 ∷ (decimal n ++ tail end)))))) (word_first word (Some (p ++ 32 ∷ (decimal n ++ tail end))) whole)
        ∙ ap (said_part word) (word_behind word (Some (p ++ 32 ∷ (decimal n ++ tail end))) whole)
        ∙ verb (Some (p ++ 32 ∷ (decimal n ++ tail end)))
        ∙ ap (said_with (λ (m : List ℕ × ℕ). make m.0 m.1)) again
said_again (Waits p n) said end spells =
    let text : said ++ tail end ≡ codes "wait" ++ tail (Some (p ++ 32 ∷ (decimal n ++ tail end))) =
    ap (λ l. l ++ tail end) spells.2 ∙ append_assoc (codes "wait" ++ 32 ∷ p) (32 ∷ decimal n) (tail end) ∙ append_assoc (codes "wait") (32 ∷ p) (32 ∷ decimal n ++ tail end) in
    ap (λ l. said_part (word_before_space l) (behind_word l)) text
    ∙ ap (λ w. said_part w (behind_word (codes "wait" ++ tail (Some (p ++ 32 ∷ (decimal n ++ tail end)))))) (word_first (codes "wait") (Some (p ++ 32 ∷ (decimal n ++ tail end))) refl)
    ∙ ap (said_part (codes "wait")) (word_behind (codes "wait") (Some (p ++ 32 ∷ (decimal n ++ tail end))) refl)
    ∙ ap (said_with (λ (m : List ℕ × ℕ). Waits m.0 m.1)) (phase_again p n end spells.0 spells.1)
said_again (Arrives p) said end spells =
    let text : said ++ tail end ≡ codes "arrive" ++ tail (Some (p ++ tail end)) = ap (λ l. l ++ tail end) spells.1 ∙ append_assoc (codes "arrive") (32 ∷ p) (tail end) in
    ap (λ l. said_part (word_before_space l) (behind_word l)) text
    ∙ ap (λ w. said_part w (behind_word (codes "arrive" ++ tail (Some (p ++ tail end))))) (word_first (codes "arrive") (Some (p ++ tail end)) refl)
    ∙ ap (said_part (codes "arrive")) (word_behind (codes "arrive") (Some (p ++ tail end)) refl)
    ∙ ap (said_with Arrives) (phaser_again p end spells.0)
said_again (Leaves p) said end spells =
    let text : said ++ tail end ≡ codes "leave" ++ tail (Some (p ++ tail end)) = ap (λ l. l ++ tail end) spells.1 ∙ append_assoc (codes "leave") (32 ∷ p) (tail end) in
    ap (λ l. said_part (word_before_space l) (behind_word l)) text
    ∙ ap (λ w. said_part w (behind_word (codes "leave" ++ tail (Some (p ++ tail end))))) (word_first (codes "leave") (Some (p ++ tail end)) refl)
    ∙ ap (said_part (codes "leave")) (word_behind (codes "leave") (Some (p ++ tail end)) refl)
    ∙ ap (said_with Leaves) (phaser_again p end spells.0)
said_again Goes said end spells =
    ap (λ l. said_part (word_before_space (l ++ tail end)) (behind_word (l ++ tail end))) spells
    ∙ ap (λ w. said_part w (behind_word (codes "go" ++ tail end))) (word_first (codes "go") end refl) ∙ ap (said_part (codes "go")) (word_behind (codes "go") end refl)
said_again Ends said end spells =
    ap (λ l. said_part (word_before_space (l ++ tail end)) (behind_word (l ++ tail end))) spells
    ∙ ap (λ w. said_part w (behind_word (codes "end" ++ tail end))) (word_first (codes "end") end refl) ∙ ap (said_part (codes "end")) (word_behind (codes "end") end refl)
said_again Stands said end spells =
    ap (λ l. said_part (word_before_space (l ++ tail end)) (behind_word (l ++ tail end))) spells
    ∙ ap (λ w. said_part w (behind_word (codes "at" ++ tail end))) (word_first (codes "at") end refl) ∙ ap (said_part (codes "at")) (word_behind (codes "at") end refl)

-- a place
pub place_read : (rest : Option (List ℕ)) (raw : Option (List ℕ)) → place_part rest ≡ Some raw → SpellsPlace (tail rest) (option_map kept_place raw)
place_read None None e = refl
place_read None (Some raw) e = absurd (let f = same_Some None (Some raw) e in cc)
place_read (Some bytes) raw e =
    elim (chosen (is_place bytes) (Some (Some (drop 1 bytes))) None (Some raw) e) [
      | inl on ↦ subst (λ r. SpellsPlace (32 ∷ bytes) (option_map kept_place r)) (same_Some (Some (drop 1 bytes)) raw on.1) (spelled bytes on.0)
      | inr off ↦ absurd (let f = off.1 in cc)
    ]
  where
    spelled : (l : List ℕ) → is_place l ≡ true → SpellsPlace (32 ∷ l) (Some (kept_place (drop 1 l)))
    spelled [] is = absurd (cc)
    spelled (b ∷ l) is =
        let parts = and_parts (nat_le 2 (length (b ∷ l)) && nat_le (length (b ∷ l)) 257) (slice_index (b ∷ l) 0 == 64) is in
        let sizes = and_parts (nat_le 2 (length (b ∷ l))) (nat_le (length (b ∷ l)) 257) parts.0 in
        let low = leb-true 2 (length (b ∷ l)) sizes.0 in
        let high = leb-true (length (b ∷ l)) 257 sizes.1 in
        (l, omega arith, omega arith, refl, ap (λ x. 32 ∷ x ∷ l) (eqb-true b 64 parts.1))

pub place_again : (at : List ℕ) (place : Option (List ℕ)) → SpellsPlace at place → (end : Option (List ℕ)) × (raw : Option (List ℕ)) × (at ≡ tail end) × (place_part end ≡ Some raw) × (option_map kept_place raw ≡ place)
place_again at None is = (None, None, is, refl, refl)
place_again at (Some place) (raw, low, high, kept, is) = (
  Some (64 ∷ raw),
  Some raw,
  is,
  cond-true (is_place (64 ∷ raw)) (Some (Some raw)) None
      (and_from (nat_le 2 (length (64 ∷ raw)) && nat_le (length (64 ∷ raw)) 257) true (and_from (nat_le 2 (length (64 ∷ raw))) (nat_le (length (64 ∷ raw)) 257) (le-leb 2 (length (64 ∷ raw)) (omega arith)) (le-leb (length (64 ∷ raw)) 257 (omega arith))) refl),
  ap Some (sym kept),
)
