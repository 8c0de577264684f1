-- Numbers by their digits.
use Rattle.std.proofs.Common.{◌≡◌, ◌<◌, ◌≤◌, ◌^◌, ℕ, zero, suc, true, false, ◌&&◌, Some, None, List, [], ◌∷◌, length, Err, arith, sym, inl, inr}
use Rattle.std.specs.Prelude.{IsAscii, nat_le, nat_lt, ◌||◌, ◌==◌, not, slice_index}
use Rattle.std.specs.Str.{IsUtf8}
use Rattle.std.specs.Str.Parse.{ParsesUnsigned, AllDigits, digits_value}
use Rattle.std.specs.Char.{digit_value}
use Rattle.std.proofs.lemmas.Bool.Decides.{nat_tests}
use Rattle.std.proofs.lemmas.Str.{IsUtf8-from_ascii}
use Rattle.std.proofs.lemmas.Bool.{and_from, and_parts, and_left, and_right, cond-true, cond-false, lt-ltb, le-ltb, leb-true, cases_lt}
use Rattle.std.proofs.lemmas.Str.Parse.{IsNumeralModel, numerals_by_value, tells_digits, parse_digits}
use Rattle.trace_lines.specs.inside.Reading.{are_digits, is_phase_number, may_be_number, phase_number_at}

pub own : IsNumeralModel (AllDigits 10) (digits_value 10)
own = numerals_by_value (AllDigits 10) tells_digits

pub number_is : (w : List ℕ) → may_be_number w ≡ true → digits_value 10 w < 2 ^ 32 → phase_number_at w ≡ Some (digits_value 10 w)
number_is w may small = cond-true (is_phase_number w) (Some (digits_value 10 w)) None (and_from (may_be_number w) (nat_lt (digits_value 10 w) (2 ^ 32)) may (lt-ltb (digits_value 10 w) (2 ^ 32) small))

pub number_is_none : (w : List ℕ) → may_be_number w ≡ false → phase_number_at w ≡ None
number_is_none w may = cond-false (is_phase_number w) (Some (digits_value 10 w)) None (and_left (may_be_number w) (nat_lt (digits_value 10 w) (2 ^ 32)) may)

pub number_is_large : (w : List ℕ) → 2 ^ 32 ≤ digits_value 10 w → phase_number_at w ≡ None
number_is_large w large = cond-false (is_phase_number w) (Some (digits_value 10 w)) None (and_right (may_be_number w) (nat_lt (digits_value 10 w) (2 ^ 32)) (le-ltb (digits_value 10 w) (2 ^ 32) large))

pub all_digits : (w : List ℕ) → are_digits w ≡ true → AllDigits 10 w
all_digits [] are = tt
all_digits (b ∷ w) are =
    let parts = and_parts (nat_le 48 b && nat_le b 57) (are_digits w) are in
    let bounds = and_parts (nat_le 48 b) (nat_le b 57) parts.0 in
    (digit b (leb-true 48 b bounds.0) (leb-true b 57 bounds.1), all_digits w parts.1)
  where
    digit : (b : ℕ) → 48 ≤ b → b ≤ 57 → digit_value b < 10
    digit b low high = grind (arith, nat_tests)

pub digits_of : (w : List ℕ) → may_be_number w ≡ true → are_digits w ≡ true
digits_of w may = (and_parts (nat_le 1 (length w) && nat_le (length w) 10 && (length w == 1 || not (slice_index w 0 == 48))) (are_digits w) may).1

pub some_of : (w : List ℕ) → may_be_number w ≡ true → 0 < length w
some_of w may =
    let three = (and_parts (nat_le 1 (length w) && nat_le (length w) 10 && (length w == 1 || not (slice_index w 0 == 48))) (are_digits w) may).0 in
    let two = (and_parts (nat_le 1 (length w) && nat_le (length w) 10) (length w == 1 || not (slice_index w 0 == 48)) three).0 in
    leb-true 1 (length w) (and_parts (nat_le 1 (length w)) (nat_le (length w) 10) two).0

pub not_parsed : (w : List ℕ) (e : ℕ) → may_be_number w ≡ true → ParsesUnsigned {E = ℕ} 32 10 w (Err e) → None ≡ phase_number_at w
not_parsed w e may read =
    let refused = parse_digits own {E = ℕ} 32 w (Err e) read (all_digits w (digits_of w may)) in
    elim (cases_lt (digits_value 10 w) (2 ^ 32)) [
      | inl small ↦ absurd (refused (some_of w may, small))
      | inr large ↦ sym (number_is_large w large)
    ]

digits_ascii : (l : List ℕ) → are_digits l ≡ true → IsAscii l
digits_ascii [] are i = omega arith
digits_ascii (b ∷ l) are zero =
    let parts = and_parts (nat_le 48 b && nat_le b 57) (are_digits l) are in
    let high = leb-true b 57 (and_parts (nat_le 48 b) (nat_le b 57) parts.0).1 in omega arith
digits_ascii (b ∷ l) are (suc i) = digits_ascii l (and_parts (nat_le 48 b && nat_le b 57) (are_digits l) are).1 i

pub not_text : (w : List ℕ) → may_be_number w ≡ true → (IsUtf8 w → ⊥) → None ≡ phase_number_at w
not_text w may refused = absurd (refused (IsUtf8-from_ascii w (digits_ascii w (digits_of w may))))
