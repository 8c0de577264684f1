-- Decimals of at most nine digits, as bytes.
use Rattle.std.proofs.Common.{◌≡◌, ◌<◌, ◌^◌, ℕ, List, length, Ok, Err, arith, get_or, subst, sym, ap, zero, suc}
use Rattle.std.specs.Fmt.{decimal}
use Rattle.std.specs.Str.{IsUtf8}
use Rattle.std.specs.Str.Parse.{ParsesUnsigned, AllDigits, digits_value}
use Rattle.std.proofs.lemmas.Str.{IsUtf8-from_ascii}
use Rattle.std.proofs.lemmas.Str.Parse.{IsNumeralModel, numerals_by_value, tells_digits, parse_plain, digits_value_short, not_in_digits}
use Rattle.std.proofs.lemmas.Fmt.{decimal-digits_value, digits_decimal, digits_value-decimal, length-decimal-le, decimal_nonempty, first_decimal, decimal_digit, IsAscii-decimal}
use Rattle.schedule.specs.inside.Numbers.{MayBeNumber}

own : IsNumeralModel (AllDigits 10) (digits_value 10)
own = numerals_by_value (AllDigits 10) tells_digits

-- the decimal of a number below 10^9 may be a number
no_leading_zero : (n : ℕ) → n < 2 ^ 64 → get_or (decimal n) 0 0 ≡ 48 → length (decimal n) ≡ 1
no_leading_zero zero small h = ap length (decimal_digit 0 (omega arith))
no_leading_zero (suc m) small h = absurd (omega (arith, first_decimal (suc m) (omega arith) small))

pub decimal_may_be : (n : ℕ) → n < 10 ^ 9 → MayBeNumber (decimal n)
decimal_may_be n small =
    let fits : n < 2 ^ 64 = omega arith in
    let some = decimal_nonempty n fits in
    record {
      some = some;
      few = length-decimal-le 9 n (omega arith) small fits;
      no_zero = no_leading_zero n fits;
      no_sign = not_in_digits own (decimal n) 43 (digits_decimal own n fits) (λ h. absurd (omega arith)) 0 some;
    }

-- what is no number is no decimal
pub not_number : (bytes : List ℕ) → (MayBeNumber bytes → ⊥) → (n : ℕ) → n < 10 ^ 9 → bytes ≡ decimal n → ⊥
not_number bytes refused n small same = refused (subst MayBeNumber (sym same) (decimal_may_be n small))

-- nor are bytes that are no UTF-8
pub not_text : (bytes : List ℕ) → (IsUtf8 bytes → ⊥) → (n : ℕ) → n < 10 ^ 9 → bytes ≡ decimal n → ⊥
not_text bytes refused n small same = refused (subst IsUtf8 (sym same) (IsUtf8-from_ascii (decimal n) (IsAscii-decimal n (omega arith))))

-- what is read is the number whose decimal the bytes are
pub read_number : (bytes : List ℕ) (v : ℕ) → MayBeNumber bytes → ParsesUnsigned {E = ℕ} 32 10 bytes (Ok v) → (v < 10 ^ 9) × (bytes ≡ decimal v)
read_number bytes v may read =
    let (h, is) = parse_plain own {E = ℕ} 32 bytes (Ok v) read may.no_sign in
    let short : digits_value 10 bytes < 10 ^ 9 = digits_value_short own bytes 9 h.0 may.few in
    let fits : digits_value 10 bytes < 2 ^ 64 = omega arith in
    let text = decimal-digits_value own bytes h.0 h.1 may.no_zero fits in
    (omega arith, sym (subst (λ w. decimal w ≡ bytes) (sym is) text))

pub not_read : (bytes : List ℕ) (e : ℕ) → MayBeNumber bytes → ParsesUnsigned {E = ℕ} 32 10 bytes (Err e) → (n : ℕ) → n < 10 ^ 9 → bytes ≡ decimal n → ⊥
not_read bytes e may read n small same =
    let fits : n < 2 ^ 64 = omega arith in
    let refused = parse_plain own {E = ℕ} 32 bytes (Err e) read may.no_sign in
    refused (
      subst (AllDigits 10) (sym same) (digits_decimal own n fits),
      may.some,
      subst (λ b. digits_value 10 b < 2 ^ 32) (sym same) (omega (arith, digits_value-decimal own n fits)),
    )
