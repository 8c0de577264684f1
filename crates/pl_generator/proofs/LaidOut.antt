-- What is written piece by piece is the text.
use Rattle.std.proofs.Common.{◌≡◌, ℕ, ◌%◌, ◌^◌, ◌<◌, ◌≤◌, Bool, true, false, List, [], ◌∷◌, ◌++◌, length, drop, refl, ap, sym, ◌∙◌, subst, append_assoc, arith, lit≤}
use Rattle.std.specs.Prelude.{◌==◌, codes, decimal}
use Rattle.std.proofs.lemmas.Fmt.{length-decimal-le}
use Rattle.std.proofs.lemmas.List.{length-append}
use Rattle.std.specs.List.{flat_map}
use Rattle.pl_generator.specs.declared.text.TheConstants.{MAKES_PHASERS, MAKES_WORKERS, MAX_GENERATED_BYTES}
use Rattle.pl_syntax.specs.Printed.{line}
use Rattle.pl_generator.specs.Generated.{lines_after_loop, generated_text}

pub laid_out : (n : ℕ) → MAKES_PHASERS.now ++ decimal n ++ MAKES_WORKERS.now ++ flat_map line (lines_after_loop n) ≡ generated_text n
laid_out n =
    let last : List ℕ = flat_map line (lines_after_loop n) in
    let behind : List ℕ = drop 3 MAKES_WORKERS.now ++ last in
    ap (λ (xs : List ℕ). MAKES_PHASERS.now ++ xs)
    (append_assoc (decimal n) MAKES_WORKERS.now last
    ∙ sym (append_assoc (decimal n ++ codes " {") (10 ∷ []) behind ∙ append_assoc (decimal n) (codes " {") (10 ∷ behind)))

-- what task 0 does behind its loop is at most three lines
last_short : (n : ℕ) (stays : Bool) → (n % 3 == 0) ≡ stays → length (flat_map line (lines_after_loop n)) ≤ 31
last_short n true e = rw e (lit≤ tt)
last_short n false e = rw e (lit≤ tt)

pub text_short : (n : ℕ) → n < 2 ^ 16 → length (generated_text n) ≤ MAX_GENERATED_BYTES
text_short n l =
    let digits : length (decimal n) ≤ 5 = length-decimal-le 5 n (omega arith) (omega arith) (omega arith) in
    let last : List ℕ = flat_map line (lines_after_loop n) in
    subst (λ (text : List ℕ). length text ≤ MAX_GENERATED_BYTES) (laid_out n)
    (omega (
      arith,
      length-append (MAKES_PHASERS.now ++ decimal n ++ MAKES_WORKERS.now) last,
      length-append (MAKES_PHASERS.now ++ decimal n) MAKES_WORKERS.now,
      length-append MAKES_PHASERS.now (decimal n),
      last_short n (n % 3 == 0) refl,
    ))
