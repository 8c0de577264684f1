-- The parts of a line, as slices of the text.
use Rattle.std.proofs.Common.{◌≡◌, ℕ, ◌+◌, ◌-◌, ◌≤◌, List, ◌++◌, length, take, drop, sym, ap, ◌∙◌, arith}
use Rattle.std.specs.Prelude.{reverse}
use Rattle.std.proofs.Math.Seq.{take-add}
use Rattle.std.proofs.lemmas.List.{reverse-append, reverse-reverse, length-reverse, length-drop, length-take-le, take-append-drop, take_at, drop-take, drop-drop}

-- the last bytes, taken from the end
pub last_bytes : (xs : List ℕ) (n : ℕ) → n ≤ length xs → reverse (take n (reverse xs)) ≡ drop (length xs - n) xs
last_bytes xs n h =
    let front = take (length xs - n) xs in
    let back = drop (length xs - n) xs in
    let turned : reverse xs ≡ reverse back ++ reverse front = ap reverse (sym (take-append-drop (length xs - n) xs)) ∙ reverse-append front back in
    let many : length (reverse back) ≡ n = length-reverse back ∙ (length-drop (length xs - n) xs ∙ omega arith) in
    ap (λ l. reverse (take n l)) turned ∙ (ap reverse (take_at (reverse back) (reverse front) n many) ∙ reverse-reverse back)

-- those of its line before a place
pub front_is : (text : List ℕ) (at n : ℕ) → at ≤ length text → n ≤ at → take n (drop (at - n) text) ≡ reverse (take n (reverse (take at text)))
front_is text at n a b =
    let len : length (take at text) ≡ at = length-take-le at text a in
    let whole : at - n + n ≡ at = omega arith in
    sym (drop-take (at - n) n text) ∙ (ap (λ k. drop (at - n) (take k text)) whole
    ∙ (ap (λ k. drop (k - n) (take at text)) (sym len) ∙ sym (last_bytes (take at text) n (omega arith))))

-- the whole line
pub line_is : (text : List ℕ) (at n m : ℕ) → at ≤ length text → n ≤ at →
    take (n + m) (drop (at - n) text) ≡ reverse (take n (reverse (take at text))) ++ take m (drop at text)
line_is text at n m a b =
    let whole : at - n + n ≡ at = omega arith in
    take-add n m (drop (at - n) text) ∙ (ap (λ l. l ++ take m (drop n (drop (at - n) text))) (front_is text at n a b)
    ∙ ap (λ l. reverse (take n (reverse (take at text))) ++ take m l) (drop-drop n (at - n) text ∙ ap (λ k. drop k text) whole))

-- the same with other names for the numbers
pub line_so : (text : List ℕ) (at n m n' m' : ℕ) → at ≤ length text → n ≤ at → n ≡ n' → m ≡ m' →
    take (at + m - (at - n)) (drop (at - n) text) ≡ reverse (take n' (reverse (take at text))) ++ take m' (drop at text)
line_so text at n m n' m' a b p q =
    let back : at + m - (at - n) ≡ n + m = omega arith in
    ap (λ k. take k (drop (at - n) text)) back ∙ (line_is text at n m a b
    ∙ (ap (λ k. reverse (take k (reverse (take at text))) ++ take m (drop at text)) p ∙ ap (λ k. reverse (take n' (reverse (take at text))) ++ take k (drop at text)) q))
