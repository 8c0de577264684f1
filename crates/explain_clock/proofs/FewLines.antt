-- Lines of which the first three are written.
use Rattle.std.proofs.Common.{◌≡◌, ◌∙◌, ℕ, suc, ◌+◌, ◌-◌, ◌<◌, ◌≤◌, List, [], ◌∷◌, ◌++◌, append_assoc, append-nil, ap, arith, length, length-append, refl, subst, sym, take, zero}
use Rattle.std.specs.Prelude.{Bool, Option, Some, None, true, false, ◌&&◌, ◌==◌, if◌then◌else◌, not, slice_get, slice_index_or}
use Rattle.std.specs.List.{flat_map}
use Rattle.armus_base.specs.declared.event.Event.{Event}
use Rattle.clock_source_map.specs.ClockOrigins.{MadeThing}
use Rattle.std.proofs.lemmas.Grind.{flat_map-append}
use Rattle.explain_clock.specs.ClockExplanations.{few_lines, line_if_pending, lines_below, pending_line, pending_named}
use Rattle.explain_clock.specs.ClockKeepers.{others_line}
use Rattle.explain_clock.specs.ClockFacts.{ClockFacts}
use Rattle.explain_clock.specs.inside.FewLines.{AddsLines, AreWritten, written_of}

-- the first ones of two lists, one behind the other
take_joined : {A : Type 0} (n : ℕ) (xs ys : List A) → take n (xs ++ ys) ≡ take n xs ++ take (n - length xs) ys
take_joined n [] ys = ap (λ k. take k ys) (let same : n ≡ n - 0 = omega arith in same) ∙ (λ i. take-nothing n i ++ take (n - 0) ys)
  where
    take-nothing : {A : Type 0} (n : ℕ) → ◌≡◌ {A = List A} [] (take n [])
    take-nothing zero = refl
    take-nothing (suc n) = refl
take_joined zero (x ∷ xs) ys = ap (λ k. take k ys) (let same : 0 ≡ 0 - suc (length xs) = omega arith in same)
take_joined (suc n) (x ∷ xs) ys =
    ap (λ l. x ∷ l) (take_joined n xs ys)
    ∙ ap (λ k. x ∷ take n xs ++ take k ys) (let same : n - length xs ≡ suc n - suc (length xs) = omega arith in same)

pub written_none : (old : List ℕ) → AreWritten [] old old 0 0
written_none old = record { written = sym (append-nil old); counted = refl; few = omega arith }

-- one line more, or none
pub written_more : (ls xs : List (List ℕ)) (old out new : List ℕ) (count more i : ℕ) → AreWritten ls old out count i → AddsLines count xs out new more → length xs ≤ 1
    → AreWritten (ls ++ xs) old new more (i + 1)
written_more ls xs old out new count more i so adds one = record {
  written = adds.written
      ∙ ap (λ z. z ++ written_of count xs) so.written
      ∙ append_assoc old (written_of 0 ls) (written_of count xs)
      ∙ ap (λ z. old ++ z) (both ∙ sym all);
  counted = (let e = adds.counted in let f = so.counted in let g = length-append ls xs in omega arith);
  few = (let e = adds.counted in let f = so.few in omega arith);
}
  where
    all : written_of 0 (ls ++ xs) ≡ flat_map (λ (text : List ℕ). text) (take 3 ls) ++ flat_map (λ (text : List ℕ). text) (take (3 - length ls) xs)
    all = ap (flat_map (λ (text : List ℕ). text)) (take_joined 3 ls xs) ∙ flat_map-append (λ (text : List ℕ). text) (take 3 ls) (take (3 - length ls) xs)

    both : written_of 0 ls ++ written_of count xs ≡ flat_map (λ (text : List ℕ). text) (take 3 ls) ++ flat_map (λ (text : List ℕ). text) (take (3 - length ls) xs)
    both = ap (λ k. written_of 0 ls ++ written_of k xs) so.counted

-- a line that is one of the first three
pub adds_first : (count : ℕ) (text old new : List ℕ) → count < 3 → new ≡ old ++ text → AddsLines count (text ∷ []) old new (count + 1)
adds_first count text old new few is = record {
  written = is ∙ ap (λ z. old ++ z) (sym (own count few ∙ append-nil text));
  counted = refl;
}
  where
    own : (n : ℕ) → n < 3 → written_of n (text ∷ []) ≡ text ++ []
    own zero h = refl
    own (suc zero) h = refl
    own (suc (suc zero)) h = refl
    own (suc (suc (suc n))) h = absurd (omega arith)

-- and one behind them
pub adds_later : (count : ℕ) (text old new : List ℕ) → 3 ≤ count → new ≡ old → AddsLines count (text ∷ []) old new (count + 1)
adds_later count text old new many is = record {
  written = is ∙ sym (append-nil old) ∙ ap (λ k. old ++ flat_map (λ (t : List ℕ). t) (take k (text ∷ []))) (let none : 0 ≡ 3 - count = omega arith in none);
  counted = refl;
}

pub adds_none : (count : ℕ) (old new : List ℕ) → new ≡ old → AddsLines count [] old new count
adds_none count old new is = record {
  written = is ∙ sym (append-nil old) ∙ ap (λ z. old ++ z) (nothing (3 - count));
  counted = (let e : count ≡ count + 0 = omega arith in e);
}
  where
    nothing : (k : ℕ) → ◌≡◌ {A = List ℕ} [] (flat_map (λ (t : List ℕ). t) (take k []))
    nothing zero = refl
    nothing (suc k) = refl

-- and the number of the others
pub few_written : (ls : List (List ℕ)) (old out new : List ℕ) (count i : ℕ) → AreWritten ls old out count i → new ≡ out ++ others_line (count - 3)
    → new ≡ old ++ few_lines ls
few_written ls old out new count i so is =
    is ∙ ap (λ z. z ++ others_line (count - 3)) so.written ∙ append_assoc old (written_of 0 ls) (others_line (count - 3))
    ∙ ap (λ n. old ++ (written_of 0 ls ++ others_line (n - 3))) so.counted

-- ---- those that are pending

one_pending : (f : ClockFacts) (e : Event) (row : List Bool) (p : ℕ) → length (line_if_pending f e row p) ≤ 1
one_pending f e row p = by (slice_index_or row p false && not (p == e.p.0)) (slice_get f.of_text.things p)
  where
    named : (name : Option (List ℕ)) (n : ℕ) → length (pending_named f.of_text name n) ≤ 1
    named None n = omega arith
    named (Some x) n = omega arith

    by : (b : Bool) (thing : Option MadeThing) → length (if b then pending_line f.of_text thing else []) ≤ 1
    by true None = omega arith
    by true (Some thing) = named thing.name thing.statement
    by false thing = omega arith

-- the line of one clock more
pub pending_more : (f : ClockFacts) (e : Event) (row : List Bool) (old out new : List ℕ) (count more p : ℕ) → AreWritten (lines_below (line_if_pending f e row) p) old out count p
    → AddsLines count (line_if_pending f e row p) out new more → AreWritten (lines_below (line_if_pending f e row) (p + 1)) old new more (p + 1)
pending_more f e row old out new count more p so adds =
    let next : suc p ≡ p + 1 = omega arith in
    subst (λ (n : ℕ). AreWritten (lines_below (line_if_pending f e row) n) old new more (p + 1)) next
    (written_more (lines_below (line_if_pending f e row) p) (line_if_pending f e row p) old out new count more p so adds (one_pending f e row p))
