-- The notes of clocks and finishes, one after the other.
use Rattle.std.proofs.Common.{◌≡◌, ◌∙◌, ◌+◌, ◌++◌, ◌<◌, ◌&&◌, ◌||◌, ℕ, zero, suc, Bool, true, false, List, ap, append_assoc, arith, length, refl, sym}
use Rattle.std.specs.Prelude.{slice_get, slice_index_or}
use Rattle.armus_base.specs.Places.{some_before}
use Rattle.armus_base.specs.Plans.{Plan}
use Rattle.clock_source_map.specs.ClockOrigins.{MadeThing}
use Rattle.explain_facts.specs.PhaserUses.{is_used_so}
use Rattle.explain_facts.specs.calls.Used.{AreUsed}
use Rattle.explain_facts.specs.declared.uses.PhaserUse.{PhaserUse}
use Rattle.explain_clock.specs.ClockFacts.{ClockTextValue}
use Rattle.explain_clock.specs.ClockNotes.{clock_notes_below, is_made_at, is_used_at, note_of_thing}

-- none of one more
pub none_more : (test : ℕ → Bool) (k : ℕ) → some_before test k ≡ false → test k ≡ false → some_before test (k + 1) ≡ false
none_more test k none this =
    let one : suc k ≡ k + 1 = omega arith in
    sym (ap (some_before test) one) ∙ ap (λ b. b || some_before test k) this ∙ none

pub both_are : (a b : Bool) → a ≡ true → b ≡ true → (a && b) ≡ true
both_are a b x y = ap (λ c. c && b) x ∙ y

-- two tests that agree below n
pub some_alike : (f g : ℕ → Bool) (n : ℕ) → ((k : ℕ) → k < n → f k ≡ g k) → some_before f n ≡ some_before g n
some_alike f g zero same = refl
some_alike f g (suc n) same =
    ap (λ b. b || some_before f n) (same n (omega arith)) ∙ ap (λ b. g n || b) (some_alike f g n (λ k lt. same k (omega (arith, lt))))

-- by marks, and by the plan
pub used_by_marks : (use_so : PhaserUse) (things : List MadeThing) (plan : Plan) (marks : List Bool) (n : ℕ) → AreUsed use_so plan marks →
    some_before (λ p. is_made_at n (slice_get things p) && slice_index_or marks p false) (length plan.makers) ≡ is_used_at use_so things plan n
used_by_marks use_so things plan marks n are =
    some_alike (λ p. is_made_at n (slice_get things p) && slice_index_or marks p false) (λ p. is_made_at n (slice_get things p) && is_used_so use_so plan p)
    (length plan.makers) (λ k lt. ap (λ b. is_made_at n (slice_get things k) && b) (are.each k lt))

-- one note more
pub clock_notes_more : (f : ClockTextValue) (plan : Plan) (p : ℕ) (out now next : List ℕ) → now ≡ out ++ clock_notes_below f plan p →
    next ≡ now ++ note_of_thing f plan p (slice_get f.things p) → next ≡ out ++ clock_notes_below f plan (p + 1)
clock_notes_more f plan p out now next so is =
    let one : suc p ≡ p + 1 = omega arith in
    is
    ∙ ap (λ z. z ++ note_of_thing f plan p (slice_get f.things p)) so
    ∙ append_assoc out (clock_notes_below f plan p) (note_of_thing f plan p (slice_get f.things p))
    ∙ ap (λ n. out ++ clock_notes_below f plan n) one
