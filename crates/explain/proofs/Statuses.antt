-- The status of a text, by its fault or by the state in which its run ends; and that it is one.
use Rattle.std.proofs.Common.{◌≡◌, ◌∙◌, ◌⊎◌, ℕ, Bool, true, false, ap, arith, inl, inr, refl, sym}
use Rattle.std.specs.Prelude.{◌↔◌, if◌then◌else◌}
use Rattle.std.proofs.lemmas.Bool.{false≢true}
use Rattle.armus_base.specs.States.{State}
use Rattle.program_io.specs.Texts.{Text}
use Rattle.explain.specs.Explained.{IsStatusBy}

-- what tells the same of who stays has the same status
pub one_status : (x y : Bool) (status other : ℕ) → status ≡ (if x then 1 else 0) → other ≡ (if y then 1 else 0) → x ≡ y → status ≡ other
one_status x y status other is are same = is ∙ ap (λ (w : Bool). if w then 1 else 0) same ∙ sym are

-- an output that tells something, or refuses, is one: where each of both is, and not both are there
pub one_answer : (Tells : ℕ → Text → Type 0) (Refuses : Text → Type 0) → ((status other : ℕ) (lines others : Text) → Tells status lines → Tells other others → (status ≡ other) × (lines ≡ others))
    → ((lines others : Text) → Refuses lines → Refuses others → lines ≡ others) → ((status : ℕ) (lines others : Text) → Tells status lines → Refuses others → ⊥)
    → (status other : ℕ) (lines others : Text) → Tells status lines ⊎ ((status ≡ 3) × Refuses lines) → Tells other others ⊎ ((other ≡ 3) × Refuses others)
    → (status ≡ other) × (lines ≡ others)
one_answer Tells Refuses told refused never status other lines others (inl a) (inl b) = told status other lines others a b
one_answer Tells Refuses told refused never status other lines others (inl a) (inr (three, b)) = absurd (never status lines others a b)
one_answer Tells Refuses told refused never status other lines others (inr (three, a)) (inl b) = absurd (never other others lines b a)
one_answer Tells Refuses told refused never status other lines others (inr (three, a)) (inr (too, b)) = (three ∙ sym too, refused lines others a b)

module _ (has_fault : Type 0) (Ends : (State → Type 0) → Type 0) (SomeStays : State → Type 0) (number : ℕ)
    (or_fault : (Holds : State → Type 0) → Ends Holds → has_fault → ⊥) where
  -- the run ends in this state
  pub status_of_end :
      (s : State) → ((Holds : State → Type 0) → Holds s → Ends Holds) → ((Holds : State → Type 0) → Ends Holds → Holds s) → (some : Bool) →
      number ≡ (if some then 1 else 0) → ((some ≡ true) ↔ SomeStays s) → IsStatusBy has_fault Ends SomeStays number
  status_of_end s ends_so holds_there true one tells = record {
    refused = (λ three. absurd (omega (arith, one, three)), λ fault. absurd (or_fault SomeStays (ends_so SomeStays (tells.0 refl)) fault));
    somebody = (λ _. ends_so SomeStays (tells.0 refl), λ _. one);
    nobody = (
      λ zero. absurd (omega (arith, one, zero)),
      λ none. absurd (holds_there (λ state. SomeStays state → ⊥) none (tells.0 refl)),
    );
  }
  status_of_end s ends_so holds_there false zero tells =
      let nobody : SomeStays s → ⊥ = λ some. false≢true (tells.1 some) in
      let ends : Ends (λ state. SomeStays state → ⊥) = ends_so (λ state. SomeStays state → ⊥) nobody in
      record {
        refused = (λ three. absurd (omega (arith, zero, three)), λ fault. absurd (or_fault (λ state. SomeStays state → ⊥) ends fault));
        somebody = (λ one. absurd (omega (arith, one, zero)), λ some. absurd (nobody (holds_there SomeStays some)));
        nobody = (λ _. ends, λ _. zero);
      }

  -- the text is refused
  pub status_of_fault : number ≡ 3 → has_fault → IsStatusBy has_fault Ends SomeStays number
  status_of_fault three fault = record {
    refused = (λ _. fault, λ _. three);
    somebody = (λ one. absurd (omega (arith, one, three)), λ some. absurd (or_fault SomeStays some fault));
    nobody = (λ zero. absurd (omega (arith, zero, three)), λ none. absurd (or_fault (λ state. SomeStays state → ⊥) none fault));
  }
