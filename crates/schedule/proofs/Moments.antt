-- The runs at the loads of a pass: each is legal, and no later one stands at earlier places.
use Rattle.std.proofs.Common.{◌≡◌, ◌<◌, ◌≤◌, ℕ, zero, suc, List, [], ◌∷◌, ◌++◌, Some, length, arith, sym, subst, inl, inr, refl, ◌⊎◌}
use Rattle.std.specs.Prelude.{slice_get}
use Rattle.armus_base.specs.Plans.{Plan}
use Rattle.armus_base.specs.States.{Step}
use Rattle.armus_base.specs.calls.Runs.{ArePrefixes}
use Rattle.armus_base.specs.Runs.{IsLegalRun, places}
use Rattle.armus_base.proofs.Places.{prefixes_itself, prefixes_trans, step_later}
use Rattle.schedule.specs.Passes.{PassLoads}

-- each load was made after a legal run, at places at or before those of h, and later loads at later places
pub record AreMoments (plan : Plan) (loads : PassLoads) (h : List Step) : Type 0 where
  pub legal : (i : ℕ) (g : List Step) → slice_get loads i ≡ Some g → IsLegalRun plan g
  pub before : (i : ℕ) (g : List Step) → slice_get loads i ≡ Some g → ArePrefixes (places g) (places h)
  pub rising : (i j : ℕ) (g f : List Step) → i ≤ j → slice_get loads i ≡ Some g → slice_get loads j ≡ Some f → ArePrefixes (places g) (places f)

pub no_moments : (plan : Plan) (h : List Step) → AreMoments plan [] h
no_moments plan h = record { legal = λ i g e. absurd (cc); before = λ i g e. absurd (cc); rising = λ i j g f l e d. absurd (cc) }

-- the last of these is h, or it is one of the others
last_or : (loads : PassLoads) (h : List Step) (i : ℕ) (g : List Step) → slice_get (loads ++ h ∷ []) i ≡ Some g →
    (slice_get loads i ≡ Some g × i < length loads) ⊎ (g ≡ h × i ≡ length loads)
last_or [] h zero g e = inr (cc, refl)
last_or [] h (suc i) g e = absurd (cc)
last_or (f ∷ loads) h zero g e = inl (e, omega arith)
last_or (f ∷ loads) h (suc i) g e =
    elim (last_or loads h i g e) [ inl (k, l) ↦ inl (k, omega arith) | inr (same, l) ↦ inr (same, omega arith) ]

-- one more load
pub more_moments : (plan : Plan) (loads : PassLoads) (h : List Step) → AreMoments plan loads h → IsLegalRun plan h → AreMoments plan (loads ++ h ∷ []) h
more_moments plan loads h were run =
    record {
      legal = λ i g e. elim (last_or loads h i g e) [ inl (k, l) ↦ were.legal i g k | inr (same, l) ↦ subst (IsLegalRun plan) (sym same) run ];
      before = before;
      rising = λ i j g f l e d. elim (last_or loads h j f d) [
        | inl (k, m) ↦ elim (last_or loads h i g e) [
          | inl (kk, mm) ↦ were.rising i j g f l kk k
          | inr (same, mm) ↦ absurd (omega arith)
        ]
        | inr (same, m) ↦ subst (λ x. ArePrefixes (places g) (places x)) (sym same) (before i g e)
      ];
    }
  where
    before : (i : ℕ) (g : List Step) → slice_get (loads ++ h ∷ []) i ≡ Some g → ArePrefixes (places g) (places h)
    before i g e =
        elim (last_or loads h i g e) [
          | inl (k, l) ↦ were.before i g k
          | inr (same, l) ↦ subst (λ x. ArePrefixes (places x) (places h)) (sym same) (prefixes_itself (places h))
        ]

-- one more step
pub moments_stay : (plan : Plan) (loads : PassLoads) (h : List Step) (d : Step) → AreMoments plan loads h → AreMoments plan loads (d ∷ h)
moments_stay plan loads h d were =
    record {
      legal = were.legal;
      before = λ i g e. prefixes_trans (places g) (places h) (places (d ∷ h)) (step_later h d) (were.before i g e);
      rising = were.rising;
    }
