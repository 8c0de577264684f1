-- An activity that is started, in both machines.
use Rattle.std.proofs.Common.{◌≡◌, ℕ, Bool, true, false, Some, None, List, [], ◌∷◌, ◌∙◌, ap, refl}
use Rattle.std.specs.List.{list_any}
use Rattle.std.specs.Str.{bytes_eq}
use Rattle.std.specs.Prelude.{◌&&◌, ◌||◌, if◌then◌else◌, map}
use Rattle.std.specs.Option.{option_map}
use Rattle.clock_laws.specs.calls.Direct.{ClockState, enrolling, enrolling_all}
use Rattle.clock_semantics.specs.Unfolding.{ClockUnfolding, innermost}
use Rattle.clock_semantics.specs.calls.ProgramPoints.{ProgramPoint, finishes_around}
use Rattle.clock_laws.specs.TextMachine.{Activity, Clock, Continuation, Made, TextState, closes, enrolled_with, enrols_on, governing, is_made, leaves, over, reads, turns, with_clock}
use Rattle.clock_laws.specs.TextNumbers.{IsActivityIn, IsMadeIn, made_in, number_in}
use Rattle.clock_laws.proofs.Changing.{clock_entry, phase_same}
use Rattle.clock_laws.proofs.Corresponding.{Finishes, Fits, closes_so, leaves_so, reads_so, turns_so}
use Rattle.clock_laws.proofs.Tables.{Agrees, HaveNames, entry_agrees, in_more, is_in, made_itself}

-- ---- several clocks

-- one of these clocks
abbrev pub stands_in : Made → List Made → Bool
stands_in q ps = list_any (λ p. is_made p q) ps

pub enrols_acting : (k : Activity) (ps : List Made) (s : TextState) → (enrols_on k ps s).acting ≡ s.acting
enrols_acting k [] s = refl
enrols_acting k (p ∷ ps) s = enrols_acting k ps (with_clock p (enrolled_with k (s.clock_of p)) s)

pub enrols_there : (k : Activity) (ps : List Made) (s : TextState) → (enrols_on k ps s).there ≡ s.there
enrols_there k [] s = refl
enrols_there k (p ∷ ps) s = enrols_there k ps (with_clock p (enrolled_with k (s.clock_of p)) s)

pub enrols_open : (k : Activity) (ps : List Made) (s : TextState) → (enrols_on k ps s).open_set ≡ s.open_set
enrols_open k [] s = refl
enrols_open k (p ∷ ps) s = enrols_open k ps (with_clock p (enrolled_with k (s.clock_of p)) s)

-- who is in a list of a clock then
pub enrols_in :
    (side : Clock → List Activity) (k : Activity) → ((c : Clock) → side (enrolled_with k c) ≡ k ∷ side c) → (ps : List Made) (s : TextState) (q : Made) (b : Activity) →
    is_in b (side ((enrols_on k ps s).clock_of q)) ≡ (if stands_in q ps && bytes_eq k b then true else is_in b (side (s.clock_of q)))
enrols_in side k is [] s q b = refl
enrols_in side k is (p ∷ ps) s q b =
    enrols_in side k is ps (with_clock p (enrolled_with k (s.clock_of p)) s) q b
    ∙ ap (λ z. if stands_in q ps && bytes_eq k b then true else z)
    (clock_entry s p (enrolled_with k (s.clock_of p)) side k true (λ c. ap (is_in c) (is (s.clock_of p)) ∙ in_more k c (side (s.clock_of p))) q b)
    ∙ either (is_made p q) (stands_in q ps) (bytes_eq k b) (is_in b (side (s.clock_of q)))
  where
    either : (x y z o : Bool) → (if y && z then true else (if x && z then true else o)) ≡ (if (x || y) && z then true else o)
    either true true true o = refl
    either true true false o = refl
    either true false true o = refl
    either true false false o = refl
    either false true true o = refl
    either false true false o = refl
    either false false true o = refl
    either false false false o = refl

module _ (u : ClockUnfolding) (names : HaveNames u) where
  -- the tables of clocks and finishes agree
  pub record Tables (s : TextState) (m : ClockState) : Type 0 where
    pub phase : (p : Made) → IsMadeIn u p → (s.clock_of p).phase ≡ m.phase (made_in u p)
    pub enrolled : Agrees u (λ p a. is_in a (s.clock_of p).enrolled) m.enrolled
    pub unsignalled : Agrees u (λ p a. is_in a (s.clock_of p).unsignalled) m.unsignalled

  pub enrols_agree : (k : Activity) → IsActivityIn u k → (ps : List Made) → ((p : Made) → stands_in p ps ≡ true → IsMadeIn u p) → (s : TextState) (m : ClockState) → Tables s m →
      Tables (enrols_on k ps s) (enrolling_all (number_in u k) (map (made_in u) ps) m)
  enrols_agree k is [] made s m h = h
  enrols_agree k is (p ∷ ps) made s m h =
      let here : IsMadeIn u p = made p (ap (λ b. b || stands_in p ps) (made_itself p)) in
      let e = enrolled_with k (s.clock_of p) in
      enrols_agree k is ps (λ q e. made q (right (is_made p q) (stands_in q ps) e)) (with_clock p e s) (enrolling (number_in u k) (made_in u p) m)
      (record {
        phase = λ q x. phase_same s p e refl q ∙ h.phase q x;
        enrolled =
            entry_agrees u names (λ q a. is_in a (s.clock_of q).enrolled) (λ q a. is_in a ((with_clock p e s).clock_of q).enrolled) m.enrolled p k true here is
            (clock_entry s p e (λ (z : Clock). z.enrolled) k true (λ b. in_more k b (s.clock_of p).enrolled)) h.enrolled;
        unsignalled =
            entry_agrees u names (λ q a. is_in a (s.clock_of q).unsignalled) (λ q a. is_in a ((with_clock p e s).clock_of q).unsignalled) m.unsignalled p k true here is
            (clock_entry s p e (λ (z : Clock). z.unsignalled) k true (λ b. in_more k b (s.clock_of p).unsignalled)) h.unsignalled;
      })
    where
      right : (x y : Bool) → y ≡ true → (x || y) ≡ true
      right true y e = refl
      right false y e = e

  -- registrations of another activity leave the other tables
  pub enrols_leave : (k : ℕ) (ps : List ℕ) (m : ClockState) →
      ((enrolling_all k ps m).open_set ≡ m.open_set) × ((enrolling_all k ps m).remembered ≡ m.remembered) × ((enrolling_all k ps m).started ≡ m.started)
      × ((enrolling_all k ps m).left ≡ m.left)
  enrols_leave k [] m = (refl, refl, refl, refl)
  enrols_leave k (p ∷ ps) m = enrols_leave k ps (enrolling k p m)

  -- the finish that governs
  pub governed_by_finish : (c : Continuation) → Finishes u c → Finishes u (leaves (governing c))
  governed_by_finish (reads body rest) h = governed_by_finish rest h
  governed_by_finish (turns k body rest) h = governed_by_finish rest h
  governed_by_finish (closes f rest) h = h.0
  governed_by_finish (leaves None) h = h
  governed_by_finish (leaves (Some f)) h = h
  governed_by_finish over h = tt

  pub governs_alike : {point : ProgramPoint} {c : Continuation} → Fits u point c → innermost (finishes_around point) ≡ option_map (made_in u) (governing c)
  governs_alike (reads_so fits) = governs_alike fits
  governs_alike (turns_so fits) = governs_alike fits
  governs_alike (closes_so fits) = refl
  governs_alike (leaves_so {f = None}) = refl
  governs_alike (leaves_so {f = Some f}) = refl
