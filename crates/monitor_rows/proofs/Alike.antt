-- To keep others waiting alike, and to wait alike, are equivalences.
use Rattle.std.proofs.Common.{ℕ, Bool, ◌&&◌, List, ◌∙◌, ap}
use Rattle.std.specs.Prelude.{◌==◌, bytes_eq}
use Rattle.std.specs.Cmp.{IsEquivalence}
use Rattle.std.specs.Cmp.Lexicographic.{options_equiv}
use Rattle.std.specs.Option.{option_eq}
use Rattle.std.proofs.lemmas.Bool.{and_parts}
use Rattle.std.proofs.lemmas.Cmp.{nat_eq_equiv, nat_list_eq_equiv}
use Rattle.monitor_laws.specs.Faults.{phase_on}
use Rattle.monitor_laws.specs.States.{Participant}
use Rattle.monitor_words.specs.Stops.{waited_for}
use Rattle.monitor_words.specs.Words.{keep_alike, keeper_words, wait_alike}

-- of a value that each has
pub equivalent_on : {A K : Type 0} {E : K → K → Bool} (f : A → K) → IsEquivalence E → IsEquivalence (λ (x y : A). E (f x) (f y))
equivalent_on f laws =
    record { refl = λ x. laws.refl (f x); symm = λ x y. laws.symm (f x) (f y); congr = λ x y z same. laws.congr (f x) (f y) (f z) same }

-- of both
pub both_equivalent : {A : Type 0} {E F : A → A → Bool} → IsEquivalence E → IsEquivalence F → IsEquivalence (λ (x y : A). E x y && F x y)
both_equivalent {A} {E} {F} e f =
    record {
      refl = λ x. ap (λ b. b && F x x) (e.refl x) ∙ f.refl x;
      symm = λ x y. ap (λ b. b && F x y) (e.symm x y) ∙ ap (λ b. E y x && b) (f.symm x y);
      congr = λ x y z same.
          let parts = and_parts (E x y) (F x y) same in
          ap (λ b. b && F x z) (e.congr x y z parts.0) ∙ ap (λ b. E y z && b) (f.congr x y z parts.1);
    }

pub keep_alike_laws : (stuck : ℕ → Bool) (p : List ℕ) → IsEquivalence (keep_alike stuck p)
keep_alike_laws stuck p =
    both_equivalent {E = λ (u v : Participant). option_eq (λ m k. m == k) (phase_on u p) (phase_on v p)} {F = λ (u v : Participant). option_eq bytes_eq u.place v.place && bytes_eq (keeper_words stuck u) (keeper_words stuck v)}
    (equivalent_on {E = option_eq (λ m k. m == k)} (λ (u : Participant). phase_on u p) (options_equiv nat_eq_equiv))
    (both_equivalent {E = λ (u v : Participant). option_eq bytes_eq u.place v.place} {F = λ (u v : Participant). bytes_eq (keeper_words stuck u) (keeper_words stuck v)}
    (equivalent_on {E = option_eq bytes_eq} (λ (u : Participant). u.place) (options_equiv nat_list_eq_equiv))
    (equivalent_on {E = bytes_eq} (keeper_words stuck) nat_list_eq_equiv))

-- the same phaser and phase
abbrev same_event : List ℕ × ℕ → List ℕ × ℕ → Bool
same_event d e = bytes_eq d.0 e.0 && (d.1 == e.1)

same_event_laws : IsEquivalence same_event
same_event_laws =
    both_equivalent {E = λ (d e : List ℕ × ℕ). bytes_eq d.0 e.0} {F = λ (d e : List ℕ × ℕ). d.1 == e.1}
    (equivalent_on {E = bytes_eq} (λ (d : List ℕ × ℕ). d.0) nat_list_eq_equiv)
    (equivalent_on {E = λ m k. m == k} (λ (d : List ℕ × ℕ). d.1) nat_eq_equiv)

pub wait_alike_laws : IsEquivalence wait_alike
wait_alike_laws =
    both_equivalent {E = λ (t u : Participant). option_eq same_event (waited_for t.condition) (waited_for u.condition)} {F = λ (t u : Participant). option_eq bytes_eq t.place u.place}
    (equivalent_on {E = option_eq same_event} (λ (t : Participant). waited_for t.condition) (options_equiv same_event_laws))
    (equivalent_on {E = option_eq bytes_eq} (λ (t : Participant). t.place) (options_equiv nat_list_eq_equiv))
