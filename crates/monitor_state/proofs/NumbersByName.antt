-- The numbers of names after a change of one of them, or of all that begin so.
use Rattle.std.proofs.Common.{◌≡◌, ℕ, Bool, true, false, not, List, None, Option, refl, sym, ◌∙◌, ap, subst, inl, inr}
use Rattle.std.specs.Prelude.{bytes_eq, eqb, filter, if◌then◌else◌, cond}
use Rattle.std.specs.List.{starts_with}
use Rattle.std.specs.Global.{Vec}
use Rattle.std.specs.Cmp.Lexicographic.{nat_list_eq_equiv}
use Rattle.std.specs.HashMap.{HashMap, UpdatesBy}
use Rattle.std.specs.Map.{lookup, IsKeyTest, AreApart, KeepsOthers}
use Rattle.std.proofs.lemmas.Bool.{cases_Bool, cond-true, cond-false}
use Rattle.std.proofs.lemmas.Map.Entries.{lookup-filter-keys}
use Rattle.std.proofs.lemmas.Slice.Eq.{bytes_eq-Decides}
use Rattle.monitor_state.specs.inside.Numbers.{number_by_name}

module _ {K : Type 0} (eq : K → K → Bool) (test : K → Bool) where
  other_entries : {X : Type 0} (old new : List (K × X)) → KeepsOthers eq test old new → (other : K → Bool) → IsKeyTest eq other → AreApart test other → lookup other new ≡ lookup other old
  unfolding KeepsOthers
  other_entries old new kept = kept

-- a name that is equal to one is not equal to another
apart : (bs cs ks : List ℕ) → bytes_eq bs cs ≡ false → bytes_eq bs ks ≡ true → bytes_eq cs ks ≡ false
apart bs cs ks other here = nat_list_eq_equiv.symm cs ks ∙ sym (nat_list_eq_equiv.congr bs ks cs here) ∙ other

pub number_after :
    {S : Type 0} (bs : List ℕ) (m n : HashMap (Vec ℕ) ℕ S) (w : Option ℕ) → UpdatesBy (λ x y. bytes_eq x.items y.items) (λ k. bytes_eq bs k.items) m n w →
    (cs : List ℕ) → number_by_name n cs ≡ (if bytes_eq bs cs then w else number_by_name m cs)
number_after bs m n w updates cs = elim (cases_Bool (bytes_eq bs cs)) [
  | inl here ↦ subst (λ l. number_by_name n l ≡ w) ((bytes_eq-Decides bs cs).0 here) updates.1 ∙ sym (cond-true (bytes_eq bs cs) w (number_by_name m cs) here)
  | inr other ↦ other_entries _ _ _ _ updates.3 _ (λ x y. nat_list_eq_equiv.congr cs x.items y.items) (λ k. apart bs cs k.items other)
      ∙ sym (cond-false (bytes_eq bs cs) w (number_by_name m cs) other)
]

-- without the names that begin so
pub numbers_without :
    {S : Type 0} (beginning : List ℕ) (m n : HashMap (Vec ℕ) ℕ S) → n.entries ≡ filter (λ e. not (starts_with eqb e.0.items beginning)) m.entries →
    (cs : List ℕ) → number_by_name n cs ≡ (if starts_with eqb cs beginning then None else number_by_name m cs)
numbers_without beginning m n is cs =
    ap (lookup (λ (k : Vec ℕ). bytes_eq cs k.items)) is
    ∙ lookup-filter-keys (λ (k : Vec ℕ). bytes_eq cs k.items) (λ k. not (starts_with eqb k.items beginning)) (not (starts_with eqb cs beginning))
    (λ k here. ap (λ l. not (starts_with eqb l beginning)) (sym ((bytes_eq-Decides cs k.items).0 here))) m.entries
    ∙ turned (starts_with eqb cs beginning) (number_by_name m cs)
  where
    turned : (b : Bool) (o : Option ℕ) → cond (not b) o None ≡ (if b then None else o)
    turned true o = refl
    turned false o = refl
