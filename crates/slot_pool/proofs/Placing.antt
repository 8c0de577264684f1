-- A record goes home.
use Rattle.std.proofs.Common.{◌≡◌, ℕ, ◌+◌, ◌<◌, List, [], ◌∷◌, Option, Some, sym, refl, ap, ◌∙◌, subst, arith, get_or-set_same}
use Rattle.std.specs.Prelude.{Contains, drop, slice_index}
use mathlib.Core.Option.{some, none}
use Rattle.atomic_table.specs.Table.{Allows, State, gives, step}
use Rattle.atomic_table.proofs.Lists.{set_here}
use Rattle.slot_pool.specs.declared.setting.PoolSetting.{PoolSetting}
use Rattle.slot_pool.specs.declared.view.PoolView.{PoolView}
use Rattle.slot_pool.specs.calls.Views.{giving}
use Rattle.slot_pool.specs.inside.Rule.{IsPlacedIn, PoolHolds, at_home, nowhere, out}
use Rattle.slot_pool.specs.calls.Steps.{GivenBack}
use Rattle.slot_pool.proofs.Members.{contains_else, contains_first, contains_rest}
use Rattle.slot_pool.proofs.Changing.{Renews, changed, placed_renewed}

gives_renews : (t k : ℕ) (v : PoolView) (us : List ℕ) → v.numbers ≡ k ∷ [] → v.has ≡ t ∷ us → Renews t v (giving t v)
gives_renews t k v us mine had =
    record {
      numbers = refl;
      workers = refl;
      blank = λ none_there. absurd (let e : k ∷ [] ≡ [] = sym mine ∙ none_there in cc);
      knows = λ u o c. c;
      placed = λ u o c. c;
      placed_still = λ u c. c;
      has = λ u o c. subst (λ ts. Contains ts u) (sym had) (contains_rest t us u (subst (λ ts. Contains (drop 1 ts) u) had c));
      has_still = λ u o c. subst (λ ts. Contains (drop 1 ts) u) (sym had) (contains_else t us u o (subst (λ ts. Contains ts u) had c));
    }

module _ {R : Type 0} (number_of : R → ℕ) (key : PoolSetting) where
  -- a task that a view has was placed
  had_placed : (s : State (Option R) PoolView) → PoolHolds number_of key s → (t i k : ℕ) (v : PoolView) → slice_index s.words t ≡ k + 2 → t < key.tasks → IsPlacedIn s.views t
  had_placed s holds t i k v word small = elim (holds.tasks t small) [
    | nowhere w home not ↦ absurd (omega arith)
    | at_home r w home name p ↦ absurd (omega arith)
    | out j w home had p ↦ p
  ]

  pub gives_home :
      (slots id k t : ℕ) (v : PoolView) (r : R) (more : List (ℕ × Option R)) (us : List ℕ) → v.numbers ≡ k ∷ [] → v.has ≡ t ∷ us → (Contains us t → ⊥) → number_of r ≡ t →
      Allows (PoolHolds number_of key) slots id (v, (t, Some r) ∷ more) t (λ n. 1) (λ n. GivenBack (step slots t 1 0 none) (v, (t, Some r) ∷ more) 1)
  gives_home slots id k t v r more us mine had once name s holds long at fits =
      let f = holds.views id v at in
      let own = f.has t (subst (λ ts. Contains ts t) (sym had) (contains_first t us)) in
      let re = gives_renews t k v us mine had in (
        giving t v,
        gives,
        tt,
        changed number_of key s holds id t v (giving t v) at re 1 (some (Some r)) own.2 k mine (λ e. omega arith) (λ c. absurd (once (subst (λ ts. Contains (drop 1 ts) t) had c)))
            (λ j x o xj c.
            let theirs = (holds.views j x xj).has t c in
            let same : theirs.0 ≡ own.0 = let a = theirs.3 in let b = own.3 in omega arith in
            o (holds.one_view j id theirs.0 x v xj at (subst (λ ns. Contains ns theirs.0) (sym theirs.1) (contains_first theirs.0 []))
            (subst (λ ns. Contains ns theirs.0) (ap (λ i. i ∷ []) same ∙ sym own.1) (contains_first theirs.0 []))))
            (at_home r (get_or-set_same s.words t 1 0 (let l = holds.words in let m = own.2 in omega arith))
            (set_here s.homes t (some (Some r)) (let l = holds.slots in let m = own.2 in omega arith)) name
            (placed_renewed s.views id t v (giving t v) at re t (had_placed s holds t id own.0 v own.3 own.2))),
        refl,
      )
