-- What is at home when all workers' seats are one.
use Rattle.std.proofs.Common.{◌≡◌, ℕ, zero, suc, ◌<◌, List, [], ◌∷◌, Option, Some, None, length, sym, refl, ap, ◌∙◌, subst, arith}
use Rattle.std.specs.Prelude.{Contains, slice_get}
use mathlib.Core.Option.{some, none, some-injective}
use lib.ListN.{get_elem?}
use Rattle.atomic_table.specs.Table.{Final, Seen, State}
use Rattle.slot_pool.specs.declared.setting.PoolSetting.{PoolSetting}
use Rattle.slot_pool.specs.declared.view.PoolView.{PoolView}
use Rattle.slot_pool.specs.calls.Closing.{AreHome}
use Rattle.slot_pool.specs.inside.Rule.{IsHad, IsPlacedIn, PoolHolds, StandsInPool, at_home, nowhere, out}
use Rattle.slot_pool.proofs.Members.{contains_first, contains_none}

-- the two ways to read a list agree
pub read_same : {A : Type 0} (xs : List A) (t : ℕ) (x y : A) → get_elem? xs t ≡ some x → slice_get xs t ≡ Some y → x ≡ y
read_same [] t x y e f = absurd (let n : none ≡ some x = e in cc)
read_same (z ∷ zs) zero x y e f = sym (some-injective z x e) ∙ (let g : Some z ≡ Some y = f in cc)
read_same (z ∷ zs) (suc t) x y e f = read_same zs t x y e f

pub read_within : {A : Type 0} (xs : List A) (t : ℕ) (y : A) → slice_get xs t ≡ Some y → t < length xs
read_within [] t y f = absurd (let n : None ≡ Some y = f in cc)
read_within (z ∷ zs) zero y f = omega arith
read_within (z ∷ zs) (suc t) y f = let l = read_within zs t y f in omega arith

module _
    {R : Type 0} (number_of : R → ℕ) (key : PoolSetting) (s : State (Option R) PoolView) (holds : PoolHolds number_of key s) (id : ℕ) (v : PoolView)
    (at : get_elem? s.views id ≡ some v) (idle : v.has ≡ [])
    (all : (k : ℕ) → k < key.workers → Contains v.numbers k) where
  -- a view with a number is this one
  numbered : (i k : ℕ) (x : PoolView) → get_elem? s.views i ≡ some x → Contains x.numbers k → x ≡ v
  numbered i k x e c =
      let here : i ≡ id = holds.one_view i id k x v e at c (all k ((holds.views i x e).number k c).0) in
      some-injective x v (sym e ∙ ap (get_elem? s.views) here ∙ at)

  all_here : (t : ℕ) → IsPlacedIn s.views t → Contains v.placed t
  all_here t p = by_numbers p.view.numbers refl
    where
      by_numbers : (ns : List ℕ) → p.view.numbers ≡ ns → Contains v.placed t
      by_numbers [] e = absurd (contains_none t (subst (λ ts. Contains ts t) ((holds.views p.index p.view p.found).blank e) p.placed))
      by_numbers (k ∷ ks) e = subst (λ (y : PoolView). Contains y.placed t) (numbered p.index k p.view p.found (subst (λ ns. Contains ns k) (sym e) (contains_first k ks))) p.placed

  none_out : (k t : ℕ) → IsHad s.views k t → ⊥
  none_out k t h =
      let mine : h.view ≡ v = numbered h.index k h.view h.found (subst (λ ns. Contains ns k) (sym h.number) (contains_first k [])) in
      contains_none t (subst (λ ts. Contains ts t) (ap (λ (y : PoolView). y.has) mine ∙ idle) h.has)

  module _ (slots : List (Option R)) (same : length s.homes ≡ length slots)
      (values : (k : ℕ) (y : Option R) → get_elem? s.homes k ≡ some (some y) → get_elem? slots k ≡ some y) where
    home_placed : (t : ℕ) (r : R) → slice_get slots t ≡ Some (Some r) → StandsInPool number_of s t → Contains v.placed t × number_of r ≡ t
    home_placed t r e (nowhere word home not) = absurd (let f = read_same slots t None (Some r) (values t None home) e in cc)
    home_placed t r e (at_home x word home name p) = (
      all_here t p,
      (let f : Some x ≡ Some r = read_same slots t (Some x) (Some r) (values t (Some x) home) e in let g : x ≡ r = cc in ap number_of (sym g)) ∙ name,
    )
    home_placed t r e (out k word home had p) = absurd (none_out k t had)

    home_empty : (t : ℕ) → slice_get slots t ≡ Some None → StandsInPool number_of s t → Contains v.placed t → ⊥
    home_empty t e (nowhere word home not) c = not (record { index = id; view = v; found = at; placed = c })
    home_empty t e (at_home x word home name p) c = let f = read_same slots t (Some x) None (values t (Some x) home) e in cc
    home_empty t e (out k word home had p) c = none_out k t had

    are_home : AreHome number_of key.tasks (Contains v.placed) slots
    are_home = record {
      count = sym same ∙ holds.slots;
      some_placed = λ t r e. home_placed t r e (holds.tasks t (let l = read_within slots t (Some r) e in let a = holds.slots in omega arith));
      none_placed = λ t e c. home_empty t e (holds.tasks t (let l = read_within slots t None e in let a = holds.slots in omega arith)) c;
    }

pub closes :
    {R : Type 0} (number_of : R → ℕ) (key : PoolSetting) (id : ℕ) (v : PoolView) (words : List ℕ) (slots : List (Option R)) → v.has ≡ [] →
    ((k : ℕ) → k < key.workers → Contains v.numbers k) →
    Final (Seen (PoolHolds number_of key) id v) words slots → AreHome number_of key.tasks (Contains v.placed) slots
closes number_of key id v words slots idle all end = are_home number_of key end.0 end.1.0 id v end.1.1 idle all slots end.3 end.4

-- the same, of what comes to the same
pub home_same :
    {R : Type 0} (number_of : R → ℕ) (tasks : ℕ) (P Q : ℕ → Type 0) (entries : List (Option R)) → ((t : ℕ) → P t → Q t) → ((t : ℕ) → Q t → P t) →
    AreHome number_of tasks P entries → AreHome number_of tasks Q entries
home_same number_of tasks P Q entries to from home =
    record { count = home.count; some_placed = λ t r e. let p = home.some_placed t r e in (to t p.0, p.1); none_placed = λ t e q. home.none_placed t e (from t q) }
