-- The rule holds at the start.
use Rattle.std.proofs.Common.{◌≡◌, ◌≢◌, ℕ, zero, suc, ◌+◌, ◌<◌, ◌≤◌, List, [], ◌∷◌, Option, Some, None, length, map, replicate, sym, refl, ap, ◌∙◌, subst, arith}
use Rattle.std.proofs.lemmas.List.{length-replicate}
use Rattle.std.specs.Prelude.{Contains, slice_index}
use Rattle.std.specs.List.{range_with_len}
use Rattle.std.proofs.lemmas.List.FromFn.{length-range_with_len, get_or-range_with_len}
use mathlib.Core.Option.{some, none, some-injective}
use lib.ListN.{get_elem?}
use Rattle.atomic_table.specs.Table.{State, opening}
use Rattle.slot_pool.specs.declared.setting.PoolSetting.{PoolSetting}
use Rattle.slot_pool.specs.declared.view.PoolView.{PoolView}
use Rattle.slot_pool.specs.inside.Views.{opening_view}
use Rattle.slot_pool.specs.inside.Rule.{Fits, IsPlacedIn, PoolHolds, StandsInPool, at_home, nowhere}
use Rattle.slot_pool.proofs.Members.{contains_first, contains_none, contains_one}

-- a number among those below a bound
pub number_below : (n k : ℕ) → Contains (range_with_len 0 n) k → k < n
number_below n k c =
    let l : c.0 < n = let a = c.1 in let b = length-range_with_len 0 n in omega arith in
    let e = get_or-range_with_len 0 n c.0 k l in
    let f = c.2 in omega arith

pub all_below : (n k : ℕ) → k < n → Contains (range_with_len 0 n) k
all_below n k l = (k, (let b = length-range_with_len 0 n in omega arith), get_or-range_with_len 0 n k k l ∙ (let z : 0 + k ≡ k = omega arith in z))

zeros : (n t : ℕ) → slice_index (replicate n 0) t ≡ 0
zeros zero t = refl
zeros (suc n) zero = refl
zeros (suc n) (suc t) = zeros n t

nones : {R : Type 0} (n t : ℕ) → t < n → get_elem? (map (λ (x : Option R). some x) (replicate n None)) t ≡ some (some None)
nones zero t l = absurd (omega arith)
nones (suc n) zero l = refl
nones (suc n) (suc t) l = nones n t (omega arith)

length-somes : {A : Type 0} (xs : List A) → length (map (λ (x : A). some x) xs) ≡ length xs
length-somes [] = refl
length-somes (x ∷ xs) = ap suc (length-somes xs)

module _ {R : Type 0} (number_of : R → ℕ) (key : PoolSetting) (n : ℕ) (first : R) (count : key.tasks ≡ n + 1) (some_worker : 1 ≤ key.workers) (name : number_of first ≡ 0) where
  abbrev start : State (Option R) PoolView
  start = opening (1 ∷ replicate n 0) (Some first ∷ replicate n None) (opening_view key.workers)

  alone : (i : ℕ) (v : PoolView) → get_elem? start.views i ≡ some v → (i ≡ 0) × opening_view key.workers ≡ v
  alone zero v e = (refl, some-injective (opening_view key.workers) v e)
  alone (suc i) v e = absurd (let f : none ≡ some v = e in cc)

  only_first : (t : ℕ) → IsPlacedIn start.views t → t ≡ 0
  only_first t p = let a = alone p.index p.view p.found in contains_one 0 t (subst (λ (y : PoolView). Contains y.placed t) (sym a.1) p.placed)

  stands : (t : ℕ) → t < key.tasks → StandsInPool number_of start t
  stands zero l = at_home first refl refl name (record { index = 0; view = opening_view key.workers; found = refl; placed = contains_first 0 [] })
  stands (suc t) l = nowhere (zeros n t) (nones n t (omega arith)) (λ p. let e = only_first (suc t) p in absurd (omega arith))

  fits : Fits key start.words (opening_view key.workers)
  fits = record {
    number = λ k c. (number_below key.workers k c, refl);
    blank = λ e. absurd (let f = ap length e in let g = length-range_with_len 0 key.workers in omega arith);
    knows = λ t c. subst (λ i. slice_index start.words i ≢ 0) (sym (contains_one 0 t c)) (λ e. omega arith);
    has = λ t c. absurd (contains_none t c);
  }

  pub opens : PoolHolds number_of key (opening (1 ∷ replicate n 0) (Some first ∷ replicate n None) (opening_view key.workers))
  opens = record {
    words = (let a = length-replicate {A = ℕ} n 0 in omega arith);
    slots = (let a = length-replicate {A = Option R} n None in let b = length-somes (replicate {A = Option R} n None) in omega arith);
    tasks = stands;
    views = λ i v e. subst (Fits key start.words) (alone i v e).1 fits;
    one_view = λ i j k v w e f c d. (alone i v e).0 ∙ sym (alone j w f).0;
  }
