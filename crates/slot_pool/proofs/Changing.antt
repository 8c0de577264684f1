-- One view changes, and with it one word and one slot, or none.
use Rattle.std.proofs.Common.{◌≡◌, ◌≢◌, ℕ, zero, suc, ◌+◌, ◌<◌, List, [], ◌∷◌, Option, length, get_or, set, sym, ap, ◌∙◌, subst, arith, inl, inr, length-set, get_or-set_same, get_or-set_other}
use Rattle.std.specs.Prelude.{Contains, slice_index}
use Rattle.std.proofs.lemmas.Bool.{cases_eq}
use mathlib.Core.Option.{Option as Maybe, some, none, some-injective}
use lib.ListN.{get_elem?}
use Rattle.atomic_table.specs.Table.{State}
use Rattle.atomic_table.proofs.Lists.{at_set, set_else, set_here}
use Rattle.slot_pool.specs.declared.setting.PoolSetting.{PoolSetting}
use Rattle.slot_pool.specs.declared.view.PoolView.{PoolView}
use Rattle.slot_pool.specs.inside.Rule.{Fits, IsHad, IsPlacedIn, PoolHolds, StandsInPool, at_home, nowhere, out}

-- an index at which something is lies inside
pub found_within : {A : Type 0} (xs : List A) (i : ℕ) (a : A) → get_elem? xs i ≡ some a → i < length xs
found_within [] i a e = absurd (let n : none ≡ some a = e in cc)
found_within (x ∷ xs) zero a e = omega arith
found_within (x ∷ xs) (suc i) a e = let l = found_within xs i a e in omega arith

-- the view of a seat becomes w, whose numbers are those of v
pub record Renews (t : ℕ) (v w : PoolView) : Type 0 where
  pub numbers : w.numbers ≡ v.numbers
  pub workers : w.workers ≡ v.workers
  pub blank : w.numbers ≡ [] → w.placed ≡ []
  pub knows : (u : ℕ) → u ≢ t → Contains w.knows u → Contains v.knows u
  pub placed : (u : ℕ) → u ≢ t → Contains w.placed u → Contains v.placed u
  pub placed_still : (u : ℕ) → Contains v.placed u → Contains w.placed u
  pub has : (u : ℕ) → u ≢ t → Contains w.has u → Contains v.has u
  pub has_still : (u : ℕ) → u ≢ t → Contains v.has u → Contains w.has u

module _ (views : List PoolView) (id t : ℕ) (v w : PoolView) (at : get_elem? views id ≡ some v) (re : Renews t v w) where
  pub renewed_placed : (u : ℕ) → u ≢ t → IsPlacedIn (set views id w) u → IsPlacedIn views u
  renewed_placed u n p = elim (at_set views id p.index w p.view p.found) [
    | inl e ↦ record { index = id; view = v; found = at; placed = re.placed u n (subst (λ (x : PoolView). Contains x.placed u) (sym e.1) p.placed) }
    | inr e ↦ record { index = p.index; view = p.view; found = e.1; placed = p.placed }
  ]

  pub placed_renewed : (u : ℕ) → IsPlacedIn views u → IsPlacedIn (set views id w) u
  placed_renewed u p = elim (cases_eq p.index id) [
    | inl e ↦
        let same : p.view ≡ v = some-injective p.view v (sym p.found ∙ ap (get_elem? views) e ∙ at) in
        record {
          index = id;
          view = w;
          found = set_here views id w (found_within views id v at);
          placed = re.placed_still u
              (subst (λ (x : PoolView). Contains x.placed u) same p.placed);
        }
    | inr n ↦ record { index = p.index; view = p.view; found = set_else views id p.index w n ∙ p.found; placed = p.placed }
  ]

  pub had_renewed : (k u : ℕ) → u ≢ t → IsHad views k u → IsHad (set views id w) k u
  had_renewed k u n h = elim (cases_eq h.index id) [
    | inl e ↦
        let same : h.view ≡ v = some-injective h.view v (sym h.found ∙ ap (get_elem? views) e ∙ at) in
        record {
          index = id;
          view = w;
          found = set_here views id w (found_within views id v at);
          number = re.numbers ∙ ap (λ (x : PoolView). x.numbers) (sym same) ∙ h.number;
          has = re.has_still u n (subst (λ (x : PoolView). Contains x.has u) same h.has);
        }
    | inr n ↦ record { index = h.index; view = h.view; found = set_else views id h.index w n ∙ h.found; number = h.number; has = h.has }
  ]

  -- no number comes to be in two views
  pub renewed_apart :
      ((i j k : ℕ) (x y : PoolView) → get_elem? views i ≡ some x → get_elem? views j ≡ some y → Contains x.numbers k → Contains y.numbers k → i ≡ j) →
      (i j k : ℕ) (x y : PoolView) → get_elem? (set views id w) i ≡ some x → get_elem? (set views id w) j ≡ some y → Contains x.numbers k → Contains y.numbers k → i ≡ j
  renewed_apart apart i j k x y ix jy kx ky =
      let one = was i k x ix kx in
      let two = was j k y jy ky in
      apart i j k one.0 two.0 one.1 two.1 one.2 two.2
    where
      was : (i k : ℕ) (x : PoolView) → get_elem? (set views id w) i ≡ some x → Contains x.numbers k → (u : PoolView) × get_elem? views i ≡ some u × Contains u.numbers k
      was i k x ix kx = elim (at_set views id i w x ix) [
        | inl e ↦ (v, ap (get_elem? views) e.0 ∙ at, subst (λ (ns : List ℕ). Contains ns k) (ap (λ (u : PoolView). u.numbers) (sym e.1) ∙ re.numbers) kx)
        | inr e ↦ (x, e.1, kx)
      ]

module _ {R : Type 0} (number_of : R → ℕ) (key : PoolSetting) (s : State (Option R) PoolView) (holds : PoolHolds number_of key s) (id t : ℕ) (v w : PoolView)
    (at : get_elem? s.views id ≡ some v) (re : Renews t v w) where
  -- the word of t becomes n and its slot h: the rule holds again if t stands somewhere, this view fits, and no other view has t
  module _ (n : ℕ) (h : Maybe (Option R)) (small : t < key.tasks) where
    abbrev s' : State (Option R) PoolView
    s' = record { words = set s.words t n; homes = set s.homes t h; views = set s.views id w }

    elsewhere : (u : ℕ) → u ≢ t → StandsInPool number_of s u → StandsInPool number_of s' u
    elsewhere u other st = elim st [
      | nowhere word home not ↦ nowhere (get_or-set_other s.words t u n 0 other ∙ word) (set_else s.homes t u h other ∙ home)
          (λ p. not (renewed_placed s.views id t v w at re u other p))
      | at_home r word home name p ↦ at_home r (get_or-set_other s.words t u n 0 other ∙ word) (set_else s.homes t u h other ∙ home) name
          (placed_renewed s.views id t v w at re u p)
      | out k word home had p ↦
          out k (get_or-set_other s.words t u n 0 other ∙ word) (set_else s.homes t u h other ∙ home) (had_renewed s.views id t v w at re k u other had)
          (placed_renewed s.views id t v w at re u p)
    ]

    -- the word of t was 0 or is not 0 now, so that who knew it still does
    other_fits : n ≢ 0 → (x : PoolView) → (Contains x.has t → ⊥) → Fits key s.words x → Fits key (set s.words t n) x
    other_fits some_word x free f =
        record {
          number = f.number;
          blank = f.blank;
          knows = λ u c. elim (cases_eq u t) [
            | inl e ↦ λ zero. some_word (sym (get_or-set_same s.words t n 0 (let l = holds.words in omega arith)) ∙ ap (λ i. get_or (set s.words t n) i 0) (sym e) ∙ zero)
            | inr other ↦ λ zero. f.knows u c (sym (get_or-set_other s.words t u n 0 other) ∙ zero)
          ];
          has = λ u c. elim (cases_eq u t) [
            | inl e ↦ absurd (free (subst (Contains x.has) e c))
            | inr other ↦ let had = f.has u c in (had.0, had.1, had.2, get_or-set_other s.words t u n 0 other ∙ had.3)
          ];
        }

    own_fits : (k : ℕ) → v.numbers ≡ k ∷ [] → n ≢ 0 → (Contains w.has t → n ≡ k + 2) → Fits key (set s.words t n) w
    own_fits k mine some_word with_me =
        let f = holds.views id v at in
        let here : get_or (set s.words t n) t 0 ≡ n = get_or-set_same s.words t n 0 (let l = holds.words in omega arith) in
        record {
          number = λ j c. let f' = f.number j (subst (λ (ns : List ℕ). Contains ns j) re.numbers c) in (f'.0, re.workers ∙ f'.1);
          blank = re.blank;
          knows = λ u c. elim (cases_eq u t) [
            | inl e ↦ λ zero. some_word (sym here ∙ ap (λ i. get_or (set s.words t n) i 0) (sym e) ∙ zero)
            | inr other ↦ λ zero. f.knows u (re.knows u other c) (sym (get_or-set_other s.words t u n 0 other) ∙ zero)
          ];
          has = λ u c. elim (cases_eq u t) [
            | inl e ↦ (k, re.numbers ∙ mine, subst (λ i. i < key.tasks) (sym e) small, ap (λ i. get_or (set s.words t n) i 0) e ∙ here ∙ with_me (subst (Contains w.has) e c))
            | inr other ↦ let had = f.has u (re.has u other c) in (had.0, re.numbers ∙ had.1, had.2, get_or-set_other s.words t u n 0 other ∙ had.3)
          ];
        }

    pub changed :
        (k : ℕ) → v.numbers ≡ k ∷ [] → n ≢ 0 → (Contains w.has t → n ≡ k + 2) → ((j : ℕ) (x : PoolView) → j ≢ id → get_elem? s.views j ≡ some x → Contains x.has t → ⊥) →
        StandsInPool number_of (record { words = set s.words t n; homes = set s.homes t h; views = set s.views id w }) t →
        PoolHolds number_of key (record { words = set s.words t n; homes = set s.homes t h; views = set s.views id w })
    changed k mine some_word with_me free stands =
        record {
          words = length-set s.words t n ∙ holds.words;
          slots = length-set s.homes t h ∙ holds.slots;
          tasks = λ u l. elim (cases_eq u t) [
            | inl e ↦ subst (StandsInPool number_of s') (sym e) stands
            | inr other ↦ elsewhere u other (holds.tasks u l)
          ];
          views = λ j x e. elim (at_set s.views id j w x e) [
            | inl o ↦ subst (Fits key (set s.words t n)) o.1 (own_fits k mine some_word with_me)
            | inr o ↦ other_fits some_word x (free j x o.0 o.1) (holds.views j x o.1)
          ];
          one_view = renewed_apart s.views id t v w at re holds.one_view;
        }

  -- no word and no slot changes, and the seat has and has placed what it had and has placed
  pub looked :
      v.placed ≡ w.placed → v.has ≡ w.has → (Contains w.knows t → slice_index s.words t ≢ 0) →
      PoolHolds number_of key (record { words = s.words; homes = s.homes; views = set s.views id w })
  looked placed has knows =
      record {
        words = holds.words;
        slots = holds.slots;
        tasks = λ u l. elim (holds.tasks u l) [
          | nowhere word home not ↦ nowhere word home (λ p. not (back u p))
          | at_home r word home name p ↦ at_home r word home name (placed_renewed s.views id t v w at re u p)
          | out k word home had p ↦ out k word home (still k u had) (placed_renewed s.views id t v w at re u p)
        ];
        views = λ j x e. elim (at_set s.views id j w x e) [
          | inl o ↦ subst (Fits key s.words) o.1 own
          | inr o ↦ holds.views j x o.1
        ];
        one_view = renewed_apart s.views id t v w at re holds.one_view;
      }
    where
      own : Fits key s.words w
      own =
          let f = holds.views id v at in
          record {
            number = λ j c. let f' = f.number j (subst (λ (ns : List ℕ). Contains ns j) re.numbers c) in (f'.0, re.workers ∙ f'.1);
            blank = re.blank;
            knows = λ u c. elim (cases_eq u t) [
              | inl e ↦ subst (λ i. slice_index s.words i ≢ 0) (sym e) (knows (subst (Contains w.knows) e c))
              | inr other ↦ f.knows u (re.knows u other c)
            ];
            has = λ u c. let had = f.has u (subst (λ (ts : List ℕ). Contains ts u) (sym has) c) in (had.0, re.numbers ∙ had.1, had.2, had.3);
          }

      back : (u : ℕ) → IsPlacedIn (set s.views id w) u → IsPlacedIn s.views u
      back u p = elim (at_set s.views id p.index w p.view p.found) [
        | inl e ↦ record { index = id; view = v; found = at; placed = subst (λ (ts : List ℕ). Contains ts u) (ap (λ (x : PoolView). x.placed) (sym e.1) ∙ sym placed) p.placed }
        | inr e ↦ record { index = p.index; view = p.view; found = e.1; placed = p.placed }
      ]

      still : (k u : ℕ) → IsHad s.views k u → IsHad (set s.views id w) k u
      still k u h = elim (cases_eq h.index id) [
        | inl e ↦
            let same : h.view ≡ v = some-injective h.view v (sym h.found ∙ ap (get_elem? s.views) e ∙ at) in
            record {
              index = id;
              view = w;
              found = set_here s.views id w (found_within s.views id v at);
              number = re.numbers ∙ ap (λ (x : PoolView). x.numbers) (sym same) ∙ h.number;
              has = subst (λ (ts : List ℕ). Contains ts u) (ap (λ (x : PoolView). x.has) same ∙ has) h.has;
            }
        | inr n ↦ record { index = h.index; view = h.view; found = set_else s.views id h.index w n ∙ h.found; number = h.number; has = h.has }
      ]
