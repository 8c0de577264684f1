-- A claim keeps the rule, whatever it finds.
use Rattle.std.proofs.Common.{◌≡◌, ◌≢◌, ℕ, ◌+◌, ◌<◌, List, [], ◌∷◌, Option, Some, None, set, sym, refl, ap, ◌∙◌, subst, arith, eqb, ne_eqb, get_or-set_same, inl, inr}
use Rattle.std.proofs.lemmas.List.{set-get_or}
use Rattle.std.specs.Prelude.{Contains, slice_index}
use prog.Atomic.{either}
use mathlib.Core.Option.{some, none, some-injective}
use lib.ListN.{get_elem?}
use Rattle.atomic_table.specs.Table.{Act, Allows, Me, State, Valid, carried_after, keeps, step, stepped, takes}
use Rattle.atomic_table.proofs.Lists.{set_here}
use Rattle.slot_pool.specs.declared.setting.PoolSetting.{PoolSetting}
use Rattle.slot_pool.specs.declared.view.PoolView.{PoolView}
use Rattle.slot_pool.specs.calls.Views.{claiming, finding, placing, trying}
use Rattle.slot_pool.specs.inside.Rule.{IsHad, IsPlacedIn, PoolHolds, StandsInPool, at_home, nowhere, out}
use Rattle.slot_pool.specs.calls.Steps.{HasBegun, Claimed}
use Rattle.slot_pool.proofs.Members.{Grows, contains_first, contains_none, grown_else, grown_still}
use Rattle.slot_pool.proofs.Changing.{Renews, changed, found_within, looked, placed_renewed}

-- a view with a number is not blank
some_number : (v : PoolView) (k : ℕ) (ts : List ℕ) → v.numbers ≡ k ∷ [] → v.numbers ≡ [] → ts ≡ []
some_number v k ts mine none_there = absurd (let e : k ∷ [] ≡ [] = sym mine ∙ none_there in cc)

-- what a step makes of a view of which each list stays or gets task t
renews :
    (t k : ℕ) (v w : PoolView) → v.numbers ≡ k ∷ [] → w.numbers ≡ v.numbers → w.workers ≡ v.workers → Grows t v.knows w.knows → Grows t v.placed w.placed →
    Grows t v.has w.has → Renews t v w
renews t k v w mine numbers workers knows placed has =
    record {
      numbers = numbers;
      workers = workers;
      blank = λ none_there. some_number v k w.placed mine (sym numbers ∙ none_there);
      knows = grown_else t v.knows w.knows knows;
      placed = grown_else t v.placed w.placed placed;
      placed_still = grown_still t v.placed w.placed placed;
      has = grown_else t v.has w.has has;
      has_still = λ u o. grown_still t v.has w.has has u;
    }

tries_renews : (t n : ℕ) (v : PoolView) (k : ℕ) → v.numbers ≡ k ∷ [] → Renews t v (trying t n v)
tries_renews t n v k mine = renews t k v (trying t n v) mine refl refl (inl refl) (inl refl) (inl refl)

finds_renews : (t n : ℕ) (v : PoolView) (k : ℕ) → v.numbers ≡ k ∷ [] → Renews t v (finding t n v)
finds_renews t n v k mine = renews t k v (finding t n v) mine refl refl (inr refl) (inl refl) (inl refl)

claims_renews : (t : ℕ) (v : PoolView) (k : ℕ) → v.numbers ≡ k ∷ [] → Renews t v (claiming t v)
claims_renews t v k mine = renews t k v (claiming t v) mine refl refl (inr refl) (inl refl) (inr refl)

places_renews : (t : ℕ) (v : PoolView) (k : ℕ) → v.numbers ≡ k ∷ [] → Renews t v (placing t v)
places_renews t v k mine = renews t k v (placing t v) mine refl refl (inr refl) (inr refl) (inr refl)

module _ {R : Type 0} (number_of : R → ℕ) (key : PoolSetting) where
  -- a view with task t: its word is that of a worker
  had_word :
      (s : State (Option R) PoolView) → PoolHolds number_of key s → (t m j : ℕ) (x : PoolView) → slice_index s.words t ≡ m → m < 2 → get_elem? s.views j ≡ some x →
      Contains x.has t → ⊥
  had_word s holds t m j x word small at has = let h = (holds.views j x at).has t has in absurd (let w = h.3 in omega arith)

  -- the slot of a task that nobody has becomes a worker's
  taken :
      (s : State (Option R) PoolView) → PoolHolds number_of key s → (id t k m : ℕ) (v w : PoolView) → get_elem? s.views id ≡ some v → v.numbers ≡ k ∷ [] → t < key.tasks →
      slice_index s.words t ≡ m → m < 2 → Renews t v w → Contains w.has t → IsPlacedIn (set s.views id w) t →
      PoolHolds number_of key (record { words = set s.words t (k + 2); homes = set s.homes t none; views = set s.views id w })
  taken s holds id t k m v w at mine small word two re has placed =
      changed number_of key s holds id t v w at re (k + 2) none small k mine (λ e. omega arith) (λ c. refl) (λ j x o xj. had_word s holds t m j x word two xj)
      (out k (get_or-set_same s.words t (k + 2) 0 (let l = holds.words in omega arith)) (set_here s.homes t none (let l = holds.slots in omega arith))
      (record { index = id; view = w; found = set_here s.views id w (found_within s.views id v at); number = re.numbers ∙ mine; has = has }) placed)

  module _ (slots id k t : ℕ) (me : Me (Option R) PoolView) (mine : me.0.numbers ≡ k ∷ []) (small : t < key.tasks) where
    -- what a step on the word of t owes where it finds n and leaves m
    abbrev Owes : State (Option R) PoolView → ℕ → ℕ → (ℕ → Me (Option R) PoolView → Type 0) → Type 0
    Owes s n m then = (w : PoolView) × (a : Act (Option R)) × Valid s.homes me.1 a × PoolHolds number_of key (stepped s t m id me.1 w a) × then n (w, carried_after me.1 a)

    -- it leaves the word as it is, and has learned something
    learns :
        (then : ℕ → Me (Option R) PoolView → Type 0) (s : State (Option R) PoolView) → PoolHolds number_of key s → get_elem? s.views id ≡ some me.0 → (w : PoolView) →
        Renews t me.0 w → me.0.placed ≡ w.placed →
        me.0.has ≡ w.has → (Contains w.knows t → slice_index s.words t ≢ 0) → then (slice_index s.words t) (w, me.1) → Owes s (slice_index s.words t) (slice_index s.words t) then
    learns then s holds at w re placed has knows told = (
      w,
      keeps,
      tt,
      subst (λ ws. PoolHolds number_of key (record { words = ws; homes = s.homes; views = set s.views id w })) (sym (set-get_or s.words t 0))
          (looked number_of key s holds id t me.0 w at re placed has knows),
      told,
    )

    -- a compare and exchange that found another word than it wanted
    missed : (n old new : ℕ) → n ≢ old → either (eqb n old) new n ≡ n
    missed n old new other = ap (λ b. either b new n) (ne_eqb n old other)

    -- whom a word names who is not this worker
    other_worker :
        (s : State (Option R) PoolView) (holds : PoolHolds number_of key s) (j : ℕ) → get_elem? s.views id ≡ some me.0 → IsHad s.views j t →
        (j < me.0.workers) × (me.0.has ≡ [] → me.0.numbers ≢ j ∷ [])
    other_worker s holds j at had =
        let theirs = ((holds.views had.index had.view had.found).number j (subst (λ (ns : List ℕ). Contains ns j) (sym had.number) (contains_first j []))).0 in
        let own = ((holds.views id me.0 at).number k (subst (λ (ns : List ℕ). Contains ns k) (sym mine) (contains_first k []))).1 in (
          subst (λ n. j < n) (sym own) theirs,
          λ idle same.
              let here : had.index ≡ id = holds.one_view had.index id j had.view me.0 had.found at
              (subst (λ (ns : List ℕ). Contains ns j) (sym had.number) (contains_first j []))
              (subst (λ (ns : List ℕ). Contains ns j) (sym same) (contains_first j [])) in
              let one : had.view ≡ me.0 = some-injective had.view me.0 (sym had.found ∙ ap (get_elem? s.views) here ∙ at) in
              contains_none t (subst (λ (ts : List ℕ). Contains ts t) (ap (λ (x : PoolView). x.has) one ∙ idle) had.has),
        )

    abbrev claim_told : ℕ → Me (Option R) PoolView → Type 0
    claim_told = Claimed number_of (step slots t 1 (k + 2) none) me

    abbrev begin_told : ℕ → Me (Option R) PoolView → Type 0
    begin_told = HasBegun (step slots t 0 (k + 2) none) me

    pub claims : Allows (PoolHolds number_of key) slots id me t (λ n. either (eqb n 1) (k + 2) n) (Claimed number_of (step slots t 1 (k + 2) none) me)
    claims s holds long at fits = by_place (holds.tasks t small)
      where
        by_place : StandsInPool number_of s t → Owes s (slice_index s.words t) (either (eqb (slice_index s.words t) 1) (k + 2) (slice_index s.words t)) claim_told
        by_place (nowhere word home not) =
            subst (λ m. Owes s (slice_index s.words t) m claim_told) (sym (missed (slice_index s.words t) 1 (k + 2) (λ e. omega arith)))
            (learns claim_told s holds at (trying t 0 me.0) (tries_renews t 0 me.0 k mine) refl refl (λ c. (holds.views id me.0 at).knows t c)
            (record {
              got = λ e. absurd (omega arith);
              empty = λ e. ((λ c. (holds.views id me.0 at).knows t c word), refl);
              held = λ one none_there. absurd (none_there word);
            }))
        by_place (at_home r word home name p) =
            subst (λ m. Owes s m (either (eqb m 1) (k + 2) m) claim_told) (sym word) (
              claiming t me.0,
              takes t (Some r),
              home,
              taken s holds id t k 1 me.0 (claiming t me.0) at mine small word (omega arith) (claims_renews t me.0 k mine) (contains_first t me.0.has)
                  (placed_renewed s.views id t me.0 (claiming t me.0) at (claims_renews t me.0 k mine) t p),
              record {
                got = λ e. (r, name, refl);
                empty = λ e. absurd (omega arith);
                held = λ one none_there. absurd (one refl);
              },
            )
        by_place (out j word home had p) =
            let other = other_worker s holds j at had in
            subst (λ m. Owes s (slice_index s.words t) m claim_told) (sym (missed (slice_index s.words t) 1 (k + 2) (λ e. omega arith)))
            (learns claim_told s holds at (finding t (slice_index s.words t) me.0) (finds_renews t (slice_index s.words t) me.0 k mine) refl refl (λ c zero. omega arith)
            (record {
              got = λ e. absurd (omega arith);
              empty = λ e. absurd (omega arith);
              held = λ one none_there. (j, word, other.0, other.1, refl);
            }))

    pub begins : Allows (PoolHolds number_of key) slots id me t (λ n. either (eqb n 0) (k + 2) n) (HasBegun (step slots t 0 (k + 2) none) me)
    begins s holds long at fits = by_place (holds.tasks t small)
      where
        missing : slice_index s.words t ≢ 0 → Owes s (slice_index s.words t) (either (eqb (slice_index s.words t) 0) (k + 2) (slice_index s.words t)) begin_told
        missing some_word =
            subst (λ m. Owes s (slice_index s.words t) m begin_told) (sym (missed (slice_index s.words t) 0 (k + 2) some_word))
            (learns begin_told s holds at (finding t (slice_index s.words t) me.0) (finds_renews t (slice_index s.words t) me.0 k mine) refl refl
            (λ c. some_word) (record { placed = λ e. absurd (some_word e); refused = λ e. refl }))

        by_place : StandsInPool number_of s t → Owes s (slice_index s.words t) (either (eqb (slice_index s.words t) 0) (k + 2) (slice_index s.words t)) begin_told
        by_place (nowhere word home not) =
            subst (λ m. Owes s m (either (eqb m 0) (k + 2) m) begin_told) (sym word) (
              placing t me.0,
              takes t None,
              home,
              taken s holds id t k 0 me.0 (placing t me.0) at mine small word (omega arith) (places_renews t me.0 k mine) (contains_first t me.0.has)
                  (record {
                    index = id;
                    view = placing t me.0;
                    found = set_here s.views id (placing t me.0) (found_within s.views id me.0 at);
                    placed = contains_first t me.0.placed;
                  }),
              record { placed = λ e. ((λ c. (holds.views id me.0 at).knows t c word), refl); refused = λ e. absurd (e refl) },
            )
        by_place (at_home r word home name p) = missing (λ e. omega arith)
        by_place (out j word home had p) = missing (λ e. omega arith)
