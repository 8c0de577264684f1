-- A walk along one relation is one along another, where a property that the walk keeps brings the one to the other.
use Rattle.std.proofs.Common.{◌≡◌, ℕ, zero, suc, ◌+◌, ◌-◌, ◌<◌, List, ◌++◌, length, sym, ap, ◌∙◌, subst, arith, get_or, length-append}
use Rattle.std.proofs.lemmas.List.{get_or-append-add}
use Rattle.armus_base.specs.Relations.{IsWalk, IsWalkCycle}

module _ {X : Type 0} (R : X → X → Type 0) (P : X → Type 0) (keeps : (x y : X) → P x → R x y → P y) (start : X) (first : P start) where
  -- each element of the walk has the property
  pub all_keep : (xs : List X) → IsWalk R xs → ((d : X) → get_or xs 0 d ≡ start) → (k : ℕ) (d : X) → k < length xs → P (get_or xs k d)
  all_keep xs walk starts zero d lt = subst P (sym (starts d)) first
  all_keep xs walk starts (suc k) d lt =
      let n : k + 1 ≡ suc k = omega arith in
      let step = walk k d (omega arith) in
      subst (λ m. P (get_or xs m d)) n (keeps (get_or xs k d) (get_or xs (k + 1) d) (all_keep xs walk starts k d (omega arith)) step)

  module _ (S : X → X → Type 0) (step : (x y : X) → P x → R x y → S x y) (cycle : List X) (w : IsWalkCycle R start cycle) where
    abbrev whole : List X
    whole = w.before ++ cycle

    long : length whole ≡ length w.before + length cycle
    long = length-append w.before cycle

    maps_at : (k : ℕ) (d : X) → k + 1 < length whole → S (get_or whole k d) (get_or whole (k + 1) d)
    maps_at k d lt = step (get_or whole k d) (get_or whole (k + 1) d) (all_keep whole w.steps w.starts k d (omega arith)) (w.steps k d lt)

    maps_back : (d : X) → S (get_or whole (length whole - 1) d) (get_or cycle 0 d)
    maps_back d =
        let lt : length whole - 1 < length whole = omega (arith, long, w.some) in
        step (get_or whole (length whole - 1) d) (get_or cycle 0 d) (all_keep whole w.steps w.starts (length whole - 1) d lt) (w.back d)

    pub cycle_maps : IsWalkCycle S start cycle
    cycle_maps = record { before = w.before; starts = w.starts; steps = maps_at; distinct = w.distinct; some = w.some; back = maps_back }

    at : (k : ℕ) (d : X) → get_or whole (length w.before + k) d ≡ get_or cycle k d
    at k d = get_or-append-add w.before cycle k d

    -- the cycle alone
    pub circle_steps : IsWalk S cycle
    circle_steps k d lt =
        let here = maps_at (length w.before + k) d (omega (arith, long, lt)) in
        let n : length w.before + k + 1 ≡ length w.before + (k + 1) = omega arith in
        let next : get_or whole (length w.before + k + 1) d ≡ get_or cycle (k + 1) d = ap (λ m. get_or whole m d) n ∙ at (k + 1) d in
        subst (λ x. S x (get_or cycle (k + 1) d)) (at k d) (subst (λ y. S (get_or whole (length w.before + k) d) y) next here)

    pub circle_back : (d : X) → S (get_or cycle (length cycle - 1) d) (get_or cycle 0 d)
    circle_back d =
        let n : length whole - 1 ≡ length w.before + (length cycle - 1) = omega (arith, long, w.some) in
        subst (λ x. S x (get_or cycle 0 d)) (ap (λ m. get_or whole m d) n ∙ at (length cycle - 1) d) (maps_back d)
