-- A status is taken away whose event no task impedes whose status remains: its task is not dead.
use Rattle.std.proofs.Common.{◌≡◌, ◌≢◌, ℕ, zero, suc, ◌+◌, ◌<◌, Bool, true, false, List, [], ◌∷◌, length, set, refl, sym, ap, ◌∙◌, subst, inl, inr, arith, get_or}
use Rattle.std.specs.Prelude.{All, Contains}
use Rattle.std.proofs.lemmas.Bool.{cases_eq, cases_order}
use Rattle.std.proofs.lemmas.List.{get_or_default, length-set}
use Rattle.armus_base.specs.declared.status.Status.{Status}
use Rattle.armus_base.specs.Deadlocks.{IsDeadBy}
use Rattle.armus_base.specs.calls.Statuses.{IsInOrder}
use Rattle.adaptive.specs.declared.columns.Column.{Column}
use Rattle.adaptive.specs.declared.standings.PhaseStanding.{PhaseStanding}
use Rattle.adaptive.specs.inside.Remaining.{AreFronts, count_remaining}
use Rattle.adaptive.specs.inside.Standings.{HasStanding, IsRemaining, IsRemainingImpeder, IsUnimpeded, remains_at}

-- a flag of a changed list: false where one was put to false, and as before elsewhere
pub set_other : (xs : List Bool) (k j : ℕ) → j ≢ k → remains_at (set xs k false) j ≡ remains_at xs j
set_other [] k j n = refl
set_other (x ∷ xs) zero zero n = absurd (n refl)
set_other (x ∷ xs) zero (suc j) n = refl
set_other (x ∷ xs) (suc k) zero n = refl
set_other (x ∷ xs) (suc k) (suc j) n = set_other xs k j (λ e. n (ap suc e))

pub set_remains : (xs : List Bool) (k j : ℕ) → remains_at xs j ≡ false → remains_at (set xs k false) j ≡ false
set_remains xs k j e = elim (cases_eq j k) [
  | inl same ↦ subst (λ i. remains_at (set xs k false) i ≡ false) (sym same) (set_here xs k)
  | inr other ↦ set_other xs k j other ∙ e
]
  where
    set_here : (ys : List Bool) (i : ℕ) → remains_at (set ys i false) i ≡ false
    set_here [] i = refl
    set_here (y ∷ ys) zero = refl
    set_here (y ∷ ys) (suc i) = set_here ys i

-- the fronts stay when fewer remain
pub fronts_stay : (standings : List PhaseStanding) (remains : List Bool) (columns : List Column) (k : ℕ) → AreFronts standings remains columns →
    AreFronts standings (set remains k false) columns
fronts_stay standings remains columns k fronts c d within j x ahead inside on = set_remains remains k _ (fronts c d within j x ahead inside on)

module _ (ss : List Status) (order : IsInOrder ss) (remains : List Bool) (are : IsRemaining ss remains) (k : ℕ) (inside : k < length ss)
    (unimpeded : (s : Status) → IsUnimpeded ss remains (get_or ss k s).event) where
  -- a task has one status
  one_index : (j : ℕ) (s v : Status) → j < length ss → (get_or ss j v).t.0 ≡ (get_or ss k s).t.0 → j ≡ k
  one_index j s v l same = elim (cases_order j k) [
    | inl is ↦ is
    | inr apart ↦ elim apart [
      | inl below ↦ absurd (let a = order.tasks j k v s below inside in omega (arith, same))
      | inr above ↦ absurd (let a = order.tasks k j s v above l in omega (arith, same))
    ]
  ]

  pub not_dead : (s : Status) → IsDeadBy ss (get_or ss k s).t.0 → ⊥
  not_dead s dead =
      let link = dead.deadlocked.each (get_or ss k s).t.0 dead.inside in
      let own = link.waits in
      let at = own.1 in
      let index = one_index at.0 s own.0 at.1 (ap (λ v. v.t.0) at.2 ∙ own.2) in
      let status : get_or ss k s ≡ own.0 = get_or_default ss k s own.0 inside ∙ ap (λ i. get_or ss i own.0) (sym index) ∙ at.2 in
      let event = ap (λ v. v.event) status ∙ own.3 in
      let by = link.impedes in
      let there = by.1 in
      let stands : HasStanding ss there.0 link.event.p.0 link.phase = (
        there.1,
        λ v. subst (λ w. Contains w.phases (record { p = record { 0 = link.event.p.0 }; n = link.phase }))
            (sym (get_or_default ss there.0 v by.0 there.1 ∙ there.2)) by.3,
      ) in
      let gone = unimpeded s there.0 link.phase (subst (λ e. HasStanding ss there.0 e.p.0 link.phase) (sym event) stands) (subst (λ e. link.phase < e.n) (sym event) link.below) in
      let number : (get_or ss there.0 by.0).t.0 ≡ link.by = ap (λ v. v.t.0) there.2 ∙ by.2 in
      are.gone there.0 by.0 there.1 gone
      (subst (λ t. IsDeadBy ss t) (sym number) (record { tasks = dead.tasks; inside = link.inside; deadlocked = dead.deadlocked }))

  pub still_remaining : IsRemaining ss (set remains k false)
  still_remaining = record {
    sized = length-set remains k false ∙ are.sized;
    gone = λ j s l e. elim (cases_eq j k) [
      | inl same ↦ subst (λ i. IsDeadBy ss (get_or ss i s).t.0 → ⊥) (sym same) (not_dead s)
      | inr other ↦ are.gone j s l (sym (set_other remains k j other) ∙ e)
    ];
  }

-- each of the places is below the length of the changed list
pub within_set : (standings : List PhaseStanding) (remains : List Bool) (k : ℕ) → All (λ x. x.status < length remains) standings →
    All (λ x. x.status < length (set remains k false)) standings
within_set standings remains k all = subst (λ n. All (λ x. x.status < n) standings) (sym (length-set remains k false)) all

-- one fewer remains
pub one_fewer : (xs : List Bool) (k : ℕ) → remains_at xs k ≡ true → count_remaining (set xs k false) + 1 ≡ count_remaining xs
one_fewer [] k e = absurd (cc)
one_fewer (x ∷ xs) zero e = (let on : x ≡ true = e in rw on (omega arith))
one_fewer (x ∷ xs) (suc k) e = (let rest = one_fewer xs k e in omega (arith, rest))

-- each status below i that remains awaits an event which the task of one that remains impedes
abbrev pub AreImpededBelow : List Status → List Bool → ℕ → Type 0
AreImpededBelow ss remains i =
    (k : ℕ) (s : Status) → k < i → remains_at remains k ≡ true → (j : ℕ) × IsRemainingImpeder ss remains (get_or ss k s).event j

pub one_more_impeded :
    (ss : List Status) (remains : List Bool) (i : ℕ) → AreImpededBelow ss remains i →
    (remains_at remains i ≡ true → (s : Status) → (j : ℕ) × IsRemainingImpeder ss remains (get_or ss i s).event j) → AreImpededBelow ss remains (i + 1)
one_more_impeded ss remains i below here k s l on = elim (cases_eq k i) [
  | inl same ↦
      subst (λ v. (j : ℕ) × IsRemainingImpeder ss remains (get_or ss v s).event j) (sym same) (here (subst (λ v. remains_at remains v ≡ true) same on) s)
  | inr other ↦ below k s (omega arith) on
]
