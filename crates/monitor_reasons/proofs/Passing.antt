-- Who is kept waiting, and who has a distance then.
use Rattle.std.proofs.Common.{◌≡◌, ℕ, ◌<◌, ◌==◌, ◌&&◌, Bool, true, Some, None, List, [], ◌∷◌, ◌++◌, length, set, refl, sym, ◌∙◌, ap, subst, inl, inr, ◌⊎◌, arith, eq-eqb, length-set, if◌then◌else◌}
use Rattle.std.specs.Prelude.{Contains, bytes_eq, nat_lt}
use Rattle.std.specs.List.{list_any}
use Rattle.std.proofs.lemmas.Bool.{and_from, and_parts, cases_Bool, cases_lt, cond-true, cond-false, eqb-true, or_cases, true≢false}
use Rattle.std.proofs.lemmas.List.{get_or-set_same, get_or-set_other}
use Rattle.std.proofs.lemmas.List.Elements.{Contains-append_cases, Contains-append_left, Contains-append_right}
use Rattle.std.proofs.lemmas.List.Folds.{list_any_at}
use Rattle.std.proofs.lemmas.Slice.Eq.{bytes_eq-Decides}
use Rattle.armus_base.proofs.Elements.{Contains-cons_cases, Contains-head, nothing_in_nil}
use Rattle.monitor_laws.specs.Faults.{phase_on}
use Rattle.monitor_laws.specs.States.{Condition, Running, Waiting, Ended, AnyTask, OneOf, Participant}
use Rattle.monitor_laws.specs.Stuck.{has_phase_below, is_phase_below}
use Rattle.monitor_state.specs.NumberedLists.{AreAscending}
use Rattle.monitor_state.proofs.OnePassing.{first_place}
use Rattle.monitor_words.specs.Stops.{impedes_wait, keeps_waiting, lone_task, stands_for, waited_for}
use Rattle.monitor_laws.specs.States.{new_participant}
use Rattle.monitor_reasons.specs.Found.{participant_at}
use Rattle.monitor_reasons.specs.declared.reaching.DistanceSearch.{DistanceSearch}
use Rattle.monitor_reasons.specs.inside.Distances.{distance_at}
use Rattle.monitor_reasons.specs.inside.Reaching.{HavePassedDistances, IsFilling, HasDistance, passed_on}
use Rattle.monitor_reasons.proofs.FirstWalks.{ascend_at}
use Rattle.monitor_reasons.proofs.Filling.{fills_more, fills_then, reached_then}
use Rattle.monitor_reasons.proofs.Levels.{or_left}

-- who is kept waiting waits
pub waits_if_kept : (w : Participant) (c : Condition) → impedes_wait w (waited_for c) ≡ true → (q : List ℕ) × (n : ℕ) × (c ≡ Waiting q n) × (has_phase_below w q n ≡ true)
waits_if_kept w Running kept = absurd (true≢false (sym kept))
waits_if_kept w (Waiting q n) kept = (q, n, refl, kept)
waits_if_kept w Ended kept = absurd (true≢false (sym kept))
waits_if_kept w AnyTask kept = absurd (true≢false (sym kept))
waits_if_kept w (OneOf names tasks) kept = absurd (true≢false (sym kept))

pub kept_if_waits : (w : Participant) (c : Condition) (q : List ℕ) (n : ℕ) → c ≡ Waiting q n → has_phase_below w q n ≡ true → impedes_wait w (waited_for c) ≡ true
kept_if_waits w c q n waits below = ap (λ x. impedes_wait w (waited_for x)) waits ∙ below

-- one place that is filled in
module _ (old new : DistanceSearch) (d place : ℕ) (p : ℕ → Bool) (within : place < length old.distances.items) (unknown : distance_at old.distances.items place ≡ None) (passes : p place ≡ true)
    (distances : new.distances.items ≡ set old.distances.items place (Some d)) (fresh : new.fresh.items ≡ old.fresh.items ++ place ∷ []) where
  here : distance_at new.distances.items place ≡ Some d
  here = ap (λ l. distance_at l place) distances ∙ get_or-set_same old.distances.items place (Some d) None within

  is_fresh : Contains new.fresh.items place
  is_fresh = subst (λ l. Contains l place) (sym fresh) (Contains-append_right old.fresh.items (place ∷ []) place (Contains-head place []))

  each_one : (t : ℕ) →
      (distance_at new.distances.items t ≡ distance_at old.distances.items t)
      ⊎ ((distance_at old.distances.items t ≡ None) × (distance_at new.distances.items t ≡ Some d) × Contains new.fresh.items t × (p t ≡ true))
  each_one t = elim (cases_Bool (t == place)) [
    | inl same ↦
        inr (subst (λ k. (distance_at old.distances.items k ≡ None) × (distance_at new.distances.items k ≡ Some d) × Contains new.fresh.items k × (p k ≡ true)) (sym (eqb-true t place same))
        (unknown, here, is_fresh, passes))
    | inr other ↦
        inl (ap (λ l. distance_at l t) distances
        ∙ get_or-set_other old.distances.items place t (Some d) None (λ e. true≢false (sym (ap (λ k. k == place) e ∙ eq-eqb place place refl) ∙ other)))
  ]

  pub one_filled : IsFilling old new d p
  one_filled = record {
    long = ap length distances ∙ length-set old.distances.items place (Some d);
    kept = λ t before. subst (λ l. Contains l t) (sym fresh) (Contains-append_left old.fresh.items (place ∷ []) t before);
    only = λ t now. elim (Contains-append_cases old.fresh.items (place ∷ []) t (subst (λ l. Contains l t) fresh now)) [
      | inl before ↦ inl before
      | inr new_one ↦ elim (Contains-cons_cases place [] t new_one) [
        | inl is ↦ inr (subst (λ k. (k < length old.distances.items) × (distance_at new.distances.items k ≡ Some d)) is (within, here))
        | inr none ↦ absurd (nothing_in_nil t none)
      ]
    ];
    each = each_one;
  }

-- all who wait at a phaser for a phase above m have a distance
pub passed_more : (us : List Participant) (mid new : DistanceSearch) (w : Participant) (p : List ℕ) (m : ℕ) → HavePassedDistances us mid → new.distances ≡ mid.distances →
    ((q : List ℕ) → passed_on new q ≡ (if bytes_eq p q then Some m else passed_on mid q)) → phase_on w p ≡ Some m →
    ((t n : ℕ) → t < length us → (participant_at us t).condition ≡ Waiting p n → has_phase_below w p n ≡ true → HasDistance mid t) → HavePassedDistances us new
passed_more us mid new w p m before same notes phase reached t q n within waits below none =
    elim (cases_Bool (bytes_eq p q)) [
      | inl on ↦
          (let e : p ≡ q = (bytes_eq-Decides p q).0 on in
          let above : nat_lt m n ≡ true = sym (ap (λ o. is_phase_below o n) (notes q ∙ cond-true (bytes_eq p q) (Some m) (passed_on mid q) on)) ∙ below in
          reached t n within (waits ∙ ap (λ x. Waiting x n) (sym e)) (ap (λ o. is_phase_below o n) phase ∙ above) unknown)
      | inr off ↦
          before t q n within waits (sym (ap (λ o. is_phase_below o n) (notes q ∙ cond-false (bytes_eq p q) (Some m) (passed_on mid q) off)) ∙ below) unknown
    ]
  where
    unknown : distance_at mid.distances.items t ≡ None
    unknown = ap (λ v. distance_at v.items t) (sym same) ∙ none

-- in an ascending list a number stands at one place
pub same_place : (us : List Participant) → AreAscending us → (i j : ℕ) → i < length us → j < length us → (participant_at us i).number ≡ (participant_at us j).number → i ≡ j
same_place us up i j one other same = elim (cases_lt i j) [
  | inl less ↦ absurd (let a = ascend_at us up i j less other in omega arith)
  | inr not_less ↦ elim (cases_lt j i) [
    | inl more ↦ absurd (let a = ascend_at us up j i more one in omega arith)
    | inr not_more ↦ omega arith
  ]
]

-- who stands for the task at a place stands there, or is a wildcard of it
pub stands_there : (us : List Participant) → AreAscending us → (i j : ℕ) → i < length us → j < length us → stands_for (participant_at us i) (participant_at us j) ≡ true →
    (i ≡ j) ⊎ (list_any (λ k. k == (participant_at us j).number) (lone_task (participant_at us i).condition) ≡ true)
stands_there us up i j one other stands =
    elim (or_cases ((participant_at us i).number == (participant_at us j).number) (list_any (λ k. k == (participant_at us j).number) (lone_task (participant_at us i).condition)) stands) [
      | inl own ↦ inl (same_place us up i j one other (eqb-true (participant_at us i).number (participant_at us j).number own))
      | inr played ↦ inr played
    ]

-- somebody of the list stands for u and keeps t waiting
pub some_keeper : (us : List Participant) (u t : Participant) → list_any (λ w. stands_for w u && keeps_waiting w t) us ≡ true →
    (i : ℕ) × (i < length us) × (stands_for (participant_at us i) u ≡ true) × (keeps_waiting (participant_at us i) t ≡ true)
some_keeper us u t some =
    let m = first_place (λ w. stands_for w u && keeps_waiting w t) us some in
    let parts = and_parts (stands_for (participant_at us m.0) u) (keeps_waiting (participant_at us m.0) t) (m.1.here (new_participant 0 [])) in
    (m.0, m.1.within, parts.0, parts.1)

-- those whom the task at a place keeps waiting, and then those whom its wildcards do
module _ (us : List Participant) (place : ℕ) (listed : place < length us) (a b c : DistanceSearch) (d : ℕ) where
  abbrev kept_for : ℕ → Bool
  kept_for t = list_any (λ w. stands_for w (participant_at us place) && keeps_waiting w (participant_at us t)) us

  pub fills_both : IsFilling a b d (λ t. keeps_waiting (participant_at us place) (participant_at us t)) → IsFilling b c d kept_for → IsFilling a c d kept_for
  fills_both one other =
      fills_then a b c d kept_for
      (fills_more a b d (λ t. keeps_waiting (participant_at us place) (participant_at us t)) kept_for
      (λ t keeps.
      list_any_at (λ w. stands_for w (participant_at us place) && keeps_waiting w (participant_at us t)) us place (new_participant 0 []) listed
      (and_from (stands_for (participant_at us place) (participant_at us place)) (keeps_waiting (participant_at us place) (participant_at us t))
      (or_left ((participant_at us place).number == (participant_at us place).number) (list_any (λ k. k == (participant_at us place).number) (lone_task (participant_at us place).condition))
      (eq-eqb (participant_at us place).number (participant_at us place).number refl)) keeps))
      one)
      other

  pub reached_both : AreAscending us → IsFilling b c d kept_for →
      ((t : ℕ) → t < length us → keeps_waiting (participant_at us place) (participant_at us t) ≡ true → HasDistance b t) →
      ((t i : ℕ) → t < length us → i < length us → list_any (λ k. k == (participant_at us place).number) (lone_task (participant_at us i).condition) ≡ true →
      keeps_waiting (participant_at us i) (participant_at us t) ≡ true → HasDistance c t) →
      (t : ℕ) → t < length us → kept_for t ≡ true → HasDistance c t
  reached_both up fills own played t within some =
      let m = some_keeper us (participant_at us place) (participant_at us t) some in
      elim (stands_there us up m.0 place m.1 listed m.2) [
        | inl here ↦ reached_then b c d kept_for t fills (own t within (subst (λ k. keeps_waiting (participant_at us k) (participant_at us t) ≡ true) here m.3))
        | inr by ↦ played t m.0 within m.1 by m.3
      ]
