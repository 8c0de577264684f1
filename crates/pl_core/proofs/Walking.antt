-- The places of a walk: only forked tasks have begun at them.
use mathlib.Core.Path.{fun_ext}
use Rattle.std.proofs.Common.{◌≡◌, ◌≢◌, ℕ, suc, ◌<◌, ◌≤◌, true, false, Some, None, arith, sym, ◌∙◌, ap, subst, refl, inl, inr}
use Rattle.std.specs.Prelude.{nat_lt, ◌==◌, ◌||◌, if◌then◌else◌}
use Rattle.std.proofs.lemmas.Bool.{cases_eq, cases_lt}
use Rattle.armus_base.specs.Plans.{Plan, action_at, parent_of}
use Rattle.armus_base.specs.calls.Runs.{IsAtAwait}
use Rattle.armus_base.specs.Runs.{Place, first_place}
use Rattle.armus_base.specs.calls.Places.{IsConsistent}
use Rattle.armus_base.specs.Places.{done_by, forked_at, forks, some_before}
use Rattle.armus_base.specs.CheckedPlans.{IsCheckedPlan}
use Rattle.armus_base.proofs.Fixed.{root_forked}
use Rattle.armus_base.proofs.Steps.{updated_same, updated_other}
use Rattle.pl_core.specs.inside.Walks.{walked, walking}

lt_true : (a b : ℕ) → a < b → nat_lt a b ≡ true
lt_true a b h = grind arith

lt_false : (a b : ℕ) → b ≤ a → nat_lt a b ≡ false
lt_false a b h = grind arith

-- where a walk has come
pub walked_below : (a : ℕ → Place) (t u : ℕ) → u < t → walked a t u ≡ a u
walked_below a t u l = ap (λ b. if b then a u else first_place) (lt_true u t l)

pub walked_from : (a : ℕ → Place) (t u : ℕ) → t ≤ u → walked a t u ≡ first_place
walked_from a t u l = ap (λ b. if b then a u else first_place) (lt_false u t l)

pub walking_own : (a : ℕ → Place) (t k : ℕ) → walking a t k t ≡ record { done = k; dropped = None }
walking_own a t k = updated_same (walked a t) t t (record { done = k; dropped = None }) refl

pub walking_other : (a : ℕ → Place) (t k u : ℕ) → u ≢ t → walking a t k u ≡ walked a t u
walking_other a t k u n = updated_other (walked a t) t u (record { done = k; dropped = None }) n

-- before its first action
pub walking_first : (a : ℕ → Place) (t : ℕ) → walked a t ≡ walking a t 0
walking_first a t =
    fun_ext (λ u. elim (cases_eq u t) [
      | inl e ↦ subst (λ v. walked a t v ≡ walking a t 0 v) (sym e) (walked_from a t t (omega arith) ∙ sym (walking_own a t 0))
      | inr n ↦ sym (walking_other a t 0 u n)
    ])

-- at its own place
pub walked_more : (a b : ℕ → Place) (t : ℕ) → b t ≡ a t → ((u : ℕ) → u ≢ t → b u ≡ walked a t u) → b ≡ walked a (suc t)
walked_more a b t own rest =
    fun_ext (λ u. elim (cases_eq u t) [
      | inl e ↦ subst (λ v. b v ≡ walked a (suc t) v) (sym e) (own ∙ sym (walked_below a (suc t) t (omega arith)))
      | inr n ↦ rest u n ∙ elim (cases_lt u t) [
        | inl below ↦ walked_below a t u below ∙ sym (walked_below a (suc t) u (omega arith))
        | inr above ↦ walked_from a t u above ∙ sym (walked_from a (suc t) u (omega arith))
      ]
    ])

module _ (plan : Plan) (checked : IsCheckedPlan plan) (a : ℕ → Place) (consistent : IsConsistent plan a) (t k : ℕ) where
  parent_same : (u : ℕ) → u ≤ t → 0 < u → done_by (walking a t k) (parent_of plan u) ≡ done_by a (parent_of plan u)
  parent_same u l more =
      let before = checked.tables.parents_first u more in
      ap (λ v. v.done) (walking_other a t k (parent_of plan u) (λ e. absurd (omega arith)) ∙ walked_below a t (parent_of plan u) (omega arith))

  forked_by_parent : (u : ℕ) → done_by (walking a t k) (parent_of plan u) ≡ done_by a (parent_of plan u) → forked_at plan (done_by (walking a t k)) u ≡ forked_at plan (done_by a) u
  unfolding forked_at
  forked_by_parent u e = ap (λ n. (u == 0) || some_before (λ j. forks (action_at plan (parent_of plan u) j) u) n) e

  -- the tasks up to t are forked where they are at the given places
  pub forked_upto : (u : ℕ) → u ≤ t → forked_at plan (done_by (walking a t k)) u ≡ forked_at plan (done_by a) u
  forked_upto u l =
      elim (cases_eq u 0) [
        | inl z ↦ subst (λ v. forked_at plan (done_by (walking a t k)) v ≡ forked_at plan (done_by a) v) (sym z)
            (root_forked plan (done_by (walking a t k)) ∙ sym (root_forked plan (done_by a)))
        | inr n ↦ forked_by_parent u (parent_same u l (omega arith))
      ]

  module _ (few : k ≤ (a t).done) where
    begun_here : (u : ℕ) → 0 < done_by (walking a t k) u → forked_at plan (done_by (walking a t k)) u ≡ true
    begun_here u more =
        elim (cases_eq u t) [
          | inl e ↦
              let own : done_by (walking a t k) u ≡ k = ap (done_by (walking a t k)) e ∙ ap (λ v. v.done) (walking_own a t k) in
              forked_upto u (omega arith) ∙ consistent.begun u (let same = ap (done_by a) e in omega arith)
          | inr n ↦
              elim (cases_lt u t) [
                | inl below ↦
                    let own : done_by (walking a t k) u ≡ done_by a u = ap (λ v. v.done) (walking_other a t k u n ∙ walked_below a t u below) in
                    forked_upto u (omega arith) ∙ consistent.begun u (omega arith)
                | inr above ↦
                    absurd (let own : done_by (walking a t k) u ≡ 0 = ap (λ v. v.done) (walking_other a t k u n ∙ walked_from a t u above) in omega arith)
              ]
        ]

    refused_here : (u q : ℕ) → (walking a t k u).dropped ≡ Some q → forked_at plan (done_by (walking a t k)) u ≡ true × IsAtAwait plan u (walking a t k u)
    refused_here u q e =
        elim (cases_eq u t) [
          | inl same ↦ absurd (let own : (walking a t k u).dropped ≡ None = ap (λ v. (walking a t k v).dropped) same ∙ ap (λ v. v.dropped) (walking_own a t k) in cc)
          | inr n ↦
              elim (cases_lt u t) [
                | inl below ↦
                    let there = walking_other a t k u n ∙ walked_below a t u below in
                    let stands = consistent.refused u q (ap (λ v. v.dropped) (sym there) ∙ e) in
                    (forked_upto u (omega arith) ∙ stands.0, subst (IsAtAwait plan u) (sym there) stands.1)
                | inr above ↦
                    absurd (let own : (walking a t k u).dropped ≡ None = ap (λ v. v.dropped) (walking_other a t k u n ∙ walked_from a t u above) in cc)
              ]
        ]

    pub walking_consistent : IsConsistent plan (walking a t k)
    walking_consistent = record { begun = begun_here; refused = refused_here }
