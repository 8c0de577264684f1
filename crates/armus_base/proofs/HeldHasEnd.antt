-- A held task of a final state waits, through held ones, for one that is done or unforked.
use Rattle.std.proofs.Common.{◌≡◌, ℕ, zero, suc, ◌<◌, ◌≤◌, Bool, true, false, Option, Some, None, List, length, arith, sym, ◌∙◌, ap, subst, refl, ◌⊎◌, inl, inr}
use Rattle.std.specs.Prelude.{if◌then◌else◌, is_some, IsSome}
use Rattle.std.proofs.lemmas.Bool.{cases_Bool, cases_eq, cases_lt, false≢true}
use Rattle.armus_base.specs.declared.ending.TaskEnd.TheVariants.{Done, Unforked}
use Rattle.armus_base.specs.declared.event.Event.{Event}
use Rattle.armus_base.specs.calls.AgreementLaws.{HeldHasEnd}
use Rattle.armus_base.specs.AgreementLaws.{WaitsForEnded, WaitsForTask, at_end, by_held}
use Rattle.armus_base.specs.CheckedPlans.{IsCheckedPlan}
use Rattle.armus_base.specs.Deadlocks.{IsAtPhase, IsDeadIn, IsHeld, IsImpededWithin, IsPublishedOn}
use Rattle.armus_base.specs.calls.FinalLaws.{Tells}
use Rattle.armus_base.specs.Finals.{end_by, end_of}
use Rattle.armus_base.specs.Plans.{Plan}
use Rattle.armus_base.specs.Runs.{IsMaximal, IsPlainRun, state_after}
use Rattle.armus_base.specs.States.{State, Step, updated}
use Rattle.armus_base.proofs.AvoidanceAgrees.{plain_unrefused}
use Rattle.armus_base.proofs.DeadByStatuses.{run_is_of_plan}
use Rattle.armus_base.proofs.Impeded.{HaveAll, have_still, impeded_or_not}
use Rattle.armus_base.proofs.EndsTell.{ends_tell}
use Rattle.armus_base.proofs.Sums.{sum_below, sum_more}
use Rattle.armus_base.proofs.Steps.{updated_is, updated_other, updated_same}
use Rattle.armus_base.proofs.Tasks.{all_or_one}

-- a state of n tasks in which each published one is impeded, and each one that is not has ended
module _ (s : State) (n : ℕ) (published_within : (u : ℕ) (e : Event) → s.published u ≡ Some e → u < n)
    (member_within : (u p m : ℕ) → s.phases u p ≡ Some m → u < n)
    (impeded : (u : ℕ) (e : Event) → s.published u ≡ Some e → (w : ℕ) × (m : ℕ) × (s.phases w e.p.0 ≡ Some m) × (m < e.n))
    (ended : (u : ℕ) → s.published u ≡ None → (end_of s u ≡ Done) ⊎ (end_of s u ≡ Unforked)) where
  abbrev Within : (ℕ → Bool) → ℕ → Type 0
  Within mark u = IsImpededWithin (IsPublishedOn s) (IsAtPhase s) mark u

  -- each published task that is not marked waits for one that has ended
  abbrev HaveEnds : (ℕ → Bool) → Type 0
  HaveEnds mark = (u : ℕ) (e : Event) → s.published u ≡ Some e → mark u ≡ false → WaitsForEnded s u

  abbrev counted : (ℕ → Bool) → ℕ → ℕ
  counted mark u = if mark u then 1 else 0

  -- marks of which one that is not impeded by another one is taken away
  module _ (mark : ℕ → Bool) (have : HaveAll (IsPublishedOn s) (IsAtPhase s) mark) (ends : HaveEnds mark) (u : ℕ) (on : mark u ≡ true) (free : Within mark u → ⊥) where
    -- whoever impedes it is not marked: it has ended, or is held and waits for one that has
    own_end : (e : Event) → s.published u ≡ Some e → WaitsForEnded s u
    own_end e is =
        let by = impeded u e is in
        let waits : WaitsForTask s u by.0 = (e, by.1, is, by.2, by.3) in
        elim (cases_Bool (mark by.0)) [
          | inl marked ↦ absurd (free (record { event = e; waits = is; by = by.0; inside = marked; phase = by.1; impedes = by.2; below = by.3 }))
          | inr unmarked ↦ by_event by.0 waits unmarked (s.published by.0) refl
        ]
      where
        by_event : (w : ℕ) → WaitsForTask s u w → mark w ≡ false → (o : Option Event) → s.published w ≡ o → WaitsForEnded s u
        by_event w waits unmarked None none = at_end w waits (ended w none)
        by_event w waits unmarked (Some d) published =
            by_held w waits
            (subst IsSome (sym published) refl, λ dead. false≢true (sym unmarked ∙ have dead.tasks dead.deadlocked w dead.inside))
            (ends w d published unmarked)

    ends_still : HaveEnds (updated mark u false)
    ends_still v e is off =
        elim (cases_eq v u) [
          | inl same ↦ subst (WaitsForEnded s) (sym same) (own_end e (ap s.published (sym same) ∙ is))
          | inr other ↦ ends v e is (sym (updated_other mark u v false other) ∙ off)
        ]

    fewer : u < n → sum_below (counted mark) n ≡ suc (sum_below (counted (updated mark u false)) n)
    fewer l =
        sum_more (counted (updated mark u false)) (counted mark) u
        (ap (λ b. if b then 1 else 0) on ∙ ap (λ b. suc (if b then 1 else 0)) (sym (updated_same mark u u false refl)))
        (λ v other. ap (λ b. if b then 1 else 0) (sym (updated_other mark u v false other))) n l

    within_still : ((v : ℕ) → mark v ≡ true → v < n) → (v : ℕ) → updated mark u false v ≡ true → v < n
    within_still within v is = elim (updated_is mark u v false true is) [ inl own ↦ absurd (false≢true own.1) | inr other ↦ within v other.1 ]

  -- marked tasks of which each is impeded by a marked one, or one that is not
  stuck_or_free : (mark : ℕ → Bool) → ((u : ℕ) → u < n → mark u ≡ true → Within mark u) ⊎ ((u : ℕ) × (u < n) × (mark u ≡ true) × (Within mark u → ⊥))
  stuck_or_free mark =
      elim (all_or_one (λ u. mark u ≡ true → Within mark u) (λ u. (mark u ≡ true) × (Within mark u → ⊥)) test n) [
        | inl all ↦ inl all
        | inr one ↦ inr (one.0, one.1, one.2.0, one.2.1)
      ]
    where
      test : (u : ℕ) → (mark u ≡ true → Within mark u) ⊎ ((mark u ≡ true) × (Within mark u → ⊥))
      test u =
          elim (cases_Bool (mark u)) [
            | inl on ↦ elim (impeded_or_not s n member_within mark u) [ inl held ↦ inl (λ _. held) | inr free ↦ inr (on, free) ]
            | inr off ↦ inl (λ on. absurd (false≢true (sym off ∙ on)))
          ]

  -- where each marked task is impeded by a marked one
  by_marks :
      (mark : ℕ → Bool) → HaveEnds mark → ((u : ℕ) → mark u ≡ true → u < n) → ((u : ℕ) → u < n → mark u ≡ true → Within mark u) →
      (t : ℕ) (e : Event) → s.published t ≡ Some e → (IsDeadIn s t → ⊥) → WaitsForEnded s t
  by_marks mark ends within all t e is alive =
      elim (cases_Bool (mark t)) [
        | inl on ↦
            absurd (alive (record {
              tasks = mark;
              inside = on;
              deadlocked = record { some = (t, on); each = λ u inside. all u (within u inside) inside };
            }))
        | inr off ↦ ends t e is off
      ]

  -- a held task, by marks that are taken away one by one
  held_by_marks :
      (fuel : ℕ) (mark : ℕ → Bool) → sum_below (counted mark) n ≤ fuel → HaveAll (IsPublishedOn s) (IsAtPhase s) mark → HaveEnds mark → ((u : ℕ) → mark u ≡ true → u < n) →
      (t : ℕ) (e : Event) → s.published t ≡ Some e → (IsDeadIn s t → ⊥) → WaitsForEnded s t
  held_by_marks zero mark few have ends within t e is alive =
      elim (stuck_or_free mark) [
        | inl all ↦ by_marks mark ends within all t e is alive
        | inr one ↦ absurd (let less = fewer mark have ends one.0 one.2 one.3 one.1 in omega arith)
      ]
  held_by_marks (suc fuel) mark few have ends within t e is alive =
      elim (stuck_or_free mark) [
        | inl all ↦ by_marks mark ends within all t e is alive
        | inr one ↦
            let less = fewer mark have ends one.0 one.2 one.3 one.1 in
            held_by_marks fuel (updated mark one.0 false) (omega arith) (have_still (IsPublishedOn s) (IsAtPhase s) mark have one.0 one.3)
            (ends_still mark have ends one.0 one.2 one.3) (within_still mark have ends one.0 one.2 one.3 within) t e is alive
      ]

  -- at first all published tasks are marked
  abbrev all_published : ℕ → Bool
  all_published u = is_some (s.published u)

  held_waits : (t : ℕ) (e : Event) → s.published t ≡ Some e → (IsDeadIn s t → ⊥) → WaitsForEnded s t
  held_waits t e is alive =
      held_by_marks (sum_below (counted all_published) n) all_published (omega arith)
      (λ tasks deadlocked u inside. let held = deadlocked.each u inside in ap is_some held.waits)
      (λ u d published off. absurd (false≢true (sym off ∙ ap is_some published)))
      (λ u on. by_event u (s.published u) refl on) t e is alive
    where
      by_event : (u : ℕ) (o : Option Event) → s.published u ≡ o → is_some (s.published u) ≡ true → u < n
      by_event u (Some d) published on = published_within u d published
      by_event u None none on = absurd (false≢true (sym (ap is_some none) ∙ on))

-- the state where a plain run has ended
module _ (plan : Plan) (checked : IsCheckedPlan plan) (g : List Step) (run : IsPlainRun plan g) (maximal : IsMaximal plan g) where
  tells : (t : ℕ) → Tells plan g t (end_of (state_after g) t)
  tells t = ends_tell plan g t checked run.0 maximal

  member_is_within : (u p m : ℕ) → (state_after g).phases u p ≡ Some m → u < length plan.parents
  member_is_within = (run_is_of_plan plan g checked run.0).member

  -- a published task is impeded
  impeded_there : (u : ℕ) (e : Event) → (state_after g).published u ≡ Some e → (w : ℕ) × (m : ℕ) × ((state_after g).phases w e.p.0 ≡ Some m) × (m < e.n)
  impeded_there u e is =
      elim (all_or_one
      (λ w. (m : ℕ) → (state_after g).phases w e.p.0 ≡ Some m → e.n ≤ m)
      (λ w. (m : ℕ) × ((state_after g).phases w e.p.0 ≡ Some m) × (m < e.n))
      (λ w. test w ((state_after g).phases w e.p.0) refl)
      (length plan.parents)) [
        | inr one ↦ (one.0, one.2.0, one.2.1, one.2.2)
        | inl all ↦
            absurd (let waits : Tells plan g u (end_by ((state_after g).forked u) (Some e) ((state_after g).refused u)) =
            subst (λ o. Tells plan g u (end_by ((state_after g).forked u) o ((state_after g).refused u))) is (tells u) in
            waits.1 (λ w m at. all w (member_is_within w e.p.0 m at) m at))
      ]
    where
      test :
          (w : ℕ) (o : Option ℕ) → (state_after g).phases w e.p.0 ≡ o →
          ((m : ℕ) → (state_after g).phases w e.p.0 ≡ Some m → e.n ≤ m) ⊎ ((m : ℕ) × ((state_after g).phases w e.p.0 ≡ Some m) × (m < e.n))
      test w None at = inl (λ m same. absurd (cc))
      test w (Some k) at =
          elim (cases_lt k e.n) [
            | inl l ↦ inr (k, at, l)
            | inr l ↦ inl (λ m same. let one : k ≡ m = (let both : Some k ≡ Some m = sym at ∙ same in cc) in omega arith)
          ]

  -- one that is not published has ended
  ended_there : (u : ℕ) → (state_after g).published u ≡ None → (end_of (state_after g) u ≡ Done) ⊎ (end_of (state_after g) u ≡ Unforked)
  ended_there u none =
      let is : end_of (state_after g) u ≡ end_by ((state_after g).forked u) None None =
      ap (λ o. end_by ((state_after g).forked u) o ((state_after g).refused u)) none
      ∙ ap (end_by ((state_after g).forked u) None) (plain_unrefused plan checked g run u) in
      elim (cases_Bool ((state_after g).forked u)) [
        | inl now ↦ inl (is ∙ ap (λ b. end_by b None None) now)
        | inr idle ↦ inr (is ∙ ap (λ b. end_by b None None) idle)
      ]

  held_there : (t : ℕ) → IsHeld (state_after g) t → WaitsForEnded (state_after g) t
  held_there t held = by_event ((state_after g).published t) refl held.0
    where
      by_event : (o : Option Event) → (state_after g).published t ≡ o → IsSome ((state_after g).published t) → WaitsForEnded (state_after g) t
      by_event None is some = absurd (false≢true (subst IsSome is some))
      by_event (Some e) is some =
          held_waits (state_after g) (length plan.parents) (run_is_of_plan plan g checked run.0).published member_is_within impeded_there ended_there t e is held.1

pub held_has_end : HeldHasEnd
held_has_end plan f t checked final held =
    subst (λ s. WaitsForEnded s t) final.there
    (held_there plan checked final.steps final.run final.maximal t (subst (λ s. IsHeld s t) (sym final.there) held))
