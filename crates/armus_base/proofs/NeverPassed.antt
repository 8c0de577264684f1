-- A plain run makes no step of a task behind the place at which some run has it dead.
use Rattle.std.proofs.Common.{◌≡◌, ℕ, suc, ◌<◌, ◌≤◌, max, Bool, true, Some, None, List, [], ◌∷◌, arith, sym, ◌∙◌, ap, subst, inl, inr}
use Rattle.std.proofs.lemmas.Bool.{cases_eq, cases_lt}
use Rattle.armus_base.specs.calls.AgreementLaws.{DeadIsNeverPassed}
use Rattle.armus_base.specs.CheckedPlans.{IsCheckedPlan}
use Rattle.armus_base.specs.Deadlocks.{IsAtPhase, IsDeadlockedSet, IsPublishedOn}
use Rattle.armus_base.specs.calls.Places.{IsConsistent}
use Rattle.armus_base.specs.Places.{done_by, kept, phases_after, phases_at, published_after, state_at}
use Rattle.armus_base.specs.Plans.{Plan}
use Rattle.armus_base.specs.calls.Runs.{ArePrefixes, Precedes}
use Rattle.armus_base.specs.Runs.{IsLegalRun, IsPlainRun, Place, places, state_after}
use Rattle.armus_base.specs.States.{IsReached, Step, event_at}
use Rattle.armus_base.proofs.Fixed.{forked_later, phases_forked}
use Rattle.armus_base.proofs.Members.{member_made, only_passes, other_step, plain_step, plain_undropped, published_member}
use Rattle.armus_base.proofs.Published.{published_after_is, published_undropped}
use Rattle.armus_base.proofs.ReachedLater.{reached_later}
use Rattle.armus_base.proofs.Stepping.{places_fix}

-- a set that is deadlocked after the run h
module _ (plan : Plan) (checked : IsCheckedPlan plan) (h : List Step) (run_h : IsLegalRun plan h) (tasks : ℕ → Bool)
    (deadlocked : IsDeadlockedSet (IsPublishedOn (state_after h)) (IsAtPhase (state_after h)) tasks) where
  at_h : (state_after h ≡ state_at plan (places h)) × IsConsistent plan (places h)
  at_h = places_fix plan checked h run_h

  published_there : (u : ℕ) (inside : tasks u ≡ true) → published_after plan u (done_by (places h) u) ≡ Some (deadlocked.each u inside).event
  published_there u inside = ap (λ s. s.published u) (sym at_h.0) ∙ (deadlocked.each u inside).waits

  begun_there : (u : ℕ) → tasks u ≡ true → 0 < done_by (places h) u
  begun_there u inside =
      let is = published_after_is plan u (done_by (places h) u) (deadlocked.each u inside).event (published_there u inside) in
      let x = is.1 in
      omega arith

  phase_there : (u p n : ℕ) → tasks u ≡ true → (state_after h).phases u p ≡ Some n → phases_after plan u (done_by (places h) u) p ≡ Some n
  phase_there u p n inside e =
      let undropped = published_undropped plan (places h) at_h.1 u (deadlocked.each u inside).event (published_there u inside) in
      ap (λ m. m p) (sym (phases_forked plan checked (done_by (places h)) u (at_h.1.begun u (begun_there u inside))))
      ∙ ap (λ o. kept o (phases_at plan (done_by (places h)) u) p) (sym undropped)
      ∙ ap (λ r. r.phases u p) (sym at_h.0)
      ∙ e

  -- the places of c, and those of h where they are later
  abbrev raised : (ℕ → Place) → ℕ → Place
  raised c x = record { done = max (c x).done (places h x).done; dropped = None }

  module _ (c : ℕ → Place) (consistent : IsConsistent plan c) (undropped : (x : ℕ) → (c x).dropped ≡ None) where
    raised_later : ArePrefixes c (raised c)
    raised_later x = subst (λ o. Precedes (c x).done o (max (c x).done (places h x).done) None) (sym (undropped x)) (omega arith)

    raised_consistent : IsConsistent plan (raised c)
    raised_consistent =
        record {
          begun = λ x pos. elim (cases_eq (done_by c x) 0) [
            | inl z ↦ forked_later plan (done_by (places h)) (done_by (raised c)) x (λ u. omega arith) (at_h.1.begun x (omega arith))
            | inr n ↦ forked_later plan (done_by c) (done_by (raised c)) x (λ u. omega arith) (consistent.begun x (omega arith))
          ];
          refused = λ x q dropped. absurd (cc);
        }

  -- the first step of a task of the set that would pass finds its event impeded
  cannot_pass :
      (g : List Step) (e : Step) → IsPlainRun plan (e ∷ g) → ((u : ℕ) → tasks u ≡ true → done_by (places g) u ≤ done_by (places h) u) →
      tasks e.task ≡ true → done_by (places g) e.task ≡ done_by (places h) e.task → ⊥
  cannot_pass g e run unpassed inside here =
      let c = places g in
      let at_g = places_fix plan checked g run.0.0 in
      let undropped = plain_undropped plan g (run.0.0, run.1.0) in
      let held = deadlocked.each e.task inside in
      let w = held.by in
      let p = held.event.p.0 in
      let published : (state_after g).published e.task ≡ Some held.event =
      ap (λ s. s.published e.task) at_g.0 ∙ ap (published_after plan e.task) here ∙ published_there e.task inside in
      let passes = only_passes plan (state_after g) e.task e.action held.event run.0.1.legal published in
      let member = published_member plan g run.0.0 e.task held.event published in
      let made = member_made plan g run.0.0 e.task p member.0 member.1 in
      let consistent = raised_consistent c at_g.1 undropped in
      let reached : IsReached (state_at plan (raised c)) (event_at p held.event.n) =
      reached_later plan checked c (raised c) at_g.1 consistent (raised_later c at_g.1 undropped) p held.event.n
      (subst (λ s. s.made p ≡ true) at_g.0 made) (subst (λ s. IsReached s (event_at p held.event.n)) at_g.0 passes.1) in
      let l = unpassed w held.inside in
      let there : done_by (raised c) w ≡ done_by (places h) w = omega arith in
      let pos = begun_there w held.inside in
      let phase : (state_at plan (raised c)).phases w p ≡ Some held.phase =
      ap (λ m. m p) (phases_forked plan checked (done_by (raised c)) w (consistent.begun w (omega arith)))
      ∙ ap (λ k. phases_after plan w k p) there
      ∙ phase_there w p held.phase held.inside held.impedes in
      let above : held.event.n ≤ held.phase = reached w held.phase phase in
      let below = held.below in
      absurd (omega arith)

  pub not_passed : (g : List Step) → IsPlainRun plan g → (u : ℕ) → tasks u ≡ true → done_by (places g) u ≤ done_by (places h) u
  not_passed [] run u inside = omega arith
  not_passed (e ∷ g) run u inside =
      let unpassed = not_passed g (run.0.0, run.1.0) in
      elim (cases_eq u e.task) [
        | inl same ↦
            subst (λ v. done_by (places (e ∷ g)) v ≤ done_by (places h) v) (sym same)
            (let inside' : tasks e.task ≡ true = subst (λ v. tasks v ≡ true) same inside in
            let step : done_by (places (e ∷ g)) e.task ≡ suc (done_by (places g) e.task) = ap (λ v. v.done) (plain_step plan e g run) in
            let l = unpassed e.task inside' in
            elim (cases_lt (done_by (places g) e.task) (done_by (places h) e.task)) [
              | inl behind ↦ omega arith
              | inr level ↦ absurd (cannot_pass g e run unpassed inside' (omega arith))
            ])
        | inr other ↦ (let same_place = ap (λ v. v.done) (other_step e g u other) in let l = unpassed u inside in omega arith)
      ]

pub dead_is_never_passed : DeadIsNeverPassed
dead_is_never_passed plan h g t checked run_h run_g dead = not_passed plan checked h run_h dead.tasks dead.deadlocked g run_g t dead.inside
