-- A deadlocked set that was collected stands where it was found, and is deadlocked.
use Rattle.std.proofs.Common.{◌≡◌, ℕ, zero, suc, ◌<◌, ◌≤◌, Bool, true, Option, Some, None, List, [], ◌∷◌, arith, sym, ◌∙◌, ap, subst, refl, inl, inr}
use Rattle.std.proofs.lemmas.Bool.Decides.{nat_tests}
use Rattle.std.specs.Prelude.{◌==◌, if◌then◌else◌, nat_lt}
use Rattle.std.proofs.lemmas.Bool.{cases_eq, cases_order}
use Rattle.armus_base.specs.declared.event.Event.{Event}
use Rattle.armus_base.specs.Plans.{Plan, action_at, parent_of}
use Rattle.armus_base.specs.States.{IsReached, Step, event_at}
use Rattle.armus_base.specs.calls.Runs.{ArePrefixes, IsPrefix, Precedes}
use Rattle.armus_base.specs.Runs.{IsLegalRun, Place, places, state_after}
use Rattle.armus_base.specs.calls.Places.{IsConsistent}
use Rattle.armus_base.specs.Places.{done_by, forked_at, kept, phases_after, phases_at, published_after, state_at}
use Rattle.armus_base.specs.CheckedPlans.{IsCheckedPlan}
use Rattle.armus_base.specs.Deadlocks.{HasPhase, IsAtPhase, IsDeadlockedSet, IsImpededWithin, IsListedAt, IsListedOn, IsPublishedOn, WaitsOn}
use Rattle.armus_base.specs.calls.DeadlockLaws.{CollectedIsDead}
use Rattle.armus_base.proofs.Fixed.{forked_at_is, forked_at_from, forked_later, root_forked, phases_forked}
use Rattle.armus_base.proofs.Stepping.{places_fix}
use Rattle.armus_base.proofs.ReachedLater.{reached_later, later_done}
use Rattle.armus_base.proofs.Places.{precedes_itself, prefixes_itself, prefixes_trans, step_later}
use Rattle.armus_base.proofs.Members.{member_made, published_member, only_passes, other_step}
use Rattle.armus_base.proofs.Published.{published_after_is, published_undropped, refused_stays, step_at_most, same_place, undropped_before, kept_is}

-- A deadlocked set, each of whose tasks was found waiting at a place, and its phases at that place or later: at the places of run g, which
-- are at or after all of these, each task of the set still has_phase where it was found waiting.
module _ (plan : Plan) (checked : IsCheckedPlan plan) (g : List Step) (run_g : IsLegalRun plan g) (waits_on : WaitsOn) (has_phase : HasPhase) (tasks : ℕ → Bool)
    (at : ℕ → ℕ) (found : ℕ → ℕ → ℕ) (deadlocked : IsDeadlockedSet waits_on has_phase tasks)
    (waiting : (u : ℕ) (e : Event) → tasks u ≡ true → waits_on u e → published_after plan u (at u) ≡ Some e)
    (phases : (u p m : ℕ) → tasks u ≡ true → has_phase u p m → at u ≤ found u p × found u p ≤ done_by (places g) u × phases_after plan u (found u p) p ≡ Some m)
    (reaches : (u : ℕ) → tasks u ≡ true → at u ≤ done_by (places g) u) where
  -- the places of h, but with those of g for the tasks below w, and w at place b
  abbrev mixed : (ℕ → Place) → ℕ → ℕ → ℕ → Place
  mixed c w b x = if nat_lt x w then places g x else (if x == w then record { done = b; dropped = None } else c x)

  mixed_below : (c : ℕ → Place) (w b x : ℕ) → x < w → mixed c w b x ≡ places g x
  mixed_below c w b x l = grind (arith, nat_tests)

  mixed_at : (c : ℕ → Place) (w b : ℕ) → mixed c w b w ≡ record { done = b; dropped = None }
  mixed_at c w b = grind (arith, nat_tests)

  mixed_above : (c : ℕ → Place) (w b x : ℕ) → w < x → mixed c w b x ≡ c x
  mixed_above c w b x l = grind (arith, nat_tests)

  mixed_later :
      (c : ℕ → Place) (w b : ℕ) → ArePrefixes c (places g) → (c w).dropped ≡ None → (c w).done ≤ b → ArePrefixes c (mixed c w b)
  mixed_later c w b later undropped l x =
      elim (cases_order x w) [
        | inl e ↦ subst (λ v. Precedes (c v).done (c v).dropped (mixed c w b v).done (mixed c w b v).dropped) (sym e)
            (subst (λ v. Precedes (c w).done (c w).dropped v.done v.dropped) (sym (mixed_at c w b)) (subst (λ o. Precedes (c w).done o b None) (sym undropped) l))
        | inr (inl below) ↦ subst (λ v. Precedes (c x).done (c x).dropped v.done v.dropped) (sym (mixed_below c w b x below)) (later x)
        | inr (inr above) ↦ subst (λ v. Precedes (c x).done (c x).dropped v.done v.dropped) (sym (mixed_above c w b x above)) (precedes_itself (c x).done (c x).dropped)
      ]

  mixed_consistent :
      (c : ℕ → Place) (w b : ℕ) → IsConsistent plan c → ArePrefixes c (places g) → (c w).dropped ≡ None → (c w).done ≤ b → b ≤ done_by (places g) w →
      IsConsistent plan (mixed c w b)
  mixed_consistent c w b consistent later undropped l within =
      record {
        begun = λ x pos. elim (cases_order x w) [
          | inl e ↦ from_g x (omega arith) (consistent_g.begun x
              (let d : (mixed c w b x).done ≡ b = ap (λ v. (mixed c w b v).done) e ∙ ap (λ v. v.done) (mixed_at c w b) in let same : done_by (places g) x ≡ done_by (places g) w = ap (done_by (places g)) e in omega arith))
          | inr (inl below) ↦ from_g x (omega arith) (consistent_g.begun x (let d = ap (λ v. v.done) (mixed_below c w b x below) in omega arith))
          | inr (inr above) ↦ from_c x (consistent.begun x (let d = ap (λ v. v.done) (mixed_above c w b x above) in omega arith))
        ];
        refused = λ x q dropped. elim (cases_order x w) [
          | inl e ↦ absurd (let none : (mixed c w b x).dropped ≡ None = ap (λ v. (mixed c w b v).dropped) e ∙ ap (λ v. v.dropped) (mixed_at c w b) in cc)
          | inr (inl below) ↦
              let same = mixed_below c w b x below in
              let r = consistent_g.refused x q (sym (ap (λ v. v.dropped) same) ∙ dropped) in
              (from_g x (omega arith) r.0, (r.1.0, ap (λ v. action_at plan x v.done) same ∙ r.1.1))
          | inr (inr above) ↦
              let same = mixed_above c w b x above in
              let r = consistent.refused x q (sym (ap (λ v. v.dropped) same) ∙ dropped) in
              (from_c x r.0, (r.1.0, ap (λ v. action_at plan x v.done) same ∙ r.1.1))
        ];
      }
    where
      consistent_g : IsConsistent plan (places g)
      consistent_g = (places_fix plan checked g run_g).1

      from_c : (x : ℕ) → forked_at plan (done_by c) x ≡ true → forked_at plan (done_by (mixed c w b)) x ≡ true
      from_c x f =
          let after = mixed_later c w b later undropped l in
          forked_later plan (done_by c) (done_by (mixed c w b)) x
          (λ v. later_done (c v).done (mixed c w b v).done (c v).dropped (mixed c w b v).dropped (after v)) f

      from_g : (x : ℕ) → x ≤ w → forked_at plan (done_by (places g)) x ≡ true → forked_at plan (done_by (mixed c w b)) x ≡ true
      from_g zero le f = root_forked plan (done_by (mixed c w b))
      from_g (suc y) le f =
          let u = parent_of plan (suc y) in
          let first : u < suc y = checked.tables.parents_first (suc y) (omega arith) in
          elim (forked_at_is plan (done_by (places g)) (suc y) f) [
            | inl z ↦ absurd (omega arith)
            | inr r ↦
                let same : done_by (mixed c w b) u ≡ done_by (places g) u = ap (λ v. v.done) (mixed_below c w b u (omega arith)) in
                forked_at_from plan (done_by (mixed c w b)) (suc y) r.0 (omega arith) r.2
          ]

  -- a task of the set that has not passed the place where it was found is not refused
  unpassed_undropped :
      (c : ℕ → Place) → IsConsistent plan c → ArePrefixes c (places g) → (w : ℕ) → tasks w ≡ true → done_by c w ≤ at w → (c w).dropped ≡ None
  unpassed_undropped c consistent later w inside l = go (c w).dropped refl
    where
      go : (o : Option ℕ) → (c w).dropped ≡ o → o ≡ None
      go None dropped = refl
      go (Some q) dropped =
          let held = deadlocked.each w inside in
          let stays : done_by c w ≡ done_by (places g) w = refused_stays (places g) c later w q dropped in
          let r = reaches w inside in
          let here : (c w).done ≡ at w = omega arith in
          let none = published_undropped plan c consistent w held.event (ap (published_after plan w) here ∙ waiting w held.event inside held.waits) in
          absurd (cc)

  -- it can not pass: the task that impedes its event has not passed either
  cannot_pass :
      (h : List Step) (e : Step) → IsLegalRun plan (e ∷ h) → ArePrefixes (places h) (places g) →
      ((u : ℕ) → tasks u ≡ true → done_by (places h) u ≤ at u) → tasks e.task ≡ true → done_by (places h) e.task ≡ at e.task → ⊥
  cannot_pass h e run later unpassed inside here =
      let c = places h in
      let at_h = places_fix plan checked h run.0 in
      let held = deadlocked.each e.task inside in
      let w = held.by in
      let p = held.event.p.0 in
      let b = found w p in
      let published : (state_after h).published e.task ≡ Some held.event =
      ap (λ s. s.published e.task) at_h.0 ∙ ap (published_after plan e.task) here ∙ waiting e.task held.event inside held.waits in
      let passes = only_passes plan (state_after h) e.task e.action held.event run.1.legal published in
      let member = published_member plan h run.0 e.task held.event published in
      let made = member_made plan h run.0 e.task p member.0 member.1 in
      let seen = phases w p held.phase held.inside held.impedes in
      let undropped = unpassed_undropped c at_h.1 later w held.inside (unpassed w held.inside) in
      let l : (c w).done ≤ b = (let x = unpassed w held.inside in let y = seen.0 in omega arith) in
      let d = mixed c w b in
      let consistent_d = mixed_consistent c w b at_h.1 later undropped l seen.1 in
      let reached : IsReached (state_at plan d) (event_at p held.event.n) =
      reached_later plan checked c d at_h.1 consistent_d (mixed_later c w b later undropped l) p held.event.n
      (subst (λ s. s.made p ≡ true) at_h.0 made) (subst (λ s. IsReached s (event_at p held.event.n)) at_h.0 passes.1) in
      let by = deadlocked.each w held.inside in
      let stands_on = published_after_is plan w (at w) by.event (waiting w by.event held.inside by.waits) in
      let begun : 0 < (d w).done = (let x = seen.0 in let y = stands_on.1 in let z = ap (λ v. v.done) (mixed_at c w b) in omega arith) in
      let phase : (state_at plan d).phases w p ≡ Some held.phase =
      ap (λ o. kept o (phases_at plan (done_by d) w) p) (ap (λ v. v.dropped) (mixed_at c w b))
      ∙ ap (λ m. m p) (phases_forked plan checked (done_by d) w (consistent_d.begun w begun))
      ∙ ap (λ k. phases_after plan w k p) (ap (λ v. v.done) (mixed_at c w b))
      ∙ seen.2 in
      let above : held.event.n ≤ held.phase = reached w held.phase phase in
      let below = held.below in
      absurd (omega arith)

  not_passed : (h : List Step) → IsLegalRun plan h → ArePrefixes (places h) (places g) → (u : ℕ) → tasks u ≡ true → done_by (places h) u ≤ at u
  not_passed [] run later u inside = omega arith
  not_passed (e ∷ h) run later u inside =
      let before = prefixes_trans (places h) (places (e ∷ h)) (places g) later (step_later h e) in
      let unpassed = not_passed h run.0 before in
      elim (cases_eq u e.task) [
        | inl same ↦
            subst (λ v. done_by (places (e ∷ h)) v ≤ at v) (sym same)
            (let inside' : tasks e.task ≡ true = subst (λ v. tasks v ≡ true) same inside in
            let step : done_by (places (e ∷ h)) e.task ≤ suc (done_by (places h) e.task) = step_at_most e h in
            let l = unpassed e.task inside' in
            elim (cases_eq (done_by (places h) e.task) (at e.task)) [
              | inl here ↦ absurd (cannot_pass h e run before unpassed inside' here)
              | inr ne ↦ omega arith
            ])
        | inr other ↦ (let same_place = ap (λ v. v.done) (other_step e h u other) in let l = unpassed u inside in omega arith)
      ]

  -- each task of the set has_phase where it was found waiting
  pub stands_there : (u : ℕ) → tasks u ≡ true → done_by (places g) u ≡ at u
  stands_there u inside =
      let l = not_passed g run_g (prefixes_itself (places g)) u inside in
      let r = reaches u inside in
      omega arith

  impeded_there : (u : ℕ) → tasks u ≡ true → IsImpededWithin (IsPublishedOn (state_after g)) (IsAtPhase (state_after g)) tasks u
  impeded_there u inside =
      let held = deadlocked.each u inside in
      let at_g = places_fix plan checked g run_g in
      let w = held.by in
      let by = deadlocked.each w held.inside in
      let p = held.event.p.0 in
      let seen = phases w p held.phase held.inside held.impedes in
      let here : done_by (places g) w ≡ at w = stands_there w held.inside in
      let exact : found w p ≡ done_by (places g) w = (let x = seen.0 in let y = seen.1 in omega arith) in
      let published_w : published_after plan w (done_by (places g) w) ≡ Some by.event = ap (published_after plan w) here ∙ waiting w by.event held.inside by.waits in
      let undropped = published_undropped plan (places g) at_g.1 w by.event published_w in
      let stands_on = published_after_is plan w (done_by (places g) w) by.event published_w in
      let begun : 0 < done_by (places g) w = (let y = stands_on.1 in omega arith) in
      record {
        event = held.event;
        waits =
            ap (λ s. s.published u) at_g.0 ∙ ap (published_after plan u) (stands_there u inside) ∙ waiting u held.event inside held.waits;
        by = w;
        inside = held.inside;
        phase = held.phase;
        impedes =
            ap (λ s. s.phases w p) at_g.0
            ∙ ap (λ o. kept o (phases_at plan (done_by (places g)) w) p) undropped
            ∙ ap (λ m. m p) (phases_forked plan checked (done_by (places g)) w (at_g.1.begun w begun))
            ∙ ap (λ k. phases_after plan w k p) (sym exact)
            ∙ seen.2;
        below = held.below;
      }

  -- and the set is deadlocked there
  pub deadlocked_there : IsDeadlockedSet (IsPublishedOn (state_after g)) (IsAtPhase (state_after g)) tasks
  deadlocked_there = record { some = deadlocked.some; each = impeded_there }

pub collected_is_dead : CollectedIsDead
collected_is_dead plan g list tasks at found checked run_g deadlocked found_there = (
  there,
  deadlocked_there plan checked g run_g (IsListedOn list) (IsListedAt list) tasks (λ u. (at u).done) (λ u p. (found u p).done) deadlocked
      found_there.waiting phases reaches,
)
  where
    phases :
        (u p n : ℕ) → tasks u ≡ true → IsListedAt list u p n →
        (at u).done ≤ (found u p).done × (found u p).done ≤ done_by (places g) u × phases_after plan u (found u p).done p ≡ Some n
    phases u p n inside h =
        let s = found_there.phases u p n inside h in (
          later_done (at u).done (found u p).done (at u).dropped (found u p).dropped s.0,
          later_done (found u p).done (places g u).done (found u p).dropped (places g u).dropped (found_there.phases_before u p n inside h),
          kept_is (found u p).dropped (phases_after plan u (found u p).done) p n s.1,
        )

    before : (u : ℕ) → tasks u ≡ true → IsPrefix (at u) (places g u)
    before u inside = (let held = deadlocked.each u inside in found_there.before u held.event inside held.waits)

    reaches : (u : ℕ) → tasks u ≡ true → (at u).done ≤ done_by (places g) u
    reaches u inside = later_done (at u).done (places g u).done (at u).dropped (places g u).dropped (before u inside)

    there : (u : ℕ) → tasks u ≡ true → places g u ≡ at u
    there u inside =
        let same = stands_there plan checked g run_g (IsListedOn list) (IsListedAt list) tasks (λ u. (at u).done) (λ u p. (found u p).done) deadlocked
        found_there.waiting phases reaches u inside in
        let held = deadlocked.each u inside in
        let undropped = published_undropped plan (places g) (places_fix plan checked g run_g).1 u held.event
        (ap (published_after plan u) same ∙ found_there.waiting u held.event inside held.waits) in
        same_place (places g u) (at u) same undropped (undropped_before (at u) (places g u) (before u inside) undropped)
