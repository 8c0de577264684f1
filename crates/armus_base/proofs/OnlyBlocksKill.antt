-- A legal event that is no block makes nobody dead.
use Rattle.std.proofs.Common.{◌≡◌, ◌≢◌, ℕ, false, Some, None, List, sym, ◌∙◌, ap, refl, inl, inr}
use Rattle.armus_base.specs.declared.event.Event.{Event}
use Rattle.armus_base.specs.Plans.{Action, Advances, Blocks, Drops, Forks, Makes, Passes, Plan, Refuses, Registers, Aim}
use Rattle.armus_base.specs.States.{IsLegal, State, Step, after, next_phase}
use Rattle.armus_base.specs.Runs.{IsLegalRun, places, state_after}
use Rattle.armus_base.specs.Places.{published_after}
use Rattle.armus_base.specs.CheckedPlans.{IsCheckedPlan}
use Rattle.armus_base.specs.calls.DeadlockLaws.{OnlyBlocksKill}
use Rattle.armus_base.proofs.Steps.{updated_is, with_phase_is}
use Rattle.armus_base.proofs.Stepping.{places_fix, unforked_idle}
use Rattle.armus_base.proofs.NextIsLegal.{unforked}

-- only a block publishes
published_was :
    (s : State) (u : ℕ) (x : Action) → ((aim : Aim) → x ≢ Blocks aim) → (w : ℕ) (e : Event) →
    (after s u x).published w ≡ Some e → s.published w ≡ Some e
published_was s u (Blocks q) n w e p = absurd (n q refl)
published_was s u (Passes q) n w e p =
    elim (updated_is s.published u w None (Some e) p) [ inl h ↦ absurd (cc) | inr h ↦ h.1 ]
published_was s u (Makes q) n w e p = p
published_was s u (Registers c q) n w e p = p
published_was s u (Forks c) n w e p = p
published_was s u (Advances q) n w e p = p
published_was s u (Drops q) n w e p = p
published_was s u (Refuses q) n w e p = p

-- a legal step leaves the phases of a published task
phases_were :
    (plan : Plan) (s : State) (u : ℕ) (x : Action) → IsLegal plan s u x → ((c : ℕ) → s.forked c ≡ false → s.published c ≡ None) →
    (w : ℕ) (e : Event) → s.published w ≡ Some e → (q n : ℕ) → (after s u x).phases w q ≡ Some n → s.phases w q ≡ Some n
phases_were plan s u (Makes r) legal idle w e p q n h =
    elim (with_phase_is s.phases u r (Some 0) w q (Some n) h) [
      | inl same ↦ absurd (let b : s.published w ≡ None = ap s.published same.0 ∙ legal.0.unpublished in cc)
      | inr other ↦ other.1
    ]
phases_were plan s u (Registers c r) legal idle w e p q n h =
    elim (with_phase_is s.phases c r (s.phases u r) w q (Some n) h) [
      | inl same ↦ absurd (let b : s.published w ≡ None = ap s.published same.0 ∙ idle c legal.2 in cc)
      | inr other ↦ other.1
    ]
phases_were plan s u (Forks c) legal idle w e p q n h = h
phases_were plan s u (Advances r) legal idle w e p q n h =
    elim (with_phase_is s.phases u r (next_phase (s.phases u r)) w q (Some n) h) [
      | inl same ↦ absurd (let b : s.published w ≡ None = ap s.published same.0 ∙ legal.0.unpublished in cc)
      | inr other ↦ other.1
    ]
phases_were plan s u (Drops r) legal idle w e p q n h =
    elim (with_phase_is s.phases u r None w q (Some n) h) [
      | inl same ↦ absurd (let b : s.published w ≡ None = ap s.published same.0 ∙ legal.1 in cc)
      | inr other ↦ other.1
    ]
phases_were plan s u (Blocks r) legal idle w e p q n h = h
phases_were plan s u (Passes r) legal idle w e p q n h = h
phases_were plan s u (Refuses r) legal idle w e p q n h = h

unforked_unpublished :
    (plan : Plan) → IsCheckedPlan plan → (h : List Step) → IsLegalRun plan h → (c : ℕ) → (state_after h).forked c ≡ false → (state_after h).published c ≡ None
unforked_unpublished plan checked h run c unforked =
    let at = places_fix plan checked h run in
    let idle = unforked_idle plan checked (places h) at.1 c (ap (λ s. s.forked c) (sym at.0) ∙ unforked) in
    ap (λ s. s.published c) at.0 ∙ ap (published_after plan c) idle

pub only_blocks_kill : OnlyBlocksKill
only_blocks_kill plan h a x t checked run legal no_block dead =
    let s = state_after h in
    let was : (u : ℕ) (ev : Event) → (after s a x).published u ≡ Some ev → s.published u ≡ Some ev = published_was s a x no_block in
    record {
      tasks = dead.tasks;
      inside = dead.inside;
      deadlocked =
          record {
            some = dead.deadlocked.some;
            each = λ u member.
                let held = dead.deadlocked.each u member in
                let by = dead.deadlocked.each held.by held.inside in
                record {
                  event = held.event;
                  waits = was u held.event held.waits;
                  by = held.by;
                  inside = held.inside;
                  phase = held.phase;
                  impedes =
                      phases_were plan s a x legal (unforked_unpublished plan checked h run) held.by by.event
                      (was held.by by.event by.waits) held.event.p.0 held.phase held.impedes;
                  below = held.below;
                };
          };
    }
