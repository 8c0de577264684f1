-- What a step or a refusal of one task leaves of the others.
use mathlib.Core.Path.{fun_ext}
use Rattle.std.proofs.Common.{◌≡◌, ◌≢◌, ℕ, true, Some, None, sym, ◌∙◌, ap, subst, inl, inr}
use Rattle.std.proofs.lemmas.Bool.{cases_eq}
use Rattle.std.proofs.lemmas.Option.{slice_get_within}
use Rattle.armus_base.specs.declared.event.Event.{Event}
use Rattle.armus_base.specs.Places.{done_by, forked_at, published_after, refused_at}
use Rattle.armus_base.specs.Plans.{Action, Advances, Drops, Forks, Makes, Registers, action_at}
use Rattle.armus_base.specs.Runs.{Place}
use Rattle.armus_base.specs.States.{Phases, State, after, awaited}
use Rattle.armus_base.proofs.Steps.{with_phase_other}
use Rattle.pl_core.specs.declared.place.Place.{Place as KeptPlace}
use Rattle.pl_core.specs.calls.Moves.{ChangesKeptPlace, IsWorldStep, refused_there}
use Rattle.pl_core.specs.calls.Worlds.{WorldValue, action_by_code, places_at, places_of, state_of}
use Rattle.pl_core.proofs.OneStep.{forked_of_other, places_set_other, places_set_same}
use Rattle.pl_core.proofs.Standing.{place_is}
use Rattle.run_queue.specs.calls.StepKinds.{ChangesPhasesOf, HasMoved, WasRefused}
use Rattle.run_queue.proofs.Forked.{forked_after}

module _ (old w : WorldValue) (t : ℕ) (moved : HasMoved old w t) where
  pub plan_same : w.plan ≡ old.plan
  plan_same = elim moved [ inl s ↦ s.plan | inr r ↦ r.refusal.plan ]

  other_place : (change : KeptPlace → KeptPlace) → ChangesKeptPlace old.places w.places t change → (u : ℕ) → u ≢ t → places_of w u ≡ places_of old u
  other_place change c u n =
      ap (λ p. places_at p w.places u) plan_same ∙ ap (λ xs. places_at old.plan xs u) c.changed ∙ places_set_other old.plan old.places t u (change c.place) n

  pub place_same : (u : ℕ) → u ≢ t → places_of w u ≡ places_of old u
  place_same u n = elim moved [ inl s ↦ other_place _ s.places u n | inr r ↦ other_place _ r.refusal.places u n ]

  pub published_same : (u : ℕ) → u ≢ t → (state_of w).published u ≡ (state_of old).published u
  unfolding state_of
  published_same u n = ap (λ p. published_after p u (places_of w u).done) plan_same ∙ ap (λ (a : Place). published_after old.plan u a.done) (place_same u n)

  pub refused_same : (u : ℕ) → u ≢ t → (state_of w).refused u ≡ (state_of old).refused u
  unfolding state_of
  refused_same u n =
      ap (λ p. refused_at p u (places_of w u).done (places_of w u).dropped) plan_same ∙ ap (λ (a : Place). refused_at old.plan u a.done a.dropped) (place_same u n)

  pub action_same : (u : ℕ) → u ≢ t → action_by_code w u ≡ action_by_code old u
  action_same u n = ap (λ p. action_at p u (places_of w u).done) plan_same ∙ ap (λ (a : Place). action_at old.plan u a.done) (place_same u n)

-- a refusal forks nobody, and the task is not published
module _ (old w : WorldValue) (t : ℕ) (r : WasRefused old w t) where
  own_done : (places_of w t).done ≡ (places_of old t).done
  own_done =
      let c = r.refusal.places in
      ap (λ p. (places_at p w.places t).done) r.refusal.plan
      ∙ ap (λ xs. (places_at old.plan xs t).done) c.changed
      ∙ ap (λ (a : Place). a.done) (places_set_same old.plan old.places t (refused_there c.place) (slice_get_within old.places t c.place c.there))
      ∙ sym (ap (λ (a : Place). a.done) (place_is old.plan old.places t c.place c.there))

  done_same : (u : ℕ) → (places_of w u).done ≡ (places_of old u).done
  done_same u = elim (cases_eq u t) [
    | inl same ↦ subst (λ v. (places_of w v).done ≡ (places_of old v).done) (sym same) own_done
    | inr other ↦ ap (λ (a : Place). a.done) (place_same old w t (inr r) u other)
  ]

  pub refusal_forks_nobody : (u : ℕ) → (state_of w).forked u ≡ (state_of old).forked u
  unfolding state_of
  refusal_forks_nobody u =
      ap (λ p. forked_at p (done_by (places_of w)) u) r.refusal.plan ∙ ap (λ a. forked_at old.plan a u) (fun_ext done_same)

  pub refused_unpublished : (state_of w).published t ≡ None
  unfolding state_of
  refused_unpublished =
      ap (λ p. published_after p t (places_of w t).done) r.refusal.plan ∙ ap (published_after old.plan t) own_done ∙ r.before.0.unpublished

-- who is forked stays so
pub forked_kept : (old w : WorldValue) (t : ℕ) → HasMoved old w t → (u : ℕ) → (state_of old).forked u ≡ true → (state_of w).forked u ≡ true
forked_kept old w t (inl s) u is = subst (λ (q : State). q.forked u ≡ true) (sym s.state) (forked_after (state_of old) t s.action u is)
forked_kept old w t (inr r) u is = refusal_forks_nobody old w t r u ∙ is

-- a step that is no fork forks nobody
pub step_forks_nobody :
    (old w : WorldValue) (t : ℕ) (s : IsWorldStep old w t) → ((u : ℕ) → s.action ≢ Forks u) → (u : ℕ) → (state_of w).forked u ≡ (state_of old).forked u
step_forks_nobody old w t s none u = ap (λ (q : State). q.forked u) s.state ∙ forked_of_other (state_of old) t u s.action (none u)

-- what changes phases of one phaser forks nobody, is no await, and changes those of no other phaser
pub changes_no_fork : (x : Action) (p c : ℕ) → ChangesPhasesOf x p → x ≢ Forks c
changes_no_fork (Makes q) p c h e = absurd (cc)
changes_no_fork (Registers d q) p c h e = absurd (cc)
changes_no_fork (Advances q) p c h e = absurd (cc)
changes_no_fork (Drops q) p c h e = absurd (cc)
changes_no_fork x p c h e = absurd h

pub changes_no_await : (x : Action) (p : ℕ) (m : Phases) (e : Event) → ChangesPhasesOf x p → awaited (Some x) m ≡ Some e → ⊥
changes_no_await (Makes q) p m e h is = absurd (cc)
changes_no_await (Registers d q) p m e h is = absurd (cc)
changes_no_await (Advances q) p m e h is = absurd (cc)
changes_no_await (Drops q) p m e h is = absurd (cc)
changes_no_await x p m e h is = absurd h

pub phases_elsewhere : (s : State) (t : ℕ) (x : Action) (p q : ℕ) → ChangesPhasesOf x p → q ≢ p → (v : ℕ) → (after s t x).phases v q ≡ s.phases v q
phases_elsewhere s t (Makes r) p q h n v = with_phase_other s.phases t r _ v q (λ _ e. n (e ∙ h))
phases_elsewhere s t (Registers c r) p q h n v = with_phase_other s.phases c r _ v q (λ _ e. n (e ∙ h))
phases_elsewhere s t (Advances r) p q h n v = with_phase_other s.phases t r _ v q (λ _ e. n (e ∙ h))
phases_elsewhere s t (Drops r) p q h n v = with_phase_other s.phases t r _ v q (λ _ e. n (e ∙ h))
phases_elsewhere s t x p q h n v = absurd h
