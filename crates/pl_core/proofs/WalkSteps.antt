-- One action of a walk: what becomes of the state that the places fix.
use mathlib.Core.Path.{fun_ext}
use Rattle.std.proofs.Common.{◌≡◌, ◌≢◌, ℕ, suc, ◌<◌, ◌≤◌, true, false, Option, Some, None, arith, sym, ◌∙◌, ap, refl, inl, inr}
use Rattle.std.proofs.lemmas.Bool.{cases_lt}
use Rattle.armus_base.specs.declared.event.Event.{Event}
use Rattle.armus_base.specs.Plans.{Action, Passes, Plan, Registers, action_at}
use Rattle.armus_base.specs.States.{IsActive, IsLegal, Phases, after}
use Rattle.armus_base.specs.Runs.{Place}
use Rattle.armus_base.specs.calls.Places.{IsConsistent}
use Rattle.armus_base.specs.Places.{done_by, forked_at, forks, kept, members_below, own_step, phases_after, phases_at, published_after, refused_at, state_at}
use Rattle.armus_base.specs.CheckedPlans.{IsCheckedPlan}
use Rattle.armus_base.proofs.Fixed.{kept_above, kept_below, phases_forked}
use Rattle.armus_base.proofs.NextIsLegal.{next_legal}
use Rattle.armus_base.proofs.Published.{published_passes}
use Rattle.armus_base.proofs.Stepping.{forked_same, phases_unchanged, regular_step}
use Rattle.pl_core.specs.inside.Walks.{walking}
use Rattle.pl_core.proofs.Refusing.{dropped_below}
use Rattle.pl_core.proofs.Walking.{forked_upto, walking_consistent, walking_other, walking_own}

-- a task that has dropped all its phasers is a member of nothing
pub kept_none : (m : Phases) (w : ℕ) → ((q n : ℕ) → m q ≡ Some n → q < w) → (q : ℕ) → kept (Some (members_below m w)) m q ≡ None
kept_none m w within q = go (m q) refl
  where
    go : (o : Option ℕ) → m q ≡ o → kept (Some (members_below m w)) m q ≡ None
    go None e =
        elim (cases_lt (members_below m q) (members_below m w)) [
          | inl below ↦ kept_below (members_below m w) q m below
          | inr above ↦ kept_above (members_below m w) q m above ∙ e
        ]
    go (Some n) e = dropped_below m w q (within q n e)

-- the place after an action that does not pass is one at which nothing is published
pub unpublished_before :
    (plan : Plan) (t k : ℕ) → ((p : ℕ) → action_at plan t k ≢ Some (Passes p)) → published_after plan t k ≡ None
unpublished_before plan t k no_pass = go (published_after plan t k) refl
  where
    go : (o : Option Event) → published_after plan t k ≡ o → o ≡ None
    go None e = refl
    go (Some e) h =
        absurd (no_pass e.p.0 (published_passes plan t k e h))

-- task t, which is forked at the given places, has made k of its actions
module _ (plan : Plan) (checked : IsCheckedPlan plan) (a : ℕ → Place) (consistent : IsConsistent plan a) (t k : ℕ) (few : k ≤ (a t).done)
    (forked : forked_at plan (done_by a) t ≡ true) where
  abbrev here : ℕ → Place
  here = walking a t k

  abbrev there : ℕ → Place
  there = walking a t (suc k)

  pub here_consistent : IsConsistent plan here
  here_consistent = walking_consistent plan checked a consistent t k few

  pub now : forked_at plan (done_by here) t ≡ true
  now = forked_upto plan checked a consistent t k t (omega arith) ∙ forked

  pub undropped : (here t).dropped ≡ None
  undropped = ap (λ v. v.dropped) (walking_own a t k)

  pub done_here : (here t).done ≡ k
  done_here = ap (λ v. v.done) (walking_own a t k)

  -- its phases
  pub own_phases_here : (state_at plan here).phases t ≡ phases_after plan t k
  own_phases_here =
      ap (λ o. kept o (phases_at plan (done_by here) t)) undropped
      ∙ phases_forked plan checked (done_by here) t now
      ∙ ap (phases_after plan t) done_here

  own : there t ≡ record { done = suc (here t).done; dropped = None }
  own = walking_own a t (suc k) ∙ ap (λ n. record { done = suc n; dropped = None }) (sym done_here)

  rest : (u : ℕ) → u ≢ t → there u ≡ here u
  rest u n = walking_other a t (suc k) u n ∙ sym (walking_other a t k u n)

  module _ (x : Action) (next : action_at plan t k ≡ Some x) where
    next_here : action_at plan t (here t).done ≡ Some x
    next_here = ap (action_at plan t) done_here ∙ next

    -- an action that is no pass
    module _ (no_pass : (p : ℕ) → x ≢ Passes p) where
      active : IsActive (state_at plan here) t
      active =
          record {
            forked = now;
            unpublished = unpublished_before plan t (here t).done (λ p e. no_pass p (let two : Some x ≡ Some (Passes p) = sym next_here ∙ e in cc));
            unrefused = ap (refused_at plan t (here t).done) undropped;
          }

      legal : IsLegal plan (state_at plan here) t x
      legal = next_legal plan checked here here_consistent t x active next_here

      pub stepped : after (state_at plan here) t x ≡ state_at plan there
      stepped = regular_step plan checked here here_consistent t undropped there own rest x next_here legal

    -- an action that changes no phases and forks nobody
    pub quiet_phases :
        ((m : Phases) → own_step (Some x) m ≡ m) → ((u p : ℕ) → Some x ≢ Some (Registers u p)) →
        (state_at plan here).phases ≡ (state_at plan there).phases
    quiet_phases keeps no_reg =
        fun_ext (λ u. fun_ext (λ p.
        phases_unchanged plan checked here here_consistent t now undropped there own rest x next_here (keeps (kept (here t).dropped (phases_at plan (done_by here) t))) no_reg u p))

    pub quiet_forked : ((c : ℕ) → forks (Some x) c ≡ false) → (c : ℕ) → forked_at plan (done_by here) c ≡ forked_at plan (done_by there) c
    quiet_forked no_fork c = forked_same plan checked here here_consistent t now undropped there own rest x next_here no_fork c
