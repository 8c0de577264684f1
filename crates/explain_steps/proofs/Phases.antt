-- An active task is a member where its next action asks for a phase, and this phase leaves room.
use Rattle.std.proofs.Common.{◌≡◌, ℕ, ◌+◌, ◌<◌, ◌^◌, Some, length, arith}
use Rattle.armus_base.specs.CheckedPlans.{IsCheckedPlan}
use Rattle.armus_base.specs.Plans.{Advances, Registers}
use Rattle.armus_base.specs.Runs.{IsReachable}
use Rattle.armus_base.specs.States.{IsActive}
use Rattle.pl_core.specs.calls.Worlds.{WorldValue, action_by_code, places_of, state_of}
use Rattle.pl_core.proofs.Bounds.{phaser_of_member}
use Rattle.pl_core.proofs.GoingOn.{legal_when_active, phase_when_active}

module _ (w : WorldValue) (checked : IsCheckedPlan w.plan) (reach : IsReachable w.plan (places_of w)) (t : ℕ) (active : IsActive (state_of w) t) (p : ℕ) where
  pub phaser_registered : (c : ℕ) → action_by_code w t ≡ Some (Registers c p) → p < length w.plan.makers
  phaser_registered c next =
      let legal = legal_when_active w checked reach t (Registers c p) active next in
      phaser_of_member w checked reach t p legal.3.0 legal.3.1

  pub phaser_advanced : action_by_code w t ≡ Some (Advances p) → p < length w.plan.makers
  phaser_advanced next =
      let legal = legal_when_active w checked reach t (Advances p) active next in
      phaser_of_member w checked reach t p legal.1.0 legal.1.1

  pub phase_has_room : (n : ℕ) → (state_of w).phases t p ≡ Some n → n + 1 < 2 ^ 32
  phase_has_room n is = let few = phase_when_active w checked reach t p n active is in omega arith
