-- Who has no turn in a queue between two steps may not go on.
use Rattle.std.proofs.Common.{◌≡◌, ℕ, ◌<◌, ◌≤◌, ◌+◌, length, arith, inl, inr, subst}
use Rattle.std.proofs.lemmas.Bool.{cases_lt}
use Rattle.armus_base.specs.CheckedPlans.{IsCheckedPlan}
use Rattle.armus_base.specs.Runs.{IsReachable}
use Rattle.armus_base.proofs.Stepping.{acting_forked}
use Rattle.pl_core.specs.calls.Stands.{IsEnabled}
use Rattle.pl_core.specs.calls.Worlds.{WorldValue, places_of, state_of}
use Rattle.run_queue.specs.declared.run_queue.RunQueue.{RunQueue}
use Rattle.run_queue.specs.calls.RunQueues.{HasTurnLeft, IsRunQueue}
use Rattle.run_queue.proofs.Queued.{no_turn}

-- below a number nobody may go on, and from it on up to another nobody has a turn
pub nobody_below :
    (w : WorldValue) (q : RunQueue) (k n : ℕ) → IsCheckedPlan w.plan → IsReachable w.plan (places_of w) → IsRunQueue w w q → n ≤ length w.plan.parents →
    ((u : ℕ) → u < k → IsEnabled w u → ⊥) → ((u : ℕ) → k ≤ u → u < n → HasTurnLeft q u → ⊥) → (u : ℕ) → u < n → IsEnabled w u → ⊥
nobody_below w q k n checked reach h sized before none u l enabled =
    elim (cases_lt u k) [
      | inl early ↦ before u early enabled
      | inr late ↦
          no_turn w w q checked reach h u (omega (arith, l, sized)) (acting_forked w.plan (state_of w) u enabled.0 enabled.2) (none u late l) enabled
    ]

-- and the next one may not either
pub nobody_more :
    (w : WorldValue) (t : ℕ) → ((u : ℕ) → u < t → IsEnabled w u → ⊥) → (IsEnabled w t → ⊥) → (u : ℕ) → u < t + 1 → IsEnabled w u → ⊥
nobody_more w t before not_this u l enabled =
    elim (cases_lt u t) [
      | inl early ↦ before u early enabled
      | inr late ↦ not_this (subst (λ v. IsEnabled w v) (let same : u ≡ t = omega (arith, l, late) in same) enabled)
    ]
