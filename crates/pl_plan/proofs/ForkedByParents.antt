-- A task has a start just where the code of its parent forks it.
use Rattle.std.proofs.Common.{◌≡◌, ℕ, ◌<◌, Some, None, Ok, Err, ap, subst}
use Rattle.std.specs.Prelude.{is_some, slice_index_or}
use Rattle.armus_base.specs.CheckedPlans.{HasFork}
use Rattle.armus_base.specs.Limits.{max_tasks}
use Rattle.armus_base.specs.Plans.{Plan, action_at, actions, parent_of}
use Rattle.pl_syntax.specs.declared.tree.Program.{Program}
use Rattle.pl_syntax.specs.calls.Tree.{AreNear}
use Rattle.pl_plan.specs.Forks.{starts_in, starts_of}
use Rattle.pl_plan.specs.Unfolding.{Outcome, Start, UnfoldingState, ◌>>=◌, opening_state, plan_of, unfold_tasks, with_pieces}
use Rattle.pl_plan.proofs.SoundSteps.{OnState}
use Rattle.pl_plan.proofs.UnfoldedIsChecked.{SoundSomewhere, sound_at_end}

-- with its pieces a plan forks the same tasks
same_forks : (s : UnfoldingState) (c : ℕ) → HasFork s.plan c → HasFork (with_pieces s) c
unfolding action_at actions parent_of
same_forks s c h = h

same_back : (s : UnfoldingState) (c : ℕ) → HasFork (with_pieces s) c → HasFork s.plan c
unfolding action_at actions parent_of
same_back s c h = h

module _ (plan : Plan) (c : ℕ) (pos : 0 < c) where
  begun_forks :
      (o : Outcome UnfoldingState) → OnState SoundSomewhere o → (o >>= λ s. Ok (with_pieces s)) ≡ Ok plan → (start : Start) →
      slice_index_or (starts_in o) c None ≡ Some start → HasFork plan c
  begun_forks (Ok s) h e start is =
      subst (λ (q : Plan). HasFork q c) (let q : with_pieces s ≡ plan = cc in q) (same_forks s c (h.1.forked c pos (ap is_some is)))
  begun_forks (Err f) h e start is = absurd cc

  forks_begun :
      (o : Outcome UnfoldingState) → OnState SoundSomewhere o → (o >>= λ s. Ok (with_pieces s)) ≡ Ok plan → HasFork plan c →
      slice_index_or (starts_in o) c None ≡ None → ⊥
  forks_begun (Ok s) h e fork none =
      let (j, there) = same_back s c (subst (λ (q : Plan). HasFork q c) (let q : plan ≡ with_pieces s = cc in q) fork) in
      h.1.unforked c j (ap is_some none) there
  forks_begun (Err f) h e fork none = absurd cc

module _ (program : Program) (plan : Plan) (near : AreNear program.body) (unfolds : plan_of program ≡ Ok plan) (c : ℕ) (pos : 0 < c) where
  -- who has a start is forked by its parent
  pub started_is_forked : (start : Start) → slice_index_or (starts_of program) c None ≡ Some start → HasFork plan c
  unfolding plan_of starts_of
  started_is_forked start is =
      begun_forks plan c pos (unfold_tasks program.two max_tasks 0 (opening_state program.body)) (sound_at_end program near) unfolds start is

  -- who is forked by its parent has one
  pub forked_is_started : HasFork plan c → slice_index_or (starts_of program) c None ≡ None → ⊥
  unfolding plan_of starts_of
  forked_is_started fork none =
      forks_begun plan c pos (unfold_tasks program.two max_tasks 0 (opening_state program.body)) (sound_at_end program near) unfolds fork none
