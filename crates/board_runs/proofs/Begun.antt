-- An op that has begun.
use Rattle.std.proofs.Common.{◌≡◌, ◌≢◌, ℕ, suc, List, [], ◌∷◌, Some, drop, refl, ap, ◌∙◌}
use Rattle.armus_base.specs.declared.op.Op.{Op}
use Rattle.armus_base.specs.declared.op.Op.TheVariants.{Adv, Await, Drop, Fork, Make, Reg}
use Rattle.armus_base.specs.Plans.{Action, Advances, Blocks, Drops, Forks, Makes, Passes, Refuses, Registers, actions, actions_of, Aim}
use Rattle.armus_base.specs.Places.{phases_after, published_after}
use Rattle.armus_base.specs.Runs.{Place, next_place}
use Rattle.armus_base.specs.States.{Phases, awaited}
use Rattle.board.specs.calls.Views.{next_action, own_place, task_of}
use Rattle.board.specs.calls.Seats.{Known, aim_at}
use Rattle.board.specs.inside.Walking.{HasLeft, begins, left_of}
use Rattle.armus_base.proofs.Codes.{awaited_is, awaited_some}
use Rattle.board.proofs.Seated.{event_here, next_there, place_made}
use Rattle.board.proofs.Walking.{HasStepped, IsBefore, before_next, left_published, left_then, place_undropped, rest_left}
use Rattle.board_runs.specs.calls.Turns.{Goes}
use Rattle.board_runs.proofs.Goings.{same_task}

module _ (op : Op) (rest : List Op) (k m : Known) (b : IsBefore op rest k) (goes : Goes (begins op ∷ []) k m) where
  task : task_of m.view ≡ task_of k.view
  task = same_task k m goes.same

  left : drop (own_place k.view).done (actions k.view.plan (task_of k.view)) ≡ actions_of (op ∷ rest)
  left = b.left.left ∙ ap (λ o. left_of o (op ∷ rest)) b.idle

  stepped : (x : Action) (xs : List Action) → begins op ≡ x → ((aim : Aim) → x ≢ Refuses aim) →
      drop (own_place k.view).done (actions k.view.plan (task_of k.view)) ≡ x ∷ xs → HasStepped k m x xs
  stepped x xs is n first =
      let place : own_place m.view ≡ next_place (own_place k.view).done (own_place k.view).dropped x =
      goes.place.1 ∙ ap (next_place (own_place k.view).done (own_place k.view).dropped) is in
      let done : (own_place m.view).done ≡ suc (own_place k.view).done =
      ap (λ (y : Place). y.done) place ∙ place_made (own_place k.view).done (own_place k.view).dropped x b.left.unrefused n in
      record {
        free = goes.same.holds ∙ b.left.free;
        unrefused = ap (λ (y : Place). y.dropped) place ∙ place_undropped (own_place k.view).done (own_place k.view).dropped x b.left.unrefused n;
        left = (λ i. drop (done i) (actions (goes.same.plan i) (task i))) ∙ rest_left (actions k.view.plan (task_of k.view)) (own_place k.view).done x xs first;
        plan = goes.same.plan;
        task = task;
        event = event_here m (task_of k.view) (goes.same.own ∙ b.own) ∙ (λ i. published_after (goes.same.plan i) (task i) (done i))
            ∙ ap (λ o. awaited o (phases_after k.view.plan (task_of k.view) (own_place k.view).done))
            ((next_there k.view (begins op) (before_next op rest k b)).1 ∙ ap Some is);
      }

  pub left_on : HasLeft rest m
  left_on = by_op op refl
    where
      first_is : (o : Op) → op ≡ o → drop (own_place k.view).done (actions k.view.plan (task_of k.view)) ≡ actions_of (o ∷ rest)
      first_is o is = left ∙ ap (λ q. actions_of (q ∷ rest)) is

      member : (aim : Aim) → next_action k.view ≡ Some (Blocks aim) → (n : ℕ) × (phases_after k.view.plan (task_of k.view) (own_place k.view).done aim.phaser ≡ Some n)
      member aim next = (b.seat.checked.codes.well_formed (task_of k.view) (own_place k.view).done (Blocks aim) (next_there k.view (Blocks aim) next).1).0

      by_op : (o : Op) → op ≡ o → HasLeft rest m
      by_op (Make p) is = left_then k m (Makes p.0) rest (stepped (Makes p.0) (actions_of rest) (ap begins is) (λ q e. cc) (first_is (Make p) is)) (λ q e. cc)
      by_op (Reg c p) is = left_then k m (Registers c.0 p.0) rest (stepped (Registers c.0 p.0) (actions_of rest) (ap begins is) (λ q e. cc) (first_is (Reg c p) is)) (λ q e. cc)
      by_op (Fork c) is = left_then k m (Forks c.0) rest (stepped (Forks c.0) (actions_of rest) (ap begins is) (λ q e. cc) (first_is (Fork c) is)) (λ q e. cc)
      by_op (Adv p) is = left_then k m (Advances p.0) rest (stepped (Advances p.0) (actions_of rest) (ap begins is) (λ q e. cc) (first_is (Adv p) is)) (λ q e. cc)
      by_op (Drop p) is = left_then k m (Drops p.0) rest (stepped (Drops p.0) (actions_of rest) (ap begins is) (λ q e. cc) (first_is (Drop p) is)) (λ q e. cc)
      by_op (Await p off) is =
          let phases : Phases = phases_after k.view.plan (task_of k.view) (own_place k.view).done in
          let found = awaited_some (aim_at p.0 off) phases (member (aim_at p.0 off) (before_next op rest k b ∙ ap (λ o. Some (begins o)) is)) in
          let s = stepped (Blocks (aim_at p.0 off)) (Passes p.0 ∷ actions_of rest) (ap begins is) (λ q e. cc) (first_is (Await p off) is) in
          left_published k m (aim_at p.0 off) rest found.0 s (s.event ∙ found.1) (awaited_is (aim_at p.0 off) phases found.0 found.1).0
