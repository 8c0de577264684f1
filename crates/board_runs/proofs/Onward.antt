-- What comes of an op that was to begin, and how far its task has come then.
use Rattle.std.proofs.Common.{◌≡◌, ℕ, suc, ◌<◌, ◌≤◌, ◌+◌, ◌^◌, true, false, List, [], ◌∷◌, ◌++◌, Option, Some, None, length, drop, sym, refl, ap, ◌∙◌, subst, arith}
use Rattle.std.specs.Prelude.{IsSome}
use Rattle.std.proofs.lemmas.Bool.{false≢true}
use Rattle.armus_base.specs.declared.op.Op.{Op}
use Rattle.armus_base.specs.declared.op.Op.TheVariants.{Adv, Await, Drop, Fork, Make, Reg}
use Rattle.armus_base.specs.Limits.{max_phasers}
use Rattle.armus_base.specs.Plans.{Aim, Action, Advances, Blocks, Drops, Forks, Makes, Passes, Plan, Refuses, Registers, actions}
use Rattle.armus_base.specs.Places.{published_after}
use Rattle.armus_base.specs.Runs.{Place, next_place}
use Rattle.armus_base.proofs.Fixed.{action_within}
use Rattle.board.specs.calls.Seats.{Frame, Known, event_of, aim_at}
use Rattle.board.specs.calls.Steps.{own_phase}
use Rattle.board.specs.calls.Views.{own_place, task_of}
use Rattle.board.specs.inside.Walking.{begins, left_of}
use Rattle.board.proofs.Seated.{event_here, next_there, place_made}
use Rattle.board.proofs.Walking.{IsBefore, before_next}
use Rattle.board_runs.specs.declared.beginning.Attempt.TheVariants.{Begun, LockedOut, Refused}
use Rattle.board_runs.specs.inside.Attempts.{BeginsOp, IsRefusedAt, drops_below}
use Rattle.board_runs.specs.inside.Tasks.{AreLeft, HasCome, MakesSome}
use Rattle.board_runs.specs.calls.Turns.{MakesActions, AreChildSeats, EndsTurn, Goes, LeadsByCode, Working, tasks_forked}
use Rattle.board_runs.proofs.Begun.{left_on}
use Rattle.board_runs.proofs.Goings.{acts_alone, same_task, some_steps}
use Rattle.board_runs.proofs.Halting.{one_more_fits, left_there, no_refusal}
use Rattle.board_runs.proofs.Leaving.{drops_counted, drops_fork_nobody, few_memberships}

-- to who has made no step the same ops are left
left_still : (ops : List Op) (t : ℕ) (k m : Known) → k.view.own ≡ Some t → AreLeft ops k → Goes [] k m → AreLeft ops m
left_still ops t k m own b goes =
    record {
      unrefused = ap (λ (x : Place). x.dropped) place ∙ b.unrefused;
      left = (λ i. drop (place i).done (actions (goes.same.plan i) (task i))) ∙ b.left ∙ sym (ap (λ o. left_of o ops) event);
    }
  where
    task : task_of m.view ≡ task_of k.view
    task = same_task k m goes.same

    place : own_place m.view ≡ own_place k.view
    place = goes.place

    event : event_of m ≡ event_of k
    event = event_here m t (goes.same.own ∙ own) ∙ (λ i. published_after (goes.same.plan i) (task i) (place i).done) ∙ sym (event_here k t own)

-- a refused task does no action of its code
drop_done : (k d : ℕ) (x : Action) → ((next_place k (Some d) x).done ≡ k) × IsSome (next_place k (Some d) x).dropped
drop_done k d (Makes p) = (refl, refl)
drop_done k d (Registers c p) = (refl, refl)
drop_done k d (Forks c) = (refl, refl)
drop_done k d (Advances p) = (refl, refl)
drop_done k d (Drops p) = (refl, refl)
drop_done k d (Blocks p) = (refl, refl)
drop_done k d (Passes p) = (refl, refl)
drop_done k d (Refuses p) = (refl, refl)

dropped_done : (k : ℕ) (o : Option ℕ) (x : Action) → IsSome o → ((next_place k o x).done ≡ k) × IsSome (next_place k o x).dropped
dropped_done k None x some = absurd (false≢true some)
dropped_done k (Some d) x some = drop_done k d x

stays_done : (plan : Plan) (t : ℕ) (a : Place) (own : List Action) (b : Place) → IsSome a.dropped → LeadsByCode plan t a own b → b.done ≡ a.done
stays_done plan t a [] b some same = ap (λ (x : Place). x.done) same
stays_done plan t a (x ∷ own) b some steps =
    let one = dropped_done a.done a.dropped x some in
    stays_done plan t (next_place a.done a.dropped x) own b one.1 steps.1 ∙ one.0

refused_done : (k : ℕ) (o : Option ℕ) (aim : Aim) → o ≡ None → ((next_place k o (Refuses aim)).done ≡ k) × IsSome (next_place k o (Refuses aim)).dropped
refused_done k None p e = (refl, refl)
refused_done k (Some d) p e = absurd (cc)

no_seat : (f : Frame) (cs : List ℕ) (seats : List Known) → cs ≡ [] → AreChildSeats f cs seats → AreChildSeats f [] seats
no_seat f cs seats e are = subst (λ ds. AreChildSeats f ds seats) e are

-- an op forks one task at most
one_fork : (op : Op) → length (tasks_forked (begins op ∷ [])) ≤ 1
one_fork (Make p) = omega arith
one_fork (Reg c p) = omega arith
one_fork (Fork c) = omega arith
one_fork (Adv p) = omega arith
one_fork (Drop p) = omega arith
one_fork (Await p off) = omega arith

-- what came of each op
begins_goes : (op : Op) (k m : Known) → BeginsOp op k m Begun → Goes (begins op ∷ []) k m
begins_goes (Make p) k m b = b
begins_goes (Reg c p) k m b = b
begins_goes (Fork c) k m b = b
begins_goes (Adv p) k m b = b
begins_goes (Drop p) k m b = b
begins_goes (Await p off) k m b = b

pub goes_begins : (op : Op) (k m : Known) → Goes (begins op ∷ []) k m → BeginsOp op k m Begun
goes_begins (Make p) k m goes = goes
goes_begins (Reg c p) k m goes = goes
goes_begins (Fork c) k m goes = goes
goes_begins (Adv p) k m goes = goes
goes_begins (Drop p) k m goes = goes
goes_begins (Await p off) k m goes = goes

locked_goes : (op : Op) (k m : Known) → BeginsOp op k m LockedOut → (tasks_forked (begins op ∷ []) ≡ []) × Goes [] k m × EndsTurn k m
locked_goes (Make p) k m b = absurd b
locked_goes (Reg c p) k m b = absurd b
locked_goes (Fork c) k m b = absurd b
locked_goes (Adv p) k m b = absurd b
locked_goes (Drop p) k m b = absurd b
locked_goes (Await p off) k m b = (refl, b.0, b.1)

refused_goes : (op : Op) (k m : Known) (n : ℕ) → BeginsOp op k m (Refused n) → (tasks_forked (begins op ∷ []) ≡ []) × (aim : Aim) × (begins op ≡ Blocks aim) × IsRefusedAt aim n k m
refused_goes (Make p) k m n b = absurd b
refused_goes (Reg c p) k m n b = absurd b
refused_goes (Fork c) k m n b = absurd b
refused_goes (Adv p) k m n b = absurd b
refused_goes (Drop p) k m n b = absurd b
refused_goes (Await p off) k m n b = (refl, aim_at p.0 off, refl, b)

-- nothing came of it
still_come : (ops : List Op) (count t : ℕ) (k m : Known) → k.view.own ≡ Some t → HasCome k ops count false → Goes [] k m → HasCome m ops count false
still_come ops count t k m own w goes = record {
  made_is = w.made_is ∙ sym (ap (λ (x : Place). x.done) goes.place);
  ops_are = λ e. left_still ops t k m own (w.ops_are e) goes;
  gone = λ e. absurd (false≢true e);
}

module _ (f : Frame) (ops : List Op) (count : ℕ) (k m : Known) (cs ds : List Known) (op : Op) (rest : List Op) (w : HasCome k ops count false) (b : IsBefore op rest k) where
  abbrev before : Working
  before = record { seat = k; children = cs }

  abbrev now : Working
  now = record { seat = m; children = ds }

  -- nothing was done
  pub nothing_come : Goes [] k m → HasCome m ops count false
  nothing_come goes = still_come ops count (task_of k.view) k m b.own w goes

  pub nothing_acts : ds ≡ cs → Goes [] k m → MakesActions f [] before now
  nothing_acts same goes = subst (λ es. MakesActions f [] before (record { seat = m; children = es })) (sym same) (acts_alone f [] k m cs refl goes (λ _. refl))

  module _ (new : List Known) (grown : ds ≡ cs ++ new) (seats : AreChildSeats f (tasks_forked (begins op ∷ [])) new) where
    -- the lock was taken
    pub locked_out : BeginsOp op k m LockedOut → (MakesActions f [] before now × EndsTurn k m) × HasCome m ops count false
    locked_out is =
        let r = locked_goes op k m is in (
          (record { goes = r.1; refused = λ _. refl; new = new; children = grown; seats = no_seat f (tasks_forked (begins op ∷ [])) new r.0 seats }, r.2),
          nothing_come r.1,
        )

    -- the op has begun
    pub begun_makes : BeginsOp op k m Begun → MakesSome f 1 before now
    begun_makes is =
        some_steps f (begins op ∷ []) k m cs ds new 1 (begins op)
        b.seat (before_next op rest k b) (begins_goes op k m is) grown seats (one_fork op) refl (omega arith) (omega arith)

    pub begun_come : BeginsOp op k m Begun → HasCome m rest (count + 1) false
    begun_come is =
        let goes = begins_goes op k m is in
        let n = left_on op rest k m b goes in record {
          made_is = (let e = w.made_is in
              let d : (own_place m.view).done ≡ suc (own_place k.view).done =
              ap (λ (x : Place). x.done) goes.place.1 ∙ place_made (own_place k.view).done (own_place k.view).dropped (begins op) b.left.unrefused (no_refusal op) in
              omega arith);
          ops_are = λ _. left_there rest m n;
          gone = λ e. absurd (false≢true e);
        }

    pub begun_fits : count + 1 < 2 ^ 32
    begun_fits =
        (let within = action_within k.view.plan b.seat.checked (task_of k.view) (own_place k.view).done (begins op) (next_there k.view (begins op) (before_next op rest k b)).1 in
        let e = w.made_is in
        let l = one_more_fits k.view.plan (task_of k.view) (own_place k.view).done b.seat.checked within in omega arith)

    -- the task is refused
    module _ (n : ℕ) (is : BeginsOp op k m (Refused n)) where
      abbrev r : (tasks_forked (begins op ∷ []) ≡ []) × (aim : Aim) × (begins op ≡ Blocks aim) × IsRefusedAt aim n k m
      r = refused_goes op k m n is

      few : n ≤ max_phasers
      few = (let c = r.3.counted in let l = few_memberships k.view.plan (own_phase k.view) b.seat.checked in omega arith)

      pub refused_makes : MakesSome f (n + 1) before now
      refused_makes =
          some_steps f (Refuses r.1 ∷ drops_below (own_phase k.view) (length k.view.plan.makers)) k m cs ds new (n + 1) (begins op) b.seat (before_next op rest k b) r.3.goes grown
          (subst (λ es. AreChildSeats f es new) (sym (drops_fork_nobody (own_phase k.view) (length k.view.plan.makers))) (no_seat f (tasks_forked (begins op ∷ [])) new r.0 seats))
          (let n = ap length (drops_fork_nobody (own_phase k.view) (length k.view.plan.makers)) in omega arith)
          (let c = r.3.counted in let l = drops_counted (own_phase k.view) (length k.view.plan.makers) in omega arith) (omega arith) (let l = few in omega arith)

      pub refused_fits : n + 1 < 2 ^ 32
      refused_fits = (let l = few in omega arith)

      pub refused_come : HasCome m ops count true
      refused_come =
          let steps = r.3.goes.place in
          let first = refused_done (own_place k.view).done (own_place k.view).dropped r.1 b.left.unrefused in
          record {
            made_is = w.made_is
                ∙ sym (stays_done k.view.plan (task_of k.view) (next_place (own_place k.view).done (own_place k.view).dropped (Refuses r.1))
                (drops_below (own_phase k.view) (length k.view.plan.makers)) (own_place m.view) first.1 steps.1 ∙ first.0);
            ops_are = λ e. absurd (false≢true (sym e));
            gone = λ _. r.3.left;
          }
