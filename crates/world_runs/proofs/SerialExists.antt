-- The serial avoided run of a checked plan ends: less is left in each round that has an event.
use Rattle.std.proofs.Common.{◌≡◌, ℕ, zero, suc, ◌<◌, ◌≤◌, Bool, true, false, ◌++◌, length, replicate, add-one, arith, sym, ◌∙◌, ap, subst, refl, inl, inr}
use Rattle.std.specs.Prelude.{◌||◌}
use Rattle.std.proofs.lemmas.Bool.{cases_Bool, false≢true}
use Rattle.std.proofs.lemmas.List.{length-replicate}
use Rattle.armus_base.specs.CheckedPlans.{IsCheckedPlan}
use Rattle.armus_base.specs.Plans.{Plan}
use Rattle.armus_base.specs.Runs.{IsReachable, state_after}
use Rattle.armus_base.specs.Serial.{IsSerialAvoidedRun}
use Rattle.pl_core.specs.calls.Stands.{IsEnabled}
use Rattle.pl_core.specs.calls.Worlds.{WorldValue, places_of, state_of}
use Rattle.pl_core.proofs.Opening.{opening_is}
use Rattle.world_runs.specs.calls.AvoidedRuns.{SerialRunEnds}
use Rattle.world_runs.specs.inside.AvoidedRounds.{GoesOnTo, HasPart, HasRoundBelow}
use Rattle.world_runs.specs.inside.Turns.{left_in}
use Rattle.world_runs.proofs.AvoidedEnds.{forked_still, leads_there, reached_by, round_begun, round_more, turn_left_out, turn_taken}
use Rattle.world_runs.proofs.AvoidedSteps.{goes_more, goes_none}
use Rattle.world_runs.proofs.Left.{left_at_most}
use Rattle.world_runs.proofs.NextWorlds.{GoesOnInto, next_or_not}
use Rattle.world_runs.proofs.JudgedRuns.{run_ended, run_more}
use Rattle.world_runs.proofs.SerialEnds.{HasSerialEnd, HasSerialRun, serial_begun, serial_kept}

-- the part of task t in a round
record HasTurned (old : WorldValue) (t : ℕ) (has : Bool) : Type 0 where
  new : WorldValue
  moved : Bool
  plan : new.plan ≡ old.plan
  sized : length new.places ≡ length old.places
  less : moved ≡ true → left_in new < left_in old
  still : moved ≡ false → new ≡ old
  part : HasPart old new t has moved

-- a turn, as far as it has come
record IsTurning (old mid : WorldValue) (t : ℕ) (moved : Bool) : Type 0 where
  reach : IsReachable mid.plan (places_of mid)
  plan : mid.plan ≡ old.plan
  sized : length mid.places ≡ length old.places
  less : moved ≡ true → left_in mid < left_in old
  still : moved ≡ false → mid ≡ old
  goes : GoesOnTo old mid t moved

module _ (old : WorldValue) (checked : IsCheckedPlan old.plan) (sized : length old.places ≡ length old.plan.parents) (t : ℕ) (forked : (state_of old).forked t ≡ true) where
  checked_at : (mid : WorldValue) → mid.plan ≡ old.plan → IsCheckedPlan mid.plan
  checked_at mid plan = subst IsCheckedPlan (sym plan) checked

  sized_at : (mid : WorldValue) → mid.plan ≡ old.plan → length mid.places ≡ length old.places → length mid.places ≡ length mid.plan.parents
  sized_at mid plan same = same ∙ sized ∙ ap (λ q. length q.parents) (sym plan)

  turned : (mid : WorldValue) (moved : Bool) → IsTurning old mid t moved → (IsEnabled mid t → ⊥) → HasTurned old t true
  turned mid moved so stuck =
      record {
        new = mid;
        moved = moved;
        plan = so.plan;
        sized = so.sized;
        less = so.less;
        still = so.still;
        part = turn_taken old mid t moved checked so.plan forked so.goes stuck;
      }

  one_more : (mid new : WorldValue) (moved : Bool) → IsTurning old mid t moved → GoesOnInto mid new t → IsTurning old new t true
  one_more mid new moved so next =
      let run = next.adds so.reach.steps (leads_there mid so.reach) in
      let most = left_at_most old mid moved so.less so.still in
      let fewer = next.less in
      record {
        reach = reached_by mid.plan (run.0 ++ so.reach.steps) new run.1;
        plan = next.plan ∙ so.plan;
        sized = next.sized ∙ so.sized;
        less = λ _. omega arith;
        still = λ e. absurd (false≢true (sym e));
        goes = goes_more old mid new t moved (checked_at mid so.plan) so.plan so.goes next.adds;
      }

  turn_from : (fuel : ℕ) (mid : WorldValue) (moved : Bool) → left_in mid ≤ fuel → IsTurning old mid t moved → HasTurned old t true
  turn_from zero mid moved few so =
      elim (next_or_not mid (checked_at mid so.plan) so.reach (sized_at mid so.plan so.sized) t) [
        | inl next ↦ absurd (let less = next.1.less in omega arith)
        | inr stuck ↦ turned mid moved so stuck
      ]
  turn_from (suc fuel) mid moved few so =
      elim (next_or_not mid (checked_at mid so.plan) so.reach (sized_at mid so.plan so.sized) t) [
        | inl next ↦ turn_from fuel next.0 true (let less = next.1.less in omega arith) (one_more mid next.0 moved so next.1)
        | inr stuck ↦ turned mid moved so stuck
      ]

  turn : IsReachable old.plan (places_of old) → HasTurned old t true
  turn reach =
      turn_from (left_in old) old false (omega arith)
      (record { reach = reach; plan = refl; sized = refl; less = λ e. absurd (false≢true e); still = λ _. refl; goes = goes_none old t })

-- the parts of the tasks below k
record HasRounded (first : WorldValue) (k : ℕ) : Type 0 where
  new : WorldValue
  moved : Bool
  plan : new.plan ≡ first.plan
  sized : length new.places ≡ length first.places
  less : moved ≡ true → left_in new < left_in first
  still : moved ≡ false → new ≡ first
  round : HasRoundBelow first new k moved

both_less :
    (first old new : WorldValue) (a b : Bool) → (a ≡ true → left_in old < left_in first) → (a ≡ false → old ≡ first) → (b ≡ true → left_in new < left_in old) →
    (b ≡ false → new ≡ old) → (a || b) ≡ true → left_in new < left_in first
both_less first old new true b la sa lb sb e = (let l = la refl in let m = left_at_most old new b lb sb in omega arith)
both_less first old new false b la sa lb sb e = subst (λ v. left_in new < left_in v) (sa refl) (lb e)

both_still : (a b : Bool) → (a || b) ≡ false → (a ≡ false) × (b ≡ false)
both_still true b e = absurd (false≢true (sym e))
both_still false b e = (refl, e)

module _ (first : WorldValue) (checked : IsCheckedPlan first.plan) (reach : IsReachable first.plan (places_of first))
    (sized : length first.places ≡ length first.plan.parents) where
  part_of :
      (k : ℕ) (r : HasRounded first k) (has : Bool) → (state_of first).forked k ≡ has → HasTurned r.new k has
  part_of k r true forked =
      let run = r.round reach.steps (leads_there first reach) in
      turn r.new (subst IsCheckedPlan (sym r.plan) checked) (r.sized ∙ sized ∙ ap (λ q. length q.parents) (sym r.plan)) k
      (forked_still first r.new k k r.moved checked reach r.round forked) (reached_by first.plan run.0 r.new run.1)
  part_of k r false forked =
      record { new = r.new; moved = false; plan = refl; sized = refl; less = λ e. absurd (false≢true e); still = λ _. refl; part = turn_left_out r.new k }

  round_to : (k : ℕ) → HasRounded first k
  round_to zero =
      record { new = first; moved = false; plan = refl; sized = refl; less = λ e. absurd (false≢true e); still = λ _. refl; round = round_begun first }
  round_to (suc k) = joined (round_to k)
    where
      joined : HasRounded first k → HasRounded first (suc k)
      joined r =
          let p = part_of k r ((state_of first).forked k) refl in
          record {
            new = p.new;
            moved = r.moved || p.moved;
            plan = p.plan ∙ r.plan;
            sized = p.sized ∙ r.sized;
            less = both_less first r.new p.new r.moved p.moved r.less r.still p.less p.still;
            still = λ e. let two = both_still r.moved p.moved e in p.still two.1 ∙ r.still two.0;
            round = subst (λ n. HasRoundBelow first p.new n (r.moved || p.moved)) (add-one k)
                (round_more first r.new p.new k ((state_of first).forked k) r.moved p.moved (r.moved || p.moved) checked r.plan refl r.round p.part
                (both_still r.moved p.moved));
          }

-- one round more of the serial run
module _ (plan : Plan) (checked : IsCheckedPlan plan) (w : WorldValue) (sized : length w.places ≡ length w.plan.parents) (serial : HasSerialRun plan w) where
  one_round : HasRounded w (length w.plan.parents)
  one_round =
      round_to w (subst IsCheckedPlan (sym serial.leads.plan_is) checked) (reached_by plan serial.steps w serial.leads) sized (length w.plan.parents)

  sized_after : length one_round.new.places ≡ length one_round.new.plan.parents
  sized_after = one_round.sized ∙ sized ∙ ap (λ q. length q.parents) (sym one_round.plan)

  serial_after : HasSerialRun plan one_round.new
  serial_after = run_more (IsSerialAvoidedRun plan) plan (serial_kept plan) w one_round.new one_round.moved serial one_round.round

  ended_after : one_round.moved ≡ false → HasSerialEnd plan one_round.new
  ended_after unmoved = run_ended (IsSerialAvoidedRun plan) plan (serial_kept plan) w one_round.new one_round.moved unmoved serial one_round.round

-- from a world to which the serial run leads, it goes on to its end
run_from :
    (plan : Plan) → IsCheckedPlan plan → (fuel : ℕ) (w : WorldValue) → length w.places ≡ length w.plan.parents → HasSerialRun plan w → left_in w ≤ fuel →
    (end : WorldValue) × HasSerialEnd plan end
run_from plan checked zero w sized serial few =
    elim (cases_Bool (one_round plan checked w sized serial).moved) [
      | inl moved ↦ absurd (let less = (one_round plan checked w sized serial).less moved in omega arith)
      | inr unmoved ↦ ((one_round plan checked w sized serial).new, ended_after plan checked w sized serial unmoved)
    ]
run_from plan checked (suc fuel) w sized serial few =
    elim (cases_Bool (one_round plan checked w sized serial).moved) [
      | inl moved ↦
          run_from plan checked fuel (one_round plan checked w sized serial).new (sized_after plan checked w sized serial) (serial_after plan checked w sized serial)
          (let less = (one_round plan checked w sized serial).less moved in omega arith)
      | inr unmoved ↦ ((one_round plan checked w sized serial).new, ended_after plan checked w sized serial unmoved)
    ]

-- the opening world
abbrev first_world : Plan → WorldValue
first_world plan = record { plan = plan; places = replicate (length plan.parents) (record { events = 0; refused = false }) }

pub serial_run_ends : SerialRunEnds
serial_run_ends plan checked =
    let run =
    run_from plan checked (left_in (first_world plan)) (first_world plan) (length-replicate (length plan.parents) (record { events = 0; refused = false }))
    (serial_begun plan (first_world plan) (opening_is plan checked)) (omega arith) in (
      state_after run.1.steps,
      record { steps = run.1.steps; ended = (run.1.run, run.1.round); there = refl },
    )
