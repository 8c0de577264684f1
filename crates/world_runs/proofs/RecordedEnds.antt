-- The journal of a world in which nobody may go on is that of a maximal run.
use Rattle.std.proofs.Common.{◌≡◌, ℕ, ◌<◌, ◌+◌, Bool, true, false, List, None, length, arith, sym, ◌∙◌, ap, subst, refl, inl, inr}
use Rattle.std.specs.Prelude.{MatchBool}
use Rattle.std.proofs.lemmas.Bool.{cases_eq, false≢true}
use Rattle.armus_base.specs.declared.ending.Final.{Final}
use Rattle.armus_base.specs.declared.ids.TaskId.{TaskId}
use Rattle.armus_base.specs.Finals.{final_of}
use Rattle.armus_base.specs.Plans.{Plan}
use Rattle.armus_base.specs.Runs.{IsReachable}
use Rattle.armus_base.proofs.Members.{plain_undropped}
use Rattle.locked_world.specs.calls.Journals.{IsReplayOfJournal, LoggedValue, LogsStep}
use Rattle.pl_core.specs.calls.Stands.{IsEnabled}
use Rattle.pl_core.specs.calls.Worlds.{WorldValue, dropped_at, places_of, state_of}
use Rattle.pl_core.proofs.Standing.{place_is}
use Rattle.world_runs.specs.calls.RecordedRuns.{IsRecordedRun}
use Rattle.world_runs.specs.inside.Turns.{NobodyRefused}
use Rattle.world_runs.proofs.Ends.{maximal_there, plain_end, same_state}

-- who has dropped nothing is not refused
not_refused : (plan : Plan) (t k : ℕ) (b : Bool) → dropped_at plan t k b ≡ None → b ≡ false
not_refused plan t k true e = absurd (cc)
not_refused plan t k false e = refl

module _ (l : LoggedValue) (of : IsReplayOfJournal l.world.plan l) (quiet : (t : ℕ) → t < length l.world.plan.parents → IsEnabled l.world t → ⊥) where
  abbrev reach : IsReachable l.world.plan (places_of l.world)
  reach = record { steps = of.steps; run = of.journal.run.0; there = λ t. ap (λ a. a t) (sym of.there) }

  plain : NobodyRefused l.world
  plain t place e =
      not_refused l.world.plan t place.events place.refused
      (ap (λ p. p.dropped) (sym (place_is l.world.plan l.world.places t place e) ∙ ap (λ a. a t) of.there) ∙ plain_undropped l.world.plan of.steps of.journal.run t)

  recorded_here : IsRecordedRun l.world.plan (final_of l.world.plan (state_of l.world)) l.journal
  recorded_here =
      record {
        steps = of.steps;
        journal = of.journal;
        maximal = maximal_there l.world of.checked reach plain quiet;
        is_it = ap (final_of l.world.plan) (sym (same_state l.world of.checked reach plain quiet));
        end = plain_end l.world of.checked reach plain quiet;
      }

pub recorded :
    (plan : Plan) (l : LoggedValue) → IsReplayOfJournal plan l → ((t : ℕ) → t < length plan.parents → IsEnabled l.world t → ⊥) →
    IsRecordedRun plan (final_of l.world.plan (state_of l.world)) l.journal
recorded plan l of quiet =
    subst
    (λ p. IsReplayOfJournal p l → ((t : ℕ) → t < length p.parents → IsEnabled l.world t → ⊥) → IsRecordedRun p (final_of l.world.plan (state_of l.world)) l.journal)
    of.plan_is (recorded_here l) of quiet

-- what is answered of a world that is one with the logged one
pub recorded_as :
    (plan : Plan) (l : LoggedValue) (w : WorldValue) (end : Final) (journal : List TaskId) → w ≡ l.world → IsReplayOfJournal plan l →
    ((t : ℕ) → t < length plan.parents → IsEnabled l.world t → ⊥) → end ≡ final_of w.plan (state_of w) → journal ≡ l.journal → IsRecordedRun plan end journal
recorded_as plan l w end journal same of quiet end_is journal_is =
    subst (λ j. IsRecordedRun plan end j) (sym journal_is)
    (subst (λ e. IsRecordedRun plan e l.journal) (sym (end_is ∙ ap (λ (v : WorldValue). final_of v.plan (state_of v)) same)) (recorded plan l of quiet))

pub quiet_as :
    (plan : Plan) (l : LoggedValue) (w : WorldValue) → w ≡ l.world → IsReplayOfJournal plan l → ((t : ℕ) → t < length plan.parents → IsEnabled l.world t → ⊥) →
    (t : ℕ) → t < length w.plan.parents → IsEnabled w t → ⊥
quiet_as plan l w same of quiet t here enabled =
    let tasks = ap (λ (v : WorldValue). length v.plan.parents) same in
    let named = ap (λ (p : Plan). length p.parents) of.plan_is in
    quiet t (omega arith) (subst (λ v. IsEnabled v t) same enabled)

-- a true answer tells a step
pub step_if_true : (made : Bool) (old new : LoggedValue) (t : TaskId) → MatchBool made (LogsStep old new t) (new ≡ old) → made ≡ true → LogsStep old new t
step_if_true true old new t step e = step
step_if_true false old new t step e = absurd (false≢true e)

-- and a false one none
pub same_if_false : (made : Bool) (old new : LoggedValue) (t : TaskId) → MatchBool made (LogsStep old new t) (new ≡ old) → made ≡ false → new ≡ old
same_if_false true old new t step e = absurd (false≢true (sym e))
same_if_false false old new t same e = same

-- one task more that is not enabled
pub stuck_more : (w : WorldValue) (t : ℕ) → (IsEnabled w t → ⊥) → ((u : ℕ) → u < t → IsEnabled w u → ⊥) → (u : ℕ) → u < t + 1 → IsEnabled w u → ⊥
stuck_more w t stuck before u l =
    elim (cases_eq u t) [
      | inl is ↦ subst (λ v. IsEnabled w v → ⊥) (sym is) stuck
      | inr other ↦ before u (omega arith)
    ]
