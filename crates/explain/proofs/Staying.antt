-- By the explanation of an avoided run somebody was refused or waits for ever just where a task of the state in which it ends was or does.
use Rattle.std.proofs.Common.{◌≡◌, ◌∙◌, ℕ, ◌<◌, Bool, true, false, Option, Some, None, List, length, ap, inl, inr, refl, subst, sym}
use Rattle.std.specs.Prelude.{◌↔◌, slice_index_or}
use Rattle.armus_base.specs.CheckedPlans.{IsCheckedPlan}
use Rattle.armus_base.specs.Deadlocks.{IsDeadBy}
use Rattle.armus_base.specs.declared.ending.TaskEnd.{TaskEnd}
use Rattle.armus_base.specs.declared.ending.TaskEnd.TheVariants as ends
use Rattle.armus_base.specs.declared.event.Event.{Event}
use Rattle.armus_base.specs.calls.FinalLaws.{IsOfPlan}
use Rattle.armus_base.specs.Finals.{end_by, end_of, final_of}
use Rattle.armus_base.specs.Places.{refused_at}
use Rattle.armus_base.specs.Plans.{Plan}
use Rattle.armus_base.specs.Runs.{IsLegalRun, places, state_after}
use Rattle.armus_base.specs.Serial.{IsSerialAvoidedEnd}
use Rattle.armus_base.specs.States.{State, Step}
use Rattle.armus_base.proofs.DeadByStatuses.{run_is_of_plan}
use Rattle.armus_base.proofs.NobodyIsDead.{avoided_legal}
use Rattle.armus_base.proofs.SerialIsAvoided.{serial_is_avoided}
use Rattle.armus_base.proofs.Stepping.{places_fix}
use Rattle.armus_base.proofs.Tasks.{action_of_task}
use Rattle.explain_facts.proofs.Awaiting.{published_of}
use Rattle.report.specs.Standings.{AreStandings, Stands}
use Rattle.report.specs.declared.standing.Standing.{Standing}
use Rattle.report.specs.declared.standing.Standing.TheVariants as way
use Rattle.explain_avoid.specs.AvoidedExplanations.{IsAvoidedExplanation}
use Rattle.explain_avoid.specs.AvoidedWords.{was_refused, waits_at_the_end, somebody_stays}
use Rattle.explain_avoid.proofs.StaysTold.{stays_by_standing, standing_stays}
use Rattle.explain_avoid.proofs.ToldOnce.{refused_end}
use Rattle.program_io.specs.Texts.{Text}
use Rattle.program_io.specs.Programs.{IsPlanOf}
use Rattle.program_io.proofs.OnePlan.{checked_plan}
use Rattle.explain.specs.Avoided.{SomeStays}
use Rattle.explain.proofs.Waiting.{sized, stands}

-- an end that is refused comes from a refused event
refused_is : (forked : Bool) (published refused : Option Event) (e : Event) → end_by forked published refused ≡ ends.Refused e → refused ≡ Some e
refused_is forked (Some d) refused e is = absurd (cc)
refused_is forked None (Some d) e is = cc
refused_is true None None e is = absurd (cc)
refused_is false None None e is = absurd (cc)

waiting_end : (IsDead : Type 0) (end : TaskEnd) (s : Standing) → Stands IsDead end s → waits_at_the_end s ≡ true → (e : Event) × (end ≡ ends.Blocked e)
waiting_end IsDead (ends.Blocked e) s is on = (e, refl)
waiting_end IsDead end s is on = absurd (let off = subst (λ x. waits_at_the_end x ≡ true) is on in cc)

blocked_waits : (IsDead : Type 0) (e : Event) (s : Standing) → Stands IsDead (ends.Blocked e) s → waits_at_the_end s ≡ true
blocked_waits IsDead e s (inl (dead, is)) = ap waits_at_the_end is
blocked_waits IsDead e s (inr (alive, is)) = ap waits_at_the_end is

module _ (plan : Plan) (state : State) (standings : List Standing) (of_plan : IsOfPlan plan state)
    (stand : AreStandings (IsDeadBy (final_of plan state).blocked) (final_of plan state).ends standings) where
  stays_here : somebody_stays standings ≡ true → SomeStays state
  stays_here some =
      let (t, within, how) = standing_stays standings some in
      let below : t < length plan.parents = subst (λ n. t < n) (sized plan state standings stand) within in
      let IsDead = IsDeadBy (final_of plan state).blocked t in
      let s = slice_index_or standings t way.Done in
      elim how [
        | inl on ↦
            let end = refused_end IsDead (end_of state t) s (stands plan state standings stand t below) on in
            (t, inr (end.0, refused_is (state.forked t) (state.published t) (state.refused t) end.0 end.1))
        | inr on ↦
            let end = waiting_end IsDead (end_of state t) s (stands plan state standings stand t below) on in
            (t, inl (end.0, published_of (state.forked t) (state.published t) (state.refused t) end.0 end.1))
      ]

  module _ (t : ℕ) (below : t < length plan.parents) where
    within : t < length standings
    within = subst (λ n. t < n) (sym (sized plan state standings stand)) below

    waits_there : (e : Event) → state.published t ≡ Some e → somebody_stays standings ≡ true
    waits_there e is =
        let end : end_of state t ≡ ends.Blocked e = ap (λ o. end_by (state.forked t) o (state.refused t)) is in
        let so =
        subst (λ x. Stands (IsDeadBy (final_of plan state).blocked t) x (slice_index_or standings t way.Done)) end (stands plan state standings stand t below) in
        stays_by_standing standings (t, within, inr (blocked_waits (IsDeadBy (final_of plan state).blocked t) e (slice_index_or standings t way.Done) so))

    refused_there : (e : Event) → state.refused t ≡ Some e → (o : Option Event) → state.published t ≡ o → somebody_stays standings ≡ true
    refused_there e is (Some d) published = waits_there d published
    refused_there e is None published =
        let end : end_of state t ≡ ends.Refused e =
        ap (λ o. end_by (state.forked t) o (state.refused t)) published ∙ ap (λ o. end_by (state.forked t) None o) is in
        let so : slice_index_or standings t way.Done ≡ way.Refused e =
        subst (λ x. Stands (IsDeadBy (final_of plan state).blocked t) x (slice_index_or standings t way.Done)) end (stands plan state standings stand t below) in
        stays_by_standing standings (t, within, inl (ap was_refused so))

  here_stays : ((t : ℕ) (e : Event) → state.refused t ≡ Some e → t < length plan.parents) → SomeStays state → somebody_stays standings ≡ true
  here_stays below (t, inl (e, is)) = waits_there t (of_plan.published t e is) e is
  here_stays below (t, inr (e, is)) = refused_there t (below t e is) e is (state.published t) refl

-- a refused task is one of the plan
refused_below : (plan : Plan) → IsCheckedPlan plan → (h : List Step) → IsLegalRun plan h → (t : ℕ) (e : Event) → (state_after h).refused t ≡ Some e
    → t < length plan.parents
refused_below plan checked h run t e is =
    go (places h t).dropped refl (ap (λ (s : State). s.refused t) (sym (places_fix plan checked h run).0) ∙ is)
  where
    go : (o : Option ℕ) → (places h t).dropped ≡ o → refused_at plan t (places h t).done o ≡ Some e → t < length plan.parents
    go None same none = absurd (cc)
    go (Some q) same refused = (let at = (places_fix plan checked h run).1.refused t q same in action_of_task plan checked t (places h t).done _ at.1.1)

-- what the explanation of a serial avoided run tells of it
pub tells_staying : (file : Option Text) (text : Text) (plan : Plan) (steps : List Step) (lines : List ℕ) (stays : Bool) → IsPlanOf text plan
    → IsSerialAvoidedEnd plan steps → IsAvoidedExplanation file text plan steps lines stays → (stays ≡ true) ↔ SomeStays (state_after steps)
tells_staying file text plan steps lines stays plan_is ended is =
    let checked = checked_plan text plan plan_is in
    let run : IsLegalRun plan steps = avoided_legal plan steps (serial_is_avoided plan steps checked ended.0) in
    let of_plan : IsOfPlan plan (state_after steps) = run_is_of_plan plan steps checked run in (
      λ on. stays_here plan (state_after steps) is.standings of_plan is.stand (sym is.tells ∙ on),
      λ some. is.tells ∙ here_stays plan (state_after steps) is.standings of_plan is.stand (refused_below plan checked steps run) some,
    )
