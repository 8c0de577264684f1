-- How a report says that tasks stand, and how they stand in its state.
use Rattle.std.proofs.Common.{◌≡◌, ◌∙◌, ◌<◌, ℕ, Bool, true, false, Option, Some, None, List, ap, inl, inr, length, refl, subst, sym}
use Rattle.std.specs.Prelude.{◌↔◌, Contains, IsSome, slice_get, slice_index_or}
use Rattle.std.proofs.lemmas.Option.{get_or_from_slice_get, slice_get-get_or, slice_get_within}
use Rattle.armus_base.specs.declared.ending.TaskEnd.{TaskEnd}
use Rattle.armus_base.specs.declared.ending.TaskEnd.TheVariants as ends
use Rattle.armus_base.specs.declared.event.Event.{Event}
use Rattle.armus_base.specs.declared.status.Dead.{Dead as NamedTask}
use Rattle.armus_base.specs.declared.status.Status.{Status}
use Rattle.armus_base.specs.CheckedPlans.{IsCheckedPlan}
use Rattle.armus_base.specs.Deadlocks.{IsDeadBy, IsDeadIn, IsPublishedOn}
use Rattle.armus_base.specs.calls.FinalLaws.{AreStatuses, IsOfPlan}
use Rattle.armus_base.specs.Finals.{end_by, end_of, final_of, is_awaited}
use Rattle.armus_base.specs.Plans.{Plan}
use Rattle.armus_base.specs.Runs.{IsLegalRun, state_after}
use Rattle.armus_base.specs.States.{State, Step}
use Rattle.armus_base.proofs.DeadByStatuses.{dead_by_final, run_is_of_plan}
use Rattle.armus_base.proofs.EndsTell.{ends_are}
use Rattle.armus_base.proofs.NobodyIsDead.{avoided_legal}
use Rattle.armus_base.proofs.StatusesAre.{statuses_are}
use Rattle.report.specs.NamedDead.{AreTheDead}
use Rattle.report.specs.Standings.{AreStandings, Stands}
use Rattle.report.specs.declared.standing.Standing.{Standing}
use Rattle.report.specs.declared.standing.Standing.TheVariants.{Done, Dead, Held, Refused, Unforked}
use Rattle.program_io.proofs.OnePlan.{checked_plan}
use Rattle.armus_top.proofs.OneClockPlan.{checked_clock_plan}
use Rattle.report_laws.specs.ReportedStandings.{AreStandingsIn, IsStandingIn, StandAsReported}
use Rattle.report_laws.specs.calls.Reported.{ActivitiesStandAsReported, LiveLinesNameTheDead, StandAsAvoided}

-- who has ended as one that waits is published on the event
blocked_by : (b : Bool) (p r : Option Event) (e : Event) → end_by b p r ≡ ends.Blocked e → p ≡ Some e
blocked_by b (Some x) r e is = (let same : x ≡ e = cc in ap Some same)
blocked_by b None (Some x) e is = absurd (cc)
blocked_by true None None e is = absurd (cc)
blocked_by false None None e is = absurd (cc)

-- and who is published has ended so
published_ends : (s : State) (t : ℕ) (e : Event) → s.published t ≡ Some e → end_of s t ≡ ends.Blocked e
published_ends s t e is = ap (λ o. end_by (s.forked t) o (s.refused t)) is

-- who is not refused has not ended so
pub not_refused : (forked : Bool) (published : Option Event) (e : Event) → end_by forked published None ≡ ends.Refused e → ⊥
not_refused forked (Some v) e is = cc
not_refused true None e is = cc
not_refused false None e is = cc

-- a dead task is published
pub dead_waits : (s : State) (t : ℕ) → IsDeadIn s t → (e : Event) × IsPublishedOn s t e
dead_waits s t dead = let impeded = dead.deadlocked.each t dead.inside in (impeded.event, impeded.waits)

module _ (s : State) (t : ℕ) (IsDead : Type 0) (same : IsDead ↔ IsDeadIn s t) where
  -- who stands so by its end stands so in the state
  told : (end : TaskEnd) (x : Standing) → end_of s t ≡ end → Stands IsDead end x → IsStandingIn s t x
  told ends.Done x is e = subst (IsStandingIn s t) (sym e) is
  told (ends.Refused v) x is e = subst (IsStandingIn s t) (sym e) is
  told ends.Unforked x is e = subst (IsStandingIn s t) (sym e) is
  told (ends.Blocked v) x is (inl (dead, e)) =
      subst (IsStandingIn s t) (sym e) (same.0 dead, blocked_by (s.forked t) (s.published t) (s.refused t) v is)
  told (ends.Blocked v) x is (inr (alive, e)) =
      let waits = blocked_by (s.forked t) (s.published t) (s.refused t) v is in
      subst (IsStandingIn s t) (sym e) ((subst IsSome (sym waits) refl, λ dead. alive (same.1 dead)), waits)

  -- and a task stands in one way
  one_way : (x y : Standing) → Stands IsDead (end_of s t) x → IsStandingIn s t y → x ≡ y
  one_way x Done stands is = subst (λ e. Stands IsDead e x) is stands
  one_way x (Refused v) stands is = subst (λ e. Stands IsDead e x) is stands
  one_way x Unforked stands is = subst (λ e. Stands IsDead e x) is stands
  one_way x (Dead v) stands (dead, waits) = elim (subst (λ e. Stands IsDead e x) (published_ends s t v waits) stands) [
    | inl one ↦ one.1
    | inr one ↦ absurd (one.0 (same.1 dead))
  ]
  one_way x (Held v) stands (held, waits) = elim (subst (λ e. Stands IsDead e x) (published_ends s t v waits) stands) [
    | inl one ↦ absurd (held.1 (same.0 one.0))
    | inr one ↦ one.1
  ]

-- the standings of a report are those of the state
pub standings_in : (plan : Plan) (s : State) (standings : List Standing) → IsOfPlan plan s
    → AreStandings (IsDeadBy (final_of plan s).blocked) (final_of plan s).ends standings → AreStandingsIn plan s standings
standings_in plan s standings of_plan stand t x = (there, back)
  where
    blocked : List Status
    blocked = (final_of plan s).blocked

    all : List TaskEnd
    all = (final_of plan s).ends

    counted : length all ≡ length plan.parents
    counted = (ends_are plan s).counted

    -- how task t stands by its end
    stands : t < length plan.parents → Stands (IsDeadBy blocked t) (end_of s t) (slice_index_or standings t x)
    stands below =
        let own = end_of s t in
        let here : slice_index_or all t own ≡ own = get_or_from_slice_get all t own own ((ends_are plan s).each t below) in
        subst (λ e. Stands (IsDeadBy blocked t) e (slice_index_or standings t x)) here (stand.each t own x (subst (λ n. t < n) (sym counted) below))

    there : slice_get standings t ≡ Some x → (t < length plan.parents) × IsStandingIn s t x
    there is =
        let below : t < length plan.parents = subst (λ n. t < n) (stand.sized ∙ counted) (slice_get_within standings t x is) in
        let own = subst (Stands (IsDeadBy blocked t) (end_of s t)) (get_or_from_slice_get standings t x x is) (stands below) in
        (below, told s t (IsDeadBy blocked t) (dead_by_final plan s t of_plan) (end_of s t) x refl own)

    back : (t < length plan.parents) × IsStandingIn s t x → slice_get standings t ≡ Some x
    back (below, is) =
        let within : t < length standings = subst (λ n. t < n) (sym (stand.sized ∙ counted)) below in
        slice_get-get_or standings t x within
        ∙ ap Some (one_way s t (IsDeadBy blocked t) (dead_by_final plan s t of_plan) (slice_index_or standings t x) x (stands below) is)

-- the state after a legal run of a checked plan is one of the plan
of_plan_there : (plan : Plan) (steps : List Step) (s : State) → IsCheckedPlan plan → IsLegalRun plan steps → state_after steps ≡ s → IsOfPlan plan s
of_plan_there plan steps s checked run there = subst (λ (x : State). IsOfPlan plan x) there (run_is_of_plan plan steps checked run)

pub stand_as_reported : StandAsReported
stand_as_reported text plan g status report is run =
    standings_in plan run.state run.report_is.standings
    (of_plan_there plan run.final.steps run.state (checked_plan text plan is) run.final.run.0 run.final.there)
    run.report_is.stand

pub activities_stand_as_reported : ActivitiesStandAsReported
activities_stand_as_reported text plan g status report is run =
    standings_in plan run.state run.report_is.standings
    (of_plan_there plan run.final.steps run.state (checked_clock_plan text plan is) run.final.run.0 run.final.there)
    run.report_is.stand

pub stand_as_avoided : StandAsAvoided
stand_as_avoided text workers g status report run =
    standings_in run.plan run.state run.report_is.standings
    (of_plan_there run.plan run.avoided.steps run.state (checked_plan text run.plan run.plan_is) (avoided_legal run.plan run.avoided.steps run.avoided.run) run.avoided.there)
    run.report_is.stand

-- ---- live lines

module _ (plan : Plan) (s : State) (checked : IsCheckedPlan plan) (of_plan : IsOfPlan plan s) (named : List NamedTask)
    (are : AreTheDead (final_of plan s).blocked named) where
  abbrev statuses : List Status
  statuses = (final_of plan s).blocked

  -- the statuses have each task that is published, with its event
  listed : AreStatuses plan s (is_awaited plan s) statuses
  listed = statuses_are plan s (is_awaited plan s) checked

  named_dead : (d : NamedTask) → Contains named d → IsDeadIn s d.t.0 × IsPublishedOn s d.t.0 d.event
  named_dead d among =
      let (dead, on) = are.some.dead d among in ((dead_by_final plan s d.t.0 of_plan).0 dead, ((listed.events d.t.0 d.event).0 on).1)

  dead_named : (d : NamedTask) → IsDeadIn s d.t.0 → IsPublishedOn s d.t.0 d.event → Contains named d
  dead_named d dead waits =
      let (c, among, same) = are.all d.t.0 ((dead_by_final plan s d.t.0 of_plan).1 dead) in
      let on : IsPublishedOn s c.t.0 c.event = (named_dead c among).1 in
      let events : Some c.event ≡ Some d.event = sym on ∙ ap s.published same ∙ waits in
      subst (Contains named) (is_it c d same (let e : c.event ≡ d.event = cc in e)) among
    where
      is_it : (c d : NamedTask) → c.t.0 ≡ d.t.0 → c.event ≡ d.event → c ≡ d
      is_it c d e f = λ i. record { t = record { 0 = e i }; event = f i }

pub live_lines_name_the_dead : LiveLinesNameTheDead
live_lines_name_the_dead text plan g status output is run d =
    let s = run.run.state in
    let checked = checked_plan text plan is in
    let of_plan = of_plan_there plan run.run.final.steps s checked run.run.final.run.0 run.run.final.there in (
      named_dead plan s checked of_plan run.named run.named_are d,
      λ both. dead_named plan s checked of_plan run.named run.named_are d both.0 both.1,
    )
