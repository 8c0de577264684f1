-- A task that is dead in a lawful state of a board that detects deadlock is dead where every plain run ends.
use Rattle.std.proofs.Common.{◌≡◌, ℕ, List, Option, Some, false, sym, ap, ◌∙◌, subst}
use Rattle.armus_base.specs.declared.event.Event.{Event}
use Rattle.armus_base.specs.declared.ending.Final.{Final}
use Rattle.armus_base.specs.declared.status.Status.{Status}
use Rattle.armus_base.specs.calls.Boards.{IsLawful, steps_of}
use Rattle.armus_base.specs.CheckedPlans.{IsCheckedPlan}
use Rattle.armus_base.specs.Deadlocks.{IsDeadBy, IsDeadIn, IsListedOn}
use Rattle.armus_base.specs.Finals.{final_of, is_awaited}
use Rattle.armus_base.specs.Plans.{Plan}
use Rattle.armus_base.specs.Places.{published_after, state_at}
use Rattle.armus_base.specs.calls.Runs.{ArePrefixes, Precedes}
use Rattle.armus_base.specs.Runs.{IsPlainRun, Place, places, state_after}
use Rattle.armus_base.specs.States.{State, Step}
use Rattle.armus_base.proofs.BoardRuns.{lawful_state}
use Rattle.armus_base.proofs.DeadByStatuses.{dead_by_final, run_is_of_plan}
use Rattle.armus_base.proofs.DeadStays.{dead_stays}
use Rattle.armus_base.proofs.Members.{plain_undropped}
use Rattle.armus_base.proofs.OneEnd.{below_maximal}
use Rattle.armus_base.proofs.Stepping.{places_fix}
use Rattle.armus_base.proofs.StatusesAre.{statuses_are}
use Rattle.world_runs.specs.calls.PlainRuns.{IsPlainEnd}

module _ (plan : Plan) (checked : IsCheckedPlan plan) (h : List Step) (run : IsPlainRun plan h) (end : Final) (is_end : IsPlainEnd plan end) where
  abbrev g : List Step
  g = is_end.final.steps

  later : ArePrefixes (places h) (places g)
  later t =
      subst (λ o. Precedes (places h t).done o (places g t).done (places g t).dropped) (sym (plain_undropped plan h run t))
      (below_maximal plan checked g is_end.final.run is_end.final.maximal h run t)

  pub dead_at_end : (t : ℕ) (e : Event) → IsDeadIn (state_after h) t → (state_after h).published t ≡ Some e → IsDeadBy end.blocked t × IsListedOn end.blocked t e
  dead_at_end t e dead published =
      let stays = dead_stays plan h g t checked run.0 is_end.final.run.0 later dead in
      let of_plan = run_is_of_plan plan g checked is_end.final.run.0 in
      let there : state_after g ≡ is_end.state = is_end.final.there in
      let blocked : (final_of plan (state_after g)).blocked ≡ end.blocked = ap (λ (s : State). (final_of plan s).blocked) there
      ∙ ap (λ (f : Final). f.blocked) (sym is_end.is_it) in
      let at_h = (places_fix plan checked h run.0).0 in
      let at_g = (places_fix plan checked g is_end.final.run.0).0 in
      let on : (state_after g).published t ≡ Some e =
      ap (λ (s : State). s.published t) at_g ∙ ap (λ (b : Place). published_after plan t b.done) stays.1 ∙ ap (λ (s : State). s.published t) (sym at_h) ∙ published in
      let within = of_plan.published t e on in (
        subst (λ (list : List Status). IsDeadBy list t) blocked ((dead_by_final plan (state_after g) t of_plan).1 stays.0),
        subst (λ (list : List Status). IsListedOn list t e) blocked (((statuses_are plan (state_after g) (is_awaited plan (state_after g)) checked).events t e).1 (within, on)),
      )

pub dead_at_lawful :
    (plan : Plan) (checked : IsCheckedPlan plan) (a : ℕ → Place) (lock : Option ℕ) → IsLawful false plan a lock → (t : ℕ) (e : Event) →
    IsDeadIn (state_at plan a) t → (state_at plan a).published t ≡ Some e → (end : Final) → IsPlainEnd plan end → IsDeadBy end.blocked t × IsListedOn end.blocked t e
dead_at_lawful plan checked a lock lawful t e dead published end is_end =
    let h = steps_of lawful.entries in
    let same = lawful_state false plan a lock checked lawful in
    dead_at_end plan checked h lawful.run.0 end is_end t e (subst (λ (s : State). IsDeadIn s t) (sym same) dead) (ap (λ (s : State). s.published t) same ∙ published)
