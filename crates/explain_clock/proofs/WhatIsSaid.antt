-- What is said of each activity in the explanation of a final state.
use Rattle.std.proofs.Common.{◌≡◌, ℕ, ◌<◌, Bool, true, false, Option, Some, None, List, [], length, arith, sym, ◌∙◌, ap, subst, refl, inl, inr}
use Rattle.std.specs.Prelude.{slice_get}
use Rattle.armus_base.specs.declared.ending.TaskEnd.TheVariants.{Done}
use Rattle.armus_base.specs.declared.event.Event.{Event}
use Rattle.armus_base.specs.CheckedPlans.{IsCheckedPlan}
use Rattle.armus_base.specs.calls.FinalLaws.{IsOfPlan}
use Rattle.armus_base.specs.Finals.{end_by, end_of, is_awaited, statuses_on}
use Rattle.armus_base.specs.Plans.{Passes, Plan}
use Rattle.armus_base.specs.Runs.{IsFinal}
use Rattle.armus_base.specs.States.{State}
use Rattle.armus_base.proofs.DeadByStatuses.{run_is_of_plan}
use Rattle.armus_base.proofs.Below.{length-list_below}
use Rattle.armus_base.proofs.Members.{published_member}
use Rattle.armus_base.proofs.Lists.{some_at}
use Rattle.clock_syntax.specs.Trees.{ClockTree}
use Rattle.clock_semantics.specs.Unfolding.{ClockUnfolding, plan_of_moves}
use Rattle.clock_semantics.proofs.ClockPlanIsChecked.{clock_plan_is_checked}
use Rattle.clock_laws.proofs.Acting.{unrefused}
use Rattle.clock_source_map.specs.ClockOrigins.{MadeThing}
use Rattle.clock_source_map.proofs.AllOrigins.{tasks_and_phasers_have_statements}
use Rattle.clock_source_map.proofs.Walked.{plan_is}
use Rattle.explain_clock.specs.ClockExplanations.{ExplainsActivities, is_unstarted, paragraph_by, paragraph_of_thing, waits_there}
use Rattle.explain_clock.specs.ActivityLists.{things_said}
use Rattle.explain_clock.specs.ClockFacts.{end_at}
use Rattle.explain_clock.specs.ClockKeepers.{keeper_said, keepers}
use Rattle.explain_clock.specs.calls.ParagraphLaws.{EachHasItsParagraph, IsSaidOf, IsWaitingIn, NamesThoseBehind, ThoseBehindAreNamed}
use Rattle.explain_clock.proofs.MembersWait.{members_wait}
use Rattle.explain_clock.proofs.Named.{ascending, behind, from_behind, keepers_named, named_in}
use Rattle.explain_clock.proofs.Standing.{stands_in_none, stands_in_one, told_alone, told_once, told_there, told_with_it}
use Rattle.explain_clock.proofs.Told.{list_at}

module _ (file : Option (List ℕ)) (text : List ℕ) (p : ClockTree) (u : ClockUnfolding) (plan : Plan) (end_state : State) (done : ℕ → ℕ) (lines : List ℕ) (waits : Bool)
    (x : ExplainsActivities file text p u plan end_state done lines waits) (final : IsFinal plan end_state) where
  checked : IsCheckedPlan plan
  checked = subst IsCheckedPlan (sym x.plan_is) (clock_plan_is_checked p (plan_of_moves u) (plan_is p u x.unfolds))

  of_plan : IsOfPlan plan end_state
  of_plan = subst (IsOfPlan plan) final.there (run_is_of_plan plan final.steps checked final.run.0)

  all_wait : (t q n : ℕ) → end_state.phases t q ≡ Some n → IsWaitingIn end_state t
  all_wait t q n member = members_wait p u end_state t q n x.unfolds (subst (λ z. IsFinal z end_state) x.plan_is final) member

  -- the clock or finish for which one waits
  thing_of : (t : ℕ) (e : Event) → end_state.published t ≡ Some e → (thing : MadeThing) × (slice_get x.facts.of_text.things e.p.0 ≡ Some thing)
  thing_of t e published =
      let member = published_member plan final.steps final.run.0 t e (ap (λ z. z.published t) final.there ∙ published) in
      let within = of_plan.phaser t e.p.0 member.0 (ap (λ z. z.phases t e.p.0) (sym final.there) ∙ member.1) in
      let many = (tasks_and_phasers_have_statements p u x.unfolds).things in
      let things = ap length x.are_facts.text_facts.things_are in
      let makers = ap (λ (z : Plan). length z.makers) x.plan_is in
      some_at x.facts.of_text.things e.p.0 (omega (arith, within, many, things, makers))

  none_refused : (t : ℕ) → end_state.refused t ≡ None
  none_refused t = ap (λ z. z.refused t) (sym final.there) ∙ unrefused plan checked final.steps final.run t (Passes 0) []

  pub said : (t : ℕ) → t < length plan.parents → IsSaidOf x.facts x.circle t (end_of end_state t)
  said t within =
      by (end_state.forked t) (end_state.published t) (end_state.refused t) refl refl
      (list_at (end_of end_state) (length plan.parents) t x.facts.ends Done x.are_facts.ends_are within)
    where
      all : t < length x.facts.ends
      all = let sized = ap length x.are_facts.ends_are ∙ length-list_below (end_of end_state) (length plan.parents) in omega (arith, within, sized)

      by :
          (b : Bool) (o r : Option Event) → end_state.published t ≡ o → end_state.refused t ≡ r → end_at x.facts t ≡ end_by b o r →
          IsSaidOf x.facts x.circle t (end_by b o r)
      by b (Some e) r published refused is =
          let (thing, there) = thing_of t e published in (
            thing,
            there,
            ap (paragraph_by x.facts t 1 []) is ∙ ap (paragraph_of_thing x.facts t 1 [] e) there,
            stands_in_one x.facts x.circle t all (inl (ap waits_there is)),
          )
      by b None (Some e) published refused is = absurd (let none = none_refused t in cc)
      by true None None published refused is = stands_in_none x.facts x.circle t is
      by false None None published refused is = (ap (paragraph_by x.facts t 1 []) is, stands_in_one x.facts x.circle t all (inr (ap is_unstarted is)))

  pub those_behind : (t : ℕ) (e : Event) → end_state.published t ≡ Some e → NamesThoseBehind x.facts end_state e
  those_behind t e published =
      let blocked = statuses_on plan end_state (is_awaited plan end_state) in
      record {
        named = named_in e blocked;
        named_are = keepers_named e x.facts.blocked ∙ ap (named_in e) x.are_facts.blocked_are;
        ascend = ascending plan end_state of_plan all_wait t e published;
        exact = λ v. (behind plan end_state of_plan all_wait t e published v, from_behind plan end_state of_plan all_wait t e published v);
        wait = λ v inside. let (n, member, less) = behind plan end_state of_plan all_wait t e published v inside in all_wait v e.p.0 n member;
        told = things_said (keeper_said x.facts e) (keepers x.facts e);
        lines_are = refl;
        once = told_once (keeper_said x.facts e) (keepers x.facts e);
        there = told_there (keeper_said x.facts e) (keepers x.facts e);
        with_it = told_with_it (keeper_said x.facts e) (keepers x.facts e);
        alone = told_alone (keeper_said x.facts e) (keepers x.facts e);
      }

pub each_has_its_paragraph : EachHasItsParagraph
each_has_its_paragraph file text p u plan s done lines waits x t final within = said file text p u plan s done lines waits x final t within

pub those_behind_are_named : ThoseBehindAreNamed
those_behind_are_named file text p u plan s done lines waits x t e final published = those_behind file text p u plan s done lines waits x final t e published
