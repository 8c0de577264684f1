-- A task goes on by a step that is decided.
use Rattle.std.proofs.Common.{◌≡◌, ◌≢◌, ◌∙◌, ◌<◌, ℕ, true, List, [], ◌∷◌, ◌++◌, Option, Some, ap, inl, inr, refl, subst, sym}
use Rattle.std.specs.Prelude.{All, Contains, length}
use Rattle.std.proofs.lemmas.Bool.{false≢true}
use Rattle.std.proofs.lemmas.List.Elements.{All-contains_itself, All-weaker}
use Rattle.armus_base.specs.declared.event.Event.{Event}
use Rattle.armus_base.specs.declared.ids.TaskId.{TaskId}
use Rattle.armus_base.specs.declared.status.Status.{Status}
use Rattle.armus_base.specs.Deadlocks.{WouldBeDead}
use Rattle.armus_base.specs.CheckedPlans.{IsCheckedPlan}
use Rattle.armus_base.specs.Plans.{Aim, Blocks, Plan, Refuses, code_of}
use Rattle.armus_base.specs.Runs.{Place, places, state_after}
use Rattle.armus_base.specs.Serial.{IsDecided}
use Rattle.armus_base.specs.States.{State, Step, awaited, if_published}
use Rattle.armus_base.specs.Finals.{is_awaited}
use Rattle.armus_base.proofs.Codes.{no_refusal}
use Rattle.armus_base.proofs.StatusesAre.{listed_is}
use Rattle.pl_core.specs.Tasks.{IsAtOp}
use Rattle.pl_core.specs.calls.Awaiting.{awaited_statuses}
use Rattle.pl_core.specs.calls.Moves.{IsWorldStep, drops_from}
use Rattle.pl_core.specs.calls.Stands.{IsAtAwaitOf}
use Rattle.pl_core.specs.calls.Worlds.{WorldValue, places_of, state_of}
use Rattle.pl_syntax.specs.declared.tree.Program.{Program}
use Rattle.explain_facts.specs.Accounts.{Layout}
use Rattle.report.specs.Reports.{IsReportedCycle}
use Rattle.report.proofs.DeadTasks.{least_dead}
use Rattle.verdict.specs.declared.found.Cycle.{Cycle}
use Rattle.avoider.specs.declared.decision.Decision.TheVariants.{Published, Refused}
use Rattle.avoider.specs.calls.Decisions.{ExplainsDeath, HasGoneOn, IsPublished, IsRefused, supposed_statuses}
use Rattle.avoider.proofs.Supposing.{blocks_next}
use Rattle.world_runs.specs.inside.AvoidedRounds.{LeadsTo}
use Rattle.world_runs.proofs.AvoidedSteps.{leads_run, leads_state, refusal_goes_on, decided_else}
use Rattle.explain_avoid.specs.Released.{AreReleased, when_left}
use Rattle.explain_avoid.specs.RefusalWords.{refusal_words}
use Rattle.explain_avoid.specs.Refusals.{AreRefusals, IsRefusalText}
use Rattle.explain_avoid.specs.declared.avoiding.Avoiding.{Avoiding}
use Rattle.explain_avoid.specs.inside.SoFar.{RoundsGoTo, HasDecided, AreRefusalsSoFar, StandAt}
use Rattle.explain_avoid.proofs.OpsKept.{at_op, op_at, stand_still}
use Rattle.explain_avoid.proofs.Refusing.{refusal_told, refuses_next, step_told}

-- the cycle that explains a death is that of a report
reported : (list : List Status) (t : ℕ) (c : Cycle) → ExplainsDeath list t c → IsReportedCycle list c.tasks
reported list t c is = (is.cycle.start, least_dead list is.dead is.cycle.start is.are_dead is.cycle.first, is.cycle.walk)

-- the tasks of such a cycle are tasks of the plan
pub cycle_within : (w : WorldValue) (t : ℕ) (e : Event) (c : Cycle) → ExplainsDeath (supposed_statuses w t e) t c → All (λ (u : TaskId). u.0 < length w.plan.parents) c.tasks
cycle_within w t e c is =
    All-weaker (Contains c.tasks) (λ (u : TaskId). u.0 < length w.plan.parents) within c.tasks (All-contains_itself c.tasks)
  where
    within : (u : TaskId) → Contains c.tasks u → u.0 < length w.plan.parents
    within u m =
        let waits = (is.links.each m.0 m.1).awaits u e in
        let at = listed_is w.plan (if_published (state_of w) t e) (is_awaited w.plan (if_published (state_of w) t e)) waits.1 (waits.0, waits.2, waits.3) in
        let same : u.0 ≡ at.0 = ap (λ (v : TaskId). v.0) (sym (waits.4.0 ∙ m.2)) ∙ ap (λ (v : Status). v.t.0) at.4 in
        subst (λ k. k < length w.plan.parents) (sym same) at.1

module _ (file : Option (List ℕ)) (l : Layout) (p : Program) (old new : Avoiding) (t : ℕ) (checked : IsCheckedPlan old.world.plan) where
  abbrev plan : Plan
  plan = old.world.plan

  state_is : (h : List Step) → AreRefusalsSoFar file l p h old → state_after h ≡ state_of old.world
  state_is h so_far = leads_state plan checked h old.world so_far.leads

  -- a step of its code
  pub goes_by_step :
      (s : IsWorldStep old.world new.world t) → IsDecided (state_of old.world) t s.action → new.refusals.items ≡ old.refusals.items → RoundsGoTo file l p t old new true
  goes_by_step s decided same h so_far =
      let e : Step = record { task = t; action = s.action } in
      let run = leads_run plan checked (places_of old.world) (e ∷ []) (places_of new.world) h so_far.leads.run so_far.leads.there s.run in
      let none : (aim : Aim) → s.action ≢ Refuses aim = λ aim is. no_refusal plan t (places_of old.world t).done aim (s.next ∙ ap Some is) in (
        e ∷ [],
        record {
          leads = subst (λ (q : Plan). LeadsTo q (e ∷ h) new.world) (sym s.plan) (record { plan_is = s.plan; run = run.0; there = run.1 });
          told =
              subst (λ (q : Plan). AreRefusals file l p q (e ∷ h) new.refusals.items) (sym s.plan)
              (step_told file l p plan h t s.action old.refusals.items new.refusals.items none same so_far.told);
        },
        (tt, refl, subst (λ v. IsDecided v t s.action) (sym (state_is h so_far)) decided),
        λ still. absurd (false≢true (sym still)),
      )

  pub goes_by_other :
      (s : IsWorldStep old.world new.world t) → ((aim : Aim) → s.action ≢ Blocks aim) → new.refusals.items ≡ old.refusals.items → RoundsGoTo file l p t old new true
  goes_by_other s other same =
      goes_by_step s
      (decided_else (state_of old.world) t s.action other
      (λ aim is. no_refusal plan t (places_of old.world t).done aim (s.next ∙ ap Some is)))
      same

  module _ (e : Event) (at : IsAtAwaitOf old.world t e) where
    -- an await that is published
    by_publishing : (d : Event) → IsPublished old.world new.world t d → new.refusals.items ≡ old.refusals.items → RoundsGoTo file l p t old new true
    by_publishing d is same =
        let next = blocks_next old.world t d is.before in
        let block : is.step.action ≡ Blocks next.0 = (let both : Some is.step.action ≡ Some (Blocks next.0) = sym is.step.next ∙ next.1 in cc) in
        goes_by_step is.step (subst (λ x. IsDecided (state_of old.world) t x) (sym block) (d, next.2, is.alive)) same

    -- an await that is refused
    module _ (c : Cycle) (is : IsRefused old.world new.world t c) (released : List TaskId)
        (go_on : AreReleased (state_of old.world) (when_left (state_of old.world) t) released)
        (text : (ops : ℕ → ℕ) → StandAt new.world ops →
        new.refusals.items ≡ old.refusals.items ++ refusal_words file l p plan (state_of old.world) t e ops c.tasks released) where
      aim_is : (blocks_next old.world t e at).0 ≡ is.refusal.aim
      aim_is =
          let next = blocks_next old.world t e at in
          let both : Some (Blocks next.0) ≡ Some (Blocks is.refusal.aim) =
          sym next.1 ∙ refuses_next plan (places_of old.world) t is.refusal.aim is.refusal.drops (places_of new.world) is.refusal.run in cc

      awaits : awaited (Some (Blocks is.refusal.aim)) ((state_of old.world).phases t) ≡ Some e
      awaits =
          let next = blocks_next old.world t e at in
          subst (λ aim. awaited (Some (Blocks aim)) ((state_of old.world).phases t) ≡ Some e) aim_is next.2

      event_is : is.event ≡ e
      event_is = (let both : Some is.event ≡ Some e = sym is.before.1 ∙ at.1 in cc)

      closes : IsReportedCycle (awaited_statuses plan (if_published (state_of old.world) t e)) c.tasks
      closes =
          subst (λ (d : Event). IsReportedCycle (awaited_statuses plan (if_published (state_of old.world) t d)) c.tasks) event_is
          (reported (supposed_statuses old.world t is.event) t c is.cycle)

      decided : IsDecided (state_of old.world) t (Refuses is.refusal.aim)
      decided = (e, awaits, subst (λ (d : Event). WouldBeDead (state_of old.world) t d) event_is is.dead)

      own_text : List Step → List ℕ
      own_text h = refusal_words file l p plan (state_after h) t e (op_at plan (places h)) c.tasks released

      is_text : (h : List Step) → AreRefusalsSoFar file l p h old → IsRefusalText file l p plan h t is.refusal.aim (own_text h)
      unfolding own_text
      is_text h so_far = record {
        ops = op_at plan (places h);
        stand = at_op plan (places h);
        event = e;
        awaits = subst (λ (s : State). awaited (Some (Blocks is.refusal.aim)) (s.phases t) ≡ Some e) (sym (state_is h so_far)) awaits;
        cycle = c.tasks;
        closes = subst (λ (s : State). IsReportedCycle (awaited_statuses plan (if_published s t e)) c.tasks) (sym (state_is h so_far)) closes;
        released = released;
        go_on = subst (λ (s : State). AreReleased s (when_left s t) released) (sym (state_is h so_far)) go_on;
        text_is = refl;
      }

      all_text : (h : List Step) → AreRefusalsSoFar file l p h old → new.refusals.items ≡ old.refusals.items ++ own_text h
      unfolding own_text
      all_text h so_far =
          let here : StandAt old.world (op_at plan (places h)) =
          subst (λ (a : ℕ → Place). (u : ℕ) → IsAtOp (code_of plan u) (a u).done (op_at plan (places h) u)) so_far.leads.there (at_op plan (places h)) in
          text (op_at plan (places h)) (stand_still old.world new.world t is.refusal (op_at plan (places h)) here)
          ∙ ap (λ (s : State). old.refusals.items ++ refusal_words file l p plan s t e (op_at plan (places h)) c.tasks released) (sym (state_is h so_far))

      by_refusing : RoundsGoTo file l p t old new true
      by_refusing h so_far =
          let r = is.refusal in
          let own = drops_from t r.drops ++ record { task = t; action = Refuses r.aim } ∷ [] in
          let run = leads_run plan checked (places_of old.world) own (places_of new.world) h so_far.leads.run so_far.leads.there r.run in
          let told : AreRefusals file l p plan (own ++ h) (old.refusals.items ++ own_text h) =
          refusal_told file l p plan h t r.aim r.drops old.refusals.items (own_text h) (is_text h so_far) so_far.told in
          let all : AreRefusals file l p plan (own ++ h) new.refusals.items =
          subst (λ (text : List ℕ). AreRefusals file l p plan (own ++ h) text) (sym (all_text h so_far)) told in (
            own,
            record {
              leads = subst (λ (q : Plan). LeadsTo q (own ++ h) new.world) (sym r.plan) (record { plan_is = r.plan; run = run.0; there = run.1 });
              told = subst (λ (q : Plan). AreRefusals file l p q (own ++ h) new.refusals.items) (sym r.plan) all;
            },
            refusal_goes_on plan t r.aim r.drops h (subst (λ v. IsDecided v t (Refuses r.aim)) (sym (state_is h so_far)) decided),
            λ still. absurd (false≢true (sym still)),
          )

    -- what was decided
    pub goes_by_decision : HasDecided file l p old new t e → RoundsGoTo file l p t old new true
    goes_by_decision decided = elim decided [
      | inl one ↦ by_publishing one.0 one.1 one.2
      | inr one ↦ by_refusing one.0 one.1 one.2 one.3 one.4
    ]

    pub gone_on : HasDecided file l p old new t e → HasGoneOn old.world new.world t
    gone_on decided = elim decided [ inl one ↦ inl (Published one.0, one.1) | inr one ↦ inl (Refused one.0, one.1) ]
