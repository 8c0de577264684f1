-- A line is taken or it is at fault, and so lines lead to a progress or have a first fault.
use Rattle.std.proofs.Common.{◌≡◌, ◌+◌, ◌∙◌, ◌⊎◌, ℕ, Bool, true, false, List, [], ◌∷◌, ◌++◌, length, arith, sym, subst, ap, inl, inr, refl, append_assoc, append-nil}
use Rattle.std.specs.Prelude.{Option, Some, None, if◌then◌else◌, ◌==◌}
use Rattle.std.proofs.lemmas.Bool.{cases_Bool, cases_lt, false≢true}
use Rattle.armus_base.specs.declared.event.Event.{Event}
use Rattle.armus_base.specs.CheckedPlans.{IsCheckedPlan}
use Rattle.armus_base.specs.Plans.{Plan, Action, Passes, action_at}
use Rattle.armus_base.specs.Places.{refused_at}
use Rattle.armus_base.specs.Runs.{IsPlainRun, places, state_after, IsOwnNextStep}
use Rattle.armus_base.specs.States.{IsLegal, IsReached, Step, event_at}
use Rattle.armus_base.proofs.Members.{plain_undropped}
use Rattle.armus_base.proofs.NextIsLegal.{next_is_legal}
use Rattle.armus_base.proofs.Published.{published_passes}
use Rattle.armus_base.proofs.Stepping.{acting_forked, places_fix}
use Rattle.armus_base.proofs.Tasks.{reached_or_not}
use Rattle.armus_base.proofs.OwnSteps.{plain_longer}
use Rattle.schedule.specs.declared.lines.Line.{Line}
use Rattle.schedule.specs.declared.lines.Line.TheVariants as line
use Rattle.schedule.specs.Passes.{PassLoads, loads_of}
use Rattle.schedule.specs.Replays.{IsFault, LinesLead, Progress, Takes, at_start, load_without_pass, loaded, no_line, one_more, second_pass, strange_task, stuck_task, unreadable}
use Rattle.schedule.specs.calls.Laws.{IsMet, LineIsMet, LinesAreMet}

module _ (plan : Plan) (checked : IsCheckedPlan plan) where
  -- a task has a next step, or it has none
  module _ (h : List Step) (run : IsPlainRun plan h) (t : ℕ) where
    abbrev Goes : Type 0
    Goes = (x : Action) × IsOwnNextStep plan h t x

    abbrev IsStuck : Type 0
    IsStuck = (x : Action) → IsOwnNextStep plan h t x → ⊥

    unrefused : (state_after h).refused t ≡ None
    unrefused =
        ap (λ s. s.refused t) ((places_fix plan checked h run.0).0)
        ∙ ap (refused_at plan t (places h t).done) (plain_undropped plan h run t)

    -- the one next action of the code
    only_next : (x y : Action) → action_at plan t (places h t).done ≡ Some x → IsOwnNextStep plan h t y → y ≡ x
    only_next x y next other = let both : Some y ≡ Some x = sym other.by_code ∙ next in cc

    stuck_by : (x : Action) → action_at plan t (places h t).done ≡ Some x → (IsLegal plan (state_after h) t x → ⊥) → IsStuck
    stuck_by x next illegal y other =
        illegal (subst (IsLegal plan (state_after h) t) (only_next x y next other) other.legal)

    -- a task that is not published goes on
    idle_goes :
        (x : Action) → action_at plan t (places h t).done ≡ Some x → (state_after h).forked t ≡ true → (state_after h).published t ≡ None → Goes
    idle_goes x next forked idle = (
      x,
      record {
        by_code = next;
        legal = next_is_legal plan h t x checked run.0 (record { forked = forked; unpublished = idle; unrefused = unrefused }) next;
      },
    )

    -- a published task goes on where its event is reached
    waiting :
        (x : Action) → action_at plan t (places h t).done ≡ Some x → (state_after h).forked t ≡ true → (e : Event) → (state_after h).published t ≡ Some e →
        Goes ⊎ IsStuck
    waiting x next forked e published =
        let fixed = places_fix plan checked h run.0 in
        let passes : action_at plan t (places h t).done ≡ Some (Passes e.p.0) =
        published_passes plan t (places h t).done e (ap (λ s. s.published t) (sym fixed.0) ∙ published) in
        elim (reached_or_not plan checked h run.0 e.p.0 e.n) [
          | inl reached ↦ inl (Passes e.p.0, record { by_code = passes; legal = (forked, e.n, published, reached, unrefused) })
          | inr unreached ↦ inr (stuck_by (Passes e.p.0) passes (λ legal. unreached (same_event e published legal)))
        ]
      where
        same_event : (e : Event) → (state_after h).published t ≡ Some e → IsLegal plan (state_after h) t (Passes e.p.0) → IsReached (state_after h) (event_at e.p.0 e.n)
        same_event e published (forked, n, on, reached, unrefused) =
            let both : Some (event_at e.p.0 n) ≡ Some e = sym on ∙ published in
            let same : event_at e.p.0 n ≡ e = cc in
            subst (IsReached (state_after h)) same reached

    by_event :
        (x : Action) → action_at plan t (places h t).done ≡ Some x → (state_after h).forked t ≡ true → (w : Option Event) →
        (state_after h).published t ≡ w → Goes ⊎ IsStuck
    by_event x next forked None published = inl (idle_goes x next forked published)
    by_event x next forked (Some e) published = waiting x next forked e published

    by_next : (o : Option Action) → action_at plan t (places h t).done ≡ o → Goes ⊎ IsStuck
    by_next None next = inr (λ x other. absurd (let code = other.by_code in cc))
    by_next (Some x) next =
        elim (cases_Bool ((state_after h).forked t)) [
          | inl forked ↦ by_event x next forked ((state_after h).published t) refl
          | inr idle ↦ inr (stuck_by x next (λ legal. false≢true (sym idle ∙ acting_forked plan (state_after h) t x legal)))
        ]

    pub goes_or_stuck : Goes ⊎ IsStuck
    goes_or_stuck = by_next (action_at plan t (places h t).done) refl

  -- a line is taken or at fault
  pub line_met : (a : Progress) (next : Line) → IsPlainRun plan a.run → ((b : Progress) × Takes plan a next b) ⊎ ((kind : ℕ) × IsFault plan a next kind)
  line_met a (line.Step t) run =
      elim (cases_lt t (length plan.parents)) [
        | inl within ↦ elim (goes_or_stuck a.run run t) [
          | inl one ↦ let (x, next) = one in inl (record a { run = record { task = t; action = x } ∷ a.run }, (x, next, refl))
          | inr stuck ↦ inr (2, stuck_task t within stuck)
        ]
        | inr beyond ↦ inr (3, strange_task t (omega arith))
      ]
  line_met a line.Pass run = by_pass a.open_pass refl
    where
      by_pass : (o : Option PassLoads) → a.open_pass ≡ o → ((b : Progress) × Takes plan a line.Pass b) ⊎ ((kind : ℕ) × IsFault plan a line.Pass kind)
      by_pass None is = inl (record a { open_pass = Some [] }, (is, refl))
      by_pass (Some loads) is = inr (5, second_pass (rw is refl))
  line_met a line.Load run = by_pass a.open_pass refl
    where
      by_pass : (o : Option PassLoads) → a.open_pass ≡ o → ((b : Progress) × Takes plan a line.Load b) ⊎ ((kind : ℕ) × IsFault plan a line.Load kind)
      by_pass None is = inr (4, load_without_pass is)
      by_pass (Some loads) is = inl (loaded plan a (loads ++ a.run ∷ []), (loads, is, refl))
  line_met a line.Unreadable run = inr (1, unreadable)

  -- a load makes no step
  run_of : (full : Bool) (a : Progress) (loads : PassLoads) →
      (if full then record a { open_pass = None; passes = a.passes ++ loads ∷ [] } else record a { open_pass = Some loads }).run ≡ a.run
  run_of true a loads = refl
  run_of false a loads = refl

  takes_run : (a : Progress) (next : Line) (b : Progress) → IsPlainRun plan a.run → Takes plan a next b → IsPlainRun plan b.run
  takes_run a (line.Step t) b run (x, next, is) = subst (λ (p : Progress). IsPlainRun plan p.run) (sym is) (plain_longer plan a.run t x run next)
  takes_run a line.Pass b run (idle, is) = subst (λ (p : Progress). IsPlainRun plan p.run) (sym is) run
  takes_run a line.Load b run (loads, opened, is) =
      let more = loads ++ a.run ∷ [] in
      subst (λ (p : Progress). IsPlainRun plan p.run) (sym is)
      (subst (IsPlainRun plan) (sym (run_of (length more == loads_of plan more) a more)) run)
  takes_run a line.Unreadable b run takes = absurd takes

  -- the run of lines that lead somewhere is plain
  pub leads_run : (lines : List Line) (a : Progress) → LinesLead plan lines a → IsPlainRun plan a.run
  leads_run _ _ no_line = (tt, tt)
  leads_run _ _ (one_more lines a next b leads takes) = takes_run a next b (leads_run lines a leads) takes

  met_from : (before rest : List Line) (a : Progress) → LinesLead plan before a → IsMet plan (before ++ rest)
  met_from before [] a leads = inl (a, subst (λ l. LinesLead plan l a) (sym (append-nil before)) leads)
  met_from before (next ∷ rest) a leads =
      elim (line_met a next (leads_run before a leads)) [
        | inl one ↦
            let (b, takes) = one in
            subst (IsMet plan) (append_assoc before (next ∷ []) rest) (met_from (before ++ next ∷ []) rest b (one_more before a next b leads takes))
        | inr one ↦
            let (kind, fault) = one in
            inr (
              length before + 1,
              kind,
              record { before = before; here = next; rest = rest; parts = refl; progress = a; leads = leads; fault = fault; counted = refl },
            )
      ]

pub line_is_met : LineIsMet
line_is_met plan a next checked run = line_met plan checked a next run

pub lines_are_met : LinesAreMet
lines_are_met plan lines checked = met_from plan checked [] lines at_start no_line
