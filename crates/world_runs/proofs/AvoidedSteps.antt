-- What a task that goes on adds to a run that leads to the world.
use Rattle.std.proofs.Common.{◌≡◌, ◌≢◌, ℕ, Bool, true, false, List, [], ◌∷◌, ◌++◌, Option, Some, None, append_assoc, sym, ◌∙◌, ap, subst, refl, inl, inr}
use Rattle.std.proofs.lemmas.Bool.{false≢true}
use Rattle.armus_base.specs.CheckedPlans.{IsCheckedPlan}
use Rattle.armus_base.specs.Places.{state_at}
use Rattle.armus_base.specs.Plans.{Aim, Action, Advances, Blocks, Drops, Forks, Makes, Passes, Plan, Refuses, Registers, action_at}
use Rattle.armus_base.specs.Runs.{IsByCode, IsLegalRun, Place, moved, places, state_after}
use Rattle.armus_base.specs.Serial.{GoesOn, IsDecided}
use Rattle.armus_base.specs.States.{IsLegal, State, Step}
use Rattle.armus_base.proofs.Codes.{no_refusal}
use Rattle.armus_base.proofs.Stepping.{places_fix}
use Rattle.pl_core.specs.calls.Moves.{LeadsOn, IsWorldStep, drops_from}
use Rattle.pl_core.specs.calls.Worlds.{WorldValue, places_of, state_of}
use Rattle.avoider.specs.declared.decision.Decision.{Decision}
use Rattle.avoider.specs.declared.decision.Decision.TheVariants.{Published, Refused}
use Rattle.avoider.specs.calls.Decisions.{HasGoneOn, IsDecision, MakesOtherEvent}
use Rattle.avoider.proofs.Supposing.{blocks_next}
use Rattle.world_runs.specs.inside.AvoidedRounds.{GoesOnTo, LeadsTo}

-- the state after a run that leads to the world
pub leads_state : (plan : Plan) → IsCheckedPlan plan → (h : List Step) (w : WorldValue) → LeadsTo plan h w → state_after h ≡ state_of w
unfolding state_of
leads_state plan checked h w leads =
    (places_fix plan checked h leads.run).0 ∙ ap (state_at plan) leads.there ∙ ap (λ q. state_at q (places_of w)) (sym leads.plan_is)

module _ (plan : Plan) (checked : IsCheckedPlan plan) where
  -- steps that lead on from places go on with each run that leads there
  pub leads_run :
      (a : ℕ → Place) (own : List Step) (b : ℕ → Place) (h : List Step) → IsLegalRun plan h → places h ≡ a → LeadsOn plan a own b →
      IsLegalRun plan (own ++ h) × places (own ++ h) ≡ b
  leads_run a [] b h run there leads = (run, there ∙ leads)
  leads_run a (e ∷ own) b h run there leads =
      let before = leads_run a own leads.0 h run there leads.1 in
      let state : state_after (own ++ h) ≡ state_at plan leads.0 = (places_fix plan checked (own ++ h) before.0).0 ∙ ap (state_at plan) before.1 in (
        (
          before.0,
          record {
            legal = subst (λ s. IsLegal plan s e.task e.action) (sym state) leads.3;
            by_code = subst (λ c. IsByCode plan e.task (c e.task).done (c e.task).dropped e.action) (sym before.1) leads.2;
          },
        ),
        ap (λ c. moved c e.task e.action) before.1 ∙ leads.4,
      )

  -- who is refused stood before its await
  refuses_next :
      (a : ℕ → Place) (t : ℕ) (aim : Aim) (drops : List ℕ) (b : ℕ → Place) → LeadsOn plan a (drops_from t drops ++ record { task = t; action = Refuses aim } ∷ []) b →
      action_at plan t (a t).done ≡ Some (Blocks aim)
  refuses_next a t aim [] b leads =
      subst (λ (c : ℕ → Place). action_at plan t (c t).done ≡ Some (Blocks aim)) (sym leads.1) (by_place (leads.0 t).done (leads.0 t).dropped leads.2)
    where
      by_place : (k : ℕ) (o : Option ℕ) → IsByCode plan t k o (Refuses aim) → action_at plan t k ≡ Some (Blocks aim)
      by_place k None code = code
      by_place k (Some q) code = absurd code
  refuses_next a t aim (d ∷ drops) b leads = refuses_next a t aim drops leads.0 leads.1

-- an action that neither blocks nor refuses needs no decision
pub decided_else : (s : State) (t : ℕ) (x : Action) → ((aim : Aim) → x ≢ Blocks aim) → ((aim : Aim) → x ≢ Refuses aim) → IsDecided s t x
decided_else s t (Blocks p) b r = absurd (b p refl)
decided_else s t (Refuses p) b r = absurd (r p refl)
decided_else s t (Makes p) b r = tt
decided_else s t (Registers c p) b r = tt
decided_else s t (Forks c) b r = tt
decided_else s t (Advances p) b r = tt
decided_else s t (Drops p) b r = tt
decided_else s t (Passes p) b r = tt

-- a refusal that was decided, and the drops after it
pub refusal_goes_on :
    (plan : Plan) (t : ℕ) (aim : Aim) (drops : List ℕ) (h : List Step) → IsDecided (state_after h) t (Refuses aim) →
    GoesOn plan t h (drops_from t drops ++ record { task = t; action = Refuses aim } ∷ [])
refusal_goes_on plan t p [] h decided = (tt, refl, decided)
refusal_goes_on plan t p (d ∷ drops) h decided = (refusal_goes_on plan t p drops h decided, refl, tt)

-- steps after steps
pub goes_append : (plan : Plan) (t : ℕ) (h own more : List Step) → GoesOn plan t h own → GoesOn plan t (own ++ h) more → GoesOn plan t h (more ++ own)
goes_append plan t h own [] first later = first
goes_append plan t h own (e ∷ more) first later = (
  goes_append plan t h own more first later.0,
  later.1,
  subst (λ v. IsDecided (state_after v) t e.action) (sym (append_assoc more own h)) later.2,
)

module _ (old new : WorldValue) (checked : IsCheckedPlan old.plan) (t : ℕ) where
  abbrev pub Adds : List Step → Type 0
  Adds h = (own : List Step) × LeadsTo old.plan (own ++ h) new × GoesOn old.plan t h own

  same_state : (h : List Step) → LeadsTo old.plan h old → state_after h ≡ state_of old
  same_state h leads = leads_state old.plan checked h old leads

  -- a step that is decided
  pub step_adds : (s : IsWorldStep old new t) (h : List Step) → LeadsTo old.plan h old → IsDecided (state_of old) t s.action → Adds h
  step_adds s h leads decided =
      let own = record { task = t; action = s.action } ∷ [] in
      let run = leads_run old.plan checked (places_of old) own (places_of new) h leads.run leads.there s.run in (
        own,
        record { plan_is = s.plan; run = run.0; there = run.1 },
        (tt, refl, subst (λ v. IsDecided v t s.action) (sym (same_state h leads)) decided),
      )

  other_adds : MakesOtherEvent old new t → (h : List Step) → LeadsTo old.plan h old → Adds h
  other_adds event h leads =
      step_adds event.step h leads
      (decided_else (state_of old) t event.step.action event.other
      (λ p is. no_refusal old.plan t (places_of old t).done p (event.step.next ∙ ap Some is)))

  decision_adds : (d : Decision) → IsDecision old new t d → (h : List Step) → LeadsTo old.plan h old → Adds h
  decision_adds (Published e) is h leads =
      let next = blocks_next old t e is.before in
      let block : is.step.action ≡ Blocks next.0 = (let both : Some is.step.action ≡ Some (Blocks next.0) = sym is.step.next ∙ next.1 in cc) in
      step_adds is.step h leads
      (subst (λ x. IsDecided (state_of old) t x) (sym block) (e, next.2, is.alive))
  decision_adds (Refused c) is h leads =
      let r = is.refusal in
      let own = drops_from t r.drops ++ record { task = t; action = Refuses r.aim } ∷ [] in
      let run = leads_run old.plan checked (places_of old) own (places_of new) h leads.run leads.there r.run in
      let next = blocks_next old t is.event is.before in
      let same : next.0 ≡ r.aim =
      (let both : Some (Blocks next.0) ≡ Some (Blocks r.aim) =
      sym next.1 ∙ refuses_next old.plan checked (places_of old) t r.aim r.drops (places_of new) r.run in cc) in
      let decided : IsDecided (state_of old) t (Refuses r.aim) =
      subst (λ aim. IsDecided (state_of old) t (Refuses aim)) same (is.event, next.2, is.dead) in (
        own,
        record { plan_is = r.plan; run = run.0; there = run.1 },
        refusal_goes_on old.plan t r.aim r.drops h (subst (λ v. IsDecided v t (Refuses r.aim)) (sym (same_state h leads)) decided),
      )

  pub gone_on_adds : HasGoneOn old new t → (h : List Step) → LeadsTo old.plan h old → Adds h
  gone_on_adds gone h leads = elim gone [ inl d ↦ decision_adds d.0 d.1 h leads | inr e ↦ other_adds e h leads ]

-- nothing added yet
pub goes_none : (w : WorldValue) (t : ℕ) → GoesOnTo w w t false
goes_none w t h leads = ([], leads, tt, λ e. refl)

-- and more steps
pub goes_more :
    (old mid new : WorldValue) (t : ℕ) (moved : Bool) → IsCheckedPlan mid.plan → mid.plan ≡ old.plan → GoesOnTo old mid t moved →
    ((h : List Step) → LeadsTo mid.plan h mid → (own : List Step) × LeadsTo mid.plan (own ++ h) new × GoesOn mid.plan t h own) → GoesOnTo old new t true
goes_more old mid new t moved checked plan before adds h leads =
    let first = before h leads in
    let there : LeadsTo mid.plan (first.0 ++ h) mid = subst (λ q. LeadsTo q (first.0 ++ h) mid) (sym plan) first.1 in
    let later = adds (first.0 ++ h) there in
    let leads' : LeadsTo old.plan (later.0 ++ (first.0 ++ h)) new = subst (λ q. LeadsTo q (later.0 ++ (first.0 ++ h)) new) plan later.1 in
    let goes' : GoesOn old.plan t (first.0 ++ h) later.0 = subst (λ q. GoesOn q t (first.0 ++ h) later.0) plan later.2 in (
      later.0 ++ first.0,
      subst (λ v. LeadsTo old.plan v new) (sym (append_assoc later.0 first.0 h)) leads',
      goes_append old.plan t h first.0 later.0 first.2 goes',
      λ e. absurd (false≢true (sym e)),
    )
