-- Avoided runs and plain runs of one plan tell of deadlock alike.
use Rattle.std.proofs.Common.{◌≡◌, ◌≢◌, ℕ, false, Option, Some, None, List, [], ◌∷◌, sym, ◌∙◌, ap, subst, refl, ◌⊎◌, inl, inr}
use Rattle.std.specs.Prelude.{IsSome}
use Rattle.std.proofs.lemmas.Bool.{cases_eq, false≢true}
use Rattle.armus_base.specs.calls.AgreementLaws.{AvoidedEndsAlike, DeadIsFinal, DeadIsFinalAtLawful, FinalIsAvoided, RefusedWhereDead, SomebodyDead, SomebodyRefused}
use Rattle.armus_base.specs.Avoidance.{Avoids, IsAvoidedFinal, IsAvoidedRun}
use Rattle.armus_base.specs.calls.Boards.{steps_of}
use Rattle.armus_base.specs.CheckedPlans.{IsCheckedPlan}
use Rattle.armus_base.specs.Deadlocks.{IsDeadIn, NobodyDead}
use Rattle.armus_base.specs.Places.{refused_at}
use Rattle.armus_base.specs.Plans.{Action, Aim, Blocks, Plan, Refuses}
use Rattle.armus_base.specs.Runs.{IsByCode, IsFinal, IsLegalRun, IsNextStep, IsPlain, IsPlainRun, places, state_after}
use Rattle.armus_base.specs.States.{IsLegal, State, Step, after, awaited, updated}
use Rattle.armus_base.proofs.Again.{plain_after}
use Rattle.armus_base.proofs.BoardRuns.{lawful_state}
use Rattle.armus_base.proofs.Codes.{awaited_some}
use Rattle.armus_base.proofs.DeadStays.{dead_stays}
use Rattle.armus_base.proofs.Members.{plain_undropped}
use Rattle.armus_base.proofs.NobodyIsDead.{avoided_legal, nobody_is_dead}
use Rattle.armus_base.proofs.OneEnd.{below_maximal, one_end}
use Rattle.armus_base.proofs.Stepping.{places_fix}
use Rattle.armus_base.proofs.Steps.{updated_other, updated_same}

-- whoever is dead after a plain run is dead where all plain runs end, since each place there is at or after
pub dead_is_final : DeadIsFinal
dead_is_final plan h f t checked run final dead =
    subst (λ s. IsDeadIn s t) final.there
    (dead_stays plan h final.steps t checked run.0 final.run.0
    (plain_after plan h final.steps run (below_maximal plan checked final.steps final.run final.maximal h run))
    dead).0

pub dead_is_final_at_lawful : DeadIsFinalAtLawful
dead_is_final_at_lawful plan a lock f t checked lawful final dead =
    dead_is_final plan (steps_of lawful.entries) f t checked lawful.run.0 final
    (subst (λ s. IsDeadIn s t) (sym (lawful_state false plan a lock checked lawful)) dead)

-- the step that blocks where another one refuses
abbrev pub blocking : ℕ → Aim → Step
blocking t aim = record { task = t; action = Blocks aim }

-- a task that may refuse an await may block there
module _ (plan : Plan) (h : List Step) (t : ℕ) (aim : Aim) where
  block_by_code : (k : ℕ) (o : Option ℕ) → IsByCode plan t k o (Refuses aim) → IsByCode plan t k o (Blocks aim)
  block_by_code k None code = code
  block_by_code k (Some q) code = absurd code

  pub next_block : IsNextStep plan h (record { task = t; action = Refuses aim }) → IsNextStep plan h (blocking t aim)
  next_block next = record { legal = next.legal; by_code = block_by_code (places h t).done (places h t).dropped next.by_code }

  -- and if it would be dead there, it is after the block
  pub dead_by_block : Avoids (state_after h) t (Refuses aim) → IsDeadIn (state_after (blocking t aim ∷ h)) t
  dead_by_block avoids =
      subst (λ o. IsDeadIn (record (state_after h) { published = updated (state_after h).published t o }) t) (sym avoids.1) avoids.2

-- whoever is refused stays so
refused_after : (s : State) (t : ℕ) (x : Action) → Avoids s t x → (u : ℕ) → IsSome (s.refused u) → IsSome ((after s t x).refused u)
refused_after s t (Refuses aim) avoids u refused =
    elim (cases_eq u t) [
      | inl same ↦ subst IsSome (sym (updated_same s.refused t u (awaited (Some (Blocks aim)) (s.phases t)) same ∙ avoids.1)) refl
      | inr other ↦ subst IsSome (sym (updated_other s.refused t u (awaited (Some (Blocks aim)) (s.phases t)) other)) refused
    ]
refused_after s t x avoids u refused = refused

-- a plain run after which somebody is dead
abbrev DeadInPlainRun : Plan → Type 0
DeadInPlainRun plan = (g : List Step) × IsPlainRun plan g × SomebodyDead (state_after g)

-- an avoided run is plain, or somebody is refused after it and was about to die after a plain run
plain_or_refused :
    (plan : Plan) (h : List Step) → IsAvoidedRun plan h → IsPlain h ⊎ (SomebodyRefused (state_after h) × DeadInPlainRun plan)
plain_or_refused plan [] run = inl tt
plain_or_refused plan (e ∷ h) run =
    elim (plain_or_refused plan h run.0) [
      | inr r ↦ inr ((r.0.0, refused_after (state_after h) e.task e.action run.2 r.0.0 r.0.1), r.1)
      | inl plain ↦ by_action plain e.action refl
    ]
  where
    s : State
    s = state_after h

    by_action : IsPlain h → (x : Action) → e.action ≡ x → IsPlain (e ∷ h) ⊎ (SomebodyRefused (state_after (e ∷ h)) × DeadInPlainRun plan)
    by_action plain (Refuses aim) is =
        let avoids : Avoids s e.task (Refuses aim) = subst (λ y. Avoids s e.task y) is run.2 in
        let next : IsNextStep plan h (record { task = e.task; action = Refuses aim }) =
        subst (λ y. IsNextStep plan h (record { task = e.task; action = y })) is run.1 in
        let refused : (after s e.task (Refuses aim)).refused e.task ≡ Some avoids.0 =
        updated_same s.refused e.task e.task (awaited (Some (Blocks aim)) (s.phases e.task)) refl ∙ avoids.1 in
        inr (
          (e.task, subst (λ y. IsSome ((after s e.task y).refused e.task)) (sym is) (subst IsSome (sym refused) refl)),
          (
            blocking e.task aim ∷ h,
            ((avoided_legal plan h run.0, next_block plan h e.task aim next), (plain, λ a i. absurd (cc))),
            (e.task, dead_by_block plan h e.task aim avoids),
          ),
        )
    by_action plain x is = inl (plain, λ a i. absurd (let g = sym is ∙ i in cc))

-- nobody is refused after a plain run
pub plain_unrefused : (plan : Plan) → IsCheckedPlan plan → (h : List Step) → IsPlainRun plan h → (t : ℕ) → (state_after h).refused t ≡ None
plain_unrefused plan checked h run t =
    ap (λ s. s.refused t) ((places_fix plan checked h run.0).0) ∙ ap (refused_at plan t (places h t).done) (plain_undropped plan h run t)

module _ (plan : Plan) (checked : IsCheckedPlan plan) (f s : State) (final : IsFinal plan f) (avoided : IsAvoidedFinal plan s) where
  legal : IsLegalRun plan avoided.steps
  legal = avoided_legal plan avoided.steps avoided.run

  same_if_plain : IsPlain avoided.steps → s ≡ f
  same_if_plain plain =
      sym avoided.there
      ∙ (one_end plan avoided.steps final.steps checked (legal, plain) final.run avoided.maximal final.maximal).1
      ∙ final.there

  dead_in_final : DeadInPlainRun plan → SomebodyDead f
  dead_in_final found = (found.2.0, dead_is_final plan found.0 f found.2.0 checked found.1 final found.2.1)

  alike : NobodyDead f → s ≡ f
  alike nobody =
      elim (plain_or_refused plan avoided.steps avoided.run) [
        | inl plain ↦ same_if_plain plain
        | inr refused ↦ (let dead = dead_in_final refused.1 in absurd (nobody dead.0 dead.1))
      ]

  dead_if_refused : SomebodyRefused s → SomebodyDead f
  dead_if_refused refused =
      elim (plain_or_refused plan avoided.steps avoided.run) [
        | inl plain ↦
            absurd (let none : s.refused refused.0 ≡ None =
            ap (λ r. r.refused refused.0) (sym avoided.there) ∙ plain_unrefused plan checked avoided.steps (legal, plain) refused.0 in
            false≢true (subst IsSome none refused.1))
        | inr found ↦ dead_in_final found.1
      ]

  refused_if_dead : SomebodyDead f → SomebodyRefused s
  refused_if_dead dead =
      elim (plain_or_refused plan avoided.steps avoided.run) [
        | inl plain ↦
            absurd (nobody_is_dead plan avoided.steps checked avoided.run dead.0
            (subst (λ r. IsDeadIn r dead.0) (sym (same_if_plain plain) ∙ sym avoided.there) dead.1))
        | inr found ↦ subst SomebodyRefused avoided.there found.0
      ]

pub avoided_ends_alike : AvoidedEndsAlike
avoided_ends_alike plan f s checked final avoided nobody = alike plan checked f s final avoided nobody

pub refused_where_dead : RefusedWhereDead
refused_where_dead plan f s checked final avoided =
    (dead_if_refused plan checked f s final avoided, refused_if_dead plan checked f s final avoided)

-- a plain run in which nobody ever dies is an avoided run
module _ (plan : Plan) (nobody : (g : List Step) → IsPlainRun plan g → NobodyDead (state_after g)) where
  plain_avoids :
      (h : List Step) (t : ℕ) (x : Action) → ((aim : Aim) → x ≢ Refuses aim) → IsLegal plan (state_after h) t x → NobodyDead (after (state_after h) t x) →
      Avoids (state_after h) t x
  plain_avoids h t (Blocks aim) plain may alive =
      let some = awaited_some aim ((state_after h).phases t) may.1 in
      (some.0, some.1, subst (λ o. NobodyDead (record (state_after h) { published = updated (state_after h).published t o })) some.1 alive)
  plain_avoids h t (Refuses aim) plain may alive = absurd (plain aim refl)
  plain_avoids h t x plain may alive = tt

  plain_avoided : (h : List Step) → IsPlainRun plan h → IsAvoidedRun plan h
  plain_avoided [] run = tt
  plain_avoided (e ∷ h) run =
      (plain_avoided h (run.0.0, run.1.0), run.0.1, plain_avoids h e.task e.action run.1.1 run.0.1.legal (nobody (e ∷ h) run))

pub final_is_avoided : FinalIsAvoided
final_is_avoided plan f checked final nobody =
    record {
      steps = final.steps;
      run = plain_avoided plan (λ g run u dead. nobody u (dead_is_final plan g f u checked run final dead)) final.steps final.run;
      maximal = final.maximal;
      there = final.there;
    }
