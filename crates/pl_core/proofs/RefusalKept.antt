-- What is kept after a refusal.
use mathlib.Core.Path.{fun_ext}
use Rattle.std.proofs.Common.{◌≡◌, ◌≢◌, ℕ, Bool, true, false, List, [], ◌∷◌, ◌++◌, Option, Some, None, length, set, arith, sym, ◌∙◌, ap, subst, refl, inl, inr}
use Rattle.std.specs.Prelude.{slice_get}
use Rattle.std.proofs.lemmas.Bool.{cases_eq, cases_lt}
use Rattle.std.proofs.lemmas.List.{length-set, map-set}
use Rattle.std.proofs.lemmas.Option.{slice_get_within}
use Rattle.armus_base.specs.declared.event.Event.{Event}
use Rattle.armus_base.specs.Plans.{Blocks, Plan, Refuses, Aim}
use Rattle.armus_base.specs.States.{IsActive, IsLegal, Phases, State, awaited, updated}
use Rattle.armus_base.specs.Runs.{IsReachable, Place}
use Rattle.armus_base.specs.Places.{done_by, kept as kept_phases, members_below, phases_after, phases_at, state_at}
use Rattle.armus_base.proofs.Fixed.{kept_above, kept_below, phases_forked}
use Rattle.armus_base.proofs.Steps.{updated_same, updated_other}
use Rattle.armus_base.proofs.Lists.{slice_get-set_same, slice_get-set_other}
use Rattle.pl_core.specs.declared.task.TaskRecord.{TaskRecord}
use Rattle.pl_core.specs.declared.phase_table.MemberTable.{MemberTable}
use Rattle.pl_core.specs.inside.Changes.{after_refusal}
use Rattle.pl_core.specs.calls.Moves.{LeadsOn, MakesRefusal, drops_from, refused_there}
use Rattle.pl_core.specs.inside.PhaseTables.{KeepsCells, phases_in}
use Rattle.pl_core.proofs.CellsStay.{cells_stay}
use Rattle.pl_core.specs.calls.Stands.{IsAtAwaitOf}
use Rattle.pl_core.specs.inside.KeptTasks.{IsKeptOf, event_in}
use Rattle.pl_core.specs.inside.Kept.{KeepsState}
use Rattle.pl_core.specs.calls.Tables.{kept_places, world_from}
use Rattle.pl_core.specs.calls.Worlds.{WorldValue, memberships, action_by_code, places_of, state_of}
use Rattle.pl_core.proofs.Bounds.{phaser_of_member}
use Rattle.pl_core.proofs.OneStep.{places_set_other, places_set_same}
use Rattle.pl_core.proofs.Refusing.{dropped_below, dropping, drops_lead, leads_reachable, own_refused, phases_own, same_forked, same_phases, same_published, same_refused}
use Rattle.pl_core.proofs.Standing.{begun_none, done_is, idle, of_task, standing_there, undropped_of}
use Rattle.pl_core.proofs.StepKinds.{awaits_block, legal_next}

-- a task that was not a member is none after its drops
kept_of_none : (m : Phases) (d q : ℕ) → m q ≡ None → kept_phases (Some d) m q ≡ None
kept_of_none m d q e =
    elim (cases_lt (members_below m q) d) [ inl below ↦ kept_below d q m below | inr above ↦ kept_above d q m above ∙ e ]

-- what another task keeps
kept_beside :
    (plan : Plan) (s s' : State) (u : ℕ) (task : TaskRecord) → s'.forked u ≡ s.forked u → s'.published u ≡ s.published u → s'.refused u ≡ s.refused u →
    IsKeptOf plan s u task → IsKeptOf plan s' u task
kept_beside plan s s' u task forked published refused k =
    record {
      forked = k.forked ∙ sym forked;
      event = k.event ∙ by_flag task.place.refused;
      within = k.within;
      events = k.events;
    }
  where
    by_flag : (b : Bool) → event_in s u b ≡ event_in s' u b
    by_flag true = sym refused
    by_flag false = sym published

module _ (plan : Plan) (tasks : List TaskRecord) (table : MemberTable) (kept : KeepsState plan tasks table) (t : ℕ) (task : TaskRecord)
    (read : slice_get tasks t ≡ Some task) (e : Event) (before : IsAtAwaitOf (world_from plan tasks) t e) where
  abbrev old : WorldValue
  old = world_from plan tasks

  blocks : (aim : Aim) × (action_by_code old t ≡ Some (Blocks aim)) × awaited (Some (Blocks aim)) ((state_of old).phases t) ≡ Some e
  blocks = awaits_block (action_by_code old t) ((state_of old).phases t) e before.1

  active_there : IsActive (state_at plan (places_of old)) t
  unfolding state_of
  active_there = before.0

  undropped : (places_of old t).dropped ≡ None
  undropped = undropped_of plan tasks table kept t task read before.0.unrefused

  legal_there : IsLegal plan (state_at plan (places_of old)) t (Blocks blocks.0)
  unfolding state_of
  legal_there = legal_next plan tasks table kept t task read (Blocks blocks.0) before.0 blocks.1

  abbrev own : Phases
  own = phases_after plan t (places_of old t).done

  last : ℕ → Place
  last = dropping plan kept.checked (places_of old) t blocks.0 active_there undropped blocks.1 legal_there (length plan.makers)

  abbrev pub new : WorldValue
  new = record { plan = plan; places = set (kept_places tasks) t (refused_there task.place) }

  seen : places_of new ≡ last
  unfolding last
  seen =
      fun_ext (λ u. elim (cases_eq u t) [
        | inl same ↦
            subst (λ v. places_of new v ≡ last v) (sym same)
            (places_set_same plan (kept_places tasks) t (refused_there task.place) (slice_get_within (kept_places tasks) t task.place (standing_there tasks t task read))
            ∙ ap (λ k. record { done = k; dropped = Some (memberships plan t k) }) (sym (done_is plan tasks table kept t task read))
            ∙ sym (updated_same (places_of old) t t (record { done = (places_of old t).done; dropped = Some (members_below own (length plan.makers)) }) refl))
        | inr other ↦
            places_set_other plan (kept_places tasks) t u (refused_there task.place) other
            ∙ sym (updated_other (places_of old) t u (record { done = (places_of old t).done; dropped = Some (members_below own (length plan.makers)) }) other)
      ])

  state_is : state_of new ≡ state_at plan last
  unfolding state_of
  state_is = ap (state_at plan) seen

  lead : (drops : List ℕ) × LeadsOn plan (places_of old) (drops_from t drops ++ record { task = t; action = Refuses blocks.0 } ∷ []) last
  unfolding last
  lead = drops_lead plan kept.checked (places_of old) t blocks.0 active_there undropped blocks.1 legal_there (length plan.makers)

  reach : IsReachable plan last
  reach = leads_reachable plan kept.checked (places_of old) (drops_from t lead.0 ++ record { task = t; action = Refuses blocks.0 } ∷ []) last kept.reachable lead.1

  old_phases : (q : ℕ) → (state_of old).phases t q ≡ own q
  unfolding state_of
  old_phases q =
      ap (λ o. kept_phases o (phases_at plan (done_by (places_of old)) t) q) undropped
      ∙ ap (λ m. m q) (phases_forked plan kept.checked (done_by (places_of old)) t active_there.forked)

  pub left : (q : ℕ) → (state_of new).phases t q ≡ None
  unfolding last
  left q =
      ap (λ s. s.phases t q) state_is
      ∙ phases_own plan kept.checked (places_of old) t blocks.0 active_there undropped blocks.1 legal_there (length plan.makers) q
      ∙ go (own q) refl
    where
      go : (o : Option ℕ) → own q ≡ o → kept_phases (Some (members_below own (length plan.makers))) own q ≡ None
      go None h = kept_of_none own (members_below own (length plan.makers)) q h
      go (Some n) h = dropped_below own (length plan.makers) q (phaser_of_member old kept.checked kept.reachable t q n (old_phases q ∙ h))

  forked_same : (u : ℕ) → (state_of new).forked u ≡ (state_of old).forked u
  unfolding state_of last
  forked_same u =
      ap (λ s. s.forked u) state_is ∙ same_forked plan kept.checked (places_of old) t blocks.0 active_there undropped blocks.1 legal_there (length plan.makers) u

  published_same : (u : ℕ) → (state_of new).published u ≡ (state_of old).published u
  unfolding state_of last
  published_same u =
      ap (λ s. s.published u) state_is ∙ same_published plan kept.checked (places_of old) t blocks.0 active_there undropped blocks.1 legal_there (length plan.makers) u

  refused_same : (u : ℕ) → u ≢ t → (state_of new).refused u ≡ (state_of old).refused u
  unfolding state_of last
  refused_same u n =
      ap (λ s. s.refused u) state_is ∙ same_refused plan kept.checked (places_of old) t blocks.0 active_there undropped blocks.1 legal_there (length plan.makers) u n

  refused_own : (state_of new).refused t ≡ Some e
  unfolding state_of last
  refused_own =
      ap (λ s. s.refused t) state_is
      ∙ own_refused plan kept.checked (places_of old) t blocks.0 active_there undropped blocks.1 legal_there (length plan.makers)
      ∙ blocks.2

  phases_same : (u : ℕ) → u ≢ t → (state_of new).phases u ≡ (state_of old).phases u
  unfolding state_of last
  phases_same u n =
      ap (λ s. s.phases u) state_is ∙ same_phases plan kept.checked (places_of old) t blocks.0 active_there undropped blocks.1 legal_there (length plan.makers) u n

  kept_own : IsKeptOf plan (state_of new) t (after_refusal task e)
  kept_own =
      let k = of_task plan tasks table kept t task read in
      let b = begun_none task (idle plan tasks table kept t task read before.0.unpublished before.0.unrefused) in
      record {
        forked = k.forked ∙ sym (forked_same t);
        event = sym refused_own;
        within = k.within;
        events = (let n = k.events in omega arith);
      }

  each : (u : ℕ) (k : TaskRecord) → slice_get (set tasks t (after_refusal task e)) u ≡ Some k → IsKeptOf plan (state_of new) u k
  each u k h =
      elim (cases_eq u t) [
        | inl same ↦
            let is : after_refusal task e ≡ k = (let one = slice_get-set_same tasks t (after_refusal task e) (slice_get_within tasks t task read) in
            let two = subst (λ v. slice_get (set tasks t (after_refusal task e)) v ≡ Some k) same h in cc) in
            subst (λ v. IsKeptOf plan (state_of new) v k) (sym same) (subst (IsKeptOf plan (state_of new) t) is kept_own)
        | inr other ↦
            kept_beside plan (state_of old) (state_of new) u k (forked_same u) (published_same u) (refused_same u other)
            (kept.each u k (sym (slice_get-set_other tasks t u (after_refusal task e) other) ∙ h))
      ]

  pub refusal_kept :
      (table' : MemberTable) → KeepsCells table table' → table'.phasers ≡ table.phasers → phases_in table' ≡ updated (phases_in table) t (λ _. None) →
      KeepsState plan (set tasks t (after_refusal task e)) table'
  refusal_kept table' cells columns cleared =
      record {
        checked = kept.checked;
        reachable = subst (λ v. IsReachable plan (places_of v)) (sym same_world) (subst (IsReachable plan) (sym seen) reach);
        one_each = length-set tasks t (after_refusal task e) ∙ kept.one_each;
        cells = cells_stay plan table table' kept.cells cells;
        columns = columns ∙ kept.columns;
        phases = cleared ∙ fun_ext phases_of ∙ ap (λ v. (state_of v).phases) (sym same_world);
        each = λ u k h. subst (λ v. IsKeptOf plan (state_of v) u k) (sym same_world) (each u k h);
      }
    where
      same_world : world_from plan (set tasks t (after_refusal task e)) ≡ new
      same_world = ap (λ ps. record { plan = plan; places = ps }) (map-set (λ (k : TaskRecord). k.place) tasks t (after_refusal task e))

      phases_of : (u : ℕ) → updated (phases_in table) t (λ _. None) u ≡ (state_of new).phases u
      phases_of u =
          elim (cases_eq u t) [
            | inl same ↦
                subst (λ v. updated (phases_in table) t (λ _. None) v ≡ (state_of new).phases v) (sym same)
                (updated_same (phases_in table) t t (λ _. None) refl ∙ fun_ext (λ q. sym (left q)))
            | inr other ↦
                updated_other (phases_in table) t u (λ _. None) other ∙ ap (λ f. f u) kept.phases ∙ sym (phases_same u other)
          ]

  pub refusal_made : MakesRefusal old (world_from plan (set tasks t (after_refusal task e))) t
  refusal_made =
      subst (λ v. MakesRefusal old v t) (sym (ap (λ ps. record { plan = plan; places = ps }) (map-set (λ (k : TaskRecord). k.place) tasks t (after_refusal task e))))
      (record {
        aim = blocks.0;
        drops = lead.0;
        plan = refl;
        places = record { place = task.place; there = standing_there tasks t task read; changed = refl };
        run = subst (LeadsOn plan (places_of old) (drops_from t lead.0 ++ record { task = t; action = Refuses blocks.0 } ∷ [])) (sym seen) lead.1;
        left = left;
      })
