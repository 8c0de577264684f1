-- One step of a task: what becomes of the places, of the state, and of what is kept.
use mathlib.Core.Path.{fun_ext}
use Rattle.std.proofs.Common.{◌≡◌, ◌≢◌, ℕ, suc, ◌<◌, ◌+◌, Bool, true, false, List, Option, Some, None, length, set, add-one, sym, ◌∙◌, ap, subst, refl, inl, inr}
use Rattle.std.specs.Prelude.{slice_get}
use Rattle.std.proofs.lemmas.Option.{slice_get_within}
use Rattle.std.proofs.lemmas.Bool.{cases_eq}
use Rattle.std.proofs.lemmas.List.{length-set, map-set}
use Rattle.armus_base.specs.Plans.{Plan, Action, Blocks, Forks, Passes, Refuses, Aim}
use Rattle.armus_base.specs.States.{State, IsLegal, after}
use Rattle.armus_base.specs.Runs.{IsByCode, IsReachable, moved, next_place}
use Rattle.armus_base.specs.Places.{state_at}
use Rattle.armus_base.proofs.Codes.{no_refusal}
use Rattle.armus_base.proofs.Reachable.{reachable_steps}
use Rattle.armus_base.proofs.Steps.{updated_same, updated_other}
use Rattle.armus_base.proofs.Lists.{slice_get-set_same, slice_get-set_other}
use Rattle.armus_base.proofs.Again.{in_code_plain}
use Rattle.pl_core.specs.declared.place.Place.{Place as PlaceValue}
use Rattle.pl_core.specs.declared.task.TaskRecord.{TaskRecord}
use Rattle.pl_core.specs.declared.phase_table.MemberTable.{MemberTable}
use Rattle.pl_core.specs.calls.Moves.{IsWorldStep, further}
use Rattle.pl_core.specs.inside.PhaseTables.{KeepsCells, phases_in}
use Rattle.pl_core.proofs.CellsStay.{cells_stay}
use Rattle.pl_core.specs.inside.KeptTasks.{IsKeptOf, event_in}
use Rattle.pl_core.specs.inside.Kept.{KeepsState}
use Rattle.pl_core.specs.calls.Tables.{kept_places, world_from}
use Rattle.pl_core.specs.calls.Worlds.{WorldValue, dropped_at, action_by_code, place_from, places_at, places_of, state_of}
use Rattle.pl_core.proofs.Standing.{consistent, done_is, place_is, refused_false, standing_there, undropped_of}

-- the places after a change of one of them
pub places_set_same :
    (plan : Plan) (places : List PlaceValue) (t : ℕ) (v : PlaceValue) → t < length places → places_at plan (set places t v) t ≡ place_from plan t (Some v)
places_set_same plan places t v l = place_is plan (set places t v) t v (slice_get-set_same places t v l)

pub places_set_other :
    (plan : Plan) (places : List PlaceValue) (t u : ℕ) (v : PlaceValue) → u ≢ t → places_at plan (set places t v) u ≡ places_at plan places u
unfolding places_at
places_set_other plan places t u v n = ap (place_from plan u) (slice_get-set_other places t u v n)

-- a step that refuses nothing
pub regular : (k : ℕ) (x : Action) → ((aim : Aim) → x ≢ Refuses aim) → next_place k None x ≡ record { done = suc k; dropped = None }
regular k (Refuses p) n = absurd (n p refl)
regular k x n = refl

-- what a step of another task leaves
pub forked_of_other : (s : State) (t u : ℕ) (x : Action) → x ≢ Forks u → (after s t x).forked u ≡ s.forked u
forked_of_other s t u (Forks c) n = updated_other s.forked c u true (λ e. n (ap Forks (sym e)))
forked_of_other s t u x n = refl

pub event_of_other : (s : State) (t u : ℕ) (x : Action) (b : Bool) → u ≢ t → event_in (after s t x) u b ≡ event_in s u b
event_of_other s t u (Blocks p) false n = updated_other s.published t u _ n
event_of_other s t u (Passes p) false n = updated_other s.published t u None n
event_of_other s t u (Refuses p) true n = updated_other s.refused t u _ n
event_of_other s t u x true n = refl
event_of_other s t u x false n = refl

pub kept_of_other :
    (plan : Plan) (s : State) (t u : ℕ) (x : Action) (task : TaskRecord) → u ≢ t → x ≢ Forks u → IsKeptOf plan s u task → IsKeptOf plan (after s t x) u task
kept_of_other plan s t u x task n f k =
    record {
      forked = k.forked ∙ sym (forked_of_other s t u x f);
      event = k.event ∙ sym (event_of_other s t u x task.place.refused n);
      within = k.within;
      events = k.events;
    }

module _ (plan : Plan) (tasks : List TaskRecord) (table : MemberTable) (kept : KeepsState plan tasks table) (t : ℕ) (task : TaskRecord)
    (read : slice_get tasks t ≡ Some task) (x : Action) (next : action_by_code (world_from plan tasks) t ≡ Some x)
    (legal : IsLegal plan (state_of (world_from plan tasks)) t x) where
  abbrev old : WorldValue
  old = world_from plan tasks

  -- a task that may make a step of its code is not refused
  pub undropped : (places_of old t).dropped ≡ None
  undropped = go (places_of old t).dropped refl
    where
      go : (o : Option ℕ) → (places_of old t).dropped ≡ o → o ≡ None
      go None h = refl
      go (Some q) h =
          let stands = (consistent plan tasks table kept).refused t q h in
          let is : x ≡ Blocks stands.1.0 = (let two : Some x ≡ Some (Blocks stands.1.0) = sym next ∙ stands.1.1 in cc) in
          let active = subst (λ y. IsLegal plan (state_of old) t y) is legal in
          sym h ∙ undropped_of plan tasks table kept t task read active.0.unrefused

  no_refusing : (aim : Aim) → x ≢ Refuses aim
  no_refusing p e = no_refusal plan t (places_of old t).done p (next ∙ ap Some e)

  pub flag : task.place.refused ≡ false
  flag = refused_false plan tasks table kept t task read undropped

  abbrev pub new : WorldValue
  new = record { plan = plan; places = set (kept_places tasks) t (further task.place) }

  in_list : t < length (kept_places tasks)
  in_list = slice_get_within (kept_places tasks) t task.place (standing_there tasks t task read)

  pub moved_is : places_of new ≡ moved (places_of old) t x
  moved_is =
      fun_ext (λ u. elim (cases_eq u t) [
        | inl e ↦ subst (λ v. places_of new v ≡ moved (places_of old) t x v) (sym e) own
        | inr n ↦
            places_set_other plan (kept_places tasks) t u (further task.place) n
            ∙ sym (updated_other (places_of old) t u (next_place (places_of old t).done (places_of old t).dropped x) n)
      ])
    where
      own : places_of new t ≡ moved (places_of old) t x t
      own =
          places_set_same plan (kept_places tasks) t (further task.place) in_list
          ∙ ap (λ b. record { done = task.place.events + 1; dropped = dropped_at plan t (task.place.events + 1) b }) flag
          ∙ ap (λ k. record { done = k; dropped = None }) (add-one task.place.events ∙ ap suc (sym (done_is plan tasks table kept t task read)))
          ∙ sym (regular (places_of old t).done x no_refusing)
          ∙ ap (λ o. next_place (places_of old t).done o x) (sym undropped)
          ∙ sym (updated_same (places_of old) t t (next_place (places_of old t).done (places_of old t).dropped x) refl)

  by_code : IsByCode plan t (places_of old t).done (places_of old t).dropped x
  by_code = subst (λ o. IsByCode plan t (places_of old t).done o x) (sym undropped) (next ∙ ap Some (sym (in_code_plain x no_refusing)))

  legal_there : IsLegal plan (state_at plan (places_of old)) t x
  unfolding state_of
  legal_there = legal

  reached : IsReachable plan (moved (places_of old) t x) × after (state_at plan (places_of old)) t x ≡ state_at plan (moved (places_of old) t x)
  reached = reachable_steps plan (places_of old) t x kept.checked kept.reachable by_code legal_there

  pub state_is : state_of new ≡ after (state_of old) t x
  unfolding state_of
  state_is = ap (state_at plan) moved_is ∙ sym reached.1

  pub makes_step : IsWorldStep old new t
  makes_step =
      record {
        action = x;
        next = next;
        legal = legal;
        plan = refl;
        places = record { place = task.place; there = standing_there tasks t task read; changed = refl };
        run = (places_of old, refl, by_code, legal_there, sym moved_is);
        state = state_is;
      }

  module _ (tasks' : List TaskRecord) (table' : MemberTable) (same_places : kept_places tasks' ≡ set (kept_places tasks) t (further task.place))
      (cells : KeepsCells table table') (columns : table'.phasers ≡ table.phasers) (phases : phases_in table' ≡ (after (state_of old) t x).phases)
      (one_each : length tasks' ≡ length tasks) (each : (u : ℕ) (k : TaskRecord) → slice_get tasks' u ≡ Some k → IsKeptOf plan (after (state_of old) t x) u k) where
    seen : world_from plan tasks' ≡ new
    seen = ap (λ ps. record { plan = plan; places = ps }) same_places

    state_seen : state_of (world_from plan tasks') ≡ after (state_of old) t x
    state_seen = ap state_of seen ∙ state_is

    pub kept_after : KeepsState plan tasks' table'
    kept_after =
        record {
          checked = kept.checked;
          reachable = subst (λ v. IsReachable plan (places_of v)) (sym seen) (subst (IsReachable plan) (sym moved_is) reached.0);
          one_each = one_each ∙ kept.one_each;
          cells = cells_stay plan table table' kept.cells cells;
          columns = columns ∙ kept.columns;
          phases = phases ∙ ap (λ s. s.phases) (sym state_seen);
          each = λ u k e. subst (λ s. IsKeptOf plan s u k) (sym state_seen) (each u k e);
        }

    pub makes_after : IsWorldStep old (world_from plan tasks') t
    makes_after = subst (λ v. IsWorldStep old v t) (sym seen) makes_step

  -- where only what is kept of the task itself changes
  module _ (task' : TaskRecord) (place : task'.place ≡ further task.place) (own : IsKeptOf plan (after (state_of old) t x) t task') (no_fork : (u : ℕ) → x ≢ Forks u) where
    pub same_places_set : kept_places (set tasks t task') ≡ set (kept_places tasks) t (further task.place)
    same_places_set = map-set (λ (k : TaskRecord). k.place) tasks t task' ∙ ap (set (kept_places tasks) t) place

    pub each_set : (u : ℕ) (k : TaskRecord) → slice_get (set tasks t task') u ≡ Some k → IsKeptOf plan (after (state_of old) t x) u k
    each_set u k e =
        elim (cases_eq u t) [
          | inl same ↦
              let is : task' ≡ k = (let one = slice_get-set_same tasks t task' (slice_get_within tasks t task read) in
              let two = subst (λ v. slice_get (set tasks t task') v ≡ Some k) same e in cc) in
              subst (λ v. IsKeptOf plan (after (state_of old) t x) v k) (sym same) (subst (IsKeptOf plan (after (state_of old) t x) t) is own)
          | inr other ↦
              kept_of_other plan (state_of old) t u x k other (no_fork u) (kept.each u k (sym (slice_get-set_other tasks t u task' other) ∙ e))
        ]

    pub stepped_set :
        (table' : MemberTable) → KeepsCells table table' → table'.phasers ≡ table.phasers → phases_in table' ≡ (after (state_of old) t x).phases →
        KeepsState plan (set tasks t task') table' × IsWorldStep old (world_from plan (set tasks t task')) t
    stepped_set table' cells columns phases = (
      kept_after (set tasks t task') table' same_places_set cells columns phases (length-set tasks t task') each_set,
      makes_after (set tasks t task') table' same_places_set cells columns phases (length-set tasks t task') each_set,
    )
