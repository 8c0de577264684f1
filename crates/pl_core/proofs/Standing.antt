-- What is kept of a task says how it stands.
use Rattle.std.proofs.Common.{◌≡◌, ℕ, ◌≤◌, ◌+◌, Bool, true, false, List, Option, Some, None, length, arith, sym, ◌∙◌, ap, refl}
use Rattle.std.specs.Prelude.{slice_get, option_map, is_some, if◌then◌else◌}
use Rattle.std.proofs.lemmas.Bool.{false≢true}
use Rattle.std.proofs.lemmas.Option.{slice_get-map}
use Rattle.armus_base.specs.declared.ending.TaskEnd.TheVariants.{Blocked, Done, Refused, Unforked}
use Rattle.armus_base.specs.declared.event.Event.{Event}
use Rattle.armus_base.specs.Finals.{end_by, end_of}
use Rattle.armus_base.specs.declared.offset.Offset.{Offset}
use Rattle.armus_base.specs.declared.op.Op.TheVariants.{Await}
use Rattle.armus_base.specs.Plans.{Plan, action_at, actions, code_of}
use Rattle.armus_base.specs.States.{State, IsActive}
use Rattle.armus_base.specs.calls.Places.{IsConsistent}
use Rattle.armus_base.specs.Places.{refused_at}
use Rattle.armus_base.proofs.Reachable.{reachable_is_fixed}
use Rattle.armus_base.proofs.NextIsLegal.{unrefused_undropped}
use Rattle.armus_base.proofs.Published.{published_after_is, published_undropped}
use Rattle.pl_core.specs.declared.place.Place.{Place as PlaceValue}
use Rattle.pl_core.specs.declared.task.TaskRecord.{TaskRecord}
use Rattle.pl_core.specs.declared.phase_table.MemberTable.{MemberTable}
use Rattle.pl_core.specs.inside.Ops.{action_of}
use Rattle.pl_core.specs.inside.KeptTasks.{IsKeptOf, begun, event_in}
use Rattle.pl_core.specs.Tasks.{actions_before}
use Rattle.pl_core.specs.inside.Kept.{KeepsState}
use Rattle.pl_core.specs.calls.Tables.{kept_places, world_from}
use Rattle.pl_core.specs.calls.Worlds.{dropped_at, action_by_code, place_from, places_at, places_of, state_of}
use Rattle.pl_core.proofs.OpCounts.{action_before, blocks_is}

-- the place of a task of the list
pub place_is : (plan : Plan) (places : List PlaceValue) (t : ℕ) (place : PlaceValue) → slice_get places t ≡ Some place → places_at plan places t ≡ place_from plan t (Some place)
unfolding places_at
place_is plan places t place e = ap (place_from plan t) e

pub standing_there : (tasks : List TaskRecord) (t : ℕ) (task : TaskRecord) → slice_get tasks t ≡ Some task → slice_get (kept_places tasks) t ≡ Some task.place
standing_there tasks t task e = slice_get-map (λ x. x.place) tasks t ∙ ap (option_map (λ x. x.place)) e

-- an action of a code, by the op
pub action_of_op : (plan : Plan) (t k n : ℕ) → k ≤ length (code_of plan t) → n ≡ actions_before (code_of plan t) k →
    action_at plan t n ≡ option_map action_of (slice_get (code_of plan t) k)
unfolding action_at actions
action_of_op plan t k n l e = ap (action_at plan t) e ∙ action_before (code_of plan t) k l

unrefused : (plan : Plan) (t k : ℕ) (b : Bool) → dropped_at plan t k b ≡ None → b ≡ false
unrefused plan t k false e = refl
unrefused plan t k true e = absurd (cc)

none_of : (s : State) (t : ℕ) (b : Bool) → s.published t ≡ None → s.refused t ≡ None → event_in s t b ≡ None
none_of s t false p r = p
none_of s t true p r = r

pub begun_none : (task : TaskRecord) → task.event ≡ None → begun task ≡ 0
begun_none task e = ap (λ o. if task.place.refused then 0 else (if is_some o then 1 else 0)) e ∙ both task.place.refused 0
  where
    both : (b : Bool) (n : ℕ) → (if b then n else n) ≡ n
    both true n = refl
    both false n = refl

pub begun_some : (task : TaskRecord) (e : Event) → task.event ≡ Some e → task.place.refused ≡ false → begun task ≡ 1
begun_some task e is r = ap (λ o. if task.place.refused then 0 else (if is_some o then 1 else 0)) is ∙ ap (λ b. if b then 0 else 1) r

module _ (plan : Plan) (tasks : List TaskRecord) (table : MemberTable) (kept : KeepsState plan tasks table) where
  pub consistent : IsConsistent plan (places_of (world_from plan tasks))
  consistent = (reachable_is_fixed plan (places_of (world_from plan tasks)) kept.checked kept.reachable).1

  module _ (t : ℕ) (task : TaskRecord) (read : slice_get tasks t ≡ Some task) where
    pub of_task : IsKeptOf plan (state_of (world_from plan tasks)) t task
    of_task = kept.each t task read

    pub place_of_task : places_of (world_from plan tasks) t ≡ place_from plan t (Some task.place)
    place_of_task = place_is plan (kept_places tasks) t task.place (standing_there tasks t task read)

    pub done_is : (places_of (world_from plan tasks) t).done ≡ task.place.events
    done_is = ap (λ p. p.done) place_of_task

    pub dropped_is : (places_of (world_from plan tasks) t).dropped ≡ dropped_at plan t task.place.events task.place.refused
    dropped_is = ap (λ p. p.dropped) place_of_task

    -- whose refusal flag is false, and whose not
    pub refused_false : (places_of (world_from plan tasks) t).dropped ≡ None → task.place.refused ≡ false
    refused_false e = unrefused plan t task.place.events task.place.refused (sym dropped_is ∙ e)

    pub undropped_of : (state_of (world_from plan tasks)).refused t ≡ None → (places_of (world_from plan tasks) t).dropped ≡ None
    unfolding state_of
    undropped_of e = unrefused_undropped plan kept.checked (places_of (world_from plan tasks)) consistent t e

    pub undropped_waiting : (e : Event) → (state_of (world_from plan tasks)).published t ≡ Some e → (places_of (world_from plan tasks) t).dropped ≡ None
    unfolding state_of
    undropped_waiting e p = published_undropped plan (places_of (world_from plan tasks)) consistent t e p

    -- a task with no event stands before its op
    pub next_of_idle : task.event ≡ None → action_by_code (world_from plan tasks) t ≡ option_map action_of (slice_get (code_of plan t) task.op)
    next_of_idle none =
        ap (action_at plan t) done_is
        ∙ action_of_op plan t task.op task.place.events of_task.within
        (let e = of_task.events in let b = begun_none task none in omega arith)

    pub idle : (state_of (world_from plan tasks)).published t ≡ None → (state_of (world_from plan tasks)).refused t ≡ None → task.event ≡ None
    idle p r = of_task.event ∙ none_of (state_of (world_from plan tasks)) t task.place.refused p r

    -- a waiting task has begun an await
    pub await_of_waiting :
        (e : Event) → (state_of (world_from plan tasks)).published t ≡ Some e →
        (q : _) × (off : Offset) × slice_get (code_of plan t) task.op ≡ Some (Await q off) × q.0 ≡ e.p.0 × task.place.events ≡ actions_before (code_of plan t) task.op + 1
    unfolding state_of
    await_of_waiting e p =
        let r = refused_false (undropped_waiting e p) in
        let event : task.event ≡ Some e = of_task.event ∙ ap (event_in (state_of (world_from plan tasks)) t) r ∙ p in
        let counted : task.place.events ≡ actions_before (code_of plan t) task.op + 1 = (let n = of_task.events in let b = begun_some task e event r in omega arith) in
        let is = published_after_is plan t (places_of (world_from plan tasks) t).done e p in
        let before : is.0 ≡ actions_before (code_of plan t) task.op = (let d = done_is in let s = is.1 in omega arith) in
        let op = blocks_is (slice_get (code_of plan t) task.op) is.2 (sym (action_of_op plan t task.op is.0 of_task.within before) ∙ is.4) in
        (op.0, op.1, op.2, op.3 ∙ sym is.3, counted)

    -- a task with no event is neither published nor refused
    idle_by_flag :
        task.event ≡ None → (b : Bool) → task.place.refused ≡ b →
        (state_of (world_from plan tasks)).published t ≡ None × (state_of (world_from plan tasks)).refused t ≡ None
    unfolding state_of
    idle_by_flag none false r = (
      ap (event_in (state_of (world_from plan tasks)) t) (sym r) ∙ sym of_task.event ∙ none,
      ap (refused_at plan t (places_of (world_from plan tasks) t).done) (dropped_is ∙ ap (dropped_at plan t task.place.events) r),
    )
    idle_by_flag none true r =
        let unrefused_there : (state_of (world_from plan tasks)).refused t ≡ None = ap (event_in (state_of (world_from plan tasks)) t) (sym r) ∙ sym of_task.event ∙ none in
        absurd (let f = refused_false (undropped_of unrefused_there) in false≢true (sym f ∙ r))

    -- a forked task with no event is active
    pub active_of_kept : task.forked ≡ true → task.event ≡ None → IsActive (state_of (world_from plan tasks)) t
    active_of_kept forked none =
        (let both = idle_by_flag none task.place.refused refl in
        record { forked = sym of_task.forked ∙ forked; unpublished = both.0; unrefused = both.1 })

    -- what is kept of the event says whether the task is published or refused
    pub published_none : task.place.refused ≡ true → (state_of (world_from plan tasks)).published t ≡ None
    published_none r = go ((state_of (world_from plan tasks)).published t) refl
      where
        go : (o : Option Event) → (state_of (world_from plan tasks)).published t ≡ o → o ≡ None
        go None h = refl
        go (Some e) h = absurd (let f = refused_false (undropped_waiting e h) in false≢true (sym f ∙ r))

    pub published_kept : task.place.refused ≡ false → (state_of (world_from plan tasks)).published t ≡ task.event
    published_kept r = ap (event_in (state_of (world_from plan tasks)) t) (sym r) ∙ sym of_task.event

    pub refused_none : task.place.refused ≡ false → (state_of (world_from plan tasks)).refused t ≡ None
    unfolding state_of
    refused_none r = ap (refused_at plan t (places_of (world_from plan tasks) t).done) (dropped_is ∙ ap (dropped_at plan t task.place.events) r)

    pub refused_kept : task.place.refused ≡ true → (state_of (world_from plan tasks)).refused t ≡ task.event
    refused_kept r = ap (event_in (state_of (world_from plan tasks)) t) (sym r) ∙ sym of_task.event

    -- how it has ended
    pub end_kept_refused : (e : Event) → task.event ≡ Some e → task.place.refused ≡ true → end_of (state_of (world_from plan tasks)) t ≡ Refused e
    end_kept_refused e is r =
        ap (λ o. end_by ((state_of (world_from plan tasks)).forked t) o ((state_of (world_from plan tasks)).refused t)) (published_none r)
        ∙ ap (end_by ((state_of (world_from plan tasks)).forked t) None) (refused_kept r ∙ is)

    pub end_kept_blocked : (e : Event) → task.event ≡ Some e → task.place.refused ≡ false → end_of (state_of (world_from plan tasks)) t ≡ Blocked e
    end_kept_blocked e is r =
        ap (λ o. end_by ((state_of (world_from plan tasks)).forked t) o ((state_of (world_from plan tasks)).refused t)) (published_kept r ∙ is)

    end_kept_idle : task.event ≡ None → end_of (state_of (world_from plan tasks)) t ≡ end_by ((state_of (world_from plan tasks)).forked t) None None
    end_kept_idle none =
        let both = idle_by_flag none task.place.refused refl in
        ap (λ o. end_by ((state_of (world_from plan tasks)).forked t) o ((state_of (world_from plan tasks)).refused t)) both.0
        ∙ ap (end_by ((state_of (world_from plan tasks)).forked t) None) both.1

    pub end_kept_done : task.event ≡ None → task.forked ≡ true → end_of (state_of (world_from plan tasks)) t ≡ Done
    end_kept_done none f = end_kept_idle none ∙ ap (λ b. end_by b None None) (sym of_task.forked ∙ f)

    pub end_kept_unforked : task.event ≡ None → task.forked ≡ false → end_of (state_of (world_from plan tasks)) t ≡ Unforked
    end_kept_unforked none f = end_kept_idle none ∙ ap (λ b. end_by b None None) (sym of_task.forked ∙ f)
