-- The beginning and the end of a walk.
use mathlib.Core.Path.{fun_ext}
use Rattle.std.proofs.Common.{◌≡◌, ℕ, suc, ◌<◌, ◌≤◌, List, [], ◌∷◌, Some, None, length, replicate, true, arith, sym, ◌∙◌, ap, subst, refl, inl, inr}
use Rattle.std.specs.Prelude.{slice_get}
use Rattle.std.proofs.lemmas.Bool.{cases_lt}
use Rattle.std.proofs.lemmas.List.{length-replicate, length-set}
use Rattle.std.proofs.lemmas.Option.{slice_get_past, slice_get_within}
use Rattle.armus_base.specs.Plans.{Plan}
use Rattle.armus_base.specs.States.{opening}
use Rattle.armus_base.specs.Runs.{IsReachable, Place, first_place}
use Rattle.armus_base.specs.Places.{done_by, forked_at, state_at}
use Rattle.armus_base.specs.CheckedPlans.{IsCheckedPlan}
use Rattle.armus_base.proofs.Stepping.{opening_fixed}
use Rattle.pl_core.specs.declared.place.Place.{Place as KeptPlace}
use Rattle.pl_core.specs.declared.task.TaskRecord.{TaskRecord}
use Rattle.pl_core.specs.declared.phase_table.MemberTable.{MemberTable}
use Rattle.pl_core.specs.inside.Changes.{opening_tasks, unbegun}
use Rattle.pl_core.specs.inside.Reachable.{AreReachable}
use Rattle.pl_core.specs.inside.Enrolling.{HasCells}
use Rattle.pl_core.specs.inside.PhaseTables.{phases_in}
use Rattle.pl_core.specs.inside.Kept.{KeepsState}
use Rattle.pl_core.specs.calls.Tables.{kept_places, world_from}
use Rattle.pl_core.specs.inside.KeptTasks.{IsKeptOf}
use Rattle.pl_core.specs.inside.Walks.{HasWalked, walked}
use Rattle.pl_core.specs.calls.Worlds.{place_from, places_at, places_of, state_of}
use Rattle.pl_core.proofs.Opening.{kept_first}
use Rattle.pl_core.proofs.Walking.{walked_below, walked_from}

-- before any task
module _ (plan : Plan) (checked : IsCheckedPlan plan) (places : List KeptPlace) (tasks : List TaskRecord) (table : MemberTable)
    (tasks_are : tasks ≡ opening_tasks (length plan.parents)) (cells : HasCells plan table) (columns : table.phasers ≡ length plan.makers)
    (empty : phases_in table ≡ (λ _ _. None)) where
  state_first : opening ≡ state_at plan (walked (places_at plan places) 0)
  state_first = opening_fixed plan checked ∙ ap (state_at plan) (fun_ext (λ u. sym (walked_from (places_at plan places) 0 u (omega arith))))

  pub walk_start : HasWalked plan places (walked (places_at plan places) 0) 0 tasks table
  walk_start =
      record {
        checked = checked;
        one_each = ap length tasks_are ∙ length-set (replicate (length plan.parents) unbegun) 0 (record unbegun { forked = true }) ∙ length-replicate (length plan.parents) unbegun;
        cells = cells;
        columns = columns;
        phases = empty ∙ ap (λ s. s.phases) state_first;
        forked = λ u task e.
            (kept_first plan checked (length plan.parents) u task (ap (λ xs. slice_get xs u) (sym tasks_are) ∙ e)).forked ∙ ap (λ s. s.forked u) state_first;
        settled = λ u task l e. absurd (omega arith);
      }

standings_are :
    (tasks : List TaskRecord) (places : List KeptPlace) → length tasks ≡ length places → ((u : ℕ) (task : TaskRecord) → slice_get tasks u ≡ Some task → slice_get places u ≡ Some task.place) →
    kept_places tasks ≡ places
standings_are [] [] l h = refl
standings_are [] (y ∷ ys) l h = absurd (omega arith)
standings_are (x ∷ xs) [] l h = absurd (omega arith)
standings_are (x ∷ xs) (y ∷ ys) l h =
    let first : Some y ≡ Some x.place = h 0 x refl in
    let same : x.place ≡ y = (cc) in
    ap (λ p. p ∷ kept_places xs) same ∙ ap (λ ps. y ∷ ps) (standings_are xs ys (omega arith) (λ u task e. h (suc u) task e))

-- behind all tasks
module _ (plan : Plan) (places : List KeptPlace) (given : AreReachable plan places) (tasks : List TaskRecord) (table : MemberTable)
    (walk : HasWalked plan places (walked (places_at plan places) (length plan.parents)) (length plan.parents) tasks table) where
  abbrev a : ℕ → Place
  a = places_at plan places

  here : (u : ℕ) (task : TaskRecord) → slice_get tasks u ≡ Some task → u < length plan.parents
  here u task e = (let l = slice_get_within tasks u task e in let one = walk.one_each in omega arith)

  pub same_places : kept_places tasks ≡ places
  same_places =
      standings_are tasks places (walk.one_each ∙ sym given.one_each) (λ u task e. (walk.settled u task (here u task e) e).place)

  no_place : (u : ℕ) → length plan.parents ≤ u → a u ≡ first_place
  unfolding places_at
  no_place u l = ap (place_from plan u) (slice_get_past places u (let one = given.one_each in omega arith))

  all_walked : walked a (length plan.parents) ≡ a
  all_walked =
      fun_ext (λ u. elim (cases_lt u (length plan.parents)) [
        | inl below ↦ walked_below a (length plan.parents) u below
        | inr above ↦ walked_from a (length plan.parents) u above ∙ sym (no_place u above)
      ])

  seen : places_of (world_from plan tasks) ≡ a
  seen = ap (places_at plan) same_places

  state_seen : state_of (world_from plan tasks) ≡ state_at plan a
  unfolding state_of
  state_seen = ap (state_at plan) seen

  pub walk_done : KeepsState plan tasks table
  walk_done =
      record {
        checked = walk.checked;
        reachable = subst (IsReachable plan) (sym seen) given.reachable;
        one_each = walk.one_each;
        cells = walk.cells;
        columns = walk.columns;
        phases = walk.phases ∙ ap (λ b. (state_at plan b).phases) all_walked ∙ ap (λ s. s.phases) (sym state_seen);
        each = λ u task e. subst (λ s. IsKeptOf plan s u task) (sym state_seen) (each u task e);
      }
    where
      each : (u : ℕ) (task : TaskRecord) → slice_get tasks u ≡ Some task → IsKeptOf plan (state_at plan a) u task
      each u task e =
          let s = walk.settled u task (here u task e) e in
          record {
            forked = walk.forked u task e ∙ ap (λ b. forked_at plan (done_by b) u) all_walked;
            event = s.event;
            within = s.within;
            events = s.events;
          }
