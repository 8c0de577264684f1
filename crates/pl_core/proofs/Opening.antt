-- The opening world.
use mathlib.Core.Path.{fun_ext}
use Rattle.std.proofs.Common.{◌≡◌, ◌≢◌, ℕ, zero, suc, ◌<◌, Bool, true, false, List, [], ◌∷◌, Option, Some, None, length, replicate, set, arith, sym, ◌∙◌, ap, subst, refl, inl, inr}
use Rattle.std.specs.Prelude.{slice_get, ◌==◌}
use Rattle.std.proofs.lemmas.Bool.{cases_eq}
use Rattle.std.proofs.lemmas.Bool.Decides.{nat_tests}
use Rattle.std.proofs.lemmas.List.{length-replicate, length-set, map-set}
use Rattle.std.proofs.lemmas.Option.{slice_get_within}
use Rattle.armus_base.specs.Plans.{Plan}
use Rattle.armus_base.specs.States.{opening}
use Rattle.armus_base.specs.Runs.{IsReachable, first_place}
use Rattle.armus_base.specs.Places.{state_at}
use Rattle.armus_base.specs.CheckedPlans.{IsCheckedPlan}
use Rattle.armus_base.proofs.Stepping.{opening_fixed}
use Rattle.armus_base.proofs.Lists.{slice_get-set_same, slice_get-set_other}
use Rattle.pl_core.specs.declared.place.Place.{Place as KeptPlace}
use Rattle.pl_core.specs.declared.task.TaskRecord.{TaskRecord}
use Rattle.pl_core.specs.declared.phase_table.MemberTable.{MemberTable}
use Rattle.pl_core.specs.inside.Changes.{opening_tasks, unbegun}
use Rattle.pl_core.specs.inside.Enrolling.{HasCells}
use Rattle.pl_core.specs.inside.PhaseTables.{phases_in}
use Rattle.pl_core.specs.inside.KeptTasks.{IsKeptOf}
use Rattle.pl_core.specs.inside.Kept.{KeepsState}
use Rattle.pl_core.specs.calls.Tables.{kept_places, world_from}
use Rattle.pl_core.specs.calls.Worlds.{IsOpeningWorld, WorldValue, place_from, places_at, places_of, state_of}

-- an item of a list of copies
pub copy_is : {A : Type 0} (n k : ℕ) (x y : A) → slice_get (replicate n x) k ≡ Some y → y ≡ x
copy_is zero k x y e = absurd (cc)
copy_is (suc n) zero x y e = cc
copy_is (suc n) (suc k) x y e = copy_is n k x y e

copies_of : (n : ℕ) (task : TaskRecord) → kept_places (replicate n task) ≡ replicate n task.place
copies_of zero task = refl
copies_of (suc n) task = ap (λ ps. task.place ∷ ps) (copies_of n task)

set_first : {A : Type 0} (n : ℕ) (x : A) → set (replicate n x) 0 x ≡ replicate n x
set_first zero x = refl
set_first (suc n) x = refl

pub opening_standings : (n : ℕ) → kept_places (opening_tasks n) ≡ replicate n (record { events = 0; refused = false })
opening_standings n =
    map-set (λ (k : TaskRecord). k.place) (replicate n unbegun) 0 (record unbegun { forked = true })
    ∙ ap (λ ps. set ps 0 unbegun.place) (copies_of n unbegun)
    ∙ set_first n unbegun.place

-- nobody has made an event
first_from : (plan : Plan) (n t : ℕ) → place_from plan t (slice_get (replicate n (record { events = 0; refused = false })) t) ≡ first_place
first_from plan n t = go (slice_get (replicate n (record { events = 0; refused = false })) t) refl
  where
    go : (o : Option KeptPlace) → slice_get (replicate n (record { events = 0; refused = false })) t ≡ o → place_from plan t o ≡ first_place
    go None e = refl
    go (Some place) e = ap (λ p. place_from plan t (Some p)) (copy_is n t (record { events = 0; refused = false }) place e)

pub first_places : (plan : Plan) (n : ℕ) → places_at plan (replicate n (record { events = 0; refused = false })) ≡ (λ _. first_place)
unfolding places_at
first_places plan n = fun_ext (λ t. first_from plan n t)

module _ (plan : Plan) (checked : IsCheckedPlan plan) where
  abbrev first_world : WorldValue
  first_world = record { plan = plan; places = replicate (length plan.parents) (record { events = 0; refused = false }) }

  first_state : state_of first_world ≡ opening
  unfolding state_of
  first_state = ap (state_at plan) (first_places plan (length plan.parents)) ∙ sym (opening_fixed plan checked)

  pub opening_is : IsOpeningWorld plan first_world
  opening_is = record { plan_is = refl; places = refl; state = first_state }

  opening_seen : world_from plan (opening_tasks (length plan.parents)) ≡ first_world
  opening_seen = ap (λ ps. record { plan = plan; places = ps }) (opening_standings (length plan.parents))

  kept_unbegun : (t : ℕ) (b : Bool) → b ≡ (t == 0) → IsKeptOf plan opening t (record unbegun { forked = b })
  kept_unbegun t b e = record { forked = e; event = refl; within = omega arith; events = refl }

  not_zero : (t : ℕ) → t ≢ 0 → false ≡ (t == 0)
  not_zero t n = grind (arith, nat_tests)

  zero_is : (t : ℕ) → t ≡ 0 → true ≡ (t == 0)
  zero_is t e = grind (arith, nat_tests)

  pub kept_first : (n t : ℕ) (task : TaskRecord) → slice_get (opening_tasks n) t ≡ Some task → IsKeptOf plan opening t task
  kept_first n t task e =
      elim (cases_eq t 0) [
        | inl z ↦
            let within : t < length (replicate n unbegun) = (let l = slice_get_within (opening_tasks n) t task e in
            let s = length-set (replicate n unbegun) 0 (record unbegun { forked = true }) in omega arith) in
            let is : record unbegun { forked = true } ≡ task =
            (let one = slice_get-set_same (replicate n unbegun) 0 (record unbegun { forked = true }) (omega arith) in
            let two : slice_get (opening_tasks n) 0 ≡ Some task = subst (λ v. slice_get (opening_tasks n) v ≡ Some task) z e in cc) in
            subst (IsKeptOf plan opening t) is (kept_unbegun t true (zero_is t z))
        | inr other ↦
            let is : task ≡ unbegun = copy_is n t unbegun task (sym (slice_get-set_other (replicate n unbegun) 0 t (record unbegun { forked = true }) other) ∙ e) in
            subst (IsKeptOf plan opening t) (sym is) (kept_unbegun t false (not_zero t other))
      ]

  module _ (tasks : List TaskRecord) (table : MemberTable) (tasks_are : tasks ≡ opening_tasks (length plan.parents)) (cells : HasCells plan table)
      (columns : table.phasers ≡ length plan.makers) (empty : phases_in table ≡ (λ _ _. None)) where
    seen : world_from plan tasks ≡ first_world
    seen = ap (world_from plan) tasks_are ∙ opening_seen

    state_seen : state_of (world_from plan tasks) ≡ opening
    state_seen = ap state_of seen ∙ first_state

    reach : IsReachable plan (λ _. first_place)
    reach = record { steps = []; run = tt; there = λ t. refl }

    pub kept_opening : KeepsState plan tasks table
    kept_opening =
        record {
          checked = checked;
          reachable = subst (λ w. IsReachable plan (places_of w)) (sym seen) (subst (IsReachable plan) (sym (first_places plan (length plan.parents))) reach);
          one_each = ap length tasks_are ∙ length-set (replicate (length plan.parents) unbegun) 0 (record unbegun { forked = true }) ∙
              length-replicate (length plan.parents) unbegun;
          cells = cells;
          columns = columns;
          phases = empty ∙ ap (λ s. s.phases) (sym state_seen);
          each = λ t task e. subst (λ s. IsKeptOf plan s t task) (sym state_seen)
              (kept_first (length plan.parents) t task (ap (λ xs. slice_get xs t) (sym tasks_are) ∙ e));
        }

    pub opening_made : IsOpeningWorld plan (world_from plan tasks)
    opening_made = subst (IsOpeningWorld plan) (sym seen) opening_is
