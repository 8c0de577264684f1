-- An open pass: how many loads it has, and what it makes of them when it is full.
use Rattle.std.proofs.Common.{◌≡◌, ◌≢◌, ◌<◌, ◌≤◌, ◌+◌, ◌*◌, ◌∙◌, ℕ, Bool, true, false, List, [], Option, Some, None, length, take, arith, sym, ap, inl, inr, refl, append-nil}
use Rattle.std.specs.Prelude.{is_some, if◌then◌else◌, option_map, map, min}
use Rattle.std.proofs.lemmas.Bool.{cases_lt}
use Rattle.std.proofs.lemmas.List.{take_all}
use Rattle.armus_base.specs.declared.event.Event.{Event}
use Rattle.armus_base.specs.declared.ids.PhaserId.{PhaserId}
use Rattle.armus_base.specs.calls.CheckedPlans.{Extends}
use Rattle.armus_base.specs.Finals.{given_below, listed_phase}
use Rattle.armus_base.specs.Plans.{Plan}
use Rattle.schedule.specs.declared.pass.OpenPass.{OpenPass}
use Rattle.schedule.specs.Passes.{PassLoads, event_found, is_found_awaited, waiting_below, awaited_below, phases_found, loads_of, statuses_found}
use Rattle.schedule.specs.inside.OpenPasses.{IsPassOf, waiting_found, awaited_phaser, status_with}
use Rattle.schedule.proofs.Counts.{cell_within, count_same}
use Rattle.schedule.proofs.Rows.{length_given, map_given}
use Rattle.schedule.proofs.Marks.{given_same}

pub itself : {A : Type 0} (xs : List A) → Extends xs xs
itself xs = ([], sym (append-nil xs))

pub some_map : {A B : Type 0} (g : A → B) (o : Option A) → is_some (option_map g o) ≡ is_some o
some_map g None = refl
some_map g (Some x) = refl

pub some_if : (b : Bool) (p : PhaserId) → is_some (if b then Some p else None) ≡ b
some_if true p = refl
some_if false p = refl

-- how many rows and columns there are
pub rows_are : (plan : Plan) (loads : PassLoads) (pass : OpenPass) → IsPassOf plan loads pass → pass.loaded ≡ length plan.parents
    → length pass.waiting.items ≡ waiting_below loads (length plan.parents)
rows_are plan loads pass of all =
    ap length (of.awaits.waiting loads (itself loads) ∙ ap (given_below (waiting_found loads)) all)
    ∙ length_given (waiting_found loads) (length plan.parents)
    ∙ count_same (λ k. is_some (waiting_found loads k)) (λ u. is_some (event_found loads u)) (length plan.parents) (λ k. some_map _ (event_found loads k))

pub columns_are : (plan : Plan) (loads : PassLoads) (pass : OpenPass) → IsPassOf plan loads pass → pass.loaded ≡ length plan.parents
    → length pass.awaited.items ≡ awaited_below plan loads (length plan.makers)
columns_are plan loads pass of all =
    ap length (of.awaits.awaited loads (itself loads) all)
    ∙ length_given (awaited_phaser plan loads) (length plan.makers)
    ∙ count_same (λ k. is_some (awaited_phaser plan loads k)) (is_found_awaited plan loads) (length plan.makers) (λ k. some_if (is_found_awaited plan loads k) (record { 0 = k }))

min_all : (a b : ℕ) → b ≤ a → min a b ≡ b
min_all a b l = omega arith

-- a full pass has all its loads, and one that has all its loads is full
pub full_is : (plan : Plan) (loads : PassLoads) (pass : OpenPass) → IsPassOf plan loads pass → pass.loaded ≡ length plan.parents → pass.row ≡ length pass.waiting.items
    → length loads ≡ loads_of plan loads
full_is plan loads pass of all rows =
    let place = of.phases.place all in
    let cells = place.cells in
    let none = place.last rows in
    let r = rows ∙ rows_are plan loads pass of all in
    let c = columns_are plan loads pass of all in
    cells ∙ ap (λ k. length plan.parents + k) (ap (λ x. pass.row * length pass.awaited.items + x) none ∙ add_nothing (pass.row * length pass.awaited.items) ∙
    ap (λ x. x * length pass.awaited.items) r ∙ ap (λ x. waiting_below loads (length plan.parents) * x) c)
  where
    add_nothing : (n : ℕ) → n + 0 ≡ n
    add_nothing n = omega arith

pub full_loaded : (plan : Plan) (loads : PassLoads) (pass : OpenPass) → IsPassOf plan loads pass → length loads ≡ loads_of plan loads → pass.loaded ≡ length plan.parents
full_loaded plan loads pass of full =
    of.awaits.loaded ∙ min_all (length loads) (length plan.parents) (omega arith)

-- where a row is left, so are loads
row_left : (plan : Plan) (loads : PassLoads) (pass : OpenPass) → IsPassOf plan loads pass → pass.loaded ≡ length plan.parents →
    pass.row < length pass.waiting.items → length loads < loads_of plan loads
row_left plan loads pass of all less =
    let place = of.phases.place all in
    let r = rows_are plan loads pass of all in
    let c = columns_are plan loads pass of all in
    let same : loads_of plan loads ≡ length plan.parents + length pass.waiting.items * length pass.awaited.items =
    ap (λ x. length plan.parents + x * awaited_below plan loads (length plan.makers)) (sym r) ∙ ap (λ x. length plan.parents + length pass.waiting.items * x) (sym c) in
    let cell = cell_within pass.row pass.column (length pass.waiting.items) (length pass.awaited.items) less (place.column less) in
    let cells = place.cells in
    omega arith

pub full_rows : (plan : Plan) (loads : PassLoads) (pass : OpenPass) → IsPassOf plan loads pass → length loads ≡ loads_of plan loads →
    pass.row ≡ length pass.waiting.items
full_rows plan loads pass of full =
    let all = full_loaded plan loads pass of full in
    elim (cases_lt pass.row (length pass.waiting.items)) [
      | inl less ↦ absurd (let l = row_left plan loads pass of all less in omega arith)
      | inr more ↦ (let within = (of.phases.place all).row in omega arith)
    ]

-- a pass that is not full has loads left
pub loads_left : (plan : Plan) (loads : PassLoads) (pass : OpenPass) → IsPassOf plan loads pass → pass.loaded ≡ length plan.parents →
    length loads ≢ loads_of plan loads → length loads < loads_of plan loads
loads_left plan loads pass of all other =
    elim (cases_lt pass.row (length pass.waiting.items)) [
      | inl less ↦ row_left plan loads pass of all less
      | inr more ↦ absurd (other (full_is plan loads pass of all (let within = (of.phases.place all).row in omega arith)))
    ]

-- the statuses of a full pass are those that it found
pub statuses_are_found : (plan : Plan) (loads : PassLoads) (pass : OpenPass) → IsPassOf plan loads pass → length loads ≡ loads_of plan loads → pass.statuses ≡ statuses_found plan loads
statuses_are_found plan loads pass of full =
    let all = full_loaded plan loads pass of full in
    let rows = full_rows plan loads pass of full in
    of.phases.statuses loads (itself loads)
    ∙ ap (map (status_with plan loads)) (ap (λ k. take k pass.waiting.items) rows ∙ take_all (length pass.waiting.items) pass.waiting.items (omega arith) ∙
    of.awaits.waiting loads (itself loads) ∙ ap (given_below (waiting_found loads)) all)
    ∙ map_given (status_with plan loads) (waiting_found loads) (length plan.parents)
    ∙ given_same _ _ (length plan.parents) (λ k l. one k (event_found loads k))
  where
    one : (k : ℕ) (o : Option Event)
        → option_map (status_with plan loads) (option_map (λ e. record { t = record { 0 = k }; event = e }) o)
        ≡ option_map (λ e. record {
          t = record { 0 = k };
          event = e;
          phases = given_below (listed_phase (is_found_awaited plan loads) (phases_found plan loads k)) (length plan.makers);
        }) o
    one k None = refl
    one k (Some e) = refl
