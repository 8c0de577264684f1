-- An open pass, one phase cell further.
use Rattle.std.proofs.Common.{◌≡◌, ◌≢◌, ◌<◌, ◌≤◌, ◌+◌, ◌*◌, ◌∙◌, ℕ, Bool, true, false, List, [], ◌∷◌, ◌++◌, Option, Some, None, length, take, get_or, arith, sym, subst, ap, inl, inr, refl, append-nil, length-append}
use Rattle.std.specs.Prelude.{All, slice_get, is_some, if◌then◌else◌, option_to_list, option_map, map, min}
use Rattle.std.specs.List.{flat_map}
use Rattle.std.proofs.lemmas.Bool.{cases_lt}
use Rattle.std.proofs.lemmas.Grind.{flat_map-append}
use Rattle.std.proofs.lemmas.List.{map-append, take_all, take_more}
use Rattle.std.proofs.lemmas.Option.{slice_get-get_or}
use Rattle.armus_base.specs.declared.ids.PhaserId.{PhaserId}
use Rattle.armus_base.specs.declared.event.Event.{Event}
use Rattle.armus_base.specs.calls.CheckedPlans.{Extends}
use Rattle.armus_base.specs.Finals.{given_below, listed_phase}
use Rattle.armus_base.specs.Plans.{Plan}
use Rattle.armus_base.specs.Runs.{state_after}
use Rattle.armus_base.specs.States.{Step}
use Rattle.schedule.specs.declared.pass.OpenPass.{OpenPass}
use Rattle.schedule.specs.declared.pass.FoundWaiting.{FoundWaiting}
use Rattle.schedule.specs.Passes.{PassLoads, event_found, is_found_awaited, waiting_below, awaited_below, phase_after, phase_load, phases_found}
use Rattle.schedule.specs.inside.OpenPasses.{IsPassOf, IsMidPass, HasPlace, KeepsPhase, EndsRow, waiting_found, awaited_phaser, member_found, row_found, status_with}
use Rattle.schedule.proofs.Awaiting.{extends_less, has_next}
use Rattle.schedule.proofs.Counts.{count_same}
use Rattle.schedule.proofs.Passing.{itself, full_is, some_map, some_if}
use Rattle.schedule.proofs.Rows.{at_place, flat_given, length_given}

min_above : (a b : ℕ) → b ≤ a → min a b ≡ b
min_above a b l = omega arith

less_than : (a b : ℕ) → a ≤ b → a ≢ b → a < b
less_than a b l n = elim (cases_lt a b) [ inl less ↦ less | inr more ↦ absurd (n (omega arith)) ]

further : (n m c : ℕ) → (n + (m + c)) + 1 ≡ n + (m + (c + 1))
further n m c = omega arith

next_row : (n r q c : ℕ) → c + 1 ≡ q → (n + (r * q + c)) + 1 ≡ n + ((r + 1) * q + 0)
next_row n r q c e = grind arith

abbrev number_of : Option FoundWaiting → ℕ
number_of None = 0
number_of (Some w) = w.t.0

pub number_of_found : (t : ℕ) (o : Option Event) (w : FoundWaiting) → option_map (λ e. record { t = record { 0 = t }; event = e }) o ≡ Some w → t ≡ w.t.0
number_of_found t None w e = absurd (cc)
number_of_found t (Some x) w e = ap number_of e

abbrev number_of_phaser : Option PhaserId → ℕ
number_of_phaser None = 0
number_of_phaser (Some p) = p.0

pub number_of_marked : (q : ℕ) (b : Bool) (p : PhaserId) → (if b then Some (record { 0 = q }) else None) ≡ Some p → q ≡ p.0
number_of_marked q true p e = ap number_of_phaser e
number_of_marked q false p e = absurd (cc)

-- the row and the column of the next phase cell of a pass that has loaded all await cells
module _ (plan : Plan) (pass : OpenPass) (mid : IsMidPass plan pass) where
  pub all_loaded : pass.loaded ≡ length plan.parents
  all_loaded = (let l = mid.of.awaits.loaded in let a = mid.all_awaits in omega arith)

  pub row_within : pass.row < length pass.waiting.items
  row_within =
      elim (cases_lt pass.row (length pass.waiting.items)) [
        | inl less ↦ less
        | inr more ↦ absurd (let w = (mid.of.phases.place all_loaded).row in let full = full_is plan mid.loads pass mid.of all_loaded (omega arith) in
            let n = mid.not_full in omega arith)
      ]

  pub column_within : pass.column < length pass.awaited.items
  column_within = (mid.of.phases.place all_loaded).column row_within

  -- the task of the row, and the phaser of the column
  at_row : (w : FoundWaiting) → w ≡ get_or pass.waiting.items pass.row w → slice_get pass.waiting.items pass.row ≡ Some w
  at_row w is = slice_get-get_or pass.waiting.items pass.row w row_within ∙ ap Some (sym is)

  at_column : (p : PhaserId) → p ≡ get_or pass.awaited.items pass.column p → slice_get pass.awaited.items pass.column ≡ Some p
  at_column p is = slice_get-get_or pass.awaited.items pass.column p column_within ∙ ap Some (sym is)

  pub task_within : (w : FoundWaiting) → w ≡ get_or pass.waiting.items pass.row w → w.t.0 < length plan.parents
  task_within w is =
      let given = mid.of.awaits.waiting mid.loads (itself mid.loads) ∙ ap (given_below (waiting_found mid.loads)) all_loaded in
      let (t, l, gives, counted) = at_place (waiting_found mid.loads) (length plan.parents) pass.row w
      (ap (λ v. slice_get v pass.row) (sym given) ∙ at_row w is) in
      subst (λ k. k < length plan.parents) (number_of_found t (event_found mid.loads t) w gives) l

  pub phaser_within : (p : PhaserId) → p ≡ get_or pass.awaited.items pass.column p → p.0 < length plan.makers
  phaser_within p is =
      let given = mid.of.awaits.awaited mid.loads (itself mid.loads) all_loaded in
      let (q, l, gives, counted) = at_place (awaited_phaser plan mid.loads) (length plan.makers) pass.column p
      (ap (λ v. slice_get v pass.column) (sym given) ∙ at_column p is) in
      subst (λ k. k < length plan.makers) (number_of_marked q (is_found_awaited plan mid.loads q) p gives) l

-- the next load finds the phase of the row's task on the column's phaser
module _ (plan : Plan) (pass : OpenPass) (mid : IsMidPass plan pass) (loads : PassLoads) (h : List Step) (of : IsPassOf plan loads pass) (w : FoundWaiting)
    (here : w ≡ get_or pass.waiting.items pass.row w) (p : PhaserId) (there : p ≡ get_or pass.awaited.items pass.column p) where
  in_row : slice_get pass.waiting.items pass.row ≡ Some w
  in_row = at_row plan pass mid w here

  full : pass.loaded ≡ length plan.parents
  full = all_loaded plan pass mid

  place : HasPlace plan loads pass
  place = of.phases.place full

  enough : length plan.parents ≤ length loads
  enough = (let l = of.awaits.loaded in omega arith)

  module _ (all : PassLoads) (ext : Extends all (loads ++ h ∷ [])) where
    before : Extends all loads
    before = extends_less all loads h ext

    row_is : waiting_below all w.t.0 ≡ pass.row
    row_is =
        let given = of.awaits.waiting all before ∙ ap (given_below (waiting_found all)) full in
        let (t, l, gives, counted) = at_place (waiting_found all) (length plan.parents) pass.row w (ap (λ v. slice_get v pass.row) (sym given) ∙ in_row) in
        ap (waiting_below all) (sym (number_of_found t (event_found all t) w gives))
        ∙ sym (count_same (λ k. is_some (waiting_found all k)) (λ u. is_some (event_found all u)) t (λ k. some_map _ (event_found all k))) ∙ counted

    column_is : awaited_below plan all p.0 ≡ pass.column
    column_is =
        let given = of.awaits.awaited all before full in
        let (q, l, gives, counted) = at_place (awaited_phaser plan all) (length plan.makers) pass.column p
        (ap (λ v. slice_get v pass.column) (sym given) ∙ at_column plan pass mid p there) in
        ap (awaited_below plan all) (sym (number_of_marked q (is_found_awaited plan all q) p gives))
        ∙ sym (count_same (λ k. is_some (awaited_phaser plan all k)) (is_found_awaited plan all) q (λ k. some_if (is_found_awaited plan all k) (record { 0 = k }))) ∙ counted

    columns : awaited_below plan all (length plan.makers) ≡ length pass.awaited.items
    columns =
        sym (ap length (of.awaits.awaited all before full)
        ∙ length_given (awaited_phaser plan all) (length plan.makers)
        ∙ count_same (λ k. is_some (awaited_phaser plan all k)) (is_found_awaited plan all) (length plan.makers) (λ k. some_if (is_found_awaited plan all k) (record { 0 = k })))

    load_is : phase_load plan all w.t.0 p.0 ≡ length loads
    load_is =
        ap (λ r. length plan.parents + (r * awaited_below plan all (length plan.makers) + awaited_below plan all p.0)) row_is
        ∙ ap (λ q. length plan.parents + (pass.row * q + awaited_below plan all p.0)) columns
        ∙ ap (λ c. length plan.parents + (pass.row * length pass.awaited.items + c)) column_is
        ∙ sym place.cells

    pub phase_is : phases_found plan all w.t.0 p.0 ≡ (state_after h).phases w.t.0 p.0
    phase_is = ap (λ k. phase_after w.t.0 p.0 (slice_get all k)) load_is ∙ ap (phase_after w.t.0 p.0) (has_next all loads h ext)

    -- the members of the row, one column further
    pub members_more : (new : OpenPass) → KeepsPhase pass new p ((state_after h).phases w.t.0 p.0) →
        new.members ≡ flat_map (member_found plan all w.t.0) (take (pass.column + 1) pass.awaited.items)
    members_more new kept =
        let within = column_within plan pass mid in
        kept.members
        ∙ ap (λ l. l ++ option_to_list (option_map (λ n. record { p = p; n = n }) ((state_after h).phases w.t.0 p.0)))
        (of.phases.members all before ∙ ap (λ o. row_found plan all o (take pass.column pass.awaited.items)) in_row)
        ∙ ap (λ o. flat_map (member_found plan all w.t.0) (take pass.column pass.awaited.items) ++ option_to_list (option_map (λ n. record { p = p; n = n }) o)) (sym phase_is)
        ∙ ap (λ l. flat_map (member_found plan all w.t.0) (take pass.column pass.awaited.items) ++ l) (sym (append-nil (member_found plan all w.t.0 p)))
        ∙ sym (flat_map-append (member_found plan all w.t.0) (take pass.column pass.awaited.items) (p ∷ []))
        ∙ ap (λ q. flat_map (member_found plan all w.t.0) (take pass.column pass.awaited.items ++ q ∷ [])) there
        ∙ ap (flat_map (member_found plan all w.t.0)) (sym (take_more pass.awaited.items pass.column p within))

    -- a whole row is the task's status
    row_status : flat_map (member_found plan all w.t.0) pass.awaited.items ≡ given_below
        (listed_phase (is_found_awaited plan all) (phases_found plan all w.t.0)) (length plan.makers)
    row_status =
        ap (flat_map (member_found plan all w.t.0)) (of.awaits.awaited all before full)
        ∙ flat_given (λ q. option_map (λ n. record { p = q; n = n }) (phases_found plan all w.t.0 q.0)) (awaited_phaser plan all)
        (listed_phase (is_found_awaited plan all) (phases_found plan all w.t.0)) (length plan.makers)
        (λ k l. one k (is_found_awaited plan all k))
      where
        one : (k : ℕ) (b : Bool) → flat_map (member_found plan all w.t.0) (option_to_list (if b then Some (record { 0 = k }) else None))
            ≡ option_to_list (if b then option_map (λ n. record { p = record { 0 = k }; n = n }) (phases_found plan all w.t.0 k) else None)
        one k true = append-nil (option_to_list (option_map (λ n. record { p = record { 0 = k }; n = n }) (phases_found plan all w.t.0 k)))
        one k false = refl

    pub status_more : (middle new : OpenPass) → KeepsPhase pass middle p ((state_after h).phases w.t.0 p.0) → middle.column ≡ length middle.awaited.items → EndsRow middle new w
        → new.statuses ≡ map (status_with plan all) (take (pass.row + 1) pass.waiting.items)
    status_more middle new kept last ended =
        let within = row_within plan pass mid in
        let whole : pass.column + 1 ≡ length pass.awaited.items = sym kept.column ∙ last ∙ ap length kept.awaited in
        let row = members_more middle kept ∙ ap (λ k. flat_map (member_found plan all w.t.0) (take k pass.awaited.items)) whole
        ∙ ap (flat_map (member_found plan all w.t.0)) (take_all (length pass.awaited.items) pass.awaited.items (omega arith)) ∙ row_status in
        ended.statuses
        ∙ ap (λ l. l ++ record { t = w.t; event = w.event; phases = middle.members } ∷ []) (kept.statuses ∙ of.phases.statuses all before)
        ∙ ap (λ m. map (status_with plan all) (take pass.row pass.waiting.items) ++ record { t = w.t; event = w.event; phases = m } ∷ []) row
        ∙ sym (map-append (status_with plan all) (take pass.row pass.waiting.items) (w ∷ []))
        ∙ ap (λ q. map (status_with plan all) (take pass.row pass.waiting.items ++ q ∷ [])) here
        ∙ ap (map (status_with plan all)) (sym (take_more pass.waiting.items pass.row w within))

  -- the row goes on
  pub row_more : (new : OpenPass) → KeepsPhase pass new p ((state_after h).phases w.t.0 p.0) → new.column ≢ length new.awaited.items → IsPassOf plan (loads ++ h ∷ []) new
  row_more new kept other =
      record {
        awaits = record {
          loaded = kept.loaded ∙ full ∙ sym (min_above (length (loads ++ h ∷ [])) (length plan.parents) (omega (arith, length-append loads (h ∷ []), enough)));
          waiting = λ all ext. kept.waiting ∙ of.awaits.waiting all (extends_less all loads h ext) ∙ ap (given_below (waiting_found all)) (sym kept.loaded);
          awaited = λ all ext _. kept.awaited ∙ of.awaits.awaited all (extends_less all loads h ext) full;
          phasers = subst (All (λ (v : FoundWaiting). v.event.p.0 < length plan.makers)) (sym kept.waiting) of.awaits.phasers;
        };
        phases = record {
          place = λ _. record {
            cells = length-append loads (h ∷ []) ∙ ap (λ k. k + 1) place.cells ∙ further (length plan.parents) (pass.row * length pass.awaited.items) pass.column
                ∙ ap (λ a. length plan.parents + (pass.row * length a + (pass.column + 1))) (sym kept.awaited)
                ∙ ap (λ r. length plan.parents + (r * length new.awaited.items + (pass.column + 1))) (sym kept.row)
                ∙ ap (λ c. length plan.parents + (new.row * length new.awaited.items + c)) (sym kept.column);
            row = (let r = kept.row in let l = ap length kept.waiting in let within = place.row in omega arith);
            column = λ _. (let c = kept.column in let l = ap length kept.awaited in let within = column_within plan pass mid in
                less_than new.column (length new.awaited.items) (omega arith) other);
            last = λ e. absurd (let r = kept.row in let l = ap length kept.waiting in let within = row_within plan pass mid in omega arith);
          };
          first = λ l. absurd (let s = kept.loaded in let f = full in omega arith);
          statuses = λ all ext. kept.statuses ∙ of.phases.statuses all (extends_less all loads h ext) ∙
              ap (λ k. map (status_with plan all) (take k pass.waiting.items)) (sym kept.row)
              ∙ ap (λ v. map (status_with plan all) (take new.row v)) (sym kept.waiting);
          members = λ all ext. members_more all ext new kept
              ∙ ap (λ c. flat_map (member_found plan all w.t.0) (take c pass.awaited.items)) (sym kept.column)
              ∙ ap (λ v. flat_map (member_found plan all w.t.0) (take new.column v)) (sym kept.awaited)
              ∙ sym (ap (λ o. row_found plan all o (take new.column new.awaited.items))
              (ap (λ v. slice_get v new.row) kept.waiting ∙ ap (slice_get pass.waiting.items) kept.row ∙ in_row));
        };
      }

  -- the row ends
  pub row_ends : (middle new : OpenPass) → KeepsPhase pass middle p ((state_after h).phases w.t.0 p.0) → middle.column ≡ length middle.awaited.items →
      EndsRow middle new w → IsPassOf plan (loads ++ h ∷ []) new
  row_ends middle new kept last ended =
      record {
        awaits = record {
          loaded = ended.loaded ∙ kept.loaded ∙ full ∙ sym (min_above (length (loads ++ h ∷ [])) (length plan.parents) (omega (arith, length-append loads (h ∷ []), enough)));
          waiting = λ all ext. waiting ∙ of.awaits.waiting all (extends_less all loads h ext) ∙ ap (given_below (waiting_found all)) (sym (ended.loaded ∙ kept.loaded));
          awaited = λ all ext _. awaited ∙ of.awaits.awaited all (extends_less all loads h ext) full;
          phasers = subst (All (λ (v : FoundWaiting). v.event.p.0 < length plan.makers)) (sym waiting) of.awaits.phasers;
        };
        phases = record {
          place = λ _. record {
            cells = length-append loads (h ∷ []) ∙ ap (λ k. k + 1) place.cells ∙ next_row (length plan.parents) pass.row (length pass.awaited.items) pass.column whole
                ∙ ap (λ a. length plan.parents + ((pass.row + 1) * length a + 0)) (sym awaited)
                ∙ ap (λ r. length plan.parents + (r * length new.awaited.items + 0)) (sym row)
                ∙ ap (λ c. length plan.parents + (new.row * length new.awaited.items + c)) (sym ended.column);
            row = (let r = row in let l = ap length waiting in let within = row_within plan pass mid in omega arith);
            column = λ _. (let c = ended.column in let l = ap length awaited in let within = column_within plan pass mid in omega arith);
            last = λ _. ended.column;
          };
          first = λ l. absurd (let s = ended.loaded ∙ kept.loaded in let f = full in omega arith);
          statuses = λ all ext. status_more all ext middle new kept last ended
              ∙ ap (λ k. map (status_with plan all) (take k pass.waiting.items)) (sym row) ∙ ap (λ v. map (status_with plan all) (take new.row v)) (sym waiting);
          members = λ all ext. ended.members ∙ sym (ap (λ k. row_found plan all (slice_get new.waiting.items new.row) (take k new.awaited.items)) ended.column ∙
              nothing_found all (slice_get new.waiting.items new.row));
        };
      }
    where
      waiting : new.waiting.items ≡ pass.waiting.items
      waiting = ended.waiting ∙ kept.waiting

      awaited : new.awaited.items ≡ pass.awaited.items
      awaited = ended.awaited ∙ kept.awaited

      row : new.row ≡ pass.row + 1
      row = ended.row ∙ ap (λ k. k + 1) kept.row

      whole : pass.column + 1 ≡ length pass.awaited.items
      whole = sym kept.column ∙ last ∙ ap length kept.awaited

      nothing_found : (all : PassLoads) (o : Option FoundWaiting) → row_found plan all o [] ≡ []
      nothing_found all None = refl
      nothing_found all (Some v) = refl
