-- A task of a walk comes to its place.
use mathlib.Core.Path.{fun_ext}
use Rattle.std.proofs.Common.{◌≡◌, ◌≢◌, ℕ, suc, ◌≤◌, ◌+◌, Bool, true, false, List, Option, Some, None, length, set, arith, sym, ◌∙◌, ap, subst, refl, inl, inr}
use Rattle.std.specs.Prelude.{slice_get, option_map, is_some, ◌||◌, if◌then◌else◌}
use Rattle.std.proofs.lemmas.Bool.{cases_eq}
use Rattle.std.proofs.lemmas.List.{length-set}
use Rattle.std.proofs.lemmas.Option.{slice_get_within}
use Rattle.armus_base.specs.declared.event.Event.{Event}
use Rattle.armus_base.specs.declared.op.Op.{Op}
use Rattle.armus_base.specs.declared.op.Op.TheVariants.{Make, Reg, Fork, Adv, Drop, Await}
use Rattle.armus_base.specs.Plans.{Blocks, Passes, Plan, action_at, code_of, Aim}
use Rattle.armus_base.specs.States.{Phases, awaited, updated}
use Rattle.armus_base.specs.calls.Runs.{IsAtAwait}
use Rattle.armus_base.specs.Runs.{Place}
use Rattle.armus_base.specs.calls.Places.{IsConsistent}
use Rattle.armus_base.specs.Places.{done_by, forked_at, kept, phases_after, phases_at, published_after, refused_at, state_at}
use Rattle.armus_base.specs.CheckedPlans.{IsCheckedPlan}
use Rattle.armus_base.proofs.Codes.{awaited_some, passes_next}
use Rattle.armus_base.proofs.Fixed.{phases_forked}
use Rattle.armus_base.proofs.PhasesFit.{phases_fit}
use Rattle.armus_base.proofs.Steps.{updated_other, updated_same}
use Rattle.pl_core.specs.declared.place.Place.{Place as KeptPlace}
use Rattle.pl_core.specs.declared.stop.Stop.{Stop}
use Rattle.pl_core.specs.declared.task.TaskRecord.{TaskRecord}
use Rattle.pl_core.specs.declared.phase_table.MemberTable.{MemberTable}
use Rattle.pl_core.specs.inside.Reachable.{AreReachable}
use Rattle.pl_core.specs.inside.Ops.{action_of}
use Rattle.pl_core.specs.inside.PhaseTables.{KeepsCells, phases_in}
use Rattle.pl_core.proofs.CellsStay.{cells_stay}
use Rattle.pl_core.specs.inside.Stops.{IsStopOf}
use Rattle.pl_core.specs.Tasks.{actions_before}
use Rattle.pl_core.specs.inside.KeptTasks.{begun, event_in}
use Rattle.pl_core.specs.inside.Walks.{AwaitsBelow, AwaitsNear, IsPlaced, HasWalked, event_of_op, walked, walking}
use Rattle.pl_core.specs.calls.Worlds.{dropped_at, memberships, places_at}
use Rattle.armus_base.proofs.MemberPhasers.{phaser_of_member}
use Rattle.armus_base.proofs.Lists.{slice_get-set_same, slice_get-set_other}
use Rattle.pl_core.proofs.Standing.{action_of_op, begun_none, begun_some, place_is}
use Rattle.pl_core.proofs.WalkOps.{given_consistent}
use Rattle.pl_core.proofs.WalkSteps.{kept_none, own_phases_here, quiet_forked, quiet_phases, unpublished_before}
use Rattle.pl_core.proofs.Walking.{forked_upto, walked_more, walking_other, walking_own}

not_passes : (o : Option Op) (p : ℕ) → option_map action_of o ≢ Some (Passes p)
not_passes None p e = absurd (cc)
not_passes (Some (Make q)) p e = absurd (cc)
not_passes (Some (Reg c q)) p e = absurd (cc)
not_passes (Some (Fork c)) p e = absurd (cc)
not_passes (Some (Adv q)) p e = absurd (cc)
not_passes (Some (Drop q)) p e = absurd (cc)
not_passes (Some (Await q off)) p e = absurd (cc)

counted_true : (b : Bool) (k n : ℕ) → b ≡ true → n ≡ k + (if b then 1 else 0) → n ≡ suc k
counted_true true k n e h = omega arith
counted_true false k n e h = absurd (cc)

counted_false : (b : Bool) (k n : ℕ) → b ≡ false → n ≡ k + (if b then 1 else 0) → n ≡ k
counted_false true k n e h = absurd (cc)
counted_false false k n e h = omega arith

-- what a refused task keeps, by the flag
abbrev pub cleared : Bool → (ℕ → Phases) → ℕ → ℕ → Phases
cleared b f t = if b then updated f t (λ _. None) else f

module _ (plan : Plan) (checked : IsCheckedPlan plan) (places : List KeptPlace) (given : AreReachable plan places) (t : ℕ) (place : KeptPlace)
    (at_place : slice_get places t ≡ Some place) (stop : Stop) (stops : IsStopOf (code_of plan t) (places_at plan places t).done stop) (tasks : List TaskRecord)
    (table : MemberTable) (walk : HasWalked plan places (walking (places_at plan places) t (actions_before (code_of plan t) stop.op)) t tasks table) where
  abbrev a : ℕ → Place
  a = places_at plan places

  abbrev k : ℕ
  k = actions_before (code_of plan t) stop.op

  abbrev op : Option Op
  op = slice_get (code_of plan t) stop.op

  consistent : IsConsistent plan a
  consistent = given_consistent plan checked places given t

  done_is : (a t).done ≡ place.events
  done_is = ap (λ v. v.done) (place_is plan places t place at_place)

  dropped_is : (a t).dropped ≡ dropped_at plan t place.events place.refused
  dropped_is = ap (λ v. v.dropped) (place_is plan places t place at_place)

  few : k ≤ (a t).done
  few = (let e = stops.events in omega arith)

  next : action_at plan t k ≡ option_map action_of op
  next = action_of_op plan t stop.op k stops.within refl

  blocks : stop.begun ≡ true → (aim : Aim) × action_at plan t k ≡ Some (Blocks aim)
  blocks b = (let at = stops.await b in (record { phaser = at.0.0; off = at.1 }, next ∙ ap (option_map action_of) at.2))

  done_begun : stop.begun ≡ true → (a t).done ≡ suc k
  done_begun b = counted_true stop.begun k (a t).done b stops.events

  done_idle : stop.begun ≡ false → (a t).done ≡ k
  done_idle b = counted_false stop.begun k (a t).done b stops.events

  -- a refused task has not begun its op, an await
  module _ (refused : place.refused ≡ true) where
    dropped_all : (a t).dropped ≡ Some (memberships plan t place.events)
    dropped_all = dropped_is ∙ ap (dropped_at plan t place.events) refused

    stands : forked_at plan (done_by a) t ≡ true × IsAtAwait plan t (a t)
    stands = consistent.refused t (memberships plan t place.events) dropped_all

    pub idle : stop.begun ≡ false
    idle = go stop.begun refl
      where
        go : (b : Bool) → stop.begun ≡ b → b ≡ false
        go false e = refl
        go true e =
            let at = blocks e in
            let passes = passes_next plan t k at.0 at.1 in
            absurd (let blocked : action_at plan t (suc k) ≡ Some (Blocks stands.1.0) = ap (action_at plan t) (sym (done_begun e)) ∙ stands.1.1 in cc)

  forked_begun : stop.begun ≡ true → forked_at plan (done_by a) t ≡ true
  forked_begun b = consistent.begun t (let d = done_begun b in omega arith)

  own_row : forked_at plan (done_by a) t ≡ true → phases_in table t ≡ phases_after plan t k
  own_row forked = ap (λ f. f t) walk.phases ∙ own_phases_here plan checked a consistent t k few forked

  -- the op is of a phaser of the plan
  pub awaits_below : AwaitsBelow table.phasers op
  awaits_below = go op next
    where
      go : (o : Option Op) → action_at plan t k ≡ option_map action_of o → AwaitsBelow table.phasers o
      go (Some (Await p off)) e =
          let w = (checked.codes.well_formed t k (Blocks (record { phaser = p.0; off = off })) e).0 in
          let l = phaser_of_member plan checked t k p.0 w.0 w.1 in
          let c = walk.columns in
          omega arith
      go (Some (Make p)) e = tt
      go (Some (Reg c p)) e = tt
      go (Some (Fork c)) e = tt
      go (Some (Adv p)) e = tt
      go (Some (Drop p)) e = tt
      go None e = tt

  -- and its phase there leaves room for what it awaits, where the task has begun the op or is refused at it
  pub awaits_near : stop.begun || place.refused ≡ true → AwaitsNear (phases_in table t) op
  awaits_near here = go op
    where
      forked_here : (b r : Bool) → stop.begun ≡ b → place.refused ≡ r → b || r ≡ true → forked_at plan (done_by a) t ≡ true
      forked_here true r begun refused e = forked_begun begun
      forked_here false r begun refused e = (stands (refused ∙ e)).0

      go : (o : Option Op) → AwaitsNear (phases_in table t) o
      go (Some (Await p off)) = λ n e.
          (let known : phases_after plan t k p.0 ≡ Some n = ap (λ m. m p.0) (sym (own_row (forked_here stop.begun place.refused refl refl here))) ∙ e in
          let fits = phases_fit plan t k p.0 n checked known in
          let few = checked.limits.few_ops in
          omega arith)
      go (Some (Make p)) = tt
      go (Some (Reg c p)) = tt
      go (Some (Fork c)) = tt
      go (Some (Adv p)) = tt
      go (Some (Drop p)) = tt
      go None = tt

  -- the event at its op
  event_is : forked_at plan (done_by a) t ≡ true → event_of_op op (phases_in table t) ≡ awaited (action_at plan t k) (phases_after plan t k)
  event_is forked = ap (event_of_op op) (own_row forked) ∙ ap (λ o. awaited o (phases_after plan t k)) (sym next)

  abbrev pub event : Option Event
  event = if stop.begun || place.refused then event_of_op op (phases_in table t) else None

  event_there : stop.begun || place.refused ≡ true → event ≡ event_of_op op (phases_in table t)
  event_there e = ap (λ b. if b then event_of_op op (phases_in table t) else None) e

  event_nowhere : stop.begun || place.refused ≡ false → event ≡ None
  event_nowhere e = ap (λ b. if b then event_of_op op (phases_in table t) else None) e

  module _ (was : TaskRecord) (read : slice_get tasks t ≡ Some was) where
    abbrev pub task : TaskRecord
    task = record { place = place; op = stop.op; event = event; forked = was.forked }

    -- at its place the phases and the forked tasks are those of the state
    module _ (table' : MemberTable) (cells : KeepsCells table table') (columns : table'.phasers ≡ table.phasers)
        (phases : phases_in table' ≡ cleared place.refused (phases_in table) t) where
      come :
          (b : ℕ → Place) → b ≡ walked a (suc t) → phases_in table' ≡ (state_at plan b).phases →
          ((c : ℕ) → forked_at plan (done_by (walking a t k)) c ≡ forked_at plan (done_by b) c) → IsPlaced plan places t task →
          HasWalked plan places (walked a (suc t)) (suc t) (set tasks t task) table'
      come b is phases_are forked_are settled =
          subst (λ c. HasWalked plan places c (suc t) (set tasks t task) table') is
          (record {
            checked = checked;
            one_each = length-set tasks t task ∙ walk.one_each;
            cells = cells_stay plan table table' walk.cells cells;
            columns = columns ∙ walk.columns;
            phases = phases_are;
            forked = λ u other e. elim (cases_eq u t) [
              | inl same ↦
                  let is_task : task ≡ other = itself u other same e in
                  ap (λ (x : TaskRecord). x.forked) (sym is_task) ∙ walk.forked t was read ∙ forked_are t ∙ ap (forked_at plan (done_by b)) (sym same)
              | inr n ↦ walk.forked u other (sym (slice_get-set_other tasks t u task n) ∙ e) ∙ forked_are u
            ];
            settled = λ u other l e. elim (cases_eq u t) [
              | inl same ↦
                  subst (λ v. IsPlaced plan places v other) (sym same) (subst (IsPlaced plan places t) (itself u other same e) settled)
              | inr n ↦ walk.settled u other (omega arith) (sym (slice_get-set_other tasks t u task n) ∙ e)
            ];
          })
        where
          itself : (u : ℕ) (other : TaskRecord) → u ≡ t → slice_get (set tasks t task) u ≡ Some other → task ≡ other
          itself u other same e =
              let one = slice_get-set_same tasks t task (slice_get_within tasks t was read) in
              let two = subst (λ v. slice_get (set tasks t task) v ≡ Some other) same e in
              cc

      -- refused
      module _ (refused : place.refused ≡ true) where
        there : (a t).done ≡ k
        there = done_idle (idle refused)

        abbrev last : ℕ → Place
        last = updated (walked a t) t (a t)

        same_done : done_by last ≡ done_by (walking a t k)
        same_done =
            fun_ext (λ u. elim (cases_eq u t) [
              | inl e ↦
                  subst (λ v. done_by last v ≡ done_by (walking a t k) v) (sym e)
                  (ap (λ v. v.done) (updated_same (walked a t) t t (a t) refl) ∙ there ∙ sym (ap (λ v. v.done) (walking_own a t k)))
              | inr n ↦ ap (λ v. v.done) (updated_other (walked a t) t u (a t) n ∙ sym (walking_other a t k u n))
            ])

        own_left : (q : ℕ) → kept (last t).dropped (phases_at plan (done_by last) t) q ≡ None
        own_left q =
            ap (λ o. kept o (phases_at plan (done_by last) t) q) (ap (λ v. v.dropped) (updated_same (walked a t) t t (a t) refl) ∙ dropped_all refused)
            ∙ ap (λ m. kept (Some (memberships plan t place.events)) m q)
            (ap (λ b. phases_at plan b t) same_done
            ∙ phases_forked plan checked (done_by (walking a t k)) t (forked_upto plan checked a consistent t k t (omega arith) ∙ (stands refused).0)
            ∙ ap (phases_after plan t) (ap (λ v. v.done) (walking_own a t k) ∙ sym there ∙ done_is))
            ∙ kept_none (phases_after plan t place.events) (length plan.makers) (phaser_of_member plan checked t place.events) q

        phases_left : phases_in table' ≡ (state_at plan last).phases
        phases_left =
            phases
            ∙ ap (λ b. cleared b (phases_in table) t) refused
            ∙ fun_ext (λ u. elim (cases_eq u t) [
              | inl e ↦
                  subst (λ v. updated (phases_in table) t (λ _. None) v ≡ (state_at plan last).phases v) (sym e)
                  (updated_same (phases_in table) t t (λ _. None) refl ∙ fun_ext (λ q. sym (own_left q)))
              | inr n ↦
                  updated_other (phases_in table) t u (λ _. None) n
                  ∙ ap (λ f. f u) walk.phases
                  ∙ ap (λ v. kept v.dropped (phases_at plan (done_by (walking a t k)) u)) (walking_other a t k u n ∙ sym (updated_other (walked a t) t u (a t) n))
                  ∙ ap (λ b. kept (last u).dropped (phases_at plan b u)) (sym same_done)
            ])

        settled_refused : IsPlaced plan places t task
        settled_refused =
            let e = event_there (or_true stop.begun place.refused refused) in
            record {
              place = at_place;
              event =
                  e
                  ∙ event_is (stands refused).0
                  ∙ ap (λ n. awaited (action_at plan t n) (phases_after plan t n)) (sym there)
                  ∙ ap (refused_at plan t (a t).done) (sym (dropped_all refused))
                  ∙ ap (event_in (state_at plan a) t) (sym refused);
              within = stops.within;
              events = (let none : begun task ≡ 0 = ap (λ b. if b then 0 else (if is_some event then 1 else 0)) refused in let d = done_is in let h = there in omega arith);
            }
          where
            or_true : (x y : Bool) → y ≡ true → x || y ≡ true
            or_true true y e = refl
            or_true false y e = e

        at_refused : HasWalked plan places (walked a (suc t)) (suc t) (set tasks t task) table'
        at_refused =
            come last (walked_more a last t (updated_same (walked a t) t t (a t) refl) (λ u n. updated_other (walked a t) t u (a t) n)) phases_left
            (λ c. ap (λ b. forked_at plan b c) (sym same_done)) settled_refused

      -- not refused
      module _ (unrefused : place.refused ≡ false) where
        place_there : a t ≡ record { done = place.events; dropped = None }
        place_there = place_is plan places t place at_place ∙ ap (λ b. record { done = place.events; dropped = dropped_at plan t place.events b }) unrefused

        phases_stay : phases_in table' ≡ (state_at plan (walking a t k)).phases
        phases_stay = phases ∙ ap (λ b. cleared b (phases_in table) t) unrefused ∙ walk.phases

        come_to : (n : ℕ) → (a t).done ≡ n → walking a t n ≡ walked a (suc t)
        come_to n e =
            walked_more a (walking a t n) t
            (walking_own a t n ∙ ap (λ m. record { done = m; dropped = None }) (sym e ∙ done_is) ∙ sym place_there)
            (walking_other a t n)

        -- published
        at_begun : stop.begun ≡ true → HasWalked plan places (walked a (suc t)) (suc t) (set tasks t task) table'
        at_begun b =
            let at = blocks b in
            let forked = forked_begun b in
            let e = event_there (or_true stop.begun place.refused b) in
            let is : event ≡ published_after plan t (a t).done =
            e ∙ event_is forked ∙ ap (published_after plan t) (sym (done_begun b)) in
            let member = awaited_some at.0 (phases_after plan t k) (checked.codes.well_formed t k (Blocks at.0) at.1).0 in
            let some : event ≡ Some member.0 = e ∙ event_is forked ∙ ap (λ o. awaited o (phases_after plan t k)) at.1 ∙ member.1 in
            come (walking a t (suc k)) (come_to (suc k) (done_begun b))
            (phases_stay ∙ quiet_phases plan checked a consistent t k few forked (Blocks at.0) at.1 (λ m. refl) (λ u q h. absurd (cc)))
            (quiet_forked plan checked a consistent t k few forked (Blocks at.0) at.1 (λ c. refl))
            (record {
              place = at_place;
              event = is ∙ ap (event_in (state_at plan a) t) (sym unrefused);
              within = stops.within;
              events = (let one = begun_some task member.0 some unrefused in let d = done_is in let h = done_begun b in omega arith);
            })
          where
            or_true : (x y : Bool) → x ≡ true → x || y ≡ true
            or_true true y e = refl
            or_true false y e = absurd (cc)

        -- before its op
        at_idle : stop.begun ≡ false → HasWalked plan places (walked a (suc t)) (suc t) (set tasks t task) table'
        at_idle b =
            let e = event_nowhere (or_none stop.begun place.refused b unrefused) in
            let h = done_idle b in
            come (walking a t k) (come_to k h) phases_stay (λ c. refl)
            (record {
              place = at_place;
              event =
                  e
                  ∙ sym (unpublished_before plan t (a t).done (λ p passes. not_passes op p (sym next ∙ ap (action_at plan t) (sym h) ∙ passes)))
                  ∙ ap (event_in (state_at plan a) t) (sym unrefused);
              within = stops.within;
              events =
                  (let none = begun_none task e in let d = done_is in omega arith);
            })
          where
            or_none : (x y : Bool) → x ≡ false → y ≡ false → x || y ≡ false
            or_none true y e f = absurd (cc)
            or_none false y e f = f

      pub walk_stands : HasWalked plan places (walked a (suc t)) (suc t) (set tasks t task) table'
      walk_stands = go place.refused refl stop.begun refl
        where
          go : (r : Bool) → place.refused ≡ r → (b : Bool) → stop.begun ≡ b → HasWalked plan places (walked a (suc t)) (suc t) (set tasks t task) table'
          go true refused b e = at_refused refused
          go false unrefused true e = at_begun unrefused e
          go false unrefused false e = at_idle unrefused e
