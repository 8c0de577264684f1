-- One op of a walk: what becomes of what is kept.
use Rattle.std.proofs.Common.{◌≡◌, ◌≢◌, ℕ, suc, ◌<◌, ◌≤◌, ◌+◌, true, List, Option, Some, None, ◌⊎◌, length, set, arith, sym, ◌∙◌, ap, subst, refl, inl, inr}
use Rattle.std.specs.Prelude.{slice_get, option_map}
use Rattle.std.proofs.lemmas.Bool.{cases_eq}
use Rattle.std.proofs.lemmas.List.{length-set}
use Rattle.std.proofs.lemmas.Option.{slice_get_within}
use Rattle.armus_base.specs.declared.offset.Offset.{Offset}
use Rattle.armus_base.specs.declared.op.Op.{Op}
use Rattle.armus_base.specs.declared.op.Op.TheVariants.{Make, Reg, Fork, Adv, Drop, Await}
use Rattle.armus_base.specs.Plans.{Advances, Blocks, Drops, Forks, Makes, Passes, Plan, Registers, action_at, code_of, Aim}
use Rattle.armus_base.specs.States.{State, after}
use Rattle.armus_base.specs.Runs.{Place}
use Rattle.armus_base.specs.calls.Places.{IsConsistent}
use Rattle.armus_base.specs.Places.{done_by, forked_at, phases_after, state_at}
use Rattle.armus_base.specs.CheckedPlans.{IsCheckedPlan}
use Rattle.armus_base.proofs.Codes.{child_within, passes_next, phaser_within}
use Rattle.armus_base.proofs.PhasesFit.{phases_fit}
use Rattle.armus_base.proofs.Reachable.{reachable_is_fixed}
use Rattle.armus_base.proofs.Steps.{updated_other, updated_same}
use Rattle.pl_core.specs.declared.place.Place.{Place as KeptPlace}
use Rattle.pl_core.specs.declared.task.TaskRecord.{TaskRecord}
use Rattle.pl_core.specs.declared.phase_table.MemberTable.{MemberTable}
use Rattle.pl_core.specs.inside.Changes.{after_fork}
use Rattle.pl_core.specs.inside.Effects.{HasRoomFor}
use Rattle.pl_core.specs.inside.Reachable.{AreReachable}
use Rattle.pl_core.specs.inside.Ops.{action_of, phases_moved}
use Rattle.pl_core.specs.inside.PhaseTables.{KeepsCells, phases_in}
use Rattle.pl_core.proofs.CellsStay.{cells_stay}
use Rattle.pl_core.specs.Tasks.{actions_before}
use Rattle.pl_core.specs.inside.Walks.{ForksBelow, IsPlaced, HasWalked, marked_by, walking, with_forked}
use Rattle.pl_core.specs.calls.Worlds.{places_at}
use Rattle.pl_core.proofs.ChangeKinds.{phases_of_state}
use Rattle.pl_core.proofs.OpCounts.{actions_before-suc, actions_in, await_is_two, one_unless_await}
use Rattle.armus_base.proofs.MemberPhasers.{phaser_of_member}
use Rattle.armus_base.proofs.Lists.{slice_get-set_same, slice_get-set_other}
use Rattle.pl_core.proofs.Standing.{action_of_op}
use Rattle.pl_core.proofs.WalkSteps.{own_phases_here, quiet_forked, quiet_phases, stepped}

no_pass : (op : Op) (p : ℕ) → action_of op ≢ Passes p
no_pass (Make q) p e = absurd (cc)
no_pass (Reg c q) p e = absurd (cc)
no_pass (Fork c) p e = absurd (cc)
no_pass (Adv q) p e = absurd (cc)
no_pass (Drop q) p e = absurd (cc)
no_pass (Await q off) p e = absurd (cc)

-- what an op leaves of what is kept of a task: all, but that it may be forked
pub marked_is :
    (tasks : List TaskRecord) (op : Op) (u : ℕ) (task : TaskRecord) → slice_get (marked_by tasks op) u ≡ Some task →
    (old : TaskRecord) × slice_get tasks u ≡ Some old × (task ≡ old ⊎ task ≡ after_fork old)
marked_is tasks (Fork c) u task e = go (slice_get tasks c.0) refl e
  where
    go : (o : Option TaskRecord) → slice_get tasks c.0 ≡ o → slice_get (with_forked tasks c.0 o) u ≡ Some task →
        (old : TaskRecord) × slice_get tasks u ≡ Some old × (task ≡ old ⊎ task ≡ after_fork old)
    go None none e = (task, e, inl refl)
    go (Some child) is e =
        elim (cases_eq u c.0) [
          | inl same ↦
              let there : slice_get (set tasks c.0 (after_fork child)) u ≡ Some (after_fork child) =
              ap (slice_get (set tasks c.0 (after_fork child))) same ∙ slice_get-set_same tasks c.0 (after_fork child) (slice_get_within tasks c.0 child is) in
              (child, ap (slice_get tasks) same ∙ is, inr (let two : Some task ≡ Some (after_fork child) = sym e ∙ there in cc))
          | inr n ↦ (task, sym (slice_get-set_other tasks c.0 u (after_fork child) n) ∙ e, inl refl)
        ]
marked_is tasks (Make q) u task e = (task, e, inl refl)
marked_is tasks (Reg c q) u task e = (task, e, inl refl)
marked_is tasks (Adv q) u task e = (task, e, inl refl)
marked_is tasks (Drop q) u task e = (task, e, inl refl)
marked_is tasks (Await q off) u task e = (task, e, inl refl)

length-marked : (tasks : List TaskRecord) (op : Op) → length (marked_by tasks op) ≡ length tasks
length-marked tasks (Fork c) = go (slice_get tasks c.0)
  where
    go : (o : Option TaskRecord) → length (with_forked tasks c.0 o) ≡ length tasks
    go None = refl
    go (Some child) = length-set tasks c.0 (after_fork child)
length-marked tasks (Make q) = refl
length-marked tasks (Reg c q) = refl
length-marked tasks (Adv q) = refl
length-marked tasks (Drop q) = refl
length-marked tasks (Await q off) = refl

-- who is forked after an op
forked_marked :
    (s : State) (t : ℕ) (tasks : List TaskRecord) → ((u : ℕ) (task : TaskRecord) → slice_get tasks u ≡ Some task → task.forked ≡ s.forked u) →
    (op : Op) (u : ℕ) (task : TaskRecord) → slice_get (marked_by tasks op) u ≡ Some task → task.forked ≡ (after s t (action_of op)).forked u
forked_marked s t tasks before (Fork c) u task e = go (slice_get tasks c.0) refl e
  where
    go : (o : Option TaskRecord) → slice_get tasks c.0 ≡ o → slice_get (with_forked tasks c.0 o) u ≡ Some task → task.forked ≡ (after s t (Forks c.0)).forked u
    go None none e =
        elim (cases_eq u c.0) [
          | inl same ↦ absurd (let two = ap (slice_get tasks) same in cc)
          | inr n ↦ before u task e ∙ sym (updated_other s.forked c.0 u true n)
        ]
    go (Some child) is e =
        elim (cases_eq u c.0) [
          | inl same ↦
              let there : slice_get (set tasks c.0 (after_fork child)) u ≡ Some (after_fork child) =
              ap (slice_get (set tasks c.0 (after_fork child))) same ∙ slice_get-set_same tasks c.0 (after_fork child) (slice_get_within tasks c.0 child is) in
              let both : task ≡ after_fork child = (let two : Some task ≡ Some (after_fork child) = sym e ∙ there in cc) in
              ap (λ (k : TaskRecord). k.forked) both ∙ sym (updated_same s.forked c.0 u true same)
          | inr n ↦ before u task (sym (slice_get-set_other tasks c.0 u (after_fork child) n) ∙ e) ∙ sym (updated_other s.forked c.0 u true n)
        ]
forked_marked s t tasks before (Make q) u task e = before u task e
forked_marked s t tasks before (Reg c q) u task e = before u task e
forked_marked s t tasks before (Adv q) u task e = before u task e
forked_marked s t tasks before (Drop q) u task e = before u task e
forked_marked s t tasks before (Await q off) u task e = before u task e

-- a task that is forked stays settled
settled_forked : (plan : Plan) (places : List KeptPlace) (u : ℕ) (task : TaskRecord) → IsPlaced plan places u task → IsPlaced plan places u (after_fork task)
settled_forked plan places u task is = record { place = is.place; event = is.event; within = is.within; events = is.events }

module _ (plan : Plan) (checked : IsCheckedPlan plan) (places : List KeptPlace) (given : AreReachable plan places) (t : ℕ) where
  abbrev a : ℕ → Place
  a = places_at plan places

  pub given_consistent : IsConsistent plan a
  given_consistent = (reachable_is_fixed plan a checked given.reachable).1

  -- other places at which the phases and the forked tasks are the same
  pub walk_same :
      (b b' : ℕ → Place) (tasks : List TaskRecord) (table : MemberTable) → HasWalked plan places b t tasks table →
      (state_at plan b).phases ≡ (state_at plan b').phases → ((c : ℕ) → forked_at plan (done_by b) c ≡ forked_at plan (done_by b') c) →
      HasWalked plan places b' t tasks table
  walk_same b b' tasks table walk phases forked =
      record {
        checked = walk.checked;
        one_each = walk.one_each;
        cells = walk.cells;
        columns = walk.columns;
        phases = walk.phases ∙ phases;
        forked = λ u task e. walk.forked u task e ∙ forked u;
        settled = walk.settled;
      }

  module _ (tasks : List TaskRecord) (table : MemberTable) (n : ℕ) (op : Op) (is : slice_get (code_of plan t) n ≡ Some op)
      (walk : HasWalked plan places (walking a t (actions_before (code_of plan t) n)) t tasks table) (few : actions_before (code_of plan t) n < (a t).done)
    where
      abbrev k : ℕ
      k = actions_before (code_of plan t) n

      within : n < length (code_of plan t)
      within = slice_get_within (code_of plan t) n op is

      next : action_at plan t k ≡ Some (action_of op)
      next = action_of_op plan t n k (let w = within in omega arith) refl ∙ ap (option_map action_of) is

      forked_there : forked_at plan (done_by a) t ≡ true
      forked_there = given_consistent.begun t (omega arith)

      -- the op is one that the tables have room for
      member_bound : (p m : ℕ) → phases_after plan t k p ≡ Some m → p < table.phasers
      member_bound p m e = (let l = phaser_of_member plan checked t k p m e in let c = walk.columns in omega arith)

      own_row : (p m : ℕ) → phases_in table t p ≡ Some m → phases_after plan t k p ≡ Some m
      own_row p m e =
          ap (λ f. f p) (sym (own_phases_here plan checked a given_consistent t k (omega arith) forked_there))
          ∙ ap (λ f. f t p) (sym walk.phases) ∙ e

      fits : (p m : ℕ) → phases_in table t p ≡ Some m → m + 1 < 4294967296
      fits p m e =
          let f = phases_fit plan t k p m checked (own_row p m e) in
          let few = checked.limits.few_ops in
          omega arith

      pub room : t < length plan.parents → HasRoomFor table t op
      room inside = go op is next
        where
          go : (o : Op) → slice_get (code_of plan t) n ≡ Some o → action_at plan t k ≡ Some (action_of o) → HasRoomFor table t o
          go (Make p) i e =
              let w = phaser_within plan t p.0 (checked.codes.well_formed t k (Makes p.0) e).0 in (
                (let c = walk.columns in omega arith),
                walk.cells t t p.0 inside inside w (n, Make p, i, (refl, refl)),
              )
          go (Reg c p) i e =
              let w = checked.codes.well_formed t k (Registers c.0 p.0) e in (
                member_bound p.0 w.3.0 w.3.1,
                walk.cells t c.0 p.0 inside (child_within plan t c.0 w.0) (phaser_of_member plan checked t k p.0 w.3.0 w.3.1) (n, Reg c p, i, (refl, refl)),
              )
          go (Fork c) i e = tt
          go (Adv p) i e =
              let w = checked.codes.well_formed t k (Advances p.0) e in (member_bound p.0 w.0 w.1, fits p.0)
          go (Drop p) i e = (let w = checked.codes.well_formed t k (Drops p.0) e in member_bound p.0 w.0 w.1)
          go (Await p off) i e = tt

      pub child_here : ForksBelow (length tasks) op
      child_here = go op next
        where
          go : (o : Op) → action_at plan t k ≡ Some (action_of o) → ForksBelow (length tasks) o
          go (Fork c) e =
              let w = checked.codes.well_formed t k (Forks c.0) e in
              let b = child_within plan t c.0 w.0 in
              let one = walk.one_each in
              omega arith
          go (Make p) e = tt
          go (Reg c p) e = tt
          go (Adv p) e = tt
          go (Drop p) e = tt
          go (Await p off) e = tt

      module _ (table' : MemberTable) (cells : KeepsCells table table') (columns : table'.phasers ≡ table.phasers)
          (phases : phases_in table' ≡ phases_moved (phases_in table) t (action_of op)) where
        state_next : after (state_at plan (walking a t k)) t (action_of op) ≡ state_at plan (walking a t (suc k))
        state_next = stepped plan checked a given_consistent t k (omega arith) forked_there (action_of op) next (no_pass op)

        -- its first action
        first_action : HasWalked plan places (walking a t (suc k)) t (marked_by tasks op) table'
        first_action =
            record {
              checked = walk.checked;
              one_each = length-marked tasks op ∙ walk.one_each;
              cells = cells_stay plan table table' walk.cells cells;
              columns = columns ∙ walk.columns;
              phases =
                  phases
                  ∙ ap (λ f. phases_moved f t (action_of op)) walk.phases
                  ∙ phases_of_state (state_at plan (walking a t k)) t (action_of op)
                  ∙ ap (λ s. s.phases) state_next;
              forked = λ u task e.
                  forked_marked (state_at plan (walking a t k)) t tasks walk.forked op u task e ∙ ap (λ s. s.forked u) state_next;
              settled = λ u task l e.
                  (let old = marked_is tasks op u task e in
                  let before = walk.settled u old.0 l old.1 in
                  elim old.2 [
                    | inl same ↦ subst (IsPlaced plan places u) (sym same) before
                    | inr forked ↦ subst (IsPlaced plan places u) (sym forked) (settled_forked plan places u old.0 before)
                  ]);
            }

        -- and the pass of an await
        second_action : (aim : Aim) → action_at plan t k ≡ Some (Blocks aim) → suc k < (a t).done → HasWalked plan places (walking a t (suc (suc k))) t (marked_by tasks op) table'
        second_action aim e l =
            let passes = passes_next plan t k aim e in
            walk_same (walking a t (suc k)) (walking a t (suc (suc k))) (marked_by tasks op) table' first_action
            (quiet_phases plan checked a given_consistent t (suc k) (omega arith) forked_there (Passes aim.phaser) passes (λ m. refl) (λ u q e. absurd (cc)))
            (quiet_forked plan checked a given_consistent t (suc k) (omega arith) forked_there (Passes aim.phaser) passes (λ c. refl))

        pub walk_more :
            actions_before (code_of plan t) (suc n) ≤ (a t).done →
            HasWalked plan places (walking a t (actions_before (code_of plan t) (suc n))) t (marked_by tasks op) table'
        walk_more less = go op refl
          where
            one_more : actions_in op ≡ 1 → HasWalked plan places (walking a t (actions_before (code_of plan t) (suc n))) t (marked_by tasks op) table'
            one_more one =
                let more = actions_before-suc (code_of plan t) n op is in
                let same : suc k ≡ actions_before (code_of plan t) (suc n) = omega arith in
                subst (λ m. HasWalked plan places (walking a t m) t (marked_by tasks op) table') same first_action

            two_more : (p : _) (off : Offset) → op ≡ Await p off → HasWalked plan places (walking a t (actions_before (code_of plan t) (suc n))) t (marked_by tasks op) table'
            two_more p off e =
                let more = actions_before-suc (code_of plan t) n op is in
                let two = ap actions_in e ∙ await_is_two p off in
                let same : suc (suc k) ≡ actions_before (code_of plan t) (suc n) = omega arith in
                subst (λ m. HasWalked plan places (walking a t m) t (marked_by tasks op) table') same
                (second_action (record { phaser = p.0; off = off }) (next ∙ ap (λ o. Some (action_of o)) e) (omega arith))

            go : (o : Op) → op ≡ o → HasWalked plan places (walking a t (actions_before (code_of plan t) (suc n))) t (marked_by tasks op) table'
            go (Await p off) e = two_more p off e
            go (Make p) e = one_more (ap actions_in e ∙ one_unless_await (Make p) (λ q h. absurd (cc)))
            go (Reg c p) e = one_more (ap actions_in e ∙ one_unless_await (Reg c p) (λ q h. absurd (cc)))
            go (Fork c) e = one_more (ap actions_in e ∙ one_unless_await (Fork c) (λ q h. absurd (cc)))
            go (Adv p) e = one_more (ap actions_in e ∙ one_unless_await (Adv p) (λ q h. absurd (cc)))
            go (Drop p) e = one_more (ap actions_in e ∙ one_unless_await (Drop p) (λ q h. absurd (cc)))
