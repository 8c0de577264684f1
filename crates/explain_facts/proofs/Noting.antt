-- A walk along the codes of the tasks, op by op: the phases of all tasks, and the statements from which awaits come.
use mathlib.Core.Path.{fun_ext}
use Rattle.std.proofs.Common.{◌≡◌, ◌≢◌, ◌∙◌, ◌+◌, ◌<◌, ◌&&◌, ◌||◌, ℕ, suc, Bool, true, false, List, Option, Some, None, ap, arith, length, refl, replicate, slice_index_or, subst, sym, inl, inr, take}
use Rattle.std.specs.Prelude.{option_map, slice_get}
use Rattle.std.proofs.lemmas.Bool.{cases_eq}
use Rattle.std.proofs.lemmas.List.{get_or-replicate, length-replicate, take_all}
use Rattle.std.proofs.lemmas.Option.{slice_get_within}
use Rattle.armus_base.specs.declared.event.Event.{Event}
use Rattle.armus_base.specs.declared.offset.Offset.{Offset}
use Rattle.armus_base.specs.declared.op.Op.{Op}
use Rattle.armus_base.specs.declared.op.Op.TheVariants.{Make, Reg, Fork, Adv, Drop, Await}
use Rattle.armus_base.specs.Plans.{Action, Advances, Aim, Blocks, Drops, Makes, Passes, Plan, Registers, action_at, actions, actions_of, code_of}
use Rattle.armus_base.specs.States.{awaited}
use Rattle.armus_base.specs.Runs.{Place}
use Rattle.armus_base.specs.calls.Places.{IsConsistent}
use Rattle.armus_base.specs.Places.{done_by, forked_at, phases_after, some_before, state_at}
use Rattle.armus_base.specs.CheckedPlans.{IsCheckedPlan}
use Rattle.armus_base.proofs.Codes.{awaited_is, child_within, passes_next, phaser_within}
use Rattle.armus_base.proofs.Fixed.{forked_at_from, root_forked}
use Rattle.armus_base.proofs.Lists.{some_at}
use Rattle.armus_base.proofs.MemberPhasers.{phaser_of_member}
use Rattle.armus_base.proofs.PhasesFit.{phases_fit}
use Rattle.armus_base.proofs.Stepping.{opening_fixed}
use Rattle.pl_core.specs.Tasks.{actions_before}
use Rattle.pl_core.specs.inside.Ops.{action_of, phases_moved}
use Rattle.pl_core.specs.inside.Walks.{walked, walking}
use Rattle.pl_core.proofs.ChangeKinds.{phases_of_state}
use Rattle.pl_core.proofs.OpCounts.{actions_before-suc, actions_in, await_is_two, one_unless_await}
use Rattle.pl_core.proofs.Standing.{action_of_op}
use Rattle.pl_core.proofs.WalkSteps.{own_phases_here, quiet_phases, stepped}
use Rattle.pl_core.proofs.Walking.{walked_from, walked_more, walking_first, walking_other, walking_own}
use Rattle.pl_syntax.specs.Tree.{count}
use Rattle.pl_syntax.specs.declared.tree.Program.{Program}
use Rattle.source_map.specs.Origins.{op_origin}
use Rattle.explain_facts.specs.ImmediateAwaits.{comes_and_awaits, event_at_op, is_late, is_that_number, is_shared, some_op_awaits}
use Rattle.explain_facts.specs.calls.Used.{AreUsed}
use Rattle.explain_facts.specs.declared.immediate.AwaitWalk.{AwaitWalk}
use Rattle.explain_facts.specs.declared.phase_rows.PhaseRows.{PhaseRows}
use Rattle.explain_facts.specs.declared.uses.PhaserUse.TheVariants.{Registers}
use Rattle.explain_facts.specs.inside.Marked.{HaveMarks}
use Rattle.explain_facts.specs.inside.Noted.{AreMarksAt, HasWalkedTo, all_done, awaited_by, is_marked_event, is_marked_number}
use Rattle.explain_facts.specs.inside.PhaseRows.{HaveRowCells, HasRowRoom, KeepsRowCells, phases_in_rows}

-- ---- where all tasks have made all their actions

action_within : (plan : Plan) (t k : ℕ) (x : Action) → action_at plan t k ≡ Some x → k < length (actions plan t)
unfolding action_at
action_within plan t k x is = slice_get_within (actions plan t) k x is

first_action : (plan : Plan) (t : ℕ) → 0 < length (actions plan t) → (x : Action) × (action_at plan t 0 ≡ Some x)
unfolding action_at
first_action plan t more = some_at (actions plan t) 0 more

module _ (plan : Plan) (checked : IsCheckedPlan plan) where
  forked_then : (t : ℕ) → 0 < length (actions plan t) → forked_at plan (done_by (all_done plan)) t ≡ true
  forked_then t more =
      elim (cases_eq t 0) [
        | inl none ↦ subst (λ u. forked_at plan (done_by (all_done plan)) u ≡ true) (sym none) (root_forked plan (done_by (all_done plan)))
        | inr other ↦
            let (x, is) = first_action plan t more in
            let (j, forks_it) = checked.codes.works t 0 x (omega (arith, other)) is in
            forked_at_from plan (done_by (all_done plan)) t j (action_within plan _ j _ forks_it) forks_it
      ]

  pub all_done_consistent : IsConsistent plan (all_done plan)
  all_done_consistent = record { begun = λ t more. forked_then t more; refused = λ t q e. absurd (cc) }

  -- ---- before the first task, and behind one

  pub phases_first : (λ _ _. None) ≡ (state_at plan (walking (all_done plan) 0 0)).phases
  phases_first =
      ap (λ s. s.phases) (opening_fixed plan checked ∙ ap (state_at plan) (fun_ext (λ u. sym (walked_from (all_done plan) 0 u (omega arith)))))
      ∙ ap (λ b. (state_at plan b).phases) (walking_first (all_done plan) 0)

all_actions : (plan : Plan) (t i : ℕ) → i ≡ length (code_of plan t) → actions_before (code_of plan t) i ≡ length (actions plan t)
unfolding actions
all_actions plan t i all = ap (λ ops. length (actions_of ops)) (ap (λ n. take n (code_of plan t)) all ∙ take_all (length (code_of plan t)) (code_of plan t) (omega arith))

pub walked_on : (plan : Plan) (t i : ℕ) → i ≡ length (code_of plan t) →
    walking (all_done plan) t (actions_before (code_of plan t) i) ≡ walking (all_done plan) (suc t) 0
walked_on plan t i all =
    let a = all_done plan in
    let n = actions_before (code_of plan t) i in
    walked_more a (walking a t n) t (walking_own a t n ∙ ap (λ m. record { done = m; dropped = None }) (all_actions plan t i all)) (walking_other a t n)
    ∙ walking_first a (suc t)

-- ---- an op

no_pass : (op : Op) (p : ℕ) → action_of op ≢ Passes p
no_pass (Make q) p e = absurd (cc)
no_pass (Reg c q) p e = absurd (cc)
no_pass (Fork c) p e = absurd (cc)
no_pass (Adv q) p e = absurd (cc)
no_pass (Drop q) p e = absurd (cc)
no_pass (Await q off) p e = absurd (cc)

module _ (plan : Plan) (checked : IsCheckedPlan plan) (t i : ℕ) (op : Op) (is : slice_get (code_of plan t) i ≡ Some op) where
  abbrev a : ℕ → Place
  a = all_done plan

  abbrev k : ℕ
  k = actions_before (code_of plan t) i

  within : i < length (code_of plan t)
  within = slice_get_within (code_of plan t) i op is

  next : action_at plan t k ≡ Some (action_of op)
  next = action_of_op plan t i k (let w = within in omega arith) refl ∙ ap (option_map action_of) is

  few : k < (a t).done
  few = action_within plan t k (action_of op) next

  forked : forked_at plan (done_by a) t ≡ true
  forked = (all_done_consistent plan checked).begun t (let f = few in omega arith)

  module _ (rows : PhaseRows) (phases : phases_in_rows rows ≡ (state_at plan (walking a t k)).phases) where
    own_row : phases_in_rows rows t ≡ phases_after plan t k
    own_row = ap (λ f. f t) phases ∙ own_phases_here plan checked a (all_done_consistent plan checked) t k (let f = few in omega arith) forked

    -- what the task is about to await
    pub about_to_await : awaited_by op (phases_in_rows rows t) ≡ event_at_op plan t i
    about_to_await = ap (awaited (Some (action_of op))) own_row ∙ ap (λ o. awaited o (phases_after plan t k)) (sym next)

    member_within : (q m : ℕ) → phases_after plan t k q ≡ Some m → q < length plan.makers
    member_within q m e = phaser_of_member plan checked t k q m e

    fits : (q m : ℕ) → phases_in_rows rows t q ≡ Some m → m + 1 < 4294967296
    fits q m e =
        let f = phases_fit plan t k q m checked (ap (λ f. f q) (sym own_row) ∙ e) in
        let few_ops = checked.limits.few_ops in
        omega arith

    -- there is room for what it does
    pub room : t < length plan.parents → HaveRowCells (length plan.parents) (length plan.makers) rows → HasRowRoom rows t op
    room inside cells = go op next
      where
        go : (o : Op) → action_at plan t k ≡ Some (action_of o) → HasRowRoom rows t o
        go (Make q) e = cells t q.0 inside (phaser_within plan t q.0 (checked.codes.well_formed t k (Makes q.0) e).0)
        go (Reg c q) e =
            let w = checked.codes.well_formed t k (Registers c.0 q.0) e in
            cells c.0 q.0 (child_within plan t c.0 w.0) (member_within q.0 w.3.0 w.3.1)
        go (Fork c) e = tt
        go (Adv q) e =
            let w = checked.codes.well_formed t k (Advances q.0) e in (cells t q.0 inside (member_within q.0 w.0 w.1), fits q.0)
        go (Drop q) e = (let w = checked.codes.well_formed t k (Drops q.0) e in cells t q.0 inside (member_within q.0 w.0 w.1))
        go (Await q off) e = tt

    module _ (rows' : PhaseRows) (moved : phases_in_rows rows' ≡ phases_moved (phases_in_rows rows) t (action_of op)) where
      first_made : phases_in_rows rows' ≡ (state_at plan (walking a t (suc k))).phases
      first_made =
          moved
          ∙ ap (λ f. phases_moved f t (action_of op)) phases
          ∙ phases_of_state (state_at plan (walking a t k)) t (action_of op)
          ∙ ap (λ s. s.phases)
          (stepped plan checked a (all_done_consistent plan checked) t k (let f = few in omega arith) forked (action_of op) next (no_pass op))

      second_made : (aim : Aim) → action_at plan t k ≡ Some (Blocks aim) → phases_in_rows rows' ≡ (state_at plan (walking a t (suc (suc k)))).phases
      second_made aim blocks =
          let passes = passes_next plan t k aim blocks in
          first_made
          ∙ quiet_phases plan checked a (all_done_consistent plan checked) t (suc k) (let f = action_within plan t (suc k) (Passes aim.phaser) passes in omega arith)
          forked (Passes aim.phaser) passes (λ m. refl) (λ u q e. absurd (cc))

      pub phases_made : phases_in_rows rows' ≡ (state_at plan (walking a t (actions_before (code_of plan t) (suc i)))).phases
      phases_made = go op refl
        where
          one_more : actions_in op ≡ 1 → phases_in_rows rows' ≡ (state_at plan (walking a t (actions_before (code_of plan t) (suc i)))).phases
          one_more one =
              let more = actions_before-suc (code_of plan t) i op is in
              let same : suc k ≡ actions_before (code_of plan t) (suc i) = omega arith in
              subst (λ m. phases_in_rows rows' ≡ (state_at plan (walking a t m)).phases) same first_made

          two_more : (q : _) (off : Offset) → op ≡ Await q off → phases_in_rows rows' ≡ (state_at plan (walking a t (actions_before (code_of plan t) (suc i)))).phases
          two_more q off e =
              let more = actions_before-suc (code_of plan t) i op is in
              let two = ap actions_in e ∙ await_is_two q off in
              let same : suc (suc k) ≡ actions_before (code_of plan t) (suc i) = omega arith in
              subst (λ m. phases_in_rows rows' ≡ (state_at plan (walking a t m)).phases) same
              (second_made (record { phaser = q.0; off = off }) (next ∙ ap (λ o. Some (action_of o)) e))

          go : (o : Op) → op ≡ o → phases_in_rows rows' ≡ (state_at plan (walking a t (actions_before (code_of plan t) (suc i)))).phases
          go (Await q off) e = two_more q off e
          go (Make q) e = one_more (ap actions_in e ∙ one_unless_await (Make q) (λ r h. absurd (cc)))
          go (Reg c q) e = one_more (ap actions_in e ∙ one_unless_await (Reg c q) (λ r h. absurd (cc)))
          go (Fork c) e = one_more (ap actions_in e ∙ one_unless_await (Fork c) (λ r h. absurd (cc)))
          go (Adv q) e = one_more (ap actions_in e ∙ one_unless_await (Adv q) (λ r h. absurd (cc)))
          go (Drop q) e = one_more (ap actions_in e ∙ one_unless_await (Drop q) (λ r h. absurd (cc)))

-- the phaser of an event that an op awaits is one of the plan
event_within : (plan : Plan) (checked : IsCheckedPlan plan) (t i : ℕ) (e : Event) (o : Option Action) → action_at plan t (actions_before (code_of plan t) i) ≡ o →
    awaited o (phases_after plan t (actions_before (code_of plan t) i)) ≡ Some e → e.p.0 < length plan.makers
event_within plan checked t i e (Some (Blocks aim)) at is =
    let (same, (n, member, far)) = awaited_is aim (phases_after plan t (actions_before (code_of plan t) i)) e is in
    let here = phaser_of_member plan checked t (actions_before (code_of plan t) i) aim.phaser n member in
    omega (arith, same, here)
event_within plan checked t i e (Some (Makes q)) at is = absurd (cc)
event_within plan checked t i e (Some (Registers c q)) at is = absurd (cc)
event_within plan checked t i e (Some (Advances q)) at is = absurd (cc)
event_within plan checked t i e (Some (Drops q)) at is = absurd (cc)
event_within plan checked t i e (Some (Passes q)) at is = absurd (cc)
event_within plan checked t i e o at is = absurd (cc)

pub shared_is : (plan : Plan) (checked : IsCheckedPlan plan) (marks : List Bool) → AreUsed Registers plan marks → (t i : ℕ) →
    is_marked_event marks (event_at_op plan t i) ≡ is_shared plan (event_at_op plan t i)
shared_is plan checked marks used t i = go (event_at_op plan t i) refl
  where
    go : (o : Option Event) → event_at_op plan t i ≡ o → is_marked_event marks o ≡ is_shared plan o
    go None e = refl
    go (Some e) is = used.each e.p.0 (event_within plan checked t i e (action_at plan t (actions_before (code_of plan t) i)) refl is)

-- ---- marks

or_moved : (a b c : Bool) → (a || (b || c)) ≡ ((a || b) || c)
or_moved true b c = refl
or_moved false b c = refl

module _ (test : Option Event → Bool) (p : Program) (plan : Plan) where
  pub marks_first : (marks : List Bool) (n : ℕ) → marks ≡ replicate n false → n ≡ count p.body + 1 → AreMarksAt test p plan 0 0 marks
  marks_first marks n is all = record {
    sized = ap length is ∙ length-replicate n false ∙ all;
    each = λ q within. ap (λ xs. slice_index_or xs q false) is ∙ get_or-replicate n q false false (omega (arith, within, all));
  }

  pub marks_next : (t i : ℕ) (n : Option ℕ) (b : Bool) (marks marks' : List Bool) → AreMarksAt test p plan t i marks → n ≡ op_origin p t i →
      b ≡ test (event_at_op plan t i) → HaveMarks (is_marked_number n b) marks marks' → AreMarksAt test p plan t (suc i) marks'
  marks_next t i n b marks marks' are from so have = record {
    sized = have.sized ∙ are.sized;
    each = λ q within.
        let rest = some_before (λ u. some_op_awaits test p plan q u (length (code_of plan u))) t in
        have.each q (omega (arith, within, are.sized))
        ∙ ap (λ x. is_marked_number n b q || x) (are.each q within)
        ∙ ap (λ m. (is_that_number q m && b) || (some_op_awaits test p plan q t i || rest)) from
        ∙ ap (λ c. (is_that_number q (op_origin p t i) && c) || (some_op_awaits test p plan q t i || rest)) so
        ∙ or_moved (comes_and_awaits test p plan q t i) (some_op_awaits test p plan q t i) rest;
  }

  pub marks_on : (t i : ℕ) (marks : List Bool) → AreMarksAt test p plan t i marks → i ≡ length (code_of plan t) → AreMarksAt test p plan (suc t) 0 marks
  marks_on t i marks are all = record {
    sized = are.sized;
    each = λ q within.
        are.each q within
        ∙ ap (λ n. some_op_awaits test p plan q t n || some_before (λ u. some_op_awaits test p plan q u (length (code_of plan u))) t) all;
  }

-- ---- the walk

pub walk_next : (p : Program) (plan : Plan) (checked : IsCheckedPlan plan) (registered : List Bool) → AreUsed Registers plan registered → (t i : ℕ) (op : Op) →
    slice_get (code_of plan t) i ≡ Some op → (n : Option ℕ) → n ≡ op_origin p t i → (w w' : AwaitWalk) → HasWalkedTo p plan t i w →
    KeepsRowCells w.phases w'.phases → phases_in_rows w'.phases ≡ phases_moved (phases_in_rows w.phases) t (action_of op) →
    HaveMarks (is_marked_number n (is_marked_event registered (awaited_by op (phases_in_rows w.phases t)))) w.shared.items w'.shared.items →
    HaveMarks (is_marked_number n (is_late (awaited_by op (phases_in_rows w.phases t)))) w.late.items w'.late.items → HasWalkedTo p plan t (suc i) w'
walk_next p plan checked registered used t i op is n from w w' walked cells moved shared late =
    let event = about_to_await plan checked t i op is w.phases walked.phases in
    record {
      cells = λ u q below within. cells u q (walked.cells u q below within);
      phases = phases_made plan checked t i op is w.phases walked.phases w'.phases moved;
      shared =
          marks_next (is_shared plan) p plan t i n _ w.shared.items w'.shared.items walked.shared from
          (ap (is_marked_event registered) event ∙ shared_is plan checked registered used t i) shared;
      late = marks_next is_late p plan t i n _ w.late.items w'.late.items walked.late from (ap is_late event) late;
    }

pub walk_on : (p : Program) (plan : Plan) (t i : ℕ) (w : AwaitWalk) → HasWalkedTo p plan t i w → i ≡ length (code_of plan t) → HasWalkedTo p plan (suc t) 0 w
walk_on p plan t i w walked all = record {
  cells = walked.cells;
  phases = walked.phases ∙ ap (λ b. (state_at plan b).phases) (walked_on plan t i all);
  shared = marks_on (is_shared plan) p plan t i w.shared.items walked.shared all;
  late = marks_on is_late p plan t i w.late.items walked.late all;
}
