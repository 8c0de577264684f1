-- Each run of a checked plan writes a legal and lasting trace that leads to its state.
use Rattle.std.proofs.Common.{◌≡◌, ℕ, zero, suc, ◌<◌, ◌≤◌, ◌*◌, true, Option, Some, None, List, [], ◌∷◌, ◌++◌, length, refl, sym, ◌∙◌, subst, inl, inr, arith}
use Rattle.std.specs.Prelude.{Contains}
use Rattle.std.proofs.lemmas.Bool.{cases_Bool, cases_eq, lt-leb}
use Rattle.std.proofs.lemmas.List.Elements.{Contains-append_left, Contains-append_right}
use Rattle.std.proofs.lemmas.Option.{slice_get_within}
use Rattle.std.proofs.Math.Nat.{mul-add, mul-one}
use Rattle.armus_base.specs.Plans.{Plan, Action, Makes, Registers, Forks, Advances, Drops, Blocks, Passes, Refuses}
use Rattle.armus_base.specs.States.{IsLegal, State, Step, after, awaited}
use Rattle.armus_base.specs.declared.event.Event.{Event}
use Rattle.armus_base.specs.Runs.{IsLegalRun, state_after}
use Rattle.armus_base.specs.CheckedPlans.{IsCheckedPlan}
use Rattle.armus_base.proofs.Codes.{child_within, phaser_within}
use Rattle.armus_base.specs.Finals.{list_below}
use Rattle.armus_base.proofs.Below.{length-list_below}
use Rattle.armus_base.proofs.ForkedTasks.{forked_within}
use Rattle.armus_base.proofs.Elements.{Contains-head, nothing_in_nil}
use Rattle.armus_base.proofs.Steps.{updated_is}
use Rattle.monitor_laws.specs.Lines.{Announcement, Joins, Arrives, Leaves, Goes, Stands, TraceLine, Announces}
use Rattle.monitor_laws.specs.States.{Participant, after_lines}
use Rattle.monitor_laws.specs.Faults.{last_phase, memberships_in, most_listed, most_memberships, participant_in, phase_on}
use Rattle.monitor_laws.proofs.Lasting.{true_and_ordered_lasts}
use Rattle.monitor_laws.proofs.Lawful.{lawful_lines}
use Rattle.monitor_runs.specs.RunTraces.{IsTraceOfRun, Naming, RunsAreTraces, TellsNumber, join_with, lines_of_run, lines_of_step, wait_on}
use Rattle.monitor_runs.proofs.Counted.{IsCounted, IsFineJoin, counted_after, listed_most, memberships_most}
use Rattle.monitor_runs.proofs.Faultless.{HasRoom}
use Rattle.monitor_runs.proofs.LowPhases.{phases_low}
use Rattle.monitor_runs.proofs.Named.{AllLive, IsNoEnd}
use Rattle.monitor_runs.proofs.OneLine.{IsWritten}
use Rattle.monitor_runs.proofs.OneStep.{one_step}
use Rattle.monitor_runs.proofs.StuckAreDead.{dead_is_stuck, stuck_is_dead}

-- the name of a number below the bound is one of them
in_below : (name : Naming) (n k : ℕ) → k < n → Contains (list_below name n) (name k)
in_below name zero k low = absurd (omega arith)
in_below name (suc n) k low = elim (cases_eq k n) [
  | inl same ↦ Contains-append_right (list_below name n) (name n ∷ []) (name k) (subst (λ x. Contains (name n ∷ []) (name x)) (sym same) (Contains-head (name n) []))
  | inr other ↦ Contains-append_left (list_below name n) (name n ∷ []) (name k) (in_below name n k (omega arith))
]

module _ (plan : Plan) (checked : IsCheckedPlan plan) (task phaser : Naming) (tells : TellsNumber task) (tells_phaser : TellsNumber phaser) where
  abbrev pub all_tasks : List (List ℕ)
  all_tasks = list_below task (length plan.parents)

  abbrev pub all_phasers : List (List ℕ)
  all_phasers = list_below phaser (length plan.makers)

  abbrev pub IsCountedTrace : List TraceLine → Type 0
  IsCountedTrace g = IsCounted (Contains all_tasks) (Contains all_phasers) (after_lines g)

  some_task : 0 < length plan.parents
  some_task = slice_get_within plan.parents 0 None checked.tables.root

  -- a trace of so many tasks and memberships has room
  pub has_room : (g : List TraceLine) → AllLive (after_lines g) → IsCountedTrace g → HasRoom (after_lines g)
  has_room g live counted =
      let listed = listed_most all_tasks all_phasers (after_lines g) live counted in
      let members = memberships_most all_tasks all_phasers (after_lines g) live counted in
      let tasks = length-list_below task (length plan.parents) in
      let members_few : memberships_in (after_lines g) ≤ length plan.parents * length plan.makers =
      subst (λ x. memberships_in (after_lines g) ≤ x * length plan.makers) tasks (subst (λ x. memberships_in (after_lines g) ≤ length all_tasks * x) (length-list_below phaser (length plan.makers)) members) in
      let cells = checked.limits.few_cells in
      let few = checked.limits.few_tasks in
      let add = mul-add (length plan.parents) (length plan.makers) 1 in
      let one = mul-one (length plan.parents) in
      let some = some_task in
      record {
        listed = lt-leb most_listed (length (after_lines g).list) (omega arith);
        memberships = lt-leb most_memberships (memberships_in (after_lines g)) (omega arith);
      }

  counted_line :
      (g : List TraceLine) (s : State) → IsWritten task phaser g s → IsCountedTrace g → (t : ℕ) → t < length plan.parents → (what : Announcement) → IsNoEnd what →
      IsFineJoin (Contains all_phasers) (participant_in (after_lines g) (task t)) what → IsCountedTrace (Announces (task t) what None ∷ g)
  counted_line g s all counted t within what on join =
      counted_after (Contains all_tasks) (Contains all_phasers) (after_lines g) (lawful_lines g) all.live counted (task t) what on (in_below task (length plan.parents) t within) join

  wait_is_fine : (o : Option Event) (u : Participant) → IsNoEnd (wait_on phaser o) × IsFineJoin (Contains all_phasers) u (wait_on phaser o)
  wait_is_fine None u = (tt, tt)
  wait_is_fine (Some e) u = (tt, tt)

  join_is_fine : (p : List ℕ) (o : Option ℕ) (u : Participant) → phase_on u p ≡ None → Contains all_phasers p → IsNoEnd (join_with p o) × IsFineJoin (Contains all_phasers) u (join_with p o)
  join_is_fine p None u none is = (tt, tt)
  join_is_fine p (Some n) u none is = (tt, (none, is))

  -- a run and its trace
  pub record IsWrittenRun (h : List Step) : Type 0 where
    pub written : IsWritten task phaser (lines_of_run task phaser h) (state_after h)
    pub counted : IsCountedTrace (lines_of_run task phaser h)
    pub made : (p : ℕ) → (state_after h).made p ≡ true → p < length plan.makers

  counted_step : (h : List Step) → IsLegalRun plan h → IsWrittenRun h → (t : ℕ) (x : Action) → IsLegal plan (state_after h) t x → IsCountedTrace (lines_of_step task phaser (state_after h) t x ++ lines_of_run task phaser h)
  counted_step h run all t (Makes p) (active, maker, unmade) =
      counted_line (lines_of_run task phaser h) (state_after h) all.written all.counted t (forked_within plan some_task h run t active.forked) (Joins (phaser p) 0) tt
      (all.written.same.phases t p ∙ all.written.unmade p unmade t, in_below phaser (length plan.makers) p (phaser_within plan t p maker))
  counted_step h run all t (Registers c p) (active, parent, unforked, (n, member), fresh) =
      let is_made : (state_after h).made p ≡ true = (elim (cases_Bool ((state_after h).made p)) [ inl made ↦ made | inr none ↦ absurd (let e = all.written.unmade p none t in cc) ]) in
      let fine = join_is_fine (phaser p) ((state_after h).phases t p) (participant_in (after_lines (lines_of_run task phaser h)) (task c)) (all.written.same.phases c p ∙ fresh) (in_below phaser (length plan.makers) p (all.made p is_made)) in
      counted_line (lines_of_run task phaser h) (state_after h) all.written all.counted c (child_within plan t c parent) (join_with (phaser p) ((state_after h).phases t p)) fine.0 fine.1
  counted_step h run all t (Forks c) legal = all.counted
  counted_step h run all t (Advances p) (active, member) =
      counted_line (lines_of_run task phaser h) (state_after h) all.written all.counted t (forked_within plan some_task h run t active.forked) (Arrives (phaser p)) tt tt
  counted_step h run all t (Drops p) legal =
      counted_line (lines_of_run task phaser h) (state_after h) all.written all.counted t (forked_within plan some_task h run t legal.0) (Leaves (phaser p)) tt tt
  counted_step h run all t (Blocks a) (active, member) =
      let fine = wait_is_fine (awaited (Some (Blocks a)) ((state_after h).phases t)) (participant_in (after_lines (lines_of_run task phaser h)) (task t)) in
      counted_line (lines_of_run task phaser h) (state_after h) all.written all.counted t (forked_within plan some_task h run t active.forked) (wait_on phaser (awaited (Some (Blocks a)) ((state_after h).phases t))) fine.0 fine.1
  counted_step h run all t (Passes p) legal =
      counted_line (lines_of_run task phaser h) (state_after h) all.written all.counted t (forked_within plan some_task h run t legal.0) Goes tt tt
  counted_step h run all t (Refuses a) (active, member) =
      counted_line (lines_of_run task phaser h) (state_after h) all.written all.counted t (forked_within plan some_task h run t active.forked) Stands tt tt

  made_after : (s : State) (t : ℕ) (x : Action) → IsLegal plan s t x → ((p : ℕ) → s.made p ≡ true → p < length plan.makers) → (p : ℕ) → (after s t x).made p ≡ true → p < length plan.makers
  made_after s t (Makes q) legal before p made = elim (updated_is s.made q p true true made) [
    | inl here ↦ subst (λ x. x < length plan.makers) (sym here.0) (phaser_within plan t q legal.1)
    | inr other ↦ before p other.1
  ]
  made_after s t (Registers c q) legal before p made = before p made
  made_after s t (Forks c) legal before p made = before p made
  made_after s t (Advances q) legal before p made = before p made
  made_after s t (Drops q) legal before p made = before p made
  made_after s t (Blocks a) legal before p made = before p made
  made_after s t (Passes q) legal before p made = before p made
  made_after s t (Refuses a) legal before p made = before p made

  low : (h : List Step) → IsLegalRun plan h → (t p n : ℕ) → (state_after h).phases t p ≡ Some n → n < last_phase
  low h run t p n at =
      let a = phases_low plan h checked run t p n at in
      let b = checked.limits.few_ops in omega arith

  pub written : (h : List Step) → IsLegalRun plan h → IsWrittenRun h
  written [] run = record {
    written = record {
      legal = tt;
      true_goes = tt;
      ordered = tt;
      live = λ u within. absurd (nothing_in_nil u within);
      same = record { tasks = λ u within. absurd (nothing_in_nil u within); phases = λ t p. refl; waits = λ t. refl };
      unforked = λ c none. refl;
      unmade = λ p none t. refl;
      unsaid = λ p none d within. absurd (nothing_in_nil d within);
    };
    counted = record {
      distinct = tt;
      names = λ u within. absurd (nothing_in_nil u within);
      distinct_phasers = λ u within. absurd (nothing_in_nil u within);
      phasers = λ u within. absurd (nothing_in_nil u within);
    };
    made = λ p made. absurd (let e = made in cc);
  }
  written (e ∷ h) run =
      let before = written h run.0 in
      record {
        written =
            one_step plan task phaser tells tells_phaser (lines_of_run task phaser h) (state_after h) before.written (has_room (lines_of_run task phaser h) before.written.live before.counted) e.task e.action
            (λ p n is at. low h run.0 e.task p n at) run.1.legal;
        counted = counted_step h run.0 before e.task e.action run.1.legal;
        made = made_after (state_after h) e.task e.action run.1.legal before.made;
      }

  is_trace : (h : List Step) → IsLegalRun plan h → IsTraceOfRun task phaser h (lines_of_run task phaser h)
  is_trace h run =
      let all = written h run in
      let g = lines_of_run task phaser h in
      record {
        legal = all.written.legal;
        lasting = true_and_ordered_lasts g all.written.true_goes all.written.ordered;
        same = all.written.same;
        stuck = λ t. (
          stuck_is_dead task phaser tells tells_phaser (after_lines g) (state_after h) (lawful_lines g) all.written.live all.written.same t,
          dead_is_stuck task phaser tells tells_phaser (after_lines g) (state_after h) (lawful_lines g) all.written.live all.written.same t,
        );
      }

pub runs_are_traces : RunsAreTraces
runs_are_traces plan h task phaser checked tells tells_phaser run = is_trace plan checked task phaser tells tells_phaser h run
