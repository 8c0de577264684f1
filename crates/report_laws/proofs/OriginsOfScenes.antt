-- The statements and names that are told of a program without a fault are those that its stages give.
use Rattle.std.proofs.Common.{◌≡◌, ℕ, zero, suc, ◌+◌, ◌-◌, ◌<◌, ◌≤◌, Bool, if◌then◌else◌, Option, Some, None, List, [], length, arith, sym, ◌∙◌, ap, subst, refl}
use Rattle.std.specs.Prelude.{Contains, is_some, option_map, slice_index_or}
use Rattle.std.specs.List.{flat_map, slice_get}
use Rattle.std.proofs.lemmas.Option.{slice_get-map}
use Rattle.armus_base.proofs.Lists.{some_at}
use Rattle.pl_syntax.specs.declared.tree.Program.{Program}
use Rattle.pl_syntax.specs.Tree.{adv, await, dereg, new_phaser, new_task, reg, skip}
use Rattle.pl_plan.specs.Forks.{fork_of}
use Rattle.pl_plan.specs.Stages.{Stage, StagesLead, all_stages, comes}
use Rattle.pl_plan.specs.Tests.{is_forked, of_new_phaser, of_new_task}
use Rattle.pl_plan.specs.Unfolding.{Coming, Start, UnfoldingState, a_fork, a_loop, a_plain, a_turn, opening_state, visit}
use Rattle.source_map.specs.Origins.{fork_origin, statement_in, statements_of_all, statements_where, visits_by, visits_of_task, written_statements}
use Rattle.source_map.specs.calls.OriginLaws.{statement_of}
use Rattle.source_map.proofs.TasksVisits.{fork_by_start}
use Rattle.source_map.proofs.WrittenStatements.{visits_are_of_text}
use Rattle.explain_facts.specs.Names.{given_name}
use Rattle.explain_check.specs.Deeds.{did_draw, did_fork, did_make, last_that, name_given, stage_statement}
use Rattle.report_laws.specs.OriginsOfScenes.{OriginsAreThoseOfScenes}
use Rattle.report_laws.proofs.StagesOfVisits.{all_counted, last_is, of_task, phasers_are_counted, stages_where, statements_all, statements_of, tasks_are_counted}
use Rattle.report_laws.proofs.StagesThatFork.{Forks, forks_not, forks_once, start_in, stages_even, stages_fork}
use Rattle.report_laws.proofs.StagesUnfold.{same_starts}

-- ---- what was drawn or made

-- the name that a coming gives
name_so : (t n : ℕ) (c : Coming) → given_name (Some (statement_of c)) ≡ name_given (Some (comes t (visit n c)))
name_so t n (a_plain (new_task x)) = refl
name_so t n (a_plain (new_phaser x)) = refl
name_so t n (a_plain (reg x y)) = refl
name_so t n (a_plain (dereg x)) = refl
name_so t n (a_plain (adv x)) = refl
name_so t n (a_plain (await x off)) = refl
name_so t n (a_plain skip) = refl
name_so t n (a_fork x body) = refl
name_so t n a_loop = refl
name_so t n a_turn = refl

numbered : (statements : List Coming) (n : ℕ) → 1 ≤ n → statement_in statements n ≡ slice_get statements (n - 1)
numbered statements zero l = absurd (omega (arith, l))
numbered statements (suc n) l = ap (slice_get statements) (let z : n ≡ suc n - 1 = omega arith in z)

module _ (program : Program) (stages : List Stage) (end : UnfoldingState) (leads : StagesLead program.two [] stages (opening_state program.body) end)
    (all : all_stages program.two end ≡ stages) where
  even : length end.starts ≡ length end.plan.parents
  even = stages_even program.two [] stages (opening_state program.body) end leads refl

  -- what is told of task or phaser number i of those that are drawn or made is that of the last stage that did it
  record Tells (test : Coming → Bool) (i : ℕ) (last : Option Stage) : Type 0 where
    statement : slice_get (statements_of_all test program) i ≡ Some (stage_statement last)
    name : given_name (statement_in (written_statements program.body) (stage_statement last)) ≡ name_given last

  tells : (test : Coming → Bool) (i : ℕ) (last : Option Stage) → last ≡ slice_get (stages_where test stages) i → i < length (stages_where test stages) → Tells test i last
  tells test i last is few =
      let (v, there) = some_at (stages_where test stages) i few in
      let by = of_task test program.two (length end.plan.parents) i end v (ap (λ z. slice_get (stages_where test z) i) all ∙ there) in
      let last_is : last ≡ Some (comes by.task by.by) = is ∙ there ∙ ap Some by.is in
      let starts = same_starts program stages end leads all in
      let among : Contains (visits_of_task program by.task) by.by =
      subst (λ ss. Contains (visits_by (slice_index_or ss by.task None)) by.by) (sym starts) by.among in
      let text = visits_are_of_text program by.task by.by among in
      let statements : statements_of test (stages_where test stages) ≡ statements_of_all test program =
      ap (λ z. statements_of test (stages_where test z)) (sym all)
      ∙ statements_all test program.two (length end.plan.parents) end (omega (arith, even))
      ∙ ap (flat_map (λ o. statements_where test (visits_by o))) (sym starts) in
      record {
        statement = ap (λ z. slice_get z i) (sym statements) ∙ slice_get-map (λ w. stage_statement (Some w)) (stages_where test stages) i
            ∙ ap (option_map (λ w. stage_statement (Some w))) there
            ∙ ap (λ o. Some (stage_statement o)) (sym there ∙ sym is);
        name = ap (λ o. given_name (statement_in (written_statements program.body) (stage_statement o))) last_is
            ∙ ap given_name (numbered (written_statements program.body) by.by.statement text.0 ∙ text.1) ∙ name_so by.task by.by.statement by.by.coming ∙ ap name_given (sym last_is);
      }

  abbrev first : UnfoldingState
  first = opening_state program.body

  task_tells : (c : ℕ) → suc c < length end.plan.parents → Tells of_new_task c (last_that (did_draw (suc c)) first stages)
  task_tells c few =
      tells of_new_task c (last_that (did_draw (suc c)) first stages)
      (last_is of_new_task (λ (s : UnfoldingState). length s.plan.parents) did_draw tasks_are_counted stages first (suc c) c (let z : 1 + c ≡ suc c = omega arith in z))
      (omega (arith, few, all_counted of_new_task (λ (s : UnfoldingState). length s.plan.parents) did_draw tasks_are_counted program.two [] stages first end leads))

  phaser_tells : (p : ℕ) → p < length end.plan.makers → Tells of_new_phaser p (last_that (did_make p) first stages)
  phaser_tells p few =
      tells of_new_phaser p (last_that (did_make p) first stages)
      (last_is of_new_phaser (λ (s : UnfoldingState). length s.plan.makers) did_make phasers_are_counted stages first p p (let z : 0 + p ≡ p = omega arith in z))
      (omega (arith, few, all_counted of_new_phaser (λ (s : UnfoldingState). length s.plan.makers) did_make phasers_are_counted program.two [] stages first end leads))

  -- ---- what was forked

  fork_told : (c n : ℕ) (o : Option Start) → start_in end c ≡ o → fork_of o ≡ (if is_some o then Some n else None) →
      fork_of (start_in end c) ≡ (if is_forked end c then Some n else None)
  fork_told c n o is so = ap fork_of is ∙ so ∙ ap (λ (z : Option Start). if is_some z then Some n else None) (sym is)

  -- where none forked it: task 0, which has a start at once, and those that are not forked
  none_forked : (c : ℕ) (last : Option Stage) → start_in end c ≡ start_in first c → last ≡ None →
      fork_of (start_in end c) ≡ (if is_forked end c then Some (stage_statement last) else None)
  none_forked zero last same none = fork_told 0 (stage_statement last) (start_in first 0) same (ap (λ o. Some (stage_statement o)) (sym none))
  none_forked (suc k) last same none = fork_told (suc k) (stage_statement last) None same refl

  forked_by : (c : ℕ) (last : Option Stage) → Forks (start_in first c) (start_in end c) last → fork_of (start_in end c) ≡ (if is_forked end c then Some (stage_statement last) else None)
  forked_by c last (forks_not same none) = none_forked c last same none
  forked_by c last (forks_once t m start free is last_is at) =
      fork_told c (stage_statement last) (Some start) is (ap (λ n. Some n) (sym at) ∙ ap (λ o. Some (stage_statement o)) (sym last_is))

  fork_tells : (c : ℕ) → fork_origin program c ≡ (if is_forked end c then Some (stage_statement (last_that (did_fork c) first stages)) else None)
  fork_tells c =
      fork_by_start program c ∙ ap (λ ss. fork_of (slice_index_or ss c None)) (same_starts program stages end leads all)
      ∙ forked_by c (last_that (did_fork c) first stages) (stages_fork program.two c [] stages first end leads refl)

pub origins_are_those_of_scenes : OriginsAreThoseOfScenes
origins_are_those_of_scenes program stages end leads all =
    record {
      drawn = λ c few. (task_tells program stages end leads all c few).statement;
      made = λ p few. (phaser_tells program stages end leads all p few).statement;
      forked = λ c. fork_tells program stages end leads all c;
      named_so = λ c few. (task_tells program stages end leads all c few).name;
      called_so = λ p few. (phaser_tells program stages end leads all p few).name;
    }
