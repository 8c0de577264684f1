-- A plan has one task more than are drawn.
use Rattle.std.proofs.Common.{◌≡◌, ℕ, suc, ◌+◌, Option, Some, Ok, List, [], ◌∷◌, length, map, refl, ap, ◌∙◌, arith}
use Rattle.std.specs.List.{flat_map}
use Rattle.std.proofs.lemmas.List.{length-append, length-map}
use Rattle.std.specs.Prelude.{Bool}
use Rattle.armus_base.specs.Numbers.{task}
use Rattle.armus_base.specs.Plans.{Plan}
use Rattle.pl_plan.specs.Forks.{starts_of}
use Rattle.pl_plan.specs.Tests.{of_new_task}
use Rattle.pl_plan.specs.Unfolding.{Coming, Start, plan_of}
use Rattle.pl_syntax.specs.declared.tree.Program.{Program}
use Rattle.source_map.specs.Origins.{statements_where, task_origins, visits_by}
use Rattle.source_map.specs.calls.OriginLaws.{tasks_from, tasks_of_all}
use Rattle.source_map.proofs.CodesOfVisits.{parents_are_of_visits}

same_many : (test : Coming → Bool) (t : ℕ) (starts : List (Option Start)) →
    length (tasks_from test t starts) ≡ length (flat_map (λ start. statements_where test (visits_by start)) starts)
same_many test t [] = refl
same_many test t (start ∷ starts) =
    let own = statements_where test (visits_by start) in
    let a = length-append (map (λ (n : ℕ). t) own) (tasks_from test (t + 1) starts) in
    let b = length-map own (λ (n : ℕ). t) in
    let c = length-append own (flat_map (λ start. statements_where test (visits_by start)) starts) in
    let d = same_many test (t + 1) starts in
    omega arith

pub drawn_many : (p : Program) (plan : Plan) → plan_of p ≡ Ok plan → length plan.parents ≡ suc (length (task_origins p))
drawn_many p plan e =
    ap length (parents_are_of_visits p plan e)
    ∙ ap suc (length-map (tasks_of_all of_new_task p) (λ t. Some (task t)) ∙ same_many of_new_task 0 (starts_of p))
