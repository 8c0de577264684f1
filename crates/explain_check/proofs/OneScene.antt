-- The first fault of a program is known in one way.
use Rattle.std.proofs.Common.{◌≡◌, List, [], sym, ◌∙◌, ap, subst}
use Rattle.pl_syntax.specs.declared.tree.Program.{Program}
use Rattle.pl_plan.specs.declared.fault.CheckFault.{CheckFault}
use Rattle.pl_plan.specs.Unfolding.{UnfoldingState, opening_state}
use Rattle.pl_plan.specs.Stages.{FailsAt, IsFirstCheckFault, IsNextStage, Stage}
use Rattle.pl_plan.proofs.Unfolds.{fault_blocks, next_same, one_fault, one_way}
use Rattle.explain_check.specs.calls.Scenes.{HasOneScene}
use Rattle.explain_check.specs.Scenes.{Past, about, forked_at, named_task, past_of, current_task, turns_around}

-- where a program's first fault stands is one
record SamePlace (program : Program) (f g : CheckFault) (a : IsFirstCheckFault program f) (b : IsFirstCheckFault program g) : Type 0 where
  stages : a.stages ≡ b.stages
  there : a.there ≡ b.there
  stage : a.stage ≡ b.stage
  faults : f ≡ g

same_place : (program : Program) (f g : CheckFault) (a : IsFirstCheckFault program f) (b : IsFirstCheckFault program g) → SamePlace program f g a b
same_place program f g a b =
    let same = one_way program.two [] a.stages b.stages (opening_state program.body) a.there b.there a.leads b.leads
    (fault_blocks program.two a.stages a.there a.stage f a.next a.fails) (fault_blocks program.two b.stages b.there b.stage g b.next b.fails) in
    let next : IsNextStage program.two b.stages a.stage b.there =
    subst (λ z. IsNextStage program.two b.stages a.stage z) same.1 (subst (λ x. IsNextStage program.two x a.stage a.there) same.0 a.next) in
    let stage = next_same program.two b.stages a.stage b.stage b.there next b.next in
    let fails : FailsAt b.there b.stage f =
    subst (λ v. FailsAt b.there v f) stage (subst (λ z. FailsAt z a.stage f) same.1 a.fails) in
    record { stages = same.0; there = same.1; stage = stage; faults = one_fault program.two b.there b.stage f g fails b.fails }

past_is : (first : UnfoldingState) (xs ys : List Stage) (s e : UnfoldingState) → xs ≡ ys → s ≡ e →
    ◌≡◌ {A = Past} (record { first = first; stages = xs; there = s }) (record { first = first; stages = ys; there = e })
past_is first xs ys s e p q = λ i. record { first = first; stages = p i; there = q i }

pub one_scene : HasOneScene
one_scene program a b p q =
    let same = same_place program a.fault b.fault p.found q.found in
    let pasts : past_of program a p.found ≡ past_of program b q.found =
    past_is (opening_state program.body) p.found.stages q.found.stages p.found.there q.found.there same.stages same.there in
    let tasks : a.task ≡ b.task =
    p.task_is ∙ (ap (λ x. named_task x (current_task p.found.stage)) pasts ∙ (ap (λ v. named_task (past_of program b q.found) (current_task v)) same.stage ∙ sym q.task_is)) in
    let forks : a.forked ≡ b.forked =
    p.forked_is ∙ (ap (λ x. forked_at x (current_task p.found.stage)) pasts ∙ (ap (λ v. forked_at (past_of program b q.found) (current_task v)) same.stage ∙ sym q.forked_is)) in
    let turns : a.turns ≡ b.turns =
    p.turns_are ∙ (ap (λ x. turns_around x p.found.stage) pasts ∙ (ap (λ v. turns_around (past_of program b q.found) v) same.stage ∙ sym q.turns_are)) in
    let matters : a.matter ≡ b.matter =
    p.matter_is ∙ (ap (λ x. about x a.fault.kind p.found.stage) pasts ∙ (ap (λ (f : CheckFault). about (past_of program b q.found) f.kind p.found.stage) same.faults
    ∙ (ap (λ v. about (past_of program b q.found) b.fault.kind v) same.stage ∙ sym q.matter_is))) in
    λ i. record { fault = same.faults i; task = tasks i; forked = forks i; turns = turns i; matter = matters i }
