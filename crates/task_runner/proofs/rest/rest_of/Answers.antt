use Rattle.std.proofs.Common.{◌≡◌, ◌++◌, ◌+◌, ◌∙◌, ◌⊎◌, List, sym, subst, arith, length}
use Rattle.armus_base.specs.declared.status.Dead.{Dead}
use Rattle.armus_base.specs.DeadLists.{IsDeadList}
use Rattle.std.specs.Prelude.{Contains}
use Rattle.report.specs.NamedDead.{AreTheDead}
use Rattle.task_runner.specs.inside.Rests.{IsNamedIn}
use Rattle.task_runner.proofs.Resting.{IsRestUpTo, rest_all, rest_new, rest_old}
use Rattle.task_runner.proofs.rest.rest_of.Goals as goal
use Rattle.task_runner.proofs.rest.rest_of.Goals.{then-is_new+in_ok-push, else-is_new}

pub loop-status-preserved : goal.loop-status-preserved
loop-status-preserved c =
    let told : List Dead = c.args.told.now in
    let rest : List Dead = c.loop-status.rest.items in
    let dead = subst (IsDeadList c.args.blocked.now) (sym c.as_slice.ensures.items) c.in_ok-dead.ensures.dead in
    elim c.if-is_new.branch [
      | then-is_new+in_ok-push w ↦
          (let new = c.is_new.ensures.new w.if-is_new.true in
          let fresh = subst (λ (r : List Dead). IsNamedIn (told ++ r) c.status-item.result.t → ⊥) c.as_slice-in-loop-status.ensures.value new.1 in
          subst (λ (r : List Dead). IsRestUpTo c.args.blocked.now told r (c.loop-status.status-index + 1)) (sym ((λ i. (w.rest-is i).items) ∙ w.in_ok-push.ensures.items))
          (rest_new c.args.blocked.now c.as_slice.result.now dead told rest c.loop-status.status-index c.status-item.result c.status-item.is
          c.loop-status-test.true c.loop-status.invariant new.0 fresh))
      | else-is_new w ↦
          (let old = subst (λ (r : List Dead). (Contains c.as_slice.result.now c.status-item.result.t → ⊥) ⊎ IsNamedIn (told ++ r) c.status-item.result.t)
          c.as_slice-in-loop-status.ensures.value
          (c.is_new.ensures.old w.if-is_new.false) in
          subst (λ (r : List Dead). IsRestUpTo c.args.blocked.now told r (c.loop-status.status-index + 1)) (sym (λ i. (w.rest-is i).items))
          (rest_old c.args.blocked.now c.as_slice.result.now dead told rest c.loop-status.status-index c.status-item.result c.status-item.is
          c.loop-status-test.true c.loop-status.invariant old))
    ]

pub returns : goal.returns
returns c =
    let all : c.loop-status.status-index ≡ length c.args.blocked.now = (let l = c.loop-status-test.false in let m = c.loop-status.auto.status-index-end in omega arith) in
    record {
      rest = subst (λ (r : List Dead). AreTheDead c.args.blocked.now (c.args.told.now ++ r)) (sym c.from_vec.ensures.items)
          (rest_all c.args.blocked.now c.args.told.now c.loop-status.rest.items c.loop-status.status-index all c.loop-status.invariant);
    }
