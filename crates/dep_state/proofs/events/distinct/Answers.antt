use Rattle.std.proofs.Common.{◌≡◌, ◌++◌, ◌∷◌, [], arith, ◌∙◌, ap, get_or}
use Rattle.std.proofs.lemmas.List.{get_or_default, take_all}
use Rattle.armus_base.specs.declared.event.Event.{Event}
use Rattle.dep_state.proofs.DistinctEvents.{distinct_none, distinct_push, distinct_skip}
use Rattle.dep_state.proofs.events.distinct.Goals as goal
use Rattle.dep_state.proofs.events.distinct.Goals.{then-is_new+in_ok-push, else-is_new}

pub loop-i-init : goal.loop-i-init
loop-i-init c = rw c.new-events.ensures.items (distinct_none c.args.all.now)

pub loop-i-preserved : goal.loop-i-preserved
loop-i-preserved c =
    let inv = c.loop-i.invariant in
    let x : Event = get_or c.args.all.now c.loop-i.i (record { p = record { 0 = 0 }; n = 0 }) in
    let at : get_or c.args.all.now c.loop-i.i x ≡ x = get_or_default c.args.all.now c.loop-i.i x (record { p = record { 0 = 0 }; n = 0 }) (omega arith) in
    elim c.if-is_new.branch [
      | then-is_new+in_ok-push w ↦
          let e : c.if-is_new.events.items ≡ c.loop-i.events.items ++ x ∷ [] = ap (λ v. v.items) w.events-is ∙ w.in_ok-push.ensures.items in
          rw e (distinct_push _ _ _ inv x (omega arith) at w.if-is_new.ensures)
      | else-is_new w ↦
          let e : c.if-is_new.events.items ≡ c.loop-i.events.items = ap (λ v. v.items) w.events-is in
          rw e (distinct_skip _ _ _ inv x (omega arith) at c.requires w.if-is_new.ensures)
    ]

pub returns : goal.returns
returns c =
    let inv = c.loop-i.invariant in
    let t = take_all c.loop-i.i c.args.all.now (omega arith) in
    record { ordered = inv.ordered; exact = rw t at inv.exact; few = omega (arith, inv.few) }
