use Rattle.std.proofs.Common.{◌≡◌, ◌<◌, ap, arith, length, get_or, ◌∙◌, sym}
use Rattle.std.proofs.lemmas.List.{get_or_default, take_all}
use Rattle.armus_base.specs.declared.status.Member.{Member}
use Rattle.dep_state.proofs.AddedRows.{added_none, phase_more}
use Rattle.dep_state.proofs.impeders.add_task.Goals as goal

pub loop-member-init : goal.loop-member-init
loop-member-init c = added_none _ _ _ (λ i (j, m, lt, is, below). omega arith)

pub loop-member-preserved : goal.loop-member-preserved
loop-member-preserved c =
    let e = c.as_slice-member-items.ensures.items in
    let n = c.loop-member.member-index in
    let none : Member = record { p = record { 0 = 0 }; n = 0 } in
    let m : Member = get_or c.as_slice-member-items.result.now n none in
    let lt : n < length c.args.status.now.phases = omega (arith, ap length e) in
    let at : get_or c.args.status.now.phases n m ≡ m = get_or_default c.args.status.now.phases n m none lt ∙ ap (λ xs. get_or xs n none) (sym e) in
    phase_more c.args.events.now c.args.k c.args.status.now.phases n m _ _ _ c.requires.ascends lt at c.loop-member.invariant c.in_ok-add_phase.ensures

pub returns : goal.returns
returns c =
    let t = take_all c.loop-member.member-index c.args.status.now.phases (omega (arith, ap length c.as_slice-member-items.ensures.items)) in
    rw t at c.loop-member.invariant
