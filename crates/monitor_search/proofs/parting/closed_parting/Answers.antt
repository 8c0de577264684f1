use Rattle.std.proofs.Common.{Bool, length, ap, arith}
use Rattle.monitor_laws.specs.States.{Participant}
use Rattle.monitor_search.specs.inside.Partings.{is_kept_by, referred}
use Rattle.monitor_search.proofs.Filtered.{filter_shorter, filter_whole}
use Rattle.monitor_search.proofs.Parted.{next_parting, parting_of_same}
use Rattle.monitor_search.proofs.References.{length-referred}
use Rattle.monitor_search.proofs.parting.closed_parting.Goals as goal

pub loop-parting-preserved : goal.loop-parting-preserved
loop-parting-preserved c =
    let was = c.loop-parting.parting in
    parting_of_same c.args.state.now _ _ _ _ (next_parting c.args.state.now (referred was.inside.items) (referred was.outside.items) c.loop-parting.invariant) c.in_ok-next.ensures.inside c.in_ok-next.ensures.outside

pub returns-then-len-clause-closed : goal.returns-then-len-clause-closed
returns-then-len-clause-closed c =
    let was = c.loop-parting.parting in
    let next = c.in_ok-next.next in
    let test : Participant → Bool = λ u. is_kept_by (referred was.inside.items) (referred was.outside.items) u.condition in
    let l = length-referred was.inside.items in
    let k = length-referred next.inside.items in
    let e = ap length c.in_ok-next.ensures.inside in
    filter_whole test (referred was.inside.items) (omega (arith, c.if-len.true))

pub loop-parting-smaller : goal.loop-parting-smaller
loop-parting-smaller c =
    let was = c.loop-parting.parting in
    let next = c.in_ok-next.next in
    let test : Participant → Bool = λ u. is_kept_by (referred was.inside.items) (referred was.outside.items) u.condition in
    let l = length-referred was.inside.items in
    let k = length-referred next.inside.items in
    let e = ap length c.in_ok-next.ensures.inside in
    let m = filter_shorter test (referred was.inside.items) in
    omega arith
