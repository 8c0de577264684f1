use Rattle.std.proofs.Common.{◌++◌, ◌+◌, ◌∙◌, arith, ap, get_or, subst, sym}
use Rattle.std.specs.Prelude.{map}
use Rattle.std.proofs.lemmas.List.{get_or_default}
use Rattle.adaptive.specs.inside.Standings.{standing_at}
use Rattle.adaptive.proofs.StandingLists.{AreBelow, all_below, none_below, one_more}
use Rattle.adaptive.proofs.standings.collected.Goals as goal

pub loop-k-init : goal.loop-k-init
loop-k-init c = subst (λ xs. AreBelow c.args.list.now 0 xs) (sym c.new-standings.ensures.items) (none_below c.args.list.now)

pub loop-k-preserved : goal.loop-k-preserved
loop-k-preserved c =
    let status = get_or c.args.list.now c.loop-k.k c.index-list-k.result in
    let inside = c.loop-k-test.true in
    let items = c.in_ok-add_phases.ensures ∙ ap (λ phases. c.loop-k.standings.items ++ map (standing_at c.loop-k.k) phases) c.as_slice.ensures.items in
    subst (λ xs. AreBelow c.args.list.now (c.loop-k.k + 1) xs) (sym items)
    (one_more c.args.list.now c.loop-k.k status inside (get_or_default c.args.list.now c.loop-k.k c.index-list-k.result status inside)
    c.loop-k.standings.items c.loop-k.invariant)

pub returns : goal.returns
returns c =
    let past = c.loop-k-test.false in
    let within = c.loop-k.auto.k-end in
    all_below c.args.list.now c.loop-k.k c.loop-k.standings.items (omega arith) c.loop-k.invariant
