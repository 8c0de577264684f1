use Rattle.armus_base.specs.States.{State, if_published}
use Rattle.pl_core.specs.calls.Worlds.{state_of}
use Rattle.avoider.proofs.Supposing.{supposed_of_plan}
use Rattle.avoider.proofs.WorldWaits.{waits_among, waits_are}
use Rattle.avoider.proofs.waiting.waits_if.Goals as goal

pub returns-in_ok-sets-in-Some-clause-among : goal.returns-in_ok-sets-in-Some-clause-among
returns-in_ok-sets-in-Some-clause-among c =
    let w = c.args.world.now in
    let s : State = if_published (state_of w) c.args.t.0 c.args.event in
    let at = c.in_ok-found.ensures in
    let are = rw c.in-Some.is at at.places in
    let of' = supposed_of_plan w at.checked at.reachable c.args.t.0 c.requires.task c.args.event in
    waits_among w.plan s at.checked of' (record { sets = c.in_ok-sets-in-Some.sets; own = c.in-Some.places.own }) c.in-Some.places.events.items are.places
    (rw c.deref.ensures.value at c.in_ok-sets-in-Some.ensures)

pub returns-in_ok-sets-in-Some-clause-pairs : goal.returns-in_ok-sets-in-Some-clause-pairs
returns-in_ok-sets-in-Some-clause-pairs c =
    let w = c.args.world.now in
    let s : State = if_published (state_of w) c.args.t.0 c.args.event in
    let at = c.in_ok-found.ensures in
    let are = rw c.in-Some.is at at.places in
    let of' = supposed_of_plan w at.checked at.reachable c.args.t.0 c.requires.task c.args.event in
    waits_are w.plan s at.checked of' (record { sets = c.in_ok-sets-in-Some.sets; own = c.in-Some.places.own }) c.in-Some.places.events.items are.places
    (rw c.deref.ensures.value at c.in_ok-sets-in-Some.ensures)
