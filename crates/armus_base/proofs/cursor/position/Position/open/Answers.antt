use Rattle.std.proofs.Common.{arith, ap, subst, sym}
use Rattle.armus_base.specs.declared.cursor.position.Position.{Position}
use Rattle.armus_base.specs.inside.Positions.{IsInside, KeepsOps, entered}
use Rattle.armus_base.proofs.Positions.{Enters, enters_found, keeps_more, keeps_none}
use Rattle.armus_base.proofs.cursor.position.Position.open.Goals as goal
use Rattle.armus_base.proofs.cursor.position.Position.open.Goals.{In-Some}

pub loop-k-init : goal.loop-k-init
loop-k-init c = record { same = keeps_none c.args.pieces.now c.args.self.now c.requires.stands; inside = c.requires.inside }

-- a Repeat stands here
found : (c : In-Some) → Enters c.args.pieces.now c.loop-k.self c.in-Some.k c.in-Some.len
found c =
    let old = c.loop-k.invariant in
    enters_found c.args.pieces.now c.loop-k.self c.repeat_at.result c.in-Some.k c.in-Some.len old.same.stands old.inside c.repeat_at.ensures c.in-Some.is

pub enter-requires-clause-room : goal.enter-requires-clause-room
enter-requires-clause-room c = (found (goal.at.enter-requires-clause-room c).In-Some).room

pub enter-requires-clause-turn : goal.enter-requires-clause-turn
enter-requires-clause-turn c = (found (goal.at.enter-requires-clause-turn c).In-Some).turn

pub enter-requires-clause-fits : goal.enter-requires-clause-fits
enter-requires-clause-fits c = omega (arith, (found (goal.at.enter-requires-clause-fits c).In-Some).fits, c.requires.fits)

pub loop-k-smaller : goal.loop-k-smaller
loop-k-smaller c = omega (arith, (found (goal.at.loop-k-smaller c).In-Some).fits, ap (λ (p : Position). p.at) c.enter.ensures)

pub loop-k-preserved : goal.loop-k-preserved
loop-k-preserved c =
    let ps = c.args.pieces.now in
    let old = c.loop-k.self in
    let enters = found (goal.at.loop-k-preserved c).In-Some in
    let same = keeps_more ps c.args.self.now old (entered c.in-Some.k c.in-Some.len old) c.loop-k.invariant.same enters.same in
    record {
      same = subst (KeepsOps ps c.args.self.now) (sym c.enter.ensures) same;
      inside = subst IsInside (sym c.enter.ensures) enters.inside;
    }

pub returns-clause-same : goal.returns-clause-same
returns-clause-same c = c.loop-k.invariant.same

pub returns-clause-inside : goal.returns-clause-inside
returns-clause-inside c = c.loop-k.invariant.inside
