use Rattle.std.proofs.Common.{sym, ◌∙◌, arith}
use Rattle.armus_base.specs.States.{State, if_published}
use Rattle.pl_core.specs.calls.Worlds.{state_of}
use Rattle.pl_core.proofs.NextImpeders.{next_found, nobody_left, nobody_more, none_of, some_of}
use Rattle.pl_core.proofs.world.World.next_impeder.Goals as goal

pub returns-then-is_some-clause-next : goal.returns-then-is_some-clause-next
returns-then-is_some-clause-next c =
    let s : State = if_published (state_of c.args.self.now) c.args.t.0 c.args.event in
    let inv = c.members.invariant in
    let on = some_of c.published_or.result (sym c.is_some.ensures ∙ c.if-is_some.true) in
    next_found s c.args.awaited c.args.from.0 c.members.next inv.nobody (record { 0 = c.in-Some.u }) on.0 inv.later c.in-Some.ensures.next (sym c.published_or.ensures.event ∙ on.1)

pub members-preserved : goal.members-preserved
members-preserved c =
    let s : State = if_published (state_of c.args.self.now) c.args.t.0 c.args.event in
    let inv = c.members.invariant in
    let off = none_of c.published_or.result (sym c.is_some.ensures ∙ c.if-is_some.false) in
    let (later, here, none) = c.in-Some.ensures.next in
    record {
      later = omega (arith, inv.later, later);
      nobody = nobody_more s c.args.awaited c.args.from.0 c.members.next inv.nobody c.in-Some.u c.in-Some.ensures.next (sym c.published_or.ensures.event ∙ off);
    }

pub returns-clause-next : goal.returns-clause-next
returns-clause-next c =
    let s : State = if_published (state_of c.args.self.now) c.args.t.0 c.args.event in
    nobody_left s c.args.awaited c.args.from.0 c.members.next c.members.invariant.nobody c.in_default.ensures.next
