use Rattle.std.proofs.Common.{arith}
use Rattle.armus_base.specs.declared.cursor.frame.OpenRepeat.{OpenRepeat}
use Rattle.armus_base.proofs.Positions.{closes, inside_by, keeps_more, keeps_none, none_open, turns_again}
use Rattle.armus_base.proofs.cursor.position.Position.close.Goals as goal

-- what is read where no Repeat is
abbrev none : OpenRepeat
none = record { from = 0; to = 0; turns = 0 }

pub loop-self-init : goal.loop-self-init
loop-self-init c = record { deep = c.requires.room; same = λ ps stands. keeps_none ps c.args.self.now stands }

pub returns-then-self-frame : goal.returns-then-self-frame
returns-then-self-frame c = record {
  closed = λ ps stands.
      let kept = c.loop-self.invariant.same ps stands in
      (kept, inside_by ps c.loop-self.self none c.loop-self-test.true kept.stands c.if-self-frame.true);
}

pub returns-then-frame-gt0 : goal.returns-then-frame-gt0
returns-then-frame-gt0 c = record {
  closed = λ ps stands.
      let kept = c.loop-self.invariant.same ps stands in
      let turn = turns_again ps c.loop-self.self none c.loop-self-test.true kept.stands c.if-self-frame.false c.if-frame-gt0.true in
      (keeps_more ps c.args.self.now c.loop-self.self _ kept turn.0, turn.1);
}

pub loop-self-preserved : goal.loop-self-preserved
loop-self-preserved c = record {
  deep = omega (arith, c.loop-self.invariant.deep);
  same = λ ps stands.
      let kept = c.loop-self.invariant.same ps stands in
      keeps_more ps c.args.self.now c.loop-self.self _ kept
      (closes ps c.loop-self.self none c.loop-self-test.true kept.stands c.if-self-frame.false c.if-frame-gt0.false);
}

pub returns : goal.returns
returns c = record { closed = λ ps stands. (c.loop-self.invariant.same ps stands, none_open c.loop-self.self c.loop-self-test.false) }
