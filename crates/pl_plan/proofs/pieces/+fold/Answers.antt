use Rattle.std.proofs.Common.{◌≡◌, ◌-◌, ◌+◌, [], ◌∷◌, length, length-append, set, ap, arith, ◌∙◌}
use Rattle.armus_base.specs.declared.piece.Piece.TheVariants.{Repeat}
use Rattle.pl_plan.specs.FoldedOps.{pieces_in}
use Rattle.pl_plan.proofs.Ahead.{plain_is}
use Rattle.pl_plan.proofs.FoldsOn.{fork_forward, loop_forward, loop_tree, pieces_few, steady_folded, steps_end, steps_fork, steps_loop, steps_plain, steps_start, turns_end, turns_next, turns_start}
use Rattle.pl_plan.proofs.Spelled.{spelled_count}
use Rattle.pl_plan.proofs.pieces.+fold.Goals as goal

pub fold_steady-overflow_cast-len : goal.fold_steady-overflow_cast-len
fold_steady-overflow_cast-len t c =
    let h = c.requires.spelled in
    let folded = c.in_ok-left.ensures.folds h.0 h.1 h.2 h.4 in
    let few = pieces_few h.2 h.3 c.args.ops.now in
    let count_is = spelled_count h.0 h.1 c.args.steps.now (c.args.at + 1) h.2 c.args.after h.4 in
    omega (
      arith,
      few,
      count_is,
      c.ranges.after.fits,
      c.len.ensures,
      c.len-place.ensures,
      ap (λ ps. length ps) folded.0,
      ap (λ ps. length ps) c.in_ok-push.ensures.items,
      length-append (c.push.new.self.items) (pieces_in h.2 c.args.ops.now).pieces,
      length-append (c.args.pieces.now.items) (Repeat c.from-k.result 0 ∷ []),
    )

pub fold_steady-returns-clause-folds : goal.fold_steady-returns-clause-folds
fold_steady-returns-clause-folds t c = λ n names tree sp.
    let folded = c.in_ok-left.ensures.folds n names tree sp in
    let place : c.len-place.result ≡ length c.args.pieces.now.items = omega (arith, c.len-place.ensures) in
    let r = steady_folded (pieces_in tree) c.args.turns c.from-k.result (c.len.result - c.len-place.result - 1) c.args.ops.now c.in_ok-left.left.now
    c.args.pieces.now.items c.push.new.self.items c.fold_steps.new.pieces.items _ c.if-turns-eq0.false (c.from-k.ensures) c.in_ok-push.ensures.items
    folded.0 folded.1 (omega (arith, c.len.ensures, c.len-place.ensures)) c.if-len-eq0.false
    (ap (λ z. set c.fold_steps.new.pieces.items z (Repeat c.from-k.result (c.len.result - c.len-place.result - 1))) place) in
    (r.0, c.behind.ensures ∙ r.1)

pub fold_steps-loop-at-init : goal.fold_steps-loop-at-init
fold_steps-loop-at-init t c = steps_start c.args.steps.now c.args.from c.args.to c.args.ops.now c.args.pieces.now.items c.requires.spelled

pub fold_steps-fold_loop-requires : goal.fold_steps-fold_loop-requires
fold_steps-fold_loop-requires t c =
    let f = loop_forward c.args.steps.now c.args.from c.args.to c.args.ops.now c.args.pieces.now.items c.loop-at.at c.loop-at.left.now c.loop-at.pieces.items
    c.loop-at.invariant c.loop-at-test.true c.in-Loop.k c.in-Loop.after c.in-Loop.steady c.in-Loop.ensures in
    let h = loop_tree c.args.steps.now c.args.from c.args.to c.args.ops.now c.args.pieces.now.items c.loop-at.at c.loop-at.left.now c.loop-at.pieces.items
    c.loop-at.invariant c.loop-at-test.true c.in-Loop.k c.in-Loop.after c.in-Loop.steady c.in-Loop.ensures in
    let w = c.loop-at.invariant.forward in
    (omega arith, (omega (arith, c.requires.few, c.loop-at.invariant.fewer), (f.0, (omega (arith, c.requires.within), h))))

pub fold_steps-loop-at-smaller-in-Loop : goal.fold_steps-loop-at-smaller-in-Loop
fold_steps-loop-at-smaller-in-Loop t c =
    let f = loop_forward c.args.steps.now c.args.from c.args.to c.args.ops.now c.args.pieces.now.items c.loop-at.at c.loop-at.left.now c.loop-at.pieces.items
    c.loop-at.invariant c.loop-at-test.true c.in-Loop.k c.in-Loop.after c.in-Loop.steady c.in-Loop.ensures in
    omega (arith, f.0, f.1)

pub fold_steps-loop-at-preserved-in-Loop : goal.fold_steps-loop-at-preserved-in-Loop
fold_steps-loop-at-preserved-in-Loop t c =
    steps_loop c.args.steps.now c.args.from c.args.to c.args.ops.now c.args.pieces.now.items c.loop-at.at c.loop-at.left.now c.loop-at.pieces.items
    c.loop-at.invariant c.loop-at-test.true c.in-Loop.k c.in-Loop.after c.in-Loop.steady c.in-Loop.ensures c.fold_loop.new.pieces.items
    c.in_ok-left-in-Loop.left.now c.in_ok-left-in-Loop.ensures.fewer c.in_ok-left-in-Loop.ensures.folds

pub fold_steps-loop-at-smaller-in-Fork : goal.fold_steps-loop-at-smaller-in-Fork
fold_steps-loop-at-smaller-in-Fork t c =
    let f = fork_forward c.args.steps.now c.args.from c.args.to c.args.ops.now c.args.pieces.now.items c.loop-at.at c.loop-at.left.now c.loop-at.pieces.items
    c.loop-at.invariant c.loop-at-test.true c.in-Fork.x c.in-Fork.after c.in-Fork.ensures in
    omega (arith, f.0, f.1)

pub fold_steps-loop-at-preserved-in-Fork : goal.fold_steps-loop-at-preserved-in-Fork
fold_steps-loop-at-preserved-in-Fork t c =
    steps_fork c.args.steps.now c.args.from c.args.to c.args.ops.now c.args.pieces.now.items c.loop-at.at c.loop-at.left.now c.loop-at.pieces.items
    c.loop-at.invariant c.loop-at-test.true c.in-Fork.x c.in-Fork.after c.in-Fork.ensures c.fold_op.new.pieces.items c.in_ok-left-in-Fork.left.now
    c.in_ok-left-in-Fork.ensures

pub fold_steps-loop-at-preserved : goal.fold_steps-loop-at-preserved
fold_steps-loop-at-preserved t c =
    steps_plain c.args.steps.now c.args.from c.args.to c.args.ops.now c.args.pieces.now.items c.loop-at.at c.loop-at.left.now c.loop-at.pieces.items
    c.loop-at.invariant c.loop-at-test.true c.step_at-step.result c.step_at-step.ensures
    (plain_is c.step_at-step.result c.in_default.not-Fork c.in_default.not-Loop) c.fold_plain.new.pieces.items c.in_ok-left-in_default.left.now
    c.in_ok-left-in_default.ensures

pub fold_steps-returns-clause-folds : goal.fold_steps-returns-clause-folds
fold_steps-returns-clause-folds t c =
    steps_end c.args.steps.now c.args.from c.args.to c.args.ops.now c.args.pieces.now.items c.loop-at.at c.loop-at.left.now c.loop-at.pieces.items
    c.loop-at.invariant c.loop-at-test.false

pub fold_steps-returns-clause-fewer : goal.fold_steps-returns-clause-fewer
fold_steps-returns-clause-fewer t c = c.loop-at.invariant.fewer

pub fold_turns-loop-init : goal.fold_turns-loop-init
fold_turns-loop-init t c = turns_start c.args.steps.now c.args.at c.args.after c.args.turns c.args.ops.now c.args.pieces.now.items

pub fold_turns-fold_steps-requires : goal.fold_turns-fold_steps-requires
fold_turns-fold_steps-requires t c = (omega (arith, c.requires.here), (omega (arith, c.requires.few, c.loop.invariant.fewer), (c.requires.within, c.requires.spelled)))

pub fold_turns-loop-preserved : goal.fold_turns-loop-preserved
fold_turns-loop-preserved t c =
    turns_next c.args.steps.now c.args.at c.args.after c.args.turns c.args.ops.now c.args.pieces.now.items c.loop.counter c.loop.left.now c.loop.pieces.items
    c.loop.invariant c.loop-test.true c.fold_steps.new.pieces.items c.in_ok-left.left.now c.in_ok-left.ensures.fewer c.in_ok-left.ensures.folds

pub fold_turns-returns-clause-folds : goal.fold_turns-returns-clause-folds
fold_turns-returns-clause-folds t c =
    turns_end c.args.steps.now c.args.at c.args.after c.args.turns c.args.ops.now c.args.pieces.now.items c.loop.counter c.loop.left.now c.loop.pieces.items
    c.loop.invariant c.loop-test.false

pub fold_turns-returns-clause-fewer : goal.fold_turns-returns-clause-fewer
fold_turns-returns-clause-fewer t c = c.loop.invariant.fewer
