use Rattle.std.proofs.Common.{◌∙◌, arith, ap, subst}
use Rattle.schedule.specs.inside.OpenPasses.{KeepsPhase}
use Rattle.schedule.proofs.Following.{state_is}
use Rattle.schedule.proofs.Phasing.{row_within, column_within, task_within, phaser_within, row_more, row_ends}
use Rattle.schedule.proofs.pass.OpenPass.load_phase.Goals as goal

pub index-waiting-requires : goal.index-waiting-requires
index-waiting-requires c = let h = row_within c.args.world.now.plan c.args.self.now c.requires.open in omega arith

pub index-p-requires : goal.index-p-requires
index-p-requires c = let h = column_within c.args.world.now.plan c.args.self.now c.requires.open in omega arith

pub phase-found-requires-clause-task : goal.phase-found-requires-clause-task
phase-found-requires-clause-task c = task_within c.args.world.now.plan c.args.self.now c.requires.open c.index-waiting.result.now c.index-waiting.ensures

pub phase-found-requires-clause-phaser : goal.phase-found-requires-clause-phaser
phase-found-requires-clause-phaser c = phaser_within c.args.world.now.plan c.args.self.now c.requires.open c.index-p.result.now c.index-p.ensures

pub returns-in_ok-end_row : goal.returns-in_ok-end_row
returns-in_ok-end_row c =
    let pass = c.args.self.now in
    let world = c.args.world.now in
    let w = c.index-waiting.result.now in
    let p = c.index-p.result.now in
    record {
      loaded = λ loads h at of. row_ends world.plan pass c.requires.open loads h of w c.index-waiting.ensures p c.index-p.ensures
          c.keep_phase.new.self c.end_row.new.self
          (subst (KeepsPhase pass c.keep_phase.new.self p) (c.phase-found.ensures.phase ∙ ap (λ s. s.phases w.t.0 p.0) (state_is world h at)) c.in_ok-keep_phase.ensures.kept)
          (let e = c.if-self-len.true in omega arith)
          c.in_ok-end_row.ensures.ended;
    }

pub returns-else-self-len : goal.returns-else-self-len
returns-else-self-len c =
    let pass = c.args.self.now in
    let world = c.args.world.now in
    let w = c.index-waiting.result.now in
    let p = c.index-p.result.now in
    record {
      loaded = λ loads h at of. row_more world.plan pass c.requires.open loads h of w c.index-waiting.ensures p c.index-p.ensures c.keep_phase.new.self
          (subst (KeepsPhase pass c.keep_phase.new.self p) (c.phase-found.ensures.phase ∙ ap (λ s. s.phases w.t.0 p.0) (state_is world h at)) c.in_ok-keep_phase.ensures.kept)
          (λ e. c.if-self-len.false (omega arith));
    }
