use Rattle.std.proofs.Common.{◌+◌, get_or}
use Rattle.std.proofs.lemmas.List.{get_or_default}
use Rattle.armus_base.specs.declared.ending.TaskEnd.TheVariants.{Done}
use Rattle.report.specs.inside.Merging.{IsIn}
use Rattle.report.proofs.Passing.{AreFirst, past, stay, told, stands_same, first_more}
use Rattle.report.proofs.standing.standings.Goals as goal
use Rattle.report.proofs.standing.standings.Goals.{then-is_dead, else-is_dead}

-- the standing that was pushed
pushed : (c : goal.In_ok-push) → AreFirst (IsIn c.args.dead.now) c.args.ends.now (c.loop-t.t + 1) c.push.new.self.items
pushed c =
    let is = told c.args.dead.now c.requires c.loop-t.at c.loop-t.t c.loop-t.invariant.passed c.is_task_at-is_dead.result c.is_task_at-is_dead.ensures in
    let e = c.in_ok-push.ensures.items in
    rw e
    (first_more (IsIn c.args.dead.now) c.args.ends.now c.loop-t.t c.loop-t.all.items c.standing_of.result c.loop-t.invariant.first
    (λ d. stands_same _ _ is (get_or c.args.ends.now c.loop-t.t d) c.standing_of.result
    (rw (get_or_default c.args.ends.now c.loop-t.t d Done c.loop-t-test.true) c.standing_of.ensures)))

pub loop-t-preserved : goal.loop-t-preserved
loop-t-preserved c =
    let h = c.loop-t.invariant.passed in
    elim c.if-is_dead.branch [
      | then-is_dead w ↦
          record { passed = rw w.at-is (past c.args.dead.now c.requires c.loop-t.at c.loop-t.t h (c.is_task_at-is_dead.ensures.0 w.if-is_dead.true)); first = pushed c }
      | else-is_dead w ↦
          record { passed = rw w.at-is (stay c.args.dead.now c.requires c.loop-t.at c.loop-t.t h (λ x. let f = c.is_task_at-is_dead.ensures.1 x in absurd cc)); first = pushed c }
    ]
