use Rattle.task_runner.specs.calls.DetectRuns.{told}
use Rattle.task_runner.proofs.TellingMore.{told_on}
use Rattle.task_runner.proofs.live_reporter.LiveReporterBeside.pass.Goals as goal

pub returns-clause-passes : goal.returns-clause-passes
returns-clause-passes g c =
    let a = told g.K.Writes.bytes g.K.Writes.failures c.args.out.now in
    let n = told g.K.Writes.bytes g.K.Writes.failures c.tell.new.out in (
      c.tell.ensures.goes_on.seen_now.exact,
      λ first start so_far.
          told_on c.args.board.now.plan first c.args.self.now.dead c.tell.new.self.dead start a n so_far.0 c.tell.result so_far.1 so_far.2 c.tell.ensures.told,
    )
