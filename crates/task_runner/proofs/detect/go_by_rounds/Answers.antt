use Rattle.std.proofs.Common.{◌≡◌, [], Err, ap, append-nil, refl, rules, subst, sym}
use Rattle.task_runner.specs.calls.DetectRuns.{AreDeadAtTheEnd, told}
use Rattle.task_runner.specs.inside.LiveReporters.{TellsMore}
use Rattle.task_runner.specs.declared.ran.RunEnd.TheVariants.{NoMemory}
use Rattle.task_runner.proofs.TellingMore.{none_written}
use Rattle.task_runner.proofs.detect.go_by_rounds.Goals as goal

pub returns-then-run-clause-told : goal.returns-then-run-clause-told
returns-then-run-clause-told g c =
    let dead = c.args.live_reporter.now.dead in
    let a = told g.K.Sink.taken g.K.Sink.faults c.args.out.now in
    c.go.ensures.passes.1 dead a ([], sym (append-nil dead), none_written a a refl)

pub returns-in_err-go-clause-told : goal.returns-in_err-go-clause-told
returns-in_err-go-clause-told g c =
    let dead = c.args.live_reporter.now.dead in
    let a = told g.K.Sink.taken g.K.Sink.faults c.args.out.now in
    let n = told g.K.Sink.taken g.K.Sink.faults c.go-2.new.out in
    let is : c.from_residual.result ≡ Err NoMemory = search rules in
    subst (TellsMore {A = Unit {0}} c.args.board.now.plan dead dead a n) (sym is) (
      [],
      subst (AreDeadAtTheEnd c.args.board.now.plan) (sym (append-nil dead)) c.requires.under_way.watches.dead,
      none_written a n (ap (told g.K.Sink.taken g.K.Sink.faults) c.go-2.ensures.passes),
    )

pub returns-clause-told : goal.returns-clause-told
returns-clause-told g c =
    let a = told g.K.Sink.taken g.K.Sink.faults c.args.out.now in
    let n = told g.K.Sink.taken g.K.Sink.faults c.go-2.new.out in
    ([], sym (append-nil c.args.live_reporter.now.dead), none_written a n (ap (told g.K.Sink.taken g.K.Sink.faults) c.go-2.ensures.passes))
