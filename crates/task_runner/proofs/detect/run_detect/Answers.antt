use Rattle.std.proofs.Common.{◌≡◌, ◌∙◌, Err, ap, subst, rules}
use Rattle.armus_base.specs.Plans.{Plan}
use Rattle.armus_base.specs.calls.Seats.{SeenBy}
use Rattle.board.specs.calls.Seats.{Known}
use Rattle.board.specs.calls.Views.{seen}
use Rattle.task_runner.specs.calls.DetectRuns.{told}
use Rattle.task_runner.specs.declared.ran.RunEnd.TheVariants.{NoMemory}
use Rattle.task_runner.specs.inside.LiveReporters.{TellsMore, TellsOn}
use Rattle.world_runs.specs.declared.options.RunOptions.{RunOptions}
use Rattle.task_runner.proofs.TellingAll.{none_told, run_err, run_on}
use Rattle.task_runner.proofs.detect.run_detect.Goals as goal

pub returns-in_err-board-clause-told : goal.returns-in_err-board-clause-told
returns-in_err-board-clause-told g c = λ live.
    let is : c.from_residual.result ≡ Err NoMemory = search rules in
    none_told c.args.plan.now (told g.K.Sink.taken g.K.Sink.faults c.args.out.now) c.from_residual.result is

pub returns-in_err-run-clause-told : goal.returns-in_err-run-clause-told
returns-in_err-run-clause-told g c = λ live.
    let is : c.from_residual-in_err-run.result ≡ Err NoMemory = search rules in
    none_told c.args.plan.now (told g.K.Sink.taken g.K.Sink.faults c.args.out.now) c.from_residual-in_err-run.result is

pub returns-in_err-live_reporter-clause-told : goal.returns-in_err-live_reporter-clause-told
returns-in_err-live_reporter-clause-told g c = λ live.
    let is : c.from_residual-in_err-live_reporter.result ≡ Err NoMemory = search rules in
    none_told c.args.plan.now (told g.K.Sink.taken g.K.Sink.faults c.args.out.now) c.from_residual-in_err-live_reporter.result is

pub returns-in_err-go_by_rounds-clause-told : goal.returns-in_err-go_by_rounds-clause-told
returns-in_err-go_by_rounds-clause-told g c = λ live.
    let first = c.in_ok-live_reporter.live_reporter.dead in
    let second = c.go_by_rounds.new.live_reporter.dead in
    let a = told g.K.Sink.taken g.K.Sink.faults c.args.out.now in
    let n = told g.K.Sink.taken g.K.Sink.faults c.go_by_rounds.new.out in
    let is : c.from_residual-in_err-go_by_rounds.result ≡ Err c.in_err-go_by_rounds.field-0.0 = search rules in
    run_err (Unit {0}) c.args.plan.now first second a n c.in_err-go_by_rounds.field-0.0 c.from_residual-in_err-go_by_rounds.result is c.in_ok-live_reporter.ensures.nobody
    (subst (λ (q : Plan). TellsMore {A = Unit {0}} q first second a n (Err c.in_err-go_by_rounds.field-0.0)) c.in_ok-board.ensures.board.0 c.in_err-go_by_rounds.ensures.told)

pub end_run-requires-clause-unknown : goal.end_run-requires-clause-unknown
end_run-requires-clause-unknown g c κs within = λ u.
    c.in_ok-go_by_rounds.ensures.sees u ∙ ap (λ (k : Known). (seen k.view).exact u) c.in_ok-live_reporter.ensures.view ∙ ap (λ (s : SeenBy). s.exact u) c.in_ok-board.ensures.viewer.seen_is

pub returns-clause-told : goal.returns-clause-told
returns-clause-told g c = λ live.
    let t = c.in_ok-go_by_rounds.ensures.told in
    let a = told g.K.Sink.taken g.K.Sink.faults c.args.out.now in
    let m = told g.K.Sink.taken g.K.Sink.faults c.go_by_rounds.new.out in
    let n = told g.K.Sink.taken g.K.Sink.faults c.end_run.new.out in
    let same : c.go_by_rounds.new.run.plan.now ≡ c.args.plan.now = search rules in
    let options : c.go_by_rounds.new.run.options ≡ c.args.options.now = c.go_by_rounds.ensures.given.1 ∙ c.in_ok-run.ensures.given.1 in
    run_on c.args.plan.now c.in_ok-live_reporter.live_reporter.dead c.go_by_rounds.new.live_reporter.dead t.0 a m n c.end_run.result c.in_ok-live_reporter.ensures.nobody t.1 t.2
    (subst (λ (q : Plan). TellsOn q c.go_by_rounds.new.live_reporter.dead m n c.end_run.result) same (c.end_run.ensures.told (ap (λ (o : RunOptions). o.live) options ∙ live)))

pub returns-clause-silent : goal.returns-clause-silent
returns-clause-silent g c = λ quiet.
    let first = c.in_ok-run.ensures.given.1 in
    let second : c.go_by_rounds.new.run.options ≡ c.args.options.now = c.go_by_rounds.ensures.given.1 ∙ first in
    let rounds = c.go_by_rounds.ensures.silent (ap (λ (o : RunOptions). o.live) first ∙ quiet) in
    let end = c.end_run.ensures.silent (ap (λ (o : RunOptions). o.live) second ∙ quiet) in
    (end.0 ∙ rounds.0, end.1)
