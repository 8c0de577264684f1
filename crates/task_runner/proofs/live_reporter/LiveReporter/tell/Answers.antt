use Rattle.std.proofs.Common.{◌≡◌, ◌∙◌, [], ℕ, Err, List, sym, refl, subst, append-nil, rules}
use Rattle.armus_base.specs.ReadAll.{TookFront}
use Rattle.task_runner.specs.calls.DetectRuns.{AreDeadAtTheEnd, told}
use Rattle.task_runner.specs.inside.LiveReporters.{TellsMore}
use Rattle.task_runner.specs.declared.ran.RunEnd.TheVariants.{NoMemory, Write}
use Rattle.task_runner.proofs.TellingMore.{none_written}
use Rattle.task_runner.proofs.live_reporter.LiveReporter.tell.Goals as goal

pub returns-in_err-lines-clause-told : goal.returns-in_err-lines-clause-told
returns-in_err-lines-clause-told g c =
    let dead = c.args.self.now.dead in
    let a = told g.K.Writes.bytes g.K.Writes.failures c.args.out.now in
    let is : c.from_residual.result ≡ Err NoMemory = search rules in
    subst (TellsMore {A = Unit {0}} c.args.board.now.plan dead c.name.new.self.dead a a) (sym is)
    ([], subst (AreDeadAtTheEnd c.args.board.now.plan) (sym (append-nil dead)) c.requires.watches.dead, none_written _ _ refl)

pub returns-in_err-write_all-clause-told : goal.returns-in_err-write_all-clause-told
returns-in_err-write_all-clause-told g c =
    let a = told g.K.Writes.bytes g.K.Writes.failures c.args.out.now in
    let n = told g.K.Writes.bytes g.K.Writes.failures c.write_all.new.self in
    let named = c.in_ok-lines.ensures.named in
    let text : c.as_slice.result.now ≡ c.in_ok-lines.lines = search rules in
    let is : c.from_residual-in_err-write_all.result ≡ Err Write = search rules in
    subst (TellsMore {A = Unit {0}} c.args.board.now.plan c.args.self.now.dead c.name.new.self.dead a n) (sym is) (
      named.0,
      subst (AreDeadAtTheEnd c.args.board.now.plan) named.1 c.in_ok-lines.ensures.watches.dead,
      record {
        front = subst (λ (bytes : List ℕ). TookFront (g.K.Writes.bytes c.args.out.now) (g.K.Writes.bytes c.write_all.new.self) bytes) (text ∙ named.2)
            c.in_err-write_all.ensures.err;
        failed = c.in_err-write_all.ensures.cause.once;
      },
    )
