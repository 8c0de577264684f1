use Rattle.std.proofs.Common.{sym, subst}
use Rattle.task_runner.specs.inside.LiveReporters.{Telling, IsWatching}
use Rattle.task_runner.proofs.TellingMore.{watches_taken}
use Rattle.task_runner.proofs.live_reporter.LiveReporter.take_in.Goals as goal

pub returns-clause-watches : goal.returns-clause-watches
returns-clause-watches c =
    let w : Telling = record { collector = c.self.inside.collector; view = c.self.inside.view; dead = c.self.inside.dead.items; last = c.self.inside.last } in
    let watches = subst (IsWatching c.args.board.now) (sym c.self.view_is) c.requires.watches in
    let t = c.take_in.ensures in
    watches_taken c.args.board.now w c.take_in.new.view watches t.made t.same (t.kept watches.kept)
