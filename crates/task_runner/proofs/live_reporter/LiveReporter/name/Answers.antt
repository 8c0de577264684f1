use Rattle.std.proofs.Common.{◌≡◌, ◌++◌, ◌∙◌, List, sym, ap, subst, rules}
use Rattle.armus_base.specs.declared.status.Dead.{Dead}
use Rattle.board.specs.calls.Seats.{Known}
use Rattle.report.specs.Live.{live_text}
use Rattle.task_runner.specs.inside.LiveReporters.{HasPassed, Telling, IsWatching}
use Rattle.task_runner.proofs.TellingMore.{watches_more}
use Rattle.task_runner.proofs.live_reporter.LiveReporter.name.Goals as goal

pub returns-clause-watches : goal.returns-clause-watches
returns-clause-watches c =
    let w : Telling = record { collector = c.self.inside.collector; view = c.self.inside.view; dead = c.self.inside.dead.items; last = c.self.inside.last } in
    let items : c.append.new.self.items ≡ c.self.inside.dead.items ++ c.in_ok-dead.field-0.fresh = search rules in
    let p = c.pass.ensures in
    subst (λ (ds : List Dead). IsWatching c.args.board.now (record { collector = c.pass.new.self; view = c.pass.new.view; dead = ds; last = c.in_ok-dead.field-0.dead })) (sym items)
    (watches_more c.args.board.now w c.pass.new.view c.pass.new.self c.pass.new.self.statuses c.in_ok-dead.field-0 c.in_ok-dead.field-0.dead c.requires.detects
    (subst (IsWatching c.args.board.now) (sym c.self.view_is) c.requires.watches) p.collected.goes_on p.collected.collect c.in_ok-dead.ensures.pass.verdict c.in_ok-dead.ensures.pass.named p.tasks p.phasers)

pub returns-clause-named : goal.returns-clause-named
returns-clause-named c =
    let items : c.append.new.self.items ≡ c.self.inside.dead.items ++ c.in_ok-dead.field-0.fresh = search rules in
    let lines : c.in_ok-lines.lines ≡ live_text c.in_ok-dead.field-0.fresh = search rules in (
      c.in_ok-dead.field-0.fresh,
      items ∙ ap (λ (t : Telling). t.dead ++ c.in_ok-dead.field-0.fresh) c.self.view_is,
      lines,
    )

pub returns-clause-passed : goal.returns-clause-passed
returns-clause-passed c =
    let p = c.in_ok-dead.ensures in
    subst (λ (k : Known). HasPassed k (record { collector = c.pass.new.self; view = c.pass.new.view; dead = c.append.new.self.items; last = c.in_ok-dead.field-0.dead }))
    (ap (λ (t : Telling). t.view) c.self.view_is)
    (record { named = p.pass.verdict.dead; statuses = p.collected.settled; dead = p.pass.settled_dead })
