use Rattle.board.specs.calls.Views.{found_of}
use Rattle.sites.proofs.SnapSteps.{looked_await}
use Rattle.sites.proofs.snapping.load_event.Goals as goal

pub returns-clause-looked : goal.returns-clause-looked
returns-clause-looked c =
    looked_await c.args.view.now c.load_await-seen.new.self c.args.board.now c.args.t.0 (found_of c.load_await-seen.result) c.requires.made c.requires.task
    c.load_await-seen.ensures.answer
