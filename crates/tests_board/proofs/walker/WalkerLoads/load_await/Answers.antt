use Rattle.std.proofs.Common.{◌≡◌, ◌∙◌}
use Rattle.board.specs.calls.Views.{found_of}
use Rattle.board.specs.calls.Words.{found_in}
use Rattle.board.proofs.Walking.{left_loaded}
use Rattle.tests_board.proofs.walker.WalkerLoads.load_await.Goals as goal

pub invariant_of-self : goal.invariant_of-self
invariant_of-self c =
    let load = c.load_await.ensures.answer.load in
    record {
      free = load.same.holds ∙ c.self.invariant.free;
      left = λ undecided.
          left_loaded c.self.inside.cursor c.self.inside.seat c.load_await.new.self c.id.result.0 (λ s. found_in s c.args.t.0 ≡ found_of c.load_await.result)
          (c.self.invariant.left undecided) c.id.ensures.task c.id.ensures.seat load.same load.seen_now.place.exact load.was;
    }
