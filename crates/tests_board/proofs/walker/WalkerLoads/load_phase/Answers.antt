use Rattle.std.proofs.Common.{◌≡◌, ◌∙◌}
use Rattle.board.proofs.Walking.{left_loaded}
use Rattle.tests_board.proofs.walker.WalkerLoads.load_phase.Goals as goal

pub invariant_of-self : goal.invariant_of-self
invariant_of-self c =
    let load = c.load_phase.ensures.answer.load in
    record {
      free = load.same.holds ∙ c.self.invariant.free;
      left = λ undecided.
          left_loaded c.self.inside.cursor c.self.inside.seat c.load_phase.new.self c.id.result.0 (λ s. s.phases c.args.t.0 c.args.p.0 ≡ c.load_phase.result)
          (c.self.invariant.left undecided) c.id.ensures.task c.id.ensures.seat load.same load.seen_now.exact load.was;
    }
