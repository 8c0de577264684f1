use Rattle.std.proofs.Common.{rules, ◌≡◌, ◌++◌, ℕ, Bool, subst}
use Rattle.std.proofs.lemmas.Result.{on_ok_weaker}
use Rattle.monitor_search.specs.Known.{has_stuck_number}
use Rattle.monitor_words.specs.Messages.{report_words}
use Rattle.monitor_words.specs.Stops.{TellsStuck}
use Rattle.monitor_messages.proofs.known_state.KnownState.put_report.Goals as goal

pub returns : goal.returns
returns c =
    let stuck = has_stuck_number c.self.inside.stuck in
    on_ok_weaker {Q = (known : ℕ → Bool) × TellsStuck c.args.self.now known × (c.put_state_report.new.out.items ≡ c.args.out.now.items ++ report_words c.args.self.now known)} c.put_state_report.result
    (λ is. (stuck, subst (λ s. TellsStuck s stuck) c.self.view_is c.self.invariant.1.tells, search rules)) c.put_state_report.ensures
