use Rattle.std.proofs.Common.{sym, ◌∙◌, ap}
use Rattle.std.proofs.lemmas.Bool.{true≢false}
use Rattle.monitor_laws.specs.Faults.{waits_now}
use Rattle.monitor_laws.proofs.Filters.{none_passes}
use Rattle.monitor_rows.proofs.least_phases.least_awaited.Goals as goal

pub returns-then-not-somebody_waits : goal.returns-then-not-somebody_waits
returns-then-not-somebody_waits c = record {
  known = λ t q n listed waits.
      absurd (true≢false (sym (ap waits_now waits) ∙ none_passes (λ u. waits_now u.condition) c.args.list.now t listed (sym c.somebody_waits.ensures ∙ c.if-not-somebody_waits.true)));
}

pub returns : goal.returns
returns c = record { known = λ t q n listed waits. c.in_ok-least.ensures q n }
