use Rattle.std.proofs.Common.{Some, ◌∙◌, ap}
use Rattle.std.specs.Prelude.{bytes_eq, if◌then◌else◌}
use Rattle.monitor_state.specs.inside.Numbers.{number_by_name}
use Rattle.monitor_state.proofs.NumbersByName.{number_after}
use Rattle.monitor_state.proofs.numbers.put_number.Goals as goal

pub returns-clause-put : goal.returns-clause-put
returns-clause-put c =
    λ x.
    number_after c.in_ok-name.name.items c.args.numbers.now c.insert.new.self (Some c.args.number) c.in_ok-insert.ensures.updates x
    ∙ ap (λ bs. if bytes_eq bs x then Some c.args.number else number_by_name c.args.numbers.now x) c.in_ok-name.ensures.items
