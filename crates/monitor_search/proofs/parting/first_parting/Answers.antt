use Rattle.std.proofs.Common.{not, nat_eq, List, ◌∙◌, ap}
use Rattle.std.specs.Prelude.{filter}
use Rattle.std.specs.HashSet.{contains}
use Rattle.monitor_laws.specs.States.{Participant}
use Rattle.monitor_search.proofs.Parted.{parting_of_same}
use Rattle.monitor_search.proofs.TakenOut.{parting_of_out}
use Rattle.monitor_search.proofs.parting.first_parting.Goals as goal

pub returns : goal.returns
returns c =
    let s = c.args.state.now in
    let numbers = c.in_ok-numbers.numbers in
    parting_of_same s _ _ _ _ (parting_of_out s (contains nat_eq numbers) c.in_ok-numbers.ensures)
    (c.in_ok-inside.ensures ∙ ap (λ (l : List Participant). filter (λ u. not (contains nat_eq numbers u.number)) l) c.participants-list.ensures.list)
    (c.in_ok-outside.ensures ∙ ap (λ (l : List Participant). filter (λ u. contains nat_eq numbers u.number) l) c.participants-list.ensures.list)
