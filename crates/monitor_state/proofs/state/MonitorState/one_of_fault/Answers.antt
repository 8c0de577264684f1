use Rattle.std.proofs.Common.{Option, Bool, List, ℕ, sym, ◌∙◌, ap, subst}
use Rattle.std.specs.Prelude.{◌||◌, bytes_eq, find, nat_lt}
use Rattle.std.specs.Option.{option_copied, option_map}
use Rattle.monitor_laws.specs.Lines.{PlaysOneOf}
use Rattle.monitor_laws.specs.States.{Participant, after_line, is_there_as}
use Rattle.monitor_laws.specs.Faults.{LineFault, is_wildcard_in, memberships_in, most_memberships}
use Rattle.monitor_laws.specs.Lawful.{IsLawfulState}
use Rattle.trace_lines.specs.inside.Reading.{spaced_words}
use Rattle.monitor_words.specs.calls.FaultValues.{fault_of_line}
use Rattle.monitor_state.specs.inside.FirstFaults.{first_of_two, many_fault, one_of_fault}
use Rattle.monitor_state.proofs.KeptStates.{place_within}
use Rattle.monitor_state.proofs.TableRows.{one_of_first, one_of_space, where_none}
use Rattle.monitor_state.proofs.state.MonitorState.one_of_fault.Goals as goal

pub returns-clause-first : goal.returns-clause-first
returns-clause-first c =
    let s = c.args.self.now in
    let w = c.args.w.now in
    let names = spaced_words c.args.names.now in
    let lawful : IsLawfulState s = subst IsLawfulState c.self.view_is c.self.invariant.lawful in
    let found = find (is_there_as w) s.list in
    let misnamed = find (λ t. bytes_eq w t || is_wildcard_in s t) names in
    one_of_first s w names lawful
    ∙ ap (λ (o : Option LineFault). first_of_two o (many_fault (nat_lt most_memberships (memberships_in (after_line s (PlaysOneOf w names))))))
    (sym (c.one_of_fault.ensures
    ∙ ap (λ (o : Option Participant). one_of_fault w o (option_copied c.first_misnamed.result) c.is_full.result) (c.found.ensures w c.place_of.ensures.place)
    ∙ ap (λ (o : Option (List ℕ)). one_of_fault w found o c.is_full.result) c.first_misnamed.ensures
    ∙ ap (λ (b : Bool). one_of_fault w found misnamed b) c.is_full.ensures))

pub returns-clause-space : goal.returns-clause-space
returns-clause-space c =
    let s = c.args.self.now in
    let w = c.args.w.now in
    where_none c.one_of_fault.result (λ none.
    one_of_space s w (option_copied c.first_misnamed.result)
    (sym (c.one_of_fault.ensures
    ∙ ap (λ (o : Option Participant). one_of_fault w o (option_copied c.first_misnamed.result) c.is_full.result) (c.found.ensures w c.place_of.ensures.place)
    ∙ ap (λ (b : Bool). one_of_fault w (find (is_there_as w) s.list) (option_copied c.first_misnamed.result) b) c.is_full.ensures)
    ∙ ap (option_map fault_of_line) none))

pub found-requires : goal.found-requires
found-requires c = place_within c.args.self.now.list c.args.w.now c.place_of.result c.place_of.ensures.place
