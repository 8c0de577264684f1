use Rattle.std.proofs.Common.{Option, Bool, sym, ◌∙◌, ap, subst}
use Rattle.std.specs.Prelude.{find, is_some, length, nat_le}
use Rattle.monitor_laws.specs.States.{Participant, is_there_as}
use Rattle.monitor_laws.specs.Faults.{most_listed}
use Rattle.monitor_laws.specs.Lawful.{IsLawfulState}
use Rattle.trace_lines.specs.Values.{said_value}
use Rattle.monitor_state.specs.inside.FirstFaults.{announced_fault}
use Rattle.monitor_state.proofs.KeptStates.{place_within}
use Rattle.monitor_state.proofs.TableRows.{announced_first}
use Rattle.monitor_state.proofs.state.MonitorState.announced_fault.Goals as goal

pub returns : goal.returns
returns c =
    let s = c.args.self.now in
    let t = c.args.t.now in
    let what = said_value c.args.what.now in
    let lawful : IsLawfulState s = subst IsLawfulState c.self.view_is c.self.invariant.lawful in
    λ place same.
    c.announced_fault.ensures
    ∙ ap (λ (found : Option Participant). announced_fault t found what c.args.is_placed c.is_full.result c.has_most.result) (c.found.ensures t c.requires.place)
    ∙ ap (λ (placed : Bool). announced_fault t (find (is_there_as t) s.list) what placed c.is_full.result c.has_most.result) (sym same)
    ∙ ap (λ (full : Bool). announced_fault t (find (is_there_as t) s.list) what (is_some place) full c.has_most.result) c.is_full.ensures
    ∙ ap (λ (most : Bool). announced_fault t (find (is_there_as t) s.list) what (is_some place) (nat_le most_listed (length s.list)) most) c.has_most.ensures
    ∙ sym (announced_first s t what place lawful)

pub found-requires : goal.found-requires
found-requires c = place_within c.args.self.now.list c.args.t.now c.args.at c.requires.place
