use Rattle.std.proofs.Common.{Option, Bool, sym, ◌∙◌, ap, subst}
use Rattle.std.specs.Prelude.{find}
use Rattle.monitor_laws.specs.States.{Participant, is_there_as}
use Rattle.monitor_laws.specs.Lawful.{IsLawfulState}
use Rattle.monitor_state.specs.inside.FirstFaults.{any_fault}
use Rattle.monitor_state.proofs.KeptStates.{place_within}
use Rattle.monitor_state.proofs.TableRows.{any_first}
use Rattle.monitor_state.proofs.state.MonitorState.any_fault.Goals as goal

pub returns : goal.returns
returns c =
    let s = c.args.self.now in
    let w = c.args.w.now in
    let lawful : IsLawfulState s = subst IsLawfulState c.self.view_is c.self.invariant.lawful in
    c.any_fault.ensures
    ∙ ap (λ (found : Option Participant). any_fault w found c.is_full.result) (c.found.ensures w c.place_of.ensures.place)
    ∙ ap (λ (full : Bool). any_fault w (find (is_there_as w) s.list) full) c.is_full.ensures
    ∙ sym (any_first s w lawful)

pub found-requires : goal.found-requires
found-requires c = place_within c.args.self.now.list c.args.w.now c.place_of.result c.place_of.ensures.place
