use Rattle.std.proofs.Common.{sym, ◌∙◌, ap, subst}
use Rattle.monitor_laws.specs.Lawful.{IsLawfulState}
use Rattle.monitor_state.specs.inside.FirstFaults.{is_wildcard_there}
use Rattle.monitor_state.proofs.KeptStates.{place_within}
use Rattle.monitor_state.proofs.TableRows.{wildcard_is}
use Rattle.monitor_state.proofs.state.MonitorState.is_wildcard.Goals as goal

pub returns : goal.returns
returns c =
    let lawful : IsLawfulState c.args.self.now = subst IsLawfulState c.self.view_is c.self.invariant.lawful in
    c.is_wildcard_there.ensures ∙ ap is_wildcard_there (c.found.ensures c.args.t.now c.place_of.ensures.place) ∙ sym (wildcard_is c.args.self.now c.args.t.now lawful)

pub found-requires : goal.found-requires
found-requires c = place_within c.args.self.now.list c.args.t.now c.place_of.result c.place_of.ensures.place
