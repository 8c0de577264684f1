use Rattle.std.proofs.Common.{refl}
use Rattle.monitor_laws.specs.Lines.{Announces}
use Rattle.trace_lines.specs.Values.{place_value, said_value}
use Rattle.monitor_state.proofs.KeptStates.{few_kept}
use Rattle.monitor_state.proofs.LegalLines.{IsAllowed, allowed}
use Rattle.monitor_state.proofs.state.MonitorState.announce.Goals as goal

pub change-requires-clause-line : goal.change-requires-clause-line
change-requires-clause-line c = (Announces c.args.t.now (said_value c.args.what.now) (place_value c.args.place), refl)

pub change-requires-clause-may : goal.change-requires-clause-may
change-requires-clause-may c =
    let few = few_kept c.args.self.now _ c.self.inside.memberships c.self.view_is c.self.invariant in
    let may : IsAllowed c.args.self.now c.args.t.now (said_value c.args.what.now) (place_value c.args.place) = allowed c.args.self.now c.args.t.now (said_value c.args.what.now) (place_value c.args.place) few c.requires.legal in
    may.may

pub change-requires-clause-space : goal.change-requires-clause-space
change-requires-clause-space c =
    let few = few_kept c.args.self.now _ c.self.inside.memberships c.self.view_is c.self.invariant in
    let may : IsAllowed c.args.self.now c.args.t.now (said_value c.args.what.now) (place_value c.args.place) = allowed c.args.self.now c.args.t.now (said_value c.args.what.now) (place_value c.args.place) few c.requires.legal in
    may.space

pub change-requires-clause-few : goal.change-requires-clause-few
change-requires-clause-few c =
    let few = few_kept c.args.self.now _ c.self.inside.memberships c.self.view_is c.self.invariant in
    let may : IsAllowed c.args.self.now c.args.t.now (said_value c.args.what.now) (place_value c.args.place) = allowed c.args.self.now c.args.t.now (said_value c.args.what.now) (place_value c.args.place) few c.requires.legal in
    may.room
