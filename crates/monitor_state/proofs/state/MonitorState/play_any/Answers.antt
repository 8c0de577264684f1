use Rattle.std.proofs.Common.{refl}
use Rattle.monitor_laws.specs.Lines.{PlaysAny}
use Rattle.monitor_state.proofs.KeptStates.{few_kept}
use Rattle.monitor_state.proofs.LegalLines.{any_room, any_space}
use Rattle.monitor_state.proofs.state.MonitorState.play_any.Goals as goal

pub change-requires-clause-line : goal.change-requires-clause-line
change-requires-clause-line c = (PlaysAny c.args.w.now, refl)

pub change-requires-clause-space : goal.change-requires-clause-space
change-requires-clause-space c = any_space c.args.self.now c.args.w.now c.requires.legal

pub change-requires-clause-few : goal.change-requires-clause-few
change-requires-clause-few c =
    let few = few_kept c.args.self.now _ c.self.inside.memberships c.self.view_is c.self.invariant in
    any_room c.args.self.now c.args.w.now few
