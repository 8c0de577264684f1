use Rattle.std.proofs.Common.{Some, sym, ◌∙◌, ap}
use Rattle.std.specs.Prelude.{find}
use Rattle.monitor_laws.specs.States.{Participant, TraceState, is_there_as}
use Rattle.monitor_state.specs.inside.FirstPlaces.{IsFirstAt}
use Rattle.monitor_state.proofs.KeptStates.{first_in, nobody_in}
use Rattle.monitor_state.proofs.OnePassing.{found_first, found_none}
use Rattle.monitor_state.proofs.state.MonitorState.found.Goals as goal

pub returns-in-None : goal.returns-in-None
returns-in-None c =
    λ t place.
    sym (found_none (is_there_as t) c.self.inside.listing (nobody_in c.args.self.now c.self.inside.listing c.self.inside.named t c.args.at c.self.view_is place c.in-None.is))
    ∙ ap (λ (s : TraceState). find (is_there_as t) s.list) c.self.view_is

pub returns-in-Some : goal.returns-in-Some
returns-in-Some c =
    λ t place.
    let first : IsFirstAt (is_there_as t) c.self.inside.listing c.in-Some.at = first_in c.args.self.now c.self.inside.listing c.self.inside.named t c.args.at c.self.view_is place c.in-Some.at c.in-Some.is in
    ap (λ (u : Participant). Some u) c.one_at.ensures ∙ sym (found_first (is_there_as t) c.self.inside.listing c.in-Some.at c.one_at.result.now first)
    ∙ ap (λ (s : TraceState). find (is_there_as t) s.list) c.self.view_is
