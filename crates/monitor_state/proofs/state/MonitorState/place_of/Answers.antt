use Rattle.std.proofs.Common.{◌≡◌, IfNone, IfSome, false, subst}
use Rattle.std.specs.List.{list_any}
use Rattle.monitor_laws.specs.States.{TraceState, is_there_as}
use Rattle.monitor_state.specs.inside.FirstPlaces.{IsFirstAt}
use Rattle.monitor_state.specs.inside.Numbers.{IsPlaceOfName}
use Rattle.monitor_state.proofs.KeptStates.{first_at, in_order}
use Rattle.monitor_state.proofs.state.MonitorState.place_of.Goals as goal

pub place_of-requires : goal.place_of-requires
place_of-requires c = in_order _ c.self.inside.memberships c.self.invariant

pub returns-clause-place : goal.returns-clause-place
returns-clause-place c =
    subst (λ (s : TraceState). IsPlaceOfName s.list c.args.t.now c.place_of.result) c.self.view_is
    (first_at c.self.inside.listing c.args.t.now c.place_of.result c.place_of.ensures.at c.place_of.ensures.none)

pub returns-clause-at : goal.returns-clause-at
returns-clause-at c = subst (λ (s : TraceState). IfSome c.place_of.result (IsFirstAt (is_there_as c.args.t.now) s.list)) c.self.view_is c.place_of.ensures.at

pub returns-clause-none : goal.returns-clause-none
returns-clause-none c = subst (λ (s : TraceState). IfNone c.place_of.result (list_any (is_there_as c.args.t.now) s.list ≡ false)) c.self.view_is c.place_of.ensures.none
