use Rattle.std.proofs.Common.{◌≡◌, ◌<◌, ◌+◌, ◌-◌, false, sym, ◌∙◌, ap, arith}
use Rattle.std.specs.Prelude.{length, nat_lt}
use Rattle.std.specs.List.{list_any}
use Rattle.std.proofs.lemmas.Bool.{lt-ltb}
use Rattle.monitor_laws.specs.Lines.{PlaysOneOf}
use Rattle.monitor_laws.specs.States.{after_line, is_there_as}
use Rattle.monitor_laws.specs.Faults.{memberships_in, most_memberships}
use Rattle.monitor_state.specs.inside.FirstPlaces.{IsFirstAt}
use Rattle.monitor_state.specs.inside.Changes.{memberships_had}
use Rattle.monitor_state.proofs.KeptStates.{after_most, after_new, after_there, in_order}
use Rattle.monitor_state.proofs.state.MonitorState.has_too_many.Goals as goal

pub returns-then-count-gt-MOST_MEMBERSHIPS : goal.returns-then-count-gt-MOST_MEMBERSHIPS
returns-then-count-gt-MOST_MEMBERSHIPS c =
    let more : most_memberships < c.args.count = c.if-count-gt-MOST_MEMBERSHIPS.true in
    λ names long.
    let most = after_most c.args.self.now c.self.inside.listing c.self.inside.named c.self.inside.memberships c.args.w.now names c.args.count c.self.view_is c.self.invariant long in
    sym (lt-ltb most_memberships (memberships_in (after_line c.args.self.now (PlaysOneOf c.args.w.now names))) (omega arith))

pub returns-in-None : goal.returns-in-None
returns-in-None c =
    let none : list_any (is_there_as c.args.w.now) c.self.inside.listing ≡ false = c.in-None.ensures.none in
    λ names long.
    sym (ap (nat_lt most_memberships) (after_new c.args.self.now c.self.inside.listing c.self.inside.named c.self.inside.memberships c.args.w.now names c.args.count c.self.view_is c.self.invariant long none))

pub returns-in-Some : goal.returns-in-Some
returns-in-Some c =
    let first : IsFirstAt (is_there_as c.args.w.now) c.self.inside.listing c.in-Some.at = c.in-Some.ensures.at in
    let had = c.memberships_had.ensures in
    let long_phases : c.len.result ≡ length c.one_at-u.result.now.phases = c.len.ensures ∙ ap (λ l. length l) c.memberships.ensures in
    λ names long.
    let is = after_there c.args.self.now c.self.inside.listing c.self.inside.named c.self.inside.memberships c.args.w.now names c.args.count c.self.view_is c.self.invariant long c.in-Some.at c.one_at-u.result.now first c.one_at-u.ensures in
    ap (λ n. nat_lt most_memberships (c.self.inside.memberships - n + c.len.result + c.args.count)) had
    ∙ ap (λ n. nat_lt most_memberships (c.self.inside.memberships - memberships_had c.one_at-u.result.now + n + c.args.count)) long_phases
    ∙ sym (ap (nat_lt most_memberships) is)

pub place_of-requires : goal.place_of-requires
place_of-requires c = in_order _ c.self.inside.memberships c.self.invariant

pub one_at-u-requires : goal.one_at-u-requires
one_at-u-requires c = c.in-Some.ensures.at.within
