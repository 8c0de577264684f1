use Rattle.std.proofs.Common.{◌≡◌, List, map, sym, ◌∙◌, ap, subst, arith}
use Rattle.std.specs.Prelude.{filter, sum_by}
use Rattle.monitor_laws.specs.Lines.{AreGone}
use Rattle.monitor_laws.specs.States.{Participant, TraceState, after_line, gone_by, stays_listed}
use Rattle.monitor_state.specs.inside.Changes.{memberships_had}
use Rattle.monitor_state.specs.inside.States.{IsMonitorState}
use Rattle.monitor_state.proofs.Noting.{on_err_too}
use Rattle.monitor_state.proofs.GoneOnes.{gone_few, kept_gone}
use Rattle.monitor_state.proofs.state.MonitorState.go_all.Goals as goal

pub memberships_of-self-inside-requires : goal.memberships_of-self-inside-requires
memberships_of-self-inside-requires c =
    let list : c.as_slice.result.now ≡ filter stays_listed (map (gone_by c.args.beginning.now) c.self.inside.listing) = c.as_slice.ensures ∙ c.in_ok-go_all.ensures.gone in
    let few = gone_few _ c.self.inside.memberships c.args.beginning.now c.self.invariant in
    let same = ap (sum_by memberships_had) list in
    omega arith

pub invariant_of-self : goal.invariant_of-self
invariant_of-self c =
    subst (λ (l : List Participant). IsMonitorState (record { list = l; named = c.self.inside.named }) c.self.inside.memberships) (sym c.in_err-go_all.ensures.kept) c.self.invariant

pub invariant_of-self-2 : goal.invariant_of-self-2
invariant_of-self-2 c =
    let list : c.go_all.new.self ≡ filter stays_listed (map (gone_by c.args.beginning.now) c.self.inside.listing) = c.in_ok-go_all.ensures.gone in
    let count = c.memberships_of-self-inside.ensures ∙ ap (sum_by memberships_had) (c.as_slice.ensures ∙ list) in
    subst (λ (l : List Participant). IsMonitorState (record { list = l; named = c.self.inside.named }) c.memberships_of-self-inside.result) (sym list)
    (kept_gone _ c.self.inside.memberships c.memberships_of-self-inside.result c.args.beginning.now c.self.invariant count)

pub returns-in_err-go_all-clause-kept : goal.returns-in_err-go_all-clause-kept
returns-in_err-go_all-clause-kept c =
    on_err_too c.from_residual.result _ (ap (λ (l : List Participant). record { list = l; named = c.self.inside.named }) c.in_err-go_all.ensures.kept ∙ c.self.view_is)

pub returns-clause-gone : goal.returns-clause-gone
returns-clause-gone c =
    ap (λ (l : List Participant). record { list = l; named = c.self.inside.named }) c.in_ok-go_all.ensures.gone ∙ ap (λ (s : TraceState). after_line s (AreGone c.args.beginning.now)) c.self.view_is
