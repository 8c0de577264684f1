use Rattle.std.proofs.Common.{◌<◌}
use Rattle.monitor_members.specs.Noted.{is_noted}
use Rattle.monitor_state.specs.Indexes.{waits_above, awaits_phase}
use Rattle.monitor_state.proofs.Beyond.{told_beyond, waits_from, waits_to}
use Rattle.monitor_state.proofs.member_index.MemberIndex.is_awaited_above.Goals as goal

pub returns : goal.returns
returns c =
    let p = c.args.p.now in
    let n = c.args.n in
    λ us of.
    told_beyond us (is_noted c.args.self.now.waiting p) (λ m u. awaits_phase p m u) (of.waiting p) (λ m. n < m) (waits_above p n) (waits_to p n) (waits_from p n) c.has_above.result c.has_above.ensures.some c.has_above.ensures.none
