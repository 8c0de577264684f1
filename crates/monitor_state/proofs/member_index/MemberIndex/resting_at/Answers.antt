use Rattle.std.proofs.Common.{◌∙◌, ap}
use Rattle.monitor_members.specs.Noted.{has_pair}
use Rattle.monitor_state.proofs.member_index.MemberIndex.resting_at.Goals as goal

pub returns : goal.returns
returns c = λ us of m k. ap (λ l. has_pair l m k) c.pairs_at.ensures ∙ of.resting c.args.p.now m k
