use Rattle.std.proofs.Common.{◌<◌, length, rules}
use Rattle.monitor_laws.specs.States.{gone_by}
use Rattle.monitor_state.proofs.GoneOnes.{one_more_mapped}
use Rattle.monitor_state.proofs.goes.end_all.Goals as goal

pub loop-at-preserved : goal.loop-at-preserved
loop-at-preserved c =
    let within : c.loop-at.at < length c.args.list.now.items = search rules in
    one_more_mapped (gone_by c.args.beginning.now) c.args.list.now.items c.loop-at.list.items c.loop-at.at c.index_mut-participant.result.now c.go_with.new.self c.loop-at.invariant within c.index_mut-participant.ensures.value c.go_with.ensures
