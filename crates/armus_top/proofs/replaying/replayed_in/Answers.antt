use Rattle.std.proofs.Common.{ap, arith, length}
use Rattle.schedule.proofs.Within.{schedule_within}
use Rattle.armus_top.proofs.replaying.replayed_in.Goals as goal

pub replay-requires : goal.replay-requires
replay-requires c =
    let within = schedule_within c.args.schedule.now c.in_ok-lines.lines c.in_ok-lines.ensures.lines in
    let same = ap length c.as_slice.ensures.items in
    let short = c.requires.short in
    record { few = omega arith }
