use Rattle.armus_base.proofs.laws.seats.seen_keeps_far.Goals as goal
use Rattle.armus_base.proofs.KeepsFar.{await_load_keeps_far, busy_keeps_far, phase_load_keeps_far}

pub returns : goal.returns
returns c = record { await_load = await_load_keeps_far; phase_load = phase_load_keeps_far; busy = busy_keeps_far }
