use Rattle.armus_base.proofs.laws.seats.seen_is_before.Goals as goal
use Rattle.armus_base.proofs.HolderMayHold.{holder_may_hold, busy_is_before}
use Rattle.armus_base.proofs.LawfulPlaces.{await_load_is_before, phase_load_is_before}

pub returns : goal.returns
returns c = record {
  await_load = await_load_is_before;
  phase_load = phase_load_is_before;
  holder = holder_may_hold;
  busy = busy_is_before;
}
