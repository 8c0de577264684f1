use Rattle.armus_base.proofs.laws.seats.scanned_stays.Goals as goal
use Rattle.armus_base.proofs.AllScannedIsReached.{all_scanned_is_reached}
use Rattle.armus_base.proofs.ScannedStays.{scanned_stays}

pub returns : goal.returns
returns c = record { below = scanned_stays; all = all_scanned_is_reached }
