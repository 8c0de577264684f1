use Rattle.monitor_laws.proofs.laws.premises_are_needed.Goals as goal
use Rattle.monitor_laws.proofs.Worked.{honest_is_needed, lasting_is_needed, ordered_joins_are_needed, true_goes_are_needed}

pub returns : goal.returns
returns c = record { honest = honest_is_needed; lasting = lasting_is_needed; goes = true_goes_are_needed; joins = ordered_joins_are_needed }
