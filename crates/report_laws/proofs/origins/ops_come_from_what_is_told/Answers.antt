use Rattle.report_laws.proofs.ToldByOps.{forks_are_told_by_their_ops, phasers_are_told_by_their_ops}
use Rattle.report_laws.proofs.origins.ops_come_from_what_is_told.Goals as goal

pub returns : goal.returns
returns c = record { phasers = phasers_are_told_by_their_ops; forks = forks_are_told_by_their_ops }
