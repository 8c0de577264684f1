use Rattle.report_laws.proofs.OpsOfStages.{ops_are_told_by_their_stages}
use Rattle.report_laws.proofs.OriginsOfScenes.{origins_are_those_of_scenes}
use Rattle.report_laws.proofs.origins.origins_are_those_of_stages.Goals as goal

pub returns : goal.returns
returns c = record { scenes = origins_are_those_of_scenes; ops = ops_are_told_by_their_stages }
