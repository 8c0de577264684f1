use Rattle.source_map.proofs.CodesOfVisits.{codes_are_of_visits, ops_have_origins as each_op, origins_have_ops}
use Rattle.source_map.proofs.laws.ops_have_origins.Goals as goal

pub returns : goal.returns
returns c = record { codes = codes_are_of_visits; ops = each_op; origins = origins_have_ops }
