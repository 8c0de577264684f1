use Rattle.clock_source_map.proofs.OffsetsMany.{statements_have_offsets as proved}
use Rattle.clock_source_map.proofs.laws.statements_have_offsets.Goals as goal

pub returns : goal.returns
returns c = proved
