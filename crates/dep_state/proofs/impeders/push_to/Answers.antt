use Rattle.dep_state.proofs.AddedRows.{added_one}
use Rattle.dep_state.proofs.impeders.push_to.Goals as goal

pub returns : goal.returns
returns c = added_one c.args.rows.now.items c.args.i c.args.k c.index_mut.result.now c.push.new.self c.requires c.index_mut.ensures.value c.in_ok-push.ensures.items
