use Rattle.std.proofs.lemmas.Map.Text.{hash_map_updates_str}
use Rattle.monitor_reasons.proofs.reaching.pass.Goals as goal

pub returns-clause-passed : goal.returns-clause-passed
returns-clause-passed c = λ q. hash_map_updates_str c.args.p.now c.args.search.now.passed c.insert.new.self _ c.in_ok-insert.ensures.updates q
