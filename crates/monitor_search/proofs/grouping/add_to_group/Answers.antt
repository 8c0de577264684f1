use Rattle.std.proofs.Common.{◌∙◌, ap}
use Rattle.std.specs.Prelude.{bytes_eq}
use Rattle.std.specs.HashMap.{get_by}
use Rattle.std.proofs.lemmas.Bool.{cond-false}
use Rattle.std.proofs.lemmas.Map.Text.{hash_map_updates_str}
use Rattle.monitor_search.specs.inside.Cascades.{those_of}
use Rattle.monitor_search.proofs.grouping.add_to_group.Goals as goal

pub returns-clause-others : goal.returns-clause-others
returns-clause-others c = λ q apart.
    let name = c.args.name.now in
    let before = c.take_group-group.new.groups in
    ap those_of
    (hash_map_updates_str name before c.insert.new.self _ c.in_ok-insert.ensures.updates q
    ∙ cond-false (bytes_eq name q) _ (get_by (λ k. bytes_eq q k.now) before) apart)
    ∙ c.take_group-group.ensures.others q apart
