use Rattle.std.proofs.Common.{◌∙◌, ap}
use Rattle.std.specs.Prelude.{bytes_eq}
use Rattle.std.specs.HashMap.{get_by}
use Rattle.std.proofs.lemmas.Bool.{cond-false}
use Rattle.std.proofs.lemmas.Map.Text.{hash_map_updates_str}
use Rattle.monitor_reasons.specs.inside.PhaserPlaces.{places_in_group}
use Rattle.monitor_reasons.proofs.phaser_places.add_named.Goals as goal

pub returns-clause-others : goal.returns-clause-others
returns-clause-others c = λ q apart.
    let name = c.args.name.now in
    let before = c.take_named-group.new.groups in
    ap places_in_group
    (hash_map_updates_str name before c.insert.new.self _ c.in_ok-insert.ensures.updates q
    ∙ cond-false (bytes_eq name q) _ (get_by (λ k. bytes_eq q k.now) before) apart)
    ∙ c.take_named-group.ensures.others q apart
