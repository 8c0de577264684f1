use Rattle.std.proofs.Common.{None, ◌∙◌, ap}
use Rattle.std.specs.Prelude.{bytes_eq}
use Rattle.std.specs.HashMap.{get_by}
use Rattle.std.proofs.lemmas.Bool.{cond-false}
use Rattle.std.proofs.lemmas.Map.Text.{hash_map_updates_str}
use Rattle.monitor_reasons.specs.inside.PhaserPlaces.{places_in_group}
use Rattle.monitor_reasons.proofs.phaser_places.take_named.Goals as goal

pub returns-in-Some-clause-others : goal.returns-in-Some-clause-others
returns-in-Some-clause-others c = λ q apart.
    let name = c.args.name.now in
    ap places_in_group
    (hash_map_updates_str name c.args.groups.now c.remove.new.self _ c.in-Some.ensures.updates q
    ∙ cond-false (bytes_eq name q) None (get_by (λ k. bytes_eq q k.now) c.args.groups.now) apart)
