use Rattle.std.proofs.Common.{ℕ, List}
use Rattle.std.specs.Prelude.{bytes_eq}
use Rattle.std.proofs.lemmas.Slice.Eq.{bytes_eq-Decides}
use Rattle.monitor_reasons.specs.inside.PhaserPlaces.{places_named}
use Rattle.monitor_reasons.proofs.Placing.{kept_added}
use Rattle.monitor_reasons.proofs.phaser_places.add_waiting.Goals as goal

pub returns-in_ok-add_named-in-Waiting-clause-others : goal.returns-in_ok-add_named-in-Waiting-clause-others
returns-in_ok-add_named-in-Waiting-clause-others c = λ q i within.
    let now = c.in_ok-add_named-in-Waiting.ensures in
    kept_added bytes_eq (λ (a b : List ℕ). (bytes_eq-Decides a b).0) (places_named c.args.groups.now) (places_named c.add_named.new.groups) c.deref.result.now c.args.place now.own now.others q i within
