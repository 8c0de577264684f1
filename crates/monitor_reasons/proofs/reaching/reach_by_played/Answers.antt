use Rattle.std.proofs.Common.{◌==◌, sym, ◌∙◌, ap, subst}
use Rattle.std.specs.Prelude.{Contains}
use Rattle.std.specs.List.{list_any}
use Rattle.armus_base.proofs.Elements.{nothing_in_nil}
use Rattle.monitor_words.specs.Stops.{lone_task}
use Rattle.monitor_reasons.specs.Found.{participant_at}
use Rattle.monitor_reasons.specs.inside.PhaserPlaces.{places_numbered, places_in_group}
use Rattle.monitor_reasons.proofs.Levels.{or_right}
use Rattle.monitor_reasons.proofs.reaching.reach_by_played.Goals as goal

pub returns-in-None-clause-reached : goal.returns-in-None-clause-reached
returns-in-None-clause-reached c = λ t i within listed played keeps.
    let there =
    subst (λ k. Contains (places_numbered c.args.places.now.wildcards k) i) (sym c.number.ensures) (c.requires.places.wildcards i c.args.u.now.number listed played) in
    absurd (nothing_in_nil i (subst (λ o. Contains (places_in_group o) i) (sym c.in-None.ensures.value) there))

pub returns-in_ok-reach_by_all-in-Some-clause-reached : goal.returns-in_ok-reach_by_all-in-Some-clause-reached
returns-in_ok-reach_by_all-in-Some-clause-reached c = λ t i within listed played keeps.
    let there =
    subst (λ k. Contains (places_numbered c.args.places.now.wildcards k) i) (sym c.number.ensures) (c.requires.places.wildcards i c.args.u.now.number listed played) in
    c.in_ok-reach_by_all-in-Some.ensures.reached t i within
    (subst (λ l. Contains l i) (ap places_in_group (sym c.in-Some.ensures.value) ∙ sym c.deref.ensures.value) there) listed
    (or_right ((participant_at c.args.list.now i).number == c.args.u.now.number) (list_any (λ k. k == c.args.u.now.number) (lone_task (participant_at c.args.list.now i).condition)) played) keeps
