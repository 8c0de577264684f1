use Rattle.std.proofs.Common.{◌<◌, length, ◌∙◌, ap}
use Rattle.std.proofs.lemmas.List.Elements.{All-take}
use Rattle.monitor_words.specs.declared.sentences.StuckReason.TheVariants.{InCircle}
use Rattle.monitor_reasons.proofs.ShownCircles.{few_are_shown}
use Rattle.monitor_reasons.proofs.sentences.shown_circle.Goals as goal

pub returns-then-places-le7 : goal.returns-then-places-le7
returns-then-places-le7 c =
    ap (λ l. InCircle l 0) c.in_ok-tasks.ensures ∙ few_are_shown c.args.list.now c.args.places.now c.if-places-le7.true

pub placed_tasks-requires-2 : goal.placed_tasks-requires-2
placed_tasks-requires-2 c = All-take (λ i. i < length c.args.list.now) 6 c.args.places.now c.requires
