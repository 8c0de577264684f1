use Rattle.std.proofs.Common.{◌≡◌, Some, ◌∙◌, ap}
use Rattle.std.proofs.lemmas.Map.Text.{hash_map_updates_str}
use Rattle.monitor_search.specs.inside.LeastPhases.{least_of, noted_phase}
use Rattle.monitor_search.proofs.LeastPhases.{noted_update}
use Rattle.monitor_search.proofs.phases.note_phase.Goals as goal

pub returns : goal.returns
returns c = λ q.
    let p = c.args.p.now in
    let was : Some c.noted_phase-noted.result ≡ noted_phase (least_of c.args.least.now p) c.args.m c.args.who =
    c.noted_phase-noted.ensures ∙ ap (λ o. noted_phase o c.args.m c.args.who) (c.copied-known.ensures ∙ c.get.ensures.value) in
    hash_map_updates_str p c.args.least.now c.insert.new.self _ c.in_ok-insert.ensures.updates q
    ∙ noted_update (least_of c.args.least.now) p q c.args.m c.args.who (Some c.noted_phase-noted.result) was
