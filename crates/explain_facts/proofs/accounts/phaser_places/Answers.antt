use Rattle.std.proofs.Common.{◌∙◌, ap, arith, map}
use Rattle.std.proofs.lemmas.List.{take_all}
use Rattle.explain_facts.specs.Accounts.{statement_place}
use Rattle.explain_facts.specs.calls.Known.{kept_layout}
use Rattle.explain_facts.proofs.accounts.phaser_places.Goals as goal

pub returns : goal.returns
returns c =
    c.from_vec.ensures.items ∙ (c.loop-n.invariant
    ∙ (ap (map (statement_place (kept_layout c.args.facts.now))) (take_all c.loop-n.n-index c.phasers-phasers.result.now (omega (arith, c.loop-n-test.false)))
    ∙ (ap (map (statement_place (kept_layout c.args.facts.now))) c.phasers-phasers.ensures
    ∙ ap (map (statement_place (kept_layout c.args.facts.now))) c.requires.origins.phasers)))
