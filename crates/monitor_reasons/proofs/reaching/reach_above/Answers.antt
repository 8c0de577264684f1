use Rattle.std.proofs.Common.{sym, ◌∙◌, ap, subst}
use Rattle.std.specs.Prelude.{Contains}
use Rattle.armus_base.proofs.Elements.{nothing_in_nil}
use Rattle.monitor_words.specs.Stops.{keeps_waiting}
use Rattle.monitor_reasons.specs.Found.{participant_at}
use Rattle.monitor_reasons.specs.inside.PhaserPlaces.{places_in_group}
use Rattle.monitor_reasons.proofs.Filling.{fills_nothing}
use Rattle.monitor_reasons.proofs.Passing.{kept_if_waits}
use Rattle.monitor_reasons.proofs.reaching.reach_above.Goals as goal

pub returns-in-None-clause-fills : goal.returns-in-None-clause-fills
returns-in-None-clause-fills c = fills_nothing c.args.search.now c.args.d (λ t. keeps_waiting c.args.w.now (participant_at c.args.list.now t))

pub returns-in-None-clause-reached : goal.returns-in-None-clause-reached
returns-in-None-clause-reached c = λ t n within waits below.
    absurd (nothing_in_nil t (subst (λ o. Contains (places_in_group o) t) (sym c.in-None.ensures.value) (c.requires.waiting t c.args.p.now n within waits)))

pub returns-in_ok-reach_all-in-Some-clause-reached : goal.returns-in_ok-reach_all-in-Some-clause-reached
returns-in_ok-reach_all-in-Some-clause-reached c = λ t n within waits below.
    c.in_ok-reach_all-in-Some.ensures.reached t (subst (λ l. Contains l t) (ap places_in_group (sym c.in-Some.ensures.value) ∙ sym c.deref.ensures.value) (c.requires.waiting t c.args.p.now n within waits)) within
    (kept_if_waits c.args.w.now (participant_at c.args.list.now t).condition c.args.p.now n waits below)
