use Rattle.std.proofs.Common.{sym, ◌∙◌, ap}
use Rattle.std.proofs.lemmas.List.{get_or_default}
use Rattle.monitor_laws.specs.States.{Participant, is_live_wildcard}
use Rattle.monitor_state.proofs.listing.Listing.is_wildcard_at.Goals as goal

pub returns : goal.returns
returns c = λ u read.
    c.is_live_wildcard.ensures
    ∙ ap is_live_wildcard
    (c.condition.ensures ∙ ap (λ (y : Participant). y.condition) (c.one_at.ensures ∙ get_or_default c.args.self.now c.args.at c.one_at.result.now u c.requires ∙ sym read))
