use Rattle.std.proofs.Common.{◌∙◌, Some, ap, inl, inr, sym}
use Rattle.avoider.proofs.waiting.place_if.Goals as goal

pub returns-in-Some-clause-within : goal.returns-in-Some-clause-within
returns-in-Some-clause-within c e m =
    elim (c.place_of.ensures.within e m) [ inl l ↦ inl l | inr f ↦ inr (c.in-Some.is ∙ ap Some (sym f)) ]
