-- A task that goes on leaves the plan as it is.
use Rattle.std.proofs.Common.{◌≡◌, ℕ, inl, inr}
use Rattle.pl_core.specs.calls.Worlds.{WorldValue}
use Rattle.avoider.specs.declared.decision.Decision.{Decision}
use Rattle.avoider.specs.declared.decision.Decision.TheVariants.{Published, Refused}
use Rattle.avoider.specs.calls.Decisions.{HasGoneOn, IsDecision}

pub decided_plan : (old new : WorldValue) (t : ℕ) (d : Decision) → IsDecision old new t d → new.plan ≡ old.plan
decided_plan old new t (Published e) is = is.step.plan
decided_plan old new t (Refused c) is = is.refusal.plan

pub gone_on_plan : (old new : WorldValue) (t : ℕ) → HasGoneOn old new t → new.plan ≡ old.plan
gone_on_plan old new t gone = elim gone [ inl d ↦ decided_plan old new t d.0 d.1 | inr e ↦ e.step.plan ]
